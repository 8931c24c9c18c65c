-- A participant's step over the parts of a world is the world's step, and leaves fewer steps for its call.
use Rattle.std.proofs.Common.{◌≡◌, ℕ, ◌+◌, ◌<◌, Bool, true, false, List, [], length, ap, sym, subst, arith}
use Rattle.std.proofs.Common.{slice_index_or, slice_set, get_or-set_same, refl, ◌∙◌}
use Rattle.epoch_machine.specs.declared.machine.Ask.{Ask}
use Rattle.epoch_machine.specs.declared.machine.Ask.TheVariants.{StoreFree, PutBag, TakeBag}
use Rattle.epoch_machine.specs.declared.machine.Ask.TheVariants.{CallJob}
use Rattle.epoch_machine.specs.declared.machine.Sizes.{Sizes}
use Rattle.epoch_machine.specs.Machine.{Machine}
use Rattle.epoch_laws.specs.declared.step.Call.{Call}
use Rattle.epoch_laws.specs.declared.step.Call.TheVariants.{Defer as DeferCall, Flush as FlushCall}
use Rattle.epoch_laws.specs.declared.step.Call.TheVariants.{Release as ReleaseCall, DeferDestroy}
use Rattle.epoch_laws.specs.declared.step.Deferral.{Deferral}
use Rattle.epoch_laws.specs.declared.step.Progress.{Progress}
use Rattle.epoch_laws.specs.declared.step.Progress.TheVariants.{Driven, Accesses}
use Rattle.epoch_laws.specs.declared.step.Reply.{Reply}
use Rattle.epoch_laws.specs.Kept.{AllLinked, IsSound}
use Rattle.epoch_laws.specs.Run.{with_places, Bag, WorldSeat, Ending, Open, is_driven, progress_after, accessed_seat}
use Rattle.epoch_laws.specs.Run.{access_reply, end_reply, full_or_done}
use Rattle.epoch_laws.specs.Heap.{Heap, Touched, Touches}
use Rattle.epoch_laws.specs.declared.heap.access.Access.{Access}
use Rattle.epoch_laws.specs.declared.heap.access.Accessed.{Accessed}
use Rattle.epoch_laws.specs.declared.heap.access.Ptr.{Ptr}
use Rattle.epoch_world.specs.Steps.{IsSteady, access_steps, InStore, machine_steps, steps_of, steps_left}
use Rattle.epoch_machine.specs.declared.machine.Stage.{Stage}
use Rattle.epoch_world.proofs.SlotsStay.{job_slots}
use Rattle.epoch_world.proofs.AccessesFall.{Falls, access_falls}
use Rattle.epoch_world.specs.Seats.{SeatPerforms}
use Rattle.epoch_laws.specs.Calls.{ends_call}
use Rattle.epoch_world.specs.declared.world.common.Common.{Common}
use Rattle.epoch_world.specs.Worlds.{state_of}

-- HOW FAR THE END IS PLAYS NO PART, NOR DO THE PLACES

-- what links the seats to their calls says nothing of the places
pub linked_at : (sizes : Sizes) (common : Common (List Bag)) (seats : List WorldSeat) (ending later : Ending)
    (places : List Bool) (seen : List ℕ) (ahead : List ℕ) (room : List Bool)
    → AllLinked (state_of sizes common seats ending)
    → AllLinked (with_places (state_of sizes common seats later) places seen ahead room)
linked_at sizes common seats ending later places seen ahead room h =
    record { positions = h.positions; seats = h.seats }

-- an end has jobs of its own, and what is kept with them is kept without them
pub kept_open : (sizes : Sizes) (common : Common (List Bag)) (seats : List WorldSeat) (ending : Ending)
    → IsSound (state_of sizes common seats ending) → IsSound (state_of sizes common seats Open)
kept_open sizes common seats ending h = record {
  linked = linked_at sizes common seats ending Open [] [] [] [] h.linked;
  roomy = h.roomy;
  bounded = record { tickets = h.bounded.tickets; keeps = h.bounded.keeps };
  jobs = omega (arith, h.jobs);
  free = h.free;
  few = h.few;
  readings = record { counted = h.readings.counted; seats = h.readings.seats };
  cells = h.cells;
}

-- FEWER STEPS ARE LEFT

-- the call is under way until it is told that it is done
same_progress : (sizes : Sizes) (p word : ℕ) (old new : Common (List Bag)) (seat after : WorldSeat) (ask : Ask)
    (reply : Reply)
    → SeatPerforms sizes p word old seat seat.machine.stage ask reply after new → ends_call reply ≡ false
    → after.progress ≡ seat.progress
same_progress sizes p word old new seat after StoreFree reply did goes_on = absurd (cc (ap ends_call did.0))
same_progress sizes p word old new seat after (PutBag seal) reply did goes_on = ap (λ (q : WorldSeat). q.progress) did.3
same_progress sizes p word old new seat after (TakeBag x) reply did goes_on = ap (λ (q : WorldSeat). q.progress) did.3
same_progress sizes p word old new seat after CallJob reply did goes_on = ap (λ (q : WorldSeat). q.progress) did.4
same_progress sizes p word old new seat after _ reply did goes_on = ap (λ (q : WorldSeat). q.progress) did.1

driven_less : (slots : ℕ) (now after : Progress) (m n : Machine Deferral) (before later : InStore)
    → is_driven now ≡ true → after ≡ now
    → machine_steps n later < machine_steps m before → steps_of slots after n later < steps_of slots now m before
driven_less slots (Driven c) after m n before later driven same less =
    subst (λ (q : Progress). steps_of slots q n later < machine_steps m before) (sym same) less
driven_less slots _ after m n before later driven same less = absurd (cc)

-- an ask that leaves its machine fewer steps leaves its call fewer
pub performs_less : (slots : ℕ) (sizes : Sizes) (p word : ℕ) (old new : Common (List Bag)) (seat after : WorldSeat)
    (ask : Ask)
    (reply : Reply) (before later : InStore)
    → SeatPerforms sizes p word old seat seat.machine.stage ask reply after new → is_driven seat.progress ≡ true
    → ends_call reply ≡ false
    → machine_steps after.machine later < machine_steps seat.machine before
    → steps_left slots after later < steps_left slots seat before
performs_less slots sizes p word old new seat after ask reply before later did driven goes_on less =
    driven_less slots seat.progress after.progress seat.machine after.machine before later driven
    (same_progress sizes p word old new seat after ask reply did goes_on) less

-- at the participant's position
pub seat_less : (slots : ℕ) (seats : List WorldSeat) (p : ℕ) (other seat after : WorldSeat) (before later : InStore)
    → p < length seats → seat ≡ slice_index_or seats p other
    → steps_left slots after later < steps_left slots seat before
    → steps_left slots (slice_index_or (slice_set seats p after) p other) later < steps_left slots
    (slice_index_or seats p other) before
seat_less slots seats p other seat after before later there is less =
    subst (λ (q : WorldSeat). steps_left slots q later < steps_left slots (slice_index_or seats p other) before)
    (sym (get_or-set_same seats p after other there))
    (subst (λ (q : WorldSeat). steps_left slots after later < steps_left slots q before) is less)

-- where fewer steps are left, one more may be taken
pub still_few : (steps left i bound : ℕ) → steps < left → left + i < bound → steps + (i + 1) < bound
still_few steps left i bound less few = omega arith

-- and where the step leaves as many slots, and as much room for bags
pub still_few_of : (left : ℕ → ℕ → ℕ) (slots slots' bags bags' before i bound : ℕ) → slots' ≡ slots → bags' ≡ bags
    → left slots bags < before → before + i < bound → left slots' bags' + (i + 1) < bound
still_few_of left slots slots' bags bags' before i bound same_slots same_bags less few =
    subst (λ (k : ℕ). left k bags' + (i + 1) < bound) (sym same_slots)
    (subst (λ (k : ℕ). left slots k + (i + 1) < bound) (sym same_bags) (still_few _ before i bound less few))

-- what is driven says nothing of an update
driven_steady : (h : Heap) (now after : Progress) → is_driven now ≡ true → after ≡ now → IsSteady h after
driven_steady h (Driven c) after driven same = subst (λ (q : Progress). IsSteady h q) (sym same) tt
driven_steady h _ after driven same = absurd (cc)

-- and the others' updates stay steady
pub performs_steady : (sizes : Sizes) (p word : ℕ) (old new : Common (List Bag)) (seat after : WorldSeat)
    (seats : List WorldSeat)
    (other : WorldSeat) (ask : Ask) (reply : Reply) (h : Heap)
    → SeatPerforms sizes p word old seat seat.machine.stage ask reply after new → is_driven seat.progress ≡ true
    → ends_call reply ≡ false
    → p < length seats → IsSteady h (slice_index_or (slice_set seats p after) p other).progress
performs_steady sizes p word old new seat after seats other ask reply h did driven goes_on there =
    subst (λ (q : WorldSeat). IsSteady h q.progress) (sym (get_or-set_same seats p after other there))
    (driven_steady h seat.progress after.progress driven
    (same_progress sizes p word old new seat after ask reply did goes_on))

-- the step of an access, at its seat
pub access_less : (a : Access) (k : ℕ) (found : Ptr) (told : Accessed) (seats : List WorldSeat) (p : ℕ)
    (other seat after : WorldSeat) (reply : Reply) (h new : Heap) (before later : InStore)
    → p < length seats → seat ≡ slice_index_or seats p other
    → seat.progress ≡ Accesses a k found
    → (did : Touched) → Touches a k found h did → reply ≡ access_reply did.told
    → after ≡ accessed_seat a k did.told seat → new ≡ did.heap
    → IsSteady h (slice_index_or seats p other).progress → ends_call reply ≡ false
    → (steps_left (length h.cells) (slice_index_or (slice_set seats p after) p other) later
    < steps_left (length h.cells) (slice_index_or seats p other) before)
    × IsSteady new (slice_index_or (slice_set seats p after) p other).progress
access_less a k found told seats p other seat after reply h new before later there is under_way did step reply_is
    after_is new_is steady goes_on =
    let here : IsSteady h (Accesses a k found) = subst (λ (q : Progress). IsSteady h q)
    (ap (λ (q : WorldSeat). q.progress) (sym is) ∙ under_way) steady in
    let falls : Falls after.machine later (length h.cells) a k did = access_falls after.machine later
    (length h.cells) a k found h refl here did step in
    let progress_is : after.progress ≡ progress_after a k did.told = ap (λ (q : WorldSeat). q.progress) after_is in
    let now : steps_of (length h.cells) after.progress after.machine later < access_steps (length h.cells) a k =
    subst (λ (q : Progress). steps_of (length h.cells) q after.machine later < access_steps (length h.cells) a k)
    (sym progress_is) (falls.fewer (ap ends_call (sym reply_is) ∙ goes_on)) in (
      seat_less (length h.cells) seats p other seat after before later there is
          (subst (λ (q : Progress). steps_left (length h.cells) after later
          < steps_of (length h.cells) q seat.machine before) (sym under_way) now),
      subst (λ (q : WorldSeat). IsSteady new q.progress) (sym (get_or-set_same seats p after other there))
          (subst (λ (q : Progress). IsSteady new q) (sym progress_is)
          (subst (λ (x : Heap). IsSteady x (progress_after a k did.told)) (sym new_is) falls.steady)),
    )

-- no ask of a machine changes how many slots there are
pub performs_slots : (sizes : Sizes) (p word : ℕ) (old new : Common (List Bag)) (seat after : WorldSeat) (s : Stage)
    (ask : Ask) (reply : Reply)
    → SeatPerforms sizes p word old seat s ask reply after new → length new.heap.cells ≡ length old.heap.cells
performs_slots sizes p word old new seat after s (PutBag seal) reply did =
    ap (λ (x : Common (List Bag)). length x.heap.cells) did.4
performs_slots sizes p word old new seat after s (TakeBag x) reply did = ap
    (λ (x : Common (List Bag)). length x.heap.cells) did.4
performs_slots sizes p word old new seat after s CallJob reply did =
    ap (λ (x : Common (List Bag)). length x.heap.cells) did.5 ∙ job_slots old.heap (did.0).removes
performs_slots sizes p word old new seat after s _ reply did =
    ap (λ (x : Common (List Bag)). length x.heap.cells) did.2

full_ends : (full : Bool) → ends_call (full_or_done full) ≡ true
full_ends true = refl
full_ends false = refl

-- the end of a call that its machine drives ends it
pub end_ends : (c : Call) (seat : WorldSeat) → ends_call (end_reply c seat) ≡ true
end_ends (DeferCall g) seat = full_ends seat.machine.full
end_ends (FlushCall g) seat = full_ends seat.machine.full
end_ends ReleaseCall seat = full_ends seat.machine.full
end_ends (DeferDestroy g ptr) seat = full_ends seat.machine.full
end_ends _ seat = refl
