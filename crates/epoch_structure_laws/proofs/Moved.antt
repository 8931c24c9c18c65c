-- What a step of the world does to the seats. Nothing else here takes a step apart.
use Rattle.std.proofs.Common.{◌≡◌, ◌≢◌, ℕ, ◌+◌, ◌<◌, Bool, true, false, List, [], ◌∷◌, length, Some, None, ◌⊎◌, inl}
use Rattle.std.proofs.Common.{inr, refl, ap, sym, subst, ◌∙◌, slice_index_or, slice_set}
use Rattle.epoch_cells.specs.declared.fault.Fault.{Fault}
use Rattle.epoch_machine.specs.declared.machine.Sizes.{Sizes}
use Rattle.epoch_machine.specs.declared.machine.Stage.{Stage}
use Rattle.epoch_machine.specs.declared.machine.Stage.TheVariants.{Idle as Resting, LoadPin, StorePin, ReloadPin}
use Rattle.epoch_machine.specs.declared.machine.Stage.TheVariants.{LoadScan, Scan, Advance, Take, Calling, LoadSeal}
use Rattle.epoch_machine.specs.declared.machine.Stage.TheVariants.{Put, Keep, LoadRepin, StoreRepin, ReloadRepin}
use Rattle.epoch_machine.specs.declared.machine.Stage.TheVariants.{StoreUnpinned, StoreFree, End}
use Rattle.epoch_machine.specs.Machine.{ask_at, with_stage, hears, put_heard}
use Rattle.epoch_laws.specs.declared.heap.access.Access.{Access}
use Rattle.epoch_laws.specs.declared.heap.access.AccessAnswer.TheVariants.{Unit as UnitAnswer}
use Rattle.epoch_laws.specs.declared.step.Call.{Call}
use Rattle.epoch_laws.specs.declared.step.Progress.{Progress}
use Rattle.epoch_laws.specs.declared.step.Progress.TheVariants.{Idle, Driven, Accesses, Ends}
use Rattle.epoch_laws.specs.declared.heap.access.Ptr.{Ptr}
use Rattle.epoch_laws.specs.declared.step.Reply.{Reply}
use Rattle.epoch_laws.specs.declared.step.Reply.TheVariants.{Stepped, Deferred, Done, Refused, Began}
use Rattle.epoch_laws.specs.declared.step.Step.TheVariants.{Go, Register, End as EndStep}
use Rattle.epoch_laws.specs.declared.step.Word.TheVariants.{Free, Unpinned}
use Rattle.epoch_laws.specs.Run.{WorldSeat, State, seat_of, position_word, with_seat, free_seat, end_reply, ended_seat}
use Rattle.epoch_laws.specs.Run.{DrivesCall, DoesGo, Moves, Bag, Ending, Open, Emptying, Over, with_machine, begun_seat}
use Rattle.epoch_laws.specs.Run.{access_reply, accessed_seat, BeginsCall, EndGoes}
use Rattle.epoch_laws.proofs.SeatLemmas.{seat_written, seat_other, seat_there}
use Rattle.epoch_laws.proofs.GuardsStay.{idle_ended}
use Rattle.epoch_structure_laws.proofs.Custody.{IsLoose, IsUnguarded, IsDeferring}
use Rattle.epoch_structure_laws.specs.Plans.{IsPlain}
use Rattle.epoch_bags.specs.declared.queue.PutStep.{PutStep}
use Rattle.epoch_machine.specs.declared.machine.Answer.TheVariants.{Job}
use Rattle.epoch_laws.specs.Heap.{Touched, Touches}
use Rattle.epoch_laws.specs.declared.step.Deferral.{Deferral}

-- WHAT A STEP IS MADE OF

-- the step Go of a participant that is registered
pub go_taken : (old new : State) (reply : Reply) (p : ℕ) → position_word old p ≢ Free → Moves old (Go p) reply new
    → DoesGo old p (seat_of old p) (seat_of old p).progress reply new
go_taken old new reply p taken (inl did) = absurd (taken did.0)
go_taken old new reply p taken (inr did) = did.1

-- the step of a call on cells and pointers
pub record Accessing (old new : State) (reply : Reply) (p : ℕ) (a : Access) (k : ℕ) (found : Ptr) : Type 0 where
  pub did : Touched
  pub touches : Touches a k found old.heap did
  pub told : reply ≡ access_reply did.told
  pub state : new ≡ record (with_seat old p (accessed_seat a k did.told (seat_of old p))) { heap = did.heap }

-- a call on cells and pointers that goes on changes its own seat and the heap alone
pub accessing : (old new : State) (reply : Reply) (p : ℕ) (a : Access) (k : ℕ) (found : Ptr)
    → DoesGo old p (seat_of old p) (Accesses a k found) reply new → Accessing old new reply p a k found
accessing old new reply p a k found (did, touches, told, state) =
    record { did = did; touches = touches; told = told; state = state }

-- the end of a call that has its reply
pub ended_with : (old new : State) (reply r : Reply) (p : ℕ) → DoesGo old p (seat_of old p) (Ends r) reply new
    → (reply ≡ r) × (new ≡ with_seat old p (record (seat_of old p) { progress = Idle }))
ended_with old new reply r p (told, state) = (told, state)

-- a step of a driven call, by its stage, where the machine is that of a deferral
pub data Deferring (old new : State) (reply : Reply) (p : ℕ) (c : Call) (s : Stage) : Type 0 where
  at_seal : s ≡ LoadSeal → reply ≡ Stepped
      → new ≡ with_seat old p (with_machine (seat_of old p) (with_stage (seat_of old p).machine (Put old.epoch)))
      → Deferring old new reply p c s
  at_put : (seal : ℕ) (step : PutStep) (queued : List Bag) → s ≡ Put seal → reply ≡ Stepped
      → new ≡ record (with_seat old p (with_machine (seat_of old p) (put_heard (seat_of old p).machine step)))
      { queued = queued }
      → Deferring old new reply p c s
  at_keep : (job : Deferral) → s ≡ Keep → reply ≡ Deferred old.tickets
      → new ≡ record (with_seat old p (with_machine (seat_of old p) (hears (seat_of old p).machine Keep (Job job))))
      { tickets = old.tickets + 1 }
      → Deferring old new reply p c s
  at_end : s ≡ End → reply ≡ end_reply c (seat_of old p) → new ≡ with_seat old p (ended_seat c (seat_of old p))
      → Deferring old new reply p c s

-- each step of a driven call whose machine is that of a deferral is one of these
pub deferring : (old new : State) (reply : Reply) (p : ℕ) (c : Call) (s : Stage) (full : Bool) → IsDeferring s full
    → DrivesCall old p (seat_of old p) c s (ask_at s) reply new → Deferring old new reply p c s
deferring old new reply p c LoadSeal full ok (told, state) = at_seal refl told state
deferring old new reply p c (Put seal) full ok (step, queued, told, put, state) =
    at_put seal step queued refl told state
deferring old new reply p c Keep full ok (told, state) = at_keep _ refl told state
deferring old new reply p c End full ok (told, state) = at_end refl told state
deferring old new reply p c _ full ok did = absurd ok

-- the Begin of a call that is refused, and of one that isn't
pub begin_refused : (old new : State) (reply : Reply) (p : ℕ) (c : Call) (f : Fault)
    → BeginsCall old p c (Some f) reply new → (reply ≡ Refused f) × (new ≡ old)
begin_refused old new reply p c f (told, state) = (told, state)

-- a call that is not refused has begun
pub begin_made : (old new : State) (reply : Reply) (p : ℕ) (c : Call) → BeginsCall old p c None reply new
    → (reply ≡ Began) × (new ≡ with_seat old p (begun_seat c (seat_of old p)))
begin_made old new reply p c (told, state) = (told, state)

-- the seat of a participant that registers
abbrev pub registered : State → WorldSeat
registered old = record (free_seat old.sizes) { word = Unpinned }

-- a registration takes a free position, or changes nothing
pub data Registering (old new : State) : Type 0 where
  takes_place : (p : ℕ) → p < length old.seats → position_word old p ≡ Free → new ≡ with_seat old p (registered old)
      → Registering old new
  changes_none : new ≡ old → Registering old new

-- whichever way a registration goes
pub registering : (old new : State) (reply : Reply) → Moves old Register reply new → Registering old new
registering old new reply (inl did) = takes_place did.0 did.2 did.3 did.6
registering old new reply (inr (inl did)) = changes_none did.3
registering old new reply (inr (inr did)) = changes_none did.2

-- SEATS

-- a reply that ends a call
abbrev pub is_end : Reply → Bool
is_end (Done a) = true
is_end (Refused f) = true
is_end _ = false

-- p's seat alone is another
pub record Alone (old new : State) (p : ℕ) (seat : WorldSeat) : Type 0 where
  pub own : seat_of new p ≡ seat
  pub others : (q : ℕ) → q ≢ p → seat_of new q ≡ seat_of old q

-- one seat is written, and the others stay
pub alone : (old new last : State) (p : ℕ) (seat : WorldSeat)
    → p < length old.seats → new ≡ last → last.sizes ≡ old.sizes
    → last.seats ≡ slice_set old.seats p seat → Alone old new p seat
alone old new last p seat there e sizes seats = record {
  own = looked_up p ∙ seat_written old p seat there;
  others = λ q ne. looked_up q ∙ seat_other old p q seat ne;
}
  where
    looked_up : (q : ℕ) → seat_of new q ≡ seat_of (with_seat old p seat) q
    looked_up q = ap (λ (s : State). seat_of s q) e
        ∙ ap (λ (all : List WorldSeat). slice_index_or all q (free_seat last.sizes)) seats
        ∙ ap (λ (z : Sizes). slice_index_or (slice_set old.seats p seat) q (free_seat z)) sizes

-- no seat is another
pub unmoved : (old new last : State) → new ≡ last → last.sizes ≡ old.sizes → last.seats ≡ old.seats → (q : ℕ)
    → seat_of new q ≡ seat_of old q
unmoved old new last e sizes seats q =
    ap (λ (s : State). seat_of s q) e
    ∙ ap (λ (all : List WorldSeat). slice_index_or all q (free_seat last.sizes)) seats
    ∙ ap (λ (z : Sizes). slice_index_or old.seats q (free_seat z)) sizes

-- an end changes no seat
pub end_unmoved : (old new : State) (reply : Reply) → Moves old EndStep reply new → (q : ℕ)
    → seat_of new q ≡ seat_of old q
end_unmoved old new reply (inl did) = unmoved old new _ did.3 refl refl
end_unmoved old new reply (inr (inl did)) = unmoved old new old did.3 refl refl
end_unmoved old new reply (inr (inr did)) = unmoved old new old did.2 refl refl

-- and so is it with each step of an end under way
pub ending_unmoved : (old new : State) (reply : Reply) (e : Ending) → EndGoes old e reply new → (q : ℕ)
    → seat_of new q ≡ seat_of old q
ending_unmoved old new reply Open did = unmoved old new old did.1 refl refl
ending_unmoved old new reply Over did = unmoved old new old did.1 refl refl
ending_unmoved old new reply (Emptying (job ∷ jobs) n) did = unmoved old new _ did.1 refl refl
ending_unmoved old new reply (Emptying [] n) (inl did) = unmoved old new _ did.4 refl refl
ending_unmoved old new reply (Emptying [] n) (inr did) = unmoved old new _ did.2 refl refl

-- what a step of p shows that is in a call which does nothing to cells
pub record LooseGo (old new : State) (reply : Reply) (p : ℕ) : Type 0 where
  pub others : (q : ℕ) → q ≢ p → seat_of new q ≡ seat_of old q
  pub loose : IsLoose (seat_of new p)
  pub ends : is_end reply ≡ true → (seat_of new p).progress ≡ Idle

-- what a step of p shows that has no plan
pub record PlainGo (old new : State) (p : ℕ) : Type 0 where
  pub others : (q : ℕ) → q ≢ p → seat_of new q ≡ seat_of old q
  pub plain : IsLoose (seat_of new p) ⊎ IsUnguarded (seat_of new p)

module _ (old new : State) (reply : Reply) (p : ℕ) where
  abbrev seat : WorldSeat
  seat = seat_of old p

  -- nothing is changed, as where the participant is idle or isn't registered
  refused : new ≡ old → IsLoose (seat_of old p)
      → (seat_of old p).progress ≡ Idle ⊎ (position_word old p ≡ Free) → LooseGo old new reply p
  refused e loose idle = record {
    others = λ q ne. ap (λ (s : State). seat_of s q) e;
    loose = subst (λ (s : State). IsLoose (seat_of s p)) (sym e) loose;
    ends = λ is. ap (λ (s : State). (seat_of s p).progress) e ∙ rests loose idle;
  }
    where
      rests : IsLoose (seat_of old p) → (seat_of old p).progress ≡ Idle ⊎ (position_word old p ≡ Free)
          → (seat_of old p).progress ≡ Idle
      rests loose (inl idle) = idle
      rests (inl idle) (inr free) = idle
      rests (inr (c, driven, plain, taken)) (inr free) = absurd (taken free)

  module _ (taken : position_word old p ≢ Free) (c : Call) (driven : (seat_of old p).progress ≡ Driven c)
      (plain : IsPlain c) where
    -- the call goes on
    stays : (r : Reply) (after : WorldSeat) (last : State) → after.progress ≡ seat.progress → after.word ≢ Free
        → reply ≡ r → is_end r ≡ false → new ≡ last → last.sizes ≡ old.sizes
        → last.seats ≡ slice_set old.seats p after → LooseGo old new reply p
    stays r after last progress word told silent e sizes seats =
        let a = alone old new last p after (seat_there old p taken) e sizes seats in
        record {
          others = a.others;
          loose = subst IsLoose (sym a.own) (inr (c, progress ∙ driven, plain, word));
          ends = λ is. absurd (cc (is, ap is_end told ∙ silent));
        }

    -- the call is over
    over : (after : WorldSeat) (last : State) → after.progress ≡ Idle → new ≡ last → last.sizes ≡ old.sizes
        → last.seats ≡ slice_set old.seats p after → LooseGo old new reply p
    over after last idle e sizes seats =
        let a = alone old new last p after (seat_there old p taken) e sizes seats in
        record {
          others = a.others;
          loose = subst IsLoose (sym a.own) (inl idle);
          ends = λ is. ap (λ (s : WorldSeat). s.progress) a.own ∙ idle;
        }

    drives : (s : Stage) → DrivesCall old p seat c s (ask_at s) reply new → LooseGo old new reply p
    drives Resting did = over (ended_seat c seat) _ (idle_ended seat c) did.1 refl refl
    drives (StorePin e) did = stays _ _ _ refl (λ h. cc (h)) did.0 refl did.1 refl refl
    drives (Take y k) (step, jobs, bags, told, takes, e) = stays _ _ _ refl taken told refl e refl refl
    drives (Calling y k) (job, jobs, hand, told, e) = stays _ _ _ refl taken told refl e refl refl
    drives (Put s) (step, bags, told, puts, e) = stays _ _ _ refl taken told refl e refl refl
    drives (StoreRepin e) did = stays _ _ _ refl (λ h. cc (h)) did.0 refl did.1 refl refl
    drives StoreUnpinned did = stays _ _ _ refl (λ h. cc (h)) did.0 refl did.1 refl refl
    drives StoreFree did = over (free_seat old.sizes) _ refl did.1 refl refl
    drives End did = over (ended_seat c seat) _ (idle_ended seat c) did.1 refl refl
    drives _ did = stays _ _ _ refl taken did.0 refl did.1 refl refl

  -- a Go in a call that does nothing to cells
  pub go_loose : IsLoose (seat_of old p) → Moves old (Go p) reply new → LooseGo old new reply p
  go_loose loose (inl did) = refused did.2 loose (inr did.0)
  go_loose (inl idle) (inr did) =
      let d = subst (λ (progress : Progress). DoesGo old p (seat_of old p) progress reply new) idle did.1 in
      refused d.1 (inl idle) (inl idle)
  go_loose (inr (c, driven, plain, taken)) (inr did) =
      drives taken c driven plain (seat_of old p).machine.stage
      (subst (λ (progress : Progress). DoesGo old p (seat_of old p) progress reply new) driven did.1)

  -- a step of a call under an unprotected guard
  unguarded : (after : Progress) (last : State) → position_word old p ≢ Free
      → IsLoose (record seat { progress = after }) ⊎ IsUnguarded (record seat { progress = after })
      → new ≡ last → last.sizes ≡ old.sizes
      → last.seats ≡ slice_set old.seats p (record seat { progress = after }) → PlainGo old new p
  unguarded after last taken plain e sizes seats =
      let a = alone old new last p (record seat { progress = after }) (seat_there old p taken) e sizes seats in
      record {
        others = a.others;
        plain = subst (λ (st : WorldSeat). IsLoose st ⊎ IsUnguarded st) (sym a.own) plain;
      }

  go_unguarded : IsUnguarded (seat_of old p) → Moves old (Go p) reply new → PlainGo old new p
  go_unguarded (taken, how) (inl did) = absurd (taken did.0)
  go_unguarded (taken, inl now) (inr did) =
      let d = subst (λ (progress : Progress). DoesGo old p (seat_of old p) progress reply new) now did.1 in
      unguarded (Ends (Done UnitAnswer)) _ taken (inr (taken, inr refl)) d.1 refl refl
  go_unguarded (taken, inr ends) (inr did) =
      let d = subst (λ (progress : Progress). DoesGo old p (seat_of old p) progress reply new) ends did.1 in
      unguarded Idle _ taken (inl (inl refl)) d.1 refl refl

  -- a Go of a participant without a plan
  pub go_plain : IsLoose (seat_of old p) ⊎ IsUnguarded (seat_of old p) → Moves old (Go p) reply new
      → PlainGo old new p
  go_plain (inl loose) did =
      let gone = go_loose loose did in record { others = gone.others; plain = inl gone.loose }
  go_plain (inr bare) did = go_unguarded bare did
