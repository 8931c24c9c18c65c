-- What the calls of the sharp list come to, one after the other, in a world of two participants, 0 and 1.
use Rattle.std.proofs.Common.{◌≡◌, ℕ, List, [], ◌∷◌, ◌++◌, Bool, true, false, Some, None, ◌⊎◌, inl, inr, refl, ap, sym}
use Rattle.std.proofs.Common.{subst, ◌∙◌, arith}
use Rattle.epoch_bags.specs.Bags.{IsExpired}
use Rattle.epoch_bags.specs.Stores.{IsInserted}
use Rattle.epoch_cells.specs.declared.fault.Fault.TheVariants.{BagsFull}
use Rattle.epoch_bags.specs.declared.queue.PutStep.TheVariants.{Again, Done as PutDone, Full}
use Rattle.epoch_bags.specs.declared.queue.TakeStep.TheVariants.{Again as TakeAgain, Empty, Got}
use Rattle.epoch_machine.specs.declared.machine.Action.{Action}
use Rattle.epoch_machine.specs.declared.machine.Action.TheVariants.{Pin as PinAction, Unpin as UnpinAction}
use Rattle.epoch_machine.specs.declared.machine.Action.TheVariants.{Defer as DeferAction, Flush as FlushAction}
use Rattle.epoch_machine.specs.declared.machine.Ask.TheVariants.{PutBag, TakeBag}
use Rattle.epoch_machine.specs.declared.machine.Stage.{Stage}
use Rattle.epoch_machine.specs.declared.machine.Stage.TheVariants.{Idle as Resting, LoadPin, StorePin, ReloadPin}
use Rattle.epoch_machine.specs.declared.machine.Stage.TheVariants.{LoadScan, Scan, Advance, Take, LoadSeal, Put, Keep}
use Rattle.epoch_machine.specs.declared.machine.Stage.TheVariants.{StoreUnpinned, End}
use Rattle.epoch_machine.specs.Machine.{put_heard, with_stage, after_collect}
use Rattle.epoch_laws.specs.declared.heap.access.AccessAnswer.{AccessAnswer}
use Rattle.epoch_laws.specs.declared.heap.access.AccessAnswer.TheVariants.{Guard, Unit as UnitAnswer}
use Rattle.epoch_laws.specs.declared.step.Call.TheVariants.{Pin, Unpin, Defer, Flush}
use Rattle.epoch_laws.specs.declared.step.Deferral.{Deferral}
use Rattle.epoch_laws.specs.declared.step.Progress.{Progress}
use Rattle.epoch_laws.specs.declared.step.Progress.TheVariants.{Idle, Driven}
use Rattle.epoch_laws.specs.declared.step.Reply.{Reply}
use Rattle.epoch_laws.specs.declared.step.Reply.TheVariants.{Stepped, Pinned as PinnedReply, Unpinned as UnpinnedReply}
use Rattle.epoch_laws.specs.declared.step.Reply.TheVariants.{Deferred, Done, Refused}
use Rattle.epoch_laws.specs.declared.step.Step.TheVariants.{Go}
use Rattle.epoch_laws.specs.declared.step.Word.{Word}
use Rattle.epoch_laws.specs.declared.step.Word.TheVariants.{Unpinned, Pinned}
use Rattle.epoch_laws.specs.Calls.{goes_of, ends_call}
use Rattle.epoch_laws.specs.Run.{Bag, WorldSeat, State, Open, seat_of, with_seat, with_machine, lowest, lowest_from}
use Rattle.epoch_laws.specs.Run.{PerformsAsk, Moves, TakesStep, Runs}
use Rattle.epoch_laws.specs.Sharp.{pair_sizes, EndsIn}
use Rattle.epoch_laws.proofs.Log.{IsWithdrawal}
use Rattle.epoch_laws.proofs.StoredBags.{one_less}
use Rattle.epoch_laws.proofs.SureSteps.{no_heap, Aside, aside_of, among, placed, core, Surely, moves_among}
use Rattle.epoch_laws.proofs.SureSteps.{Leads}
use Rattle.epoch_laws.proofs.SureSteps.{goes, ends}

-- THE STATES

-- a participant with no bag in hand, that isn't paused
abbrev pub seat : Word → Stage → Action → ℕ → ℕ → ℕ → Bool → List Deferral → Progress → List ℕ → WorldSeat
seat word stage action guards published pins full held now out = record {
  word = word;
  machine = record {
    stage = stage;
    action = action;
    guards = guards;
    published = published;
    pins = pins;
    sizes = pair_sizes;
    full = full;
    held = held;
    hand = [];
  };
  progress = now;
  guards = out;
  paused = None;
  readings = [];
}

-- a world in which the places and the cells are left out
abbrev pub world : ℕ → List Bag → ℕ → WorldSeat → WorldSeat → State
world epoch bags tickets zeroth first = record {
  sizes = pair_sizes;
  epoch = epoch;
  seats = zeroth ∷ first ∷ [];
  queued = bags;
  tickets = tickets;
  ending = Open;
  heap = no_heap;
  places = [];
  seen = [];
  ahead = [];
  room = [];
}

-- the job that 1 defers
abbrev pub job : Deferral
job = record { ticket = 0; removes = None }

-- the bag that it seals in epoch 2
abbrev pub its_bag : Bag
its_bag = record { seal = 2; jobs = job ∷ [] }

-- a participant that isn't pinned, with the action of its last call, what it published last, and how often it pinned
abbrev pub unpinned : Action → ℕ → ℕ → WorldSeat
unpinned action published pins = seat Unpinned Resting action 0 published pins false [] Idle []

-- a participant that registered, and has not pinned yet
abbrev pub new_seat : WorldSeat
new_seat = unpinned PinAction 0 0

-- a participant that pins
abbrev pub pinning : Word → Stage → ℕ → ℕ → WorldSeat
pinning word stage published pins = seat word stage PinAction 0 published pins false [] (Driven Pin) []

-- a participant that has a guard, between two calls
abbrev pub pinned : Action → ℕ → ℕ → List Deferral → WorldSeat
pinned action published pins held =
    seat (Pinned published) Resting action 1 published pins false held Idle (0 ∷ [])

-- a participant that unpins for the first time
abbrev pub unpinning : Word → Stage → ℕ → WorldSeat
unpinning word stage published =
    seat word stage UnpinAction 1 published 1 false [] (Driven (Unpin (Some 0))) (0 ∷ [])

-- before the calls, and after each but the last
abbrev pub both_new : State
both_new = world 0 [] 0 new_seat new_seat

abbrev pub zeroth_pinned : State
zeroth_pinned = world 1 [] 0 (pinned PinAction 0 1 []) new_seat

abbrev pub zeroth_unpinned : State
zeroth_unpinned = world 1 [] 0 (unpinned UnpinAction 0 1) new_seat

abbrev pub first_pinned : State
first_pinned = world 2 [] 0 (unpinned UnpinAction 0 1) (pinned PinAction 1 1 [])

abbrev pub both_unpinned : State
both_unpinned = world 2 [] 0 (unpinned UnpinAction 0 1) (unpinned UnpinAction 1 1)

abbrev pub zeroth_pinned_again : State
zeroth_pinned_again = world 2 [] 0 (pinned PinAction 2 2 []) (unpinned UnpinAction 1 1)

abbrev pub both_pinned : State
both_pinned = world 2 [] 0 (pinned PinAction 2 2 []) (pinned PinAction 2 2 [])

abbrev pub job_deferred : State
job_deferred = world 2 [] 1 (pinned PinAction 2 2 []) (pinned DeferAction 2 2 (job ∷ []))

-- while 0 pins for the first time, and while 1 does
abbrev pub zeroth_pinning : ℕ → Word → Stage → ℕ → State
zeroth_pinning epoch word stage pins = world epoch [] 0 (pinning word stage 0 pins) new_seat

abbrev pub first_pinning : ℕ → Word → Stage → ℕ → ℕ → State
first_pinning epoch word stage published pins =
    world epoch [] 0 (unpinned UnpinAction 0 1) (pinning word stage published pins)

-- while 0 unpins, and while 1 does
abbrev pub zeroth_unpinning : Word → Stage → State
zeroth_unpinning word stage = world 1 [] 0 (unpinning word stage 0) new_seat

abbrev pub first_unpinning : Word → Stage → State
first_unpinning word stage = world 2 [] 0 (unpinned UnpinAction 0 1) (unpinning word stage 1)

-- while they pin again
abbrev pub zeroth_pinning_again : Word → Stage → ℕ → ℕ → State
zeroth_pinning_again word stage published pins =
    world 2 [] 0 (pinning word stage published pins) (unpinned UnpinAction 1 1)

abbrev pub first_pinning_again : Word → Stage → ℕ → ℕ → State
first_pinning_again word stage published pins =
    world 2 [] 0 (pinned PinAction 2 2 []) (pinning word stage published pins)

-- while 1 defers, by how many jobs were accepted
abbrev pub deferring : ℕ → Stage → List Deferral → State
deferring tickets stage held = world 2 [] tickets (pinned PinAction 2 2 [])
    (seat (Pinned 2) stage DeferAction 1 2 2 false held (Driven (Defer (Some 0))) (0 ∷ []))

-- while 1 flushes, with its job in hand, in the store, or told that the store is full
abbrev pub flushing : ℕ → List Bag → Stage → Bool → List Deferral → State
flushing epoch bags stage full held = world epoch bags 1 (pinned PinAction 2 2 [])
    (seat (Pinned 2) stage FlushAction 1 2 2 full held (Driven (Flush (Some 0))) (0 ∷ []))

-- after the flush that put its bag, and after one that found the store full
abbrev pub flushed : State
flushed = world 3 (its_bag ∷ []) 1 (pinned PinAction 2 2 []) (pinned FlushAction 2 2 [])

abbrev left_full : State
left_full = world 3 [] 1 (pinned PinAction 2 2 [])
    (seat (Pinned 2) Resting FlushAction 1 2 2 true (job ∷ []) Idle (0 ∷ []))

-- WHAT A CALL COMES TO

-- what a call comes to: such a state
abbrev pub To : State → State → List Reply → State → Type 0
To at old rs new = core new ≡ at

-- such a state, and just these replies
abbrev pub Exactly : List Reply → State → State → List Reply → State → Type 0
Exactly told at old rs new = (rs ≡ told) × (core new ≡ at)

-- one step of a call, and its last one
go : {at after : State} (p : ℕ) (mid : State) (r : Reply)
    → Surely at p r mid → ends_call r ≡ false → Leads p (core mid) (To after) → Leads p at (To after)
go {at} {after} p mid r is on then =
    goes p at mid r (To after) (To after) is on then (λ old mid new rs did e. e)

end : {at : State} (p : ℕ) (after : State) (r : Reply)
    → Surely at p r after → ends_call r ≡ true → Leads p at (To (core after))
end {at} p after r is on = ends p at after r (To (core after)) is on (λ old new e. e)

-- the same where each reply of the call is known
go_so : {at after : State} {told : List Reply} (p : ℕ) (mid : State) (r : Reply) → Surely at p r mid
    → ends_call r ≡ false → Leads p (core mid) (Exactly told after) → Leads p at (Exactly (r ∷ told) after)
go_so {at} {after} {told} p mid r is on then = goes p at mid r (Exactly (r ∷ told) after)
    (Exactly told after) is on then (λ old mid new rs did e. (ap (λ (xs : List Reply). r ∷ xs) e.0, e.1))

end_so : {at : State} (p : ℕ) (after : State) (r : Reply)
    → Surely at p r after → ends_call r ≡ true → Leads p at (Exactly (r ∷ []) (core after))
end_so {at} p after r is on = ends p at after r (Exactly (r ∷ []) (core after)) is on (λ old new e. (refl, e))

-- a Go of p may leave the state as it is
abbrev OneOf : State → ℕ → State → Type 0
OneOf at p after = (old new : State) (told : Reply) → core old ≡ at → TakesStep old (Go p) told new
    → (told ≡ Stepped) × ((core new ≡ at) ⊎ (core new ≡ after))

-- where it may do so again and again, in the end it goes on
loops : (p : ℕ) (at after : State) (Result : State → List Reply → State → Type 0)
    → OneOf at p after → Leads p after Result
    → ((old mid new : State) (rs : List Reply) → TakesStep old (Go p) Stepped mid → Result mid rs new
    → Result old (Stepped ∷ rs) new) → Leads p at Result
loops p at after Result is then prepend old new [] e last run = absurd last
loops p at after Result is then prepend old new (x ∷ []) e last (mid, did, run) =
    absurd (cc (last, ap ends_call (is old mid x e did).0))
loops p at after Result is then prepend old new (x ∷ y ∷ rs) e last (mid, did, run) =
    let one = is old mid x e did in
    subst (λ (z : Reply). Result old (z ∷ y ∷ rs) new) (sym one.0)
    (prepend old mid new (y ∷ rs) (subst (λ (z : Reply). TakesStep old (Go p) z mid) one.0 did) (elim one.1 [
      | inl same ↦ loops p at after Result is then prepend mid new (y ∷ rs) same last.1 run
      | inr on ↦ then mid new (y ∷ rs) on last.1 run
    ]))

-- a step of a collection where no bag is expired
abbrev NoneExpired : ℕ → List Bag → Type 0
NoneExpired x bags = (bag : Bag) (left : List Bag) → IsInserted bag left bags → IsExpired x bag → ⊥

-- the seat after its collection has seen every bag
abbrev seen_all : WorldSeat → WorldSeat
seen_all seat = with_machine seat (with_stage seat.machine (after_collect seat.machine.action seat.machine.held))

-- such a step finds no bag to take
took : (old new : State) (p : ℕ) (seat : WorldSeat) (x k : ℕ) (r : Reply)
    → NoneExpired x old.queued → PerformsAsk old p seat (Take x k) (TakeBag x) r new
    → (r ≡ Stepped) × ((new ≡ with_seat old p seat) ⊎ (new ≡ with_seat old p (seen_all seat)))
took old new p seat x k r none (TakeAgain, jobs, queued, told, takes, did) =
    (told, inl (did ∙ ap (λ (q : List Bag). record (with_seat old p seat) { queued = q }) takes))
took old new p seat x k r none (Empty, jobs, queued, told, takes, did) =
    (told, inr (did ∙ ap (λ (q : List Bag). record (with_seat old p (seen_all seat)) { queued = q }) takes))
took old new p seat x k r none (Got, jobs, queued, told, (bag, its, expired, inserted), did) =
    absurd (none bag queued inserted expired)

-- an empty store has no such bag
none_in_none : (x : ℕ) → NoneExpired x []
none_in_none x bag left inserted expired = absurd (omega (arith, one_less [] left bag inserted))

-- this step of the collection for x is all that a Go of p can be, whatever the places and the cells are
abbrev OnlyTakes : ℕ → ℕ → State → Type 0
OnlyTakes p x at = (aside : Aside) (new : State) (told : Reply)
    → Moves (among at aside) (Go p) told (placed new aside)
    → PerformsAsk (among at aside) p (seat_of at p) (Take x 0) (TakeBag x) told (placed new aside)

-- a Go of p in a collection leaves the state as it is, or ends the collection
looks : (p x : ℕ) (at after : State) → NoneExpired x at.queued → core (with_seat at p (seat_of at p)) ≡ at
    → core (with_seat at p (seen_all (seat_of at p))) ≡ after → OnlyTakes p x at → OneOf at p after
looks p x at after none same ends takes old new told e did =
    let aside : Aside = aside_of old in
    let asks = takes aside new told (moves_among at old new (Go p) told e did) in
    let t = took (among at aside) (placed new aside) p (seat_of at p) x 0 told none asks in
    (t.0, elim t.1 [ inl e ↦ inl (ap core e ∙ same) | inr e ↦ inr (ap core e ∙ ends) ])

-- THE CALLS BUT THE LAST

-- the store is empty when 0 collects, and so it is when 1 does
zeroth_looks : OneOf (zeroth_pinning 1 (Pinned 0) (Take 1 0) 1) 0 (zeroth_pinning 1 (Pinned 0) End 1)
zeroth_looks = looks 0 1 (zeroth_pinning 1 (Pinned 0) (Take 1 0) 1) (zeroth_pinning 1 (Pinned 0) End 1)
    (none_in_none 1) refl refl
    (λ aside new told did. elim did [ inl e ↦ absurd (cc (e.0)) | inr takes ↦ takes.1 ])

-- the first pin of 0 advances the epoch to 1, and leaves 0 pinned in epoch 0
pub zeroth_pins : Leads 0 (zeroth_pinning 0 Unpinned LoadPin 0) (To zeroth_pinned)
unfolding lowest lowest_from
zeroth_pins =
    (go 0 (zeroth_pinning 0 Unpinned (StorePin 0) 0) Stepped (λ aside. refl) refl
    (go 0 (zeroth_pinning 0 (Pinned 0) ReloadPin 1) (PinnedReply 0) (λ aside. refl) refl
    (go 0 (zeroth_pinning 0 (Pinned 0) LoadScan 1) Stepped (λ aside. refl) refl
    (go 0 (zeroth_pinning 0 (Pinned 0) (Scan 0 0) 1) Stepped (λ aside. refl) refl
    (go 0 (zeroth_pinning 0 (Pinned 0) (Scan 0 1) 1) Stepped (λ aside. refl) refl
    (go 0 (zeroth_pinning 0 (Pinned 0) (Advance 0) 1) Stepped (λ aside. refl) refl
    (go 0 (zeroth_pinning 1 (Pinned 0) (Take 1 0) 1) Stepped (λ aside. refl) refl
    (loops 0 (zeroth_pinning 1 (Pinned 0) (Take 1 0) 1) (zeroth_pinning 1 (Pinned 0) End 1) (To zeroth_pinned)
    zeroth_looks (end 0 zeroth_pinned (Done (Guard 0)) (λ aside. refl) refl) (λ old mid new rs did e. e)))))))))

-- the unpin of 0 leaves both unpinned, while the epoch is 1
pub zeroth_unpins : Leads 0 (zeroth_unpinning (Pinned 0) StoreUnpinned)
    (Exactly (UnpinnedReply 0 ∷ Done UnitAnswer ∷ []) zeroth_unpinned)
unfolding lowest lowest_from
zeroth_unpins =
    (go_so 0 (zeroth_unpinning Unpinned End) (UnpinnedReply 0) (λ aside. refl) refl
    (end_so 0 zeroth_unpinned (Done UnitAnswer) (λ aside. refl) refl))

first_looks : OneOf (first_pinning 2 (Pinned 1) (Take 2 0) 1 1) 1 (first_pinning 2 (Pinned 1) End 1 1)
first_looks = looks 1 2 (first_pinning 2 (Pinned 1) (Take 2 0) 1 1) (first_pinning 2 (Pinned 1) End 1 1)
    (none_in_none 2) refl refl
    (λ aside new told did. elim did [ inl e ↦ absurd (cc (e.0)) | inr takes ↦ takes.1 ])

-- the first pin of 1 advances the epoch to 2, and leaves 1 pinned in epoch 1
pub first_pins : Leads 1 (first_pinning 1 Unpinned LoadPin 0 0) (To first_pinned)
unfolding lowest lowest_from
first_pins =
    (go 1 (first_pinning 1 Unpinned (StorePin 1) 0 0) Stepped (λ aside. refl) refl
    (go 1 (first_pinning 1 (Pinned 1) ReloadPin 1 1) (PinnedReply 1) (λ aside. refl) refl
    (go 1 (first_pinning 1 (Pinned 1) LoadScan 1 1) Stepped (λ aside. refl) refl
    (go 1 (first_pinning 1 (Pinned 1) (Scan 1 0) 1 1) Stepped (λ aside. refl) refl
    (go 1 (first_pinning 1 (Pinned 1) (Scan 1 1) 1 1) Stepped (λ aside. refl) refl
    (go 1 (first_pinning 1 (Pinned 1) (Advance 1) 1 1) Stepped (λ aside. refl) refl
    (go 1 (first_pinning 2 (Pinned 1) (Take 2 0) 1 1) Stepped (λ aside. refl) refl
    (loops 1 (first_pinning 2 (Pinned 1) (Take 2 0) 1 1) (first_pinning 2 (Pinned 1) End 1 1) (To first_pinned)
    first_looks (end 1 first_pinned (Done (Guard 0)) (λ aside. refl) refl) (λ old mid new rs did e. e)))))))))

-- the unpin of 1 leaves both unpinned, while the epoch is 2
pub first_unpins : Leads 1 (first_unpinning (Pinned 1) StoreUnpinned)
    (Exactly (UnpinnedReply 1 ∷ Done UnitAnswer ∷ []) both_unpinned)
unfolding lowest lowest_from
first_unpins =
    (go_so 1 (first_unpinning Unpinned End) (UnpinnedReply 1) (λ aside. refl) refl
    (end_so 1 both_unpinned (Done UnitAnswer) (λ aside. refl) refl))

-- after its first pin a participant does not collect at a pin
pub zeroth_pins_again : Leads 0 (zeroth_pinning_again Unpinned LoadPin 0 1)
    (Exactly (Stepped ∷ PinnedReply 0 ∷ Stepped ∷ Done (Guard 0) ∷ []) zeroth_pinned_again)
unfolding lowest lowest_from
zeroth_pins_again =
    (go_so 0 (zeroth_pinning_again Unpinned (StorePin 2) 0 1) Stepped (λ aside. refl) refl
    (go_so 0 (zeroth_pinning_again (Pinned 2) ReloadPin 2 2) (PinnedReply 0) (λ aside. refl) refl
    (go_so 0 (zeroth_pinning_again (Pinned 2) End 2 2) Stepped (λ aside. refl) refl
    (end_so 0 zeroth_pinned_again (Done (Guard 0)) (λ aside. refl) refl))))

-- the second pin of 1 leaves both pinned in epoch 2
pub first_pins_again : Leads 1 (first_pinning_again Unpinned LoadPin 1 1)
    (Exactly (Stepped ∷ PinnedReply 1 ∷ Stepped ∷ Done (Guard 0) ∷ []) both_pinned)
unfolding lowest lowest_from
first_pins_again =
    (go_so 1 (first_pinning_again Unpinned (StorePin 2) 1 1) Stepped (λ aside. refl) refl
    (go_so 1 (first_pinning_again (Pinned 2) ReloadPin 2 2) (PinnedReply 1) (λ aside. refl) refl
    (go_so 1 (first_pinning_again (Pinned 2) End 2 2) Stepped (λ aside. refl) refl
    (end_so 1 both_pinned (Done (Guard 0)) (λ aside. refl) refl))))

-- the deferral of 1 gets ticket 0, and its job goes into the held bag
pub first_defers : Leads 1 (deferring 0 Keep []) (Exactly (Deferred 0 ∷ Done UnitAnswer ∷ []) job_deferred)
unfolding lowest lowest_from
first_defers =
    (go_so 1 (deferring 1 End (job ∷ [])) (Deferred 0) (λ aside. refl) refl
    (end_so 1 job_deferred (Done UnitAnswer) (λ aside. refl) refl))

-- THE FLUSH

-- what is put into an empty store is alone there
only_bag : (bag : Bag) (front after : List Bag) → [] ≡ front ++ after → front ++ bag ∷ after ≡ bag ∷ []
only_bag bag [] [] e = refl
only_bag bag [] (x ∷ after) e = absurd (cc (e))
only_bag bag (x ∷ front) after e = absurd (cc (e))

-- a step of a put into an empty store: it goes on, has put the bag, or found the store full
put : (old new : State) (p : ℕ) (at : WorldSeat) (s : ℕ) (r : Reply)
    → old.queued ≡ [] → PerformsAsk old p at (Put s) (PutBag s) r new
    → (r ≡ Stepped) × ((new ≡ with_seat old p at) ⊎ ((new ≡ record (with_seat old p
    (with_machine at (put_heard at.machine PutDone))) { queued = record { seal = s; jobs = at.machine.held } ∷ [] })
    ⊎ (new ≡ with_seat old p (with_machine at (put_heard at.machine Full)))))
put old new p at s r none (Again, queued, told, puts, did) =
    (told, inl (did ∙ ap (λ (q : List Bag). record (with_seat old p at) { queued = q }) puts))
put old new p at s r none (PutDone, queued, told, puts, did) = (
  told,
  inr (inl (did ∙ ap (λ (q : List Bag).
      record (with_seat old p (with_machine at (put_heard at.machine PutDone))) { queued = q }) (puts.with
      ∙ only_bag (record { seal = s; jobs = at.machine.held }) puts.front puts.back (sym none ∙ puts.without)))),
)
put old new p at s r none (Full, queued, told, puts, did) = (
  told,
  inr (inr (did ∙ ap (λ (q : List Bag).
      record (with_seat old p (with_machine at (put_heard at.machine Full))) { queued = q }) puts)),
)

-- the only bag that can be taken out of its store
its_out : (front after : List Bag) (bag : Bag) → its_bag ∷ [] ≡ front ++ bag ∷ after → its_bag ≡ bag
its_out [] after bag e = cc (e)
its_out (x ∷ []) after bag e = absurd (cc (e))
its_out (x ∷ y ∷ front) after bag e = absurd (cc (e))

-- the bag of 1 is not expired one epoch after its seal
none_old : NoneExpired 3 (its_bag ∷ [])
none_old bag left inserted expired =
    let same : 2 ≡ bag.seal = ap (λ (b : Bag). b.seal) (its_out inserted.front inserted.back bag inserted.with) in
    absurd (omega (arith, expired, same))

-- none of the replies withdraws what 0 publishes
abbrev pub AllStay : List Reply → Type 0
AllStay [] = Unit {0}
AllStay (r ∷ rs) = (¬ (IsWithdrawal r 0)) × AllStay rs

-- the reply that a step was made doesn't withdraw what 0 publishes
pub stepped_stays : ¬ (IsWithdrawal Stepped 0)
stepped_stays (inl e) = cc (e)
stepped_stays (inr e) = cc (e)

-- nor does the end of a call withdraw it
pub done_stays : (a : AccessAnswer) → ¬ (IsWithdrawal (Done a) 0)
done_stays a (inl e) = cc (e)
done_stays a (inr e) = cc (e)

-- with one more reply before them, the last one stays
pub ends_more : (r last : Reply) (rs : List Reply) → EndsIn last rs → EndsIn last (r ∷ rs)
ends_more r last [] e = absurd e
ends_more r last (s ∷ rs) e = e

-- what the collection of the flush comes to
abbrev Collecting : State → List Reply → State → Type 0
Collecting old rs new = (core new ≡ flushed) × AllStay rs × EndsIn (Done UnitAnswer) rs

-- a collection for the epoch 3 is among these steps, and they end with it
pub record Collected (old : State) (rs : List Reply) (new : State) : Type 0 where
  pub begins : State
  pub front : List Reply
  pub behind : List Reply
  pub split : rs ≡ front ++ behind
  pub to : Runs old (goes_of 1 front) begins
  pub from : Runs begins (goes_of 1 behind) new
  pub expiry : (seat_of begins 1).machine.stage ≡ Take 3 0
  pub ended : EndsIn (Done UnitAnswer) behind
  pub stays : AllStay rs
  pub is : core new ≡ flushed

-- what a flush comes to: it is told that the store is full, or it collects
abbrev EndsFull : State → List Reply → State → Type 0
EndsFull old rs new = EndsIn (Refused BagsFull) rs

abbrev pub Flushed : State → List Reply → State → Type 0
Flushed old rs new = EndsFull old rs new ⊎ Collected old rs new

-- a step before a collection
collected_more : (old mid new : State) (rs : List Reply)
    → TakesStep old (Go 1) Stepped mid → Collected mid rs new → Collected old (Stepped ∷ rs) new
collected_more old mid new rs did c = record {
  begins = c.begins;
  front = Stepped ∷ c.front;
  behind = c.behind;
  split = ap (λ (xs : List Reply). Stepped ∷ xs) c.split;
  to = (mid, did, c.to);
  from = c.from;
  expiry = c.expiry;
  ended = c.ended;
  stays = (stepped_stays, c.stays);
  is = c.is;
}

-- a step before either
flushed_more : (old mid new : State) (rs : List Reply)
    → TakesStep old (Go 1) Stepped mid → Flushed mid rs new → Flushed old (Stepped ∷ rs) new
flushed_more old mid new rs did (inl e) = inl (ends_more Stepped (Refused BagsFull) rs e)
flushed_more old mid new rs did (inr c) = inr (collected_more old mid new rs did c)

-- the only bag stays where it is
bag_looks : OneOf (flushing 3 (its_bag ∷ []) (Take 3 0) false []) 1 (flushing 3 (its_bag ∷ []) End false [])
bag_looks = looks 1 3 (flushing 3 (its_bag ∷ []) (Take 3 0) false []) (flushing 3 (its_bag ∷ []) End false [])
    none_old refl refl (λ aside new told did. elim did [ inl e ↦ absurd (cc (e.0)) | inr takes ↦ takes.1 ])

-- the collection of the flush, from its first look at the store to the end of the call
collecting : Leads 1 (flushing 3 (its_bag ∷ []) (Take 3 0) false []) Collecting
collecting = loops 1 (flushing 3 (its_bag ∷ []) (Take 3 0) false []) (flushing 3 (its_bag ∷ []) End false [])
    Collecting bag_looks
    (ends 1 (flushing 3 (its_bag ∷ []) End false []) flushed (Done UnitAnswer) Collecting (λ aside. refl) refl
    (λ old new e. (e, (done_stays UnitAnswer, tt), refl)))
    (λ old mid new rs did e. (e.0, (stepped_stays, e.1), ends_more Stepped (Done UnitAnswer) rs e.2))

-- the steps after the last advance are the collection
collects : Leads 1 (flushing 3 (its_bag ∷ []) (Take 3 0) false []) Collected
collects old new rs e last run =
    let c = collecting old new rs e last run in
    record {
      begins = old;
      front = [];
      behind = rs;
      split = refl;
      to = refl;
      from = run;
      expiry = ap (λ (s : State). (seat_of s 1).machine.stage) e;
      ended = c.2;
      stays = c.1;
      is = c.0;
    }

-- a step before the collection, with the bag in the store
then_collects : {at : State} (mid : State) → Surely at 1 Stepped mid → Leads 1 (core mid) Collected
    → Leads 1 at Collected
then_collects {at} mid is then = goes 1 at mid Stepped Collected Collected is refl then collected_more

-- so with the bag in the store
after_put : Leads 1 (flushing 2 (its_bag ∷ []) LoadScan false []) Collected
after_put =
    (then_collects (flushing 2 (its_bag ∷ []) (Scan 2 0) false []) (λ aside. refl)
    (then_collects (flushing 2 (its_bag ∷ []) (Scan 2 1) false []) (λ aside. refl)
    (then_collects (flushing 2 (its_bag ∷ []) (Advance 2) false []) (λ aside. refl)
    (then_collects (flushing 3 (its_bag ∷ []) (Take 3 0) false []) (λ aside. refl) collects))))

-- a step after the put that found the store full
then_full : {at : State} (mid : State) → Surely at 1 Stepped mid → Leads 1 (core mid) EndsFull → Leads 1 at EndsFull
then_full {at} mid is then = goes 1 at mid Stepped EndsFull EndsFull is refl then
    (λ old mid new rs did e. ends_more Stepped (Refused BagsFull) rs e)

-- the store is empty, and stays so
none_look : OneOf (flushing 3 [] (Take 3 0) true (job ∷ [])) 1 (flushing 3 [] End true (job ∷ []))
none_look = looks 1 3 (flushing 3 [] (Take 3 0) true (job ∷ [])) (flushing 3 [] End true (job ∷ [])) (none_in_none 3)
    refl refl (λ aside new told did. elim did [ inl e ↦ absurd (cc (e.0)) | inr takes ↦ takes.1 ])

-- so where the store was full
after_full : Leads 1 (flushing 2 [] LoadScan true (job ∷ [])) EndsFull
after_full =
    (then_full (flushing 2 [] (Scan 2 0) true (job ∷ [])) (λ aside. refl)
    (then_full (flushing 2 [] (Scan 2 1) true (job ∷ [])) (λ aside. refl)
    (then_full (flushing 2 [] (Advance 2) true (job ∷ [])) (λ aside. refl)
    (then_full (flushing 3 [] (Take 3 0) true (job ∷ [])) (λ aside. refl)
    (loops 1 (flushing 3 [] (Take 3 0) true (job ∷ [])) (flushing 3 [] End true (job ∷ [])) EndsFull none_look
    (ends 1 (flushing 3 [] End true (job ∷ [])) left_full (Refused BagsFull) EndsFull (λ aside. refl) refl
    (λ old new e. refl)) (λ old mid new rs did e. ends_more Stepped (Refused BagsFull) rs e))))))

-- what a step of the put comes to: all as it was, the bag in the store, or the store full
abbrev PutsTo : Reply → State → Type 0
PutsTo told new = (told ≡ Stepped) × ((core new ≡ flushing 2 [] (Put 2) false (job ∷ []))
    ⊎ ((core new ≡ flushing 2 (its_bag ∷ []) LoadScan false [])
    ⊎ (core new ≡ flushing 2 [] LoadScan true (job ∷ []))))

-- each step of the put comes to one of these
puts_among : (aside : Aside) (new : State) (told : Reply)
    → Moves (among (flushing 2 [] (Put 2) false (job ∷ [])) aside) (Go 1) told (placed new aside) → PutsTo told new
puts_among aside new told (inl did) = absurd (cc (did.0))
puts_among aside new told (inr did) =
    let at : State = flushing 2 [] (Put 2) false (job ∷ []) in
    let t = put (among at aside) (placed new aside) 1 (seat_of at 1) 2 told refl did.1 in (
      t.0,
      elim t.1 [
        | inl e ↦ inl (ap core e)
        | inr other ↦ inr (elim other [ inl e ↦ inl (ap core e) | inr e ↦ inr (ap core e) ])
      ],
    )

put_one : (old new : State) (told : Reply) → core old ≡ flushing 2 [] (Put 2) false (job ∷ [])
    → TakesStep old (Go 1) told new → PutsTo told new
put_one old new told e did = puts_among (aside_of old) new told
    (moves_among (flushing 2 [] (Put 2) false (job ∷ [])) old new (Go 1) told e did)

-- the put, and what follows it
puts : Leads 1 (flushing 2 [] (Put 2) false (job ∷ [])) Flushed
puts old new [] e last run = absurd last
puts old new (x ∷ []) e last (mid, did, run) = absurd (cc (last, ap ends_call (put_one old mid x e did).0))
puts old new (x ∷ y ∷ rs) e last (mid, did, run) =
    let one = put_one old mid x e did in
    let so : TakesStep old (Go 1) Stepped mid = subst (λ (z : Reply). TakesStep old (Go 1) z mid) one.0 did in
    subst (λ (z : Reply). Flushed old (z ∷ y ∷ rs) new) (sym one.0) (flushed_more old mid new (y ∷ rs) so (elim one.1 [
      | inl same ↦ puts mid new (y ∷ rs) same last.1 run
      | inr other ↦ elim other [
        | inl done ↦ inr (after_put mid new (y ∷ rs) done last.1 run)
        | inr full ↦ inl (after_full mid new (y ∷ rs) full last.1 run)
      ]
    ]))

-- the flush of 1 is told that the store is full, or ends with a collection for epoch 3 that leaves its bag in the store
pub first_flushes : Leads 1 (flushing 2 [] LoadSeal false (job ∷ [])) Flushed
first_flushes =
    goes 1 (flushing 2 [] LoadSeal false (job ∷ [])) (flushing 2 [] (Put 2) false (job ∷ [])) Stepped
    Flushed Flushed (λ aside. refl) refl puts flushed_more
