-- The calls of the one participant, step by step: what each of them leads to.
use Rattle.std.proofs.Common.{◌≡◌, ℕ, ◌+◌, ◌*◌, ◌%◌, ◌≤◌, Bool, true, false, List, [], ◌∷◌, Some, None}
use Rattle.std.proofs.Common.{inr, refl, ap, sym, arith}
use Rattle.epoch_bags.specs.declared.job.Called.TheVariants.{Ran}
use Rattle.epoch_bags.specs.declared.queue.PutStep.TheVariants.{Done as PutDone}
use Rattle.epoch_bags.specs.declared.queue.TakeStep.TheVariants.{Empty, Got}
use Rattle.epoch_laws.specs.declared.heap.access.AccessAnswer.TheVariants.{Guard, Unit as UnitAnswer}
use Rattle.epoch_machine.specs.declared.machine.Action.{Action}
use Rattle.epoch_machine.specs.declared.machine.Action.TheVariants.{Pin as PinAction, Unpin as UnpinAction}
use Rattle.epoch_machine.specs.declared.machine.Action.TheVariants.{Defer as DeferAction, Flush as FlushAction}
use Rattle.epoch_machine.specs.declared.machine.Stage.{Stage}
use Rattle.epoch_machine.specs.declared.machine.Stage.TheVariants.{Idle as Resting, LoadPin, StorePin, ReloadPin}
use Rattle.epoch_machine.specs.declared.machine.Stage.TheVariants.{LoadScan, Scan, Advance, Take, Calling, LoadSeal}
use Rattle.epoch_machine.specs.declared.machine.Stage.TheVariants.{Put, Keep, StoreUnpinned, End}
use Rattle.epoch_machine.specs.Machine.{after_pin, after_collect, past_word}
use Rattle.epoch_laws.specs.declared.step.Call.{Call}
use Rattle.epoch_laws.specs.declared.step.Call.TheVariants.{Pin, Unpin, Defer, Flush}
use Rattle.epoch_laws.specs.declared.step.Deferral.{Deferral}
use Rattle.epoch_laws.specs.declared.step.Progress.TheVariants.{Idle, Driven}
use Rattle.epoch_laws.specs.declared.step.Reply.TheVariants.{Began, Stepped, Pinned as PinnedReply}
use Rattle.epoch_laws.specs.declared.step.Reply.TheVariants.{Unpinned as UnpinnedReply, Deferred, Called as CalledReply}
use Rattle.epoch_laws.specs.declared.step.Reply.TheVariants.{Done}
use Rattle.epoch_laws.specs.declared.step.Step.TheVariants.{Begin, Go}
use Rattle.epoch_laws.specs.declared.step.Word.TheVariants.{Unpinned, Pinned}
use Rattle.epoch_laws.specs.Collections.{outlook, AllAhead}
use Rattle.epoch_laws.specs.Places.{occupancy, PutSees}
use Rattle.epoch_laws.specs.Room.{PutTellsRoom}
use Rattle.epoch_laws.specs.Run.{Bag, State}
use Rattle.epoch_world.proofs.LoneWorld.{Around, around, world, machine, seat}
use Rattle.epoch_world.proofs.LoneWorld.{taken_unpinned, taken_pinned}
use Rattle.epoch_world.proofs.LoneWorld.{lowest_none, To, by}

-- it rests unpinned, after that action, and under the guard 0, which it pinned in that epoch
abbrev pub resting : Around → Action → ℕ → ℕ → List Deferral → State
resting a action published pins held =
    world a (seat Unpinned (machine action Resting 0 published pins held []) Idle [])

abbrev pub guarded : Around → Action → ℕ → ℕ → List Deferral → State
guarded a action e pins held =
    world a (seat (Pinned e) (machine action Resting 1 e pins held []) Idle (0 ∷ []))

-- A PIN

abbrev pub pinning : Around → Stage → ℕ → ℕ → List Deferral → State
pinning a stage e pins held =
    world a (seat (Pinned e) (machine PinAction stage 0 e pins held []) (Driven Pin) [])

-- up to the second load of the epoch, after which it goes on at that stage
abbrev pub by_pinning : {last : State} (a : Around) (action : Action) (published n pins : ℕ) (held : List Deferral)
    (next : Stage) → pins ≡ (n + 1) % 128 → after_pin (machine PinAction ReloadPin 0 a.epoch pins held []) ≡ next
    → To last (pinning a next a.epoch pins held) → To last (resting a action published n held)
by_pinning a action published n pins held next count after rest =
    by (world a (seat Unpinned (machine PinAction LoadPin 0 published n held []) (Driven Pin) [])) (Begin 0 Pin) Began
    ((refl, refl), (refl, refl, refl, refl))
    (by (world a (seat Unpinned (machine PinAction (StorePin a.epoch) 0 published n held []) (Driven Pin) [])) (Go 0)
    Stepped (inr (taken_unpinned, (refl, refl)), ((refl, refl), λ q ne. refl, tt, λ free. refl))
    (by (pinning a ReloadPin a.epoch pins held) (Go 0) (PinnedReply 0) (
      inr (taken_unpinned, (refl, ap (λ (k : ℕ). pinning a ReloadPin a.epoch k held) count)),
      ((refl, refl), λ q ne. refl, tt, tt),
    )
    (by (pinning a next a.epoch pins held) (Go 0) Stepped (
      inr (taken_pinned a.epoch, (refl, ap (λ (s : Stage). pinning a s a.epoch pins held) (sym after))),
      ((refl, refl), λ q ne. refl, tt, λ free. refl),
    )
    rest)))

abbrev guarded_by : Around → ℕ → ℕ → List Deferral → ℕ → State
guarded_by a e pins held g =
    world a (seat (Pinned e) (machine PinAction Resting 1 e pins held []) Idle (g ∷ []))

-- its end, with the guard 0
abbrev pub by_guard : {last : State} (a : Around) (e pins : ℕ) (held : List Deferral)
    → To last (guarded a PinAction e pins held) → To last (pinning a End e pins held)
by_guard a e pins held rest =
    by (guarded a PinAction e pins held) (Go 0) (Done (Guard 0)) (
      inr (
        taken_pinned e,
        (ap (λ (g : ℕ). Done (Guard g)) (sym lowest_none), ap (guarded_by a e pins held) (sym lowest_none)),
      ),
      ((refl, refl), λ q ne. refl, tt, tt),
    )
    rest

-- AN UNPIN

abbrev pub by_unpin : {last : State} (a : Around) (action : Action) (e pins : ℕ) (held : List Deferral)
    → To last (resting a UnpinAction e pins held) → To last (guarded a action e pins held)
by_unpin a action e pins held rest =
    by (world a (seat (Pinned e) (machine UnpinAction StoreUnpinned 1 e pins held []) (Driven (Unpin (Some 0)))
    (0 ∷ []))) (Begin 0 (Unpin (Some 0))) Began ((refl, refl), (refl, refl, refl, refl))
    (by (world a (seat Unpinned (machine UnpinAction End 1 e pins held []) (Driven (Unpin (Some 0))) (0 ∷ []))) (Go 0)
    (UnpinnedReply 0) (inr (taken_pinned e, (refl, refl)), ((refl, refl), λ q ne. refl, tt, tt))
    (by (resting a UnpinAction e pins held) (Go 0) (Done UnitAnswer)
    (inr (taken_unpinned, (refl, refl)), ((refl, refl), λ q ne. refl, tt, tt))
    rest))

-- A DEFERRAL

abbrev pub job : Deferral
job = record { ticket = 0; removes = None }

abbrev deferring : Around → Stage → ℕ → ℕ → List Deferral → State
deferring a stage e pins held =
    world a (seat (Pinned e) (machine DeferAction stage 1 e pins held []) (Driven (Defer (Some 0))) (0 ∷ []))

-- of the first job, by one that holds none
abbrev pub by_defer : {last : State} (e x pins : ℕ)
    → To last (guarded (around e [] 1 false 0) DeferAction x pins (job ∷ []))
    → To last (guarded (around e [] 0 false 0) PinAction x pins [])
by_defer e x pins rest =
    by (deferring (around e [] 0 false 0) Keep x pins []) (Begin 0 (Defer (Some 0))) Began
    ((refl, refl), (refl, refl, refl, refl))
    (by (deferring (around e [] 1 false 0) End x pins (job ∷ [])) (Go 0) (Deferred 0)
    (inr (taken_pinned x, (refl, refl)), ((refl, refl), λ q ne. refl, tt, tt))
    (by (guarded (around e [] 1 false 0) DeferAction x pins (job ∷ [])) (Go 0) (Done UnitAnswer)
    (inr (taken_pinned x, (refl, refl)), ((refl, refl), λ q ne. refl, tt, tt))
    rest))

-- A COLLECTION

module _ (c : Call) (action : Action) (count pins : ℕ) (held : List Deferral) (guards : List ℕ) where
  -- a call that collects, at this stage, pinned in the epoch e
  abbrev pub collecting : Around → ℕ → Stage → List Deferral → State
  collecting a e stage hand =
      world a (seat (Pinned e) (machine action stage count e pins held hand) (Driven c) guards)

  -- the scan, and the advance to the next epoch, in which so many bags are ahead
  abbrev pub by_scan : {last : State} (e : ℕ) (bags : List Bag) (tickets : ℕ) (place : Bool) (ahead : ℕ)
      → past_word 1 e 0 (2 * e + 1) ≡ Advance e → AllAhead 0 (outlook bags 0) → AllAhead (e + 1) (outlook bags ahead)
      → To last (collecting (around (e + 1) bags tickets place ahead) e (Take (e + 1) 0) [])
      → To last (collecting (around e bags tickets place 0) e LoadScan [])
  by_scan e bags tickets place ahead past none all rest =
      by (collecting (around e bags tickets place 0) e (Scan e 0) []) (Go 0) Stepped
      (inr (taken_pinned e, (refl, refl)), ((refl, refl), λ q ne. refl, tt, λ free. refl))
      (by (collecting (around e bags tickets place 0) e (Advance e) []) (Go 0) Stepped (
        inr (
          taken_pinned e,
          (refl, ap (λ (s : Stage). collecting (around e bags tickets place 0) e s []) (sym past)),
        ),
        ((refl, refl), λ q ne. refl, λ alone. none, tt),
      )
      (by (collecting (around (e + 1) bags tickets place ahead) e (Take (e + 1) 0) []) (Go 0) Stepped
      (inr (taken_pinned e, (refl, refl)), ((refl, refl), λ q ne. refl, λ alone. all, tt))
      rest))

  -- no bag is found, and none is ahead
  abbrev pub by_none : {last : State} (e x k : ℕ) (bags : List Bag) (tickets : ℕ) (place : Bool)
      → after_collect action held ≡ End
      → To last (collecting (around x bags tickets place 0) e End [])
      → To last (collecting (around x bags tickets place 0) e (Take x k) [])
  by_none e x k bags tickets place after rest =
      by (collecting (around x bags tickets place 0) e End []) (Go 0) Stepped (
        inr (
          taken_pinned e,
          (
            Empty,
            [],
            bags,
            refl,
            refl,
            ap (λ (s : Stage). collecting (around x bags tickets place 0) e s []) (sym after),
          ),
        ),
        (
          (refl, refl),
          λ q ne. refl,
          record { counted = λ on. refl; none = λ over same. refl },
          tt,
        ),
      )
      rest

-- A FLUSH

abbrev pub flushing : ℕ → List Deferral → Around → ℕ → Stage → List Deferral → State
flushing pins held = collecting (Flush (Some 0)) FlushAction 1 pins held (0 ∷ [])

-- its Begin with no job held
abbrev pub by_flush : {last : State} (a : Around) (action : Action) (e pins : ℕ)
    → To last (flushing pins [] a e LoadScan []) → To last (guarded a action e pins [])
by_flush a action e pins rest =
    by (flushing pins [] a e LoadScan []) (Begin 0 (Flush (Some 0))) Began ((refl, refl), (refl, refl, refl, refl)) rest

-- and its end
abbrev pub by_flushed : {last : State} (a : Around) (e pins : ℕ) → To last (guarded a FlushAction e pins [])
    → To last (flushing pins [] a e End [])
by_flushed a e pins rest =
    by (guarded a FlushAction e pins []) (Go 0) (Done UnitAnswer)
    (inr (taken_pinned e, (refl, refl)), ((refl, refl), λ q ne. refl, tt, tt)) rest

-- the bag of the job, sealed with the epoch e
abbrev pub bag : ℕ → Bag
bag e = record { seal = e; jobs = job ∷ [] }

-- the put fills the place, and had room
pub place_filled : PutSees PutDone (occupancy (false ∷ []) 0) (occupancy (true ∷ []) 0)
place_filled = record {
  occupied = λ ne. absurd (ne refl);
  onward = λ ne. absurd (ne refl);
  again = λ same. absurd (cc (same));
  full = λ same. absurd (cc (same));
  places = refl;
}

-- its put will find the one place, and says so
pub room_told : (e pins : ℕ) → PutTellsRoom (machine FlushAction LoadScan 1 e pins [] []) true true
room_told e pins = record { kept = λ on. absurd (cc (on)); told = λ off. refl }

-- its Begin with the job held, and the put of its bag
abbrev pub by_put : {last : State} (action : Action) (e pins : ℕ)
    → To last (flushing pins [] (around e (bag e ∷ []) 1 true 0) e LoadScan [])
    → To last (guarded (around e [] 1 false 0) action e pins (job ∷ []))
by_put action e pins rest =
    by (flushing pins (job ∷ []) (around e [] 1 false 0) e LoadSeal []) (Begin 0 (Flush (Some 0))) Began
    ((refl, refl), (refl, refl, refl, refl))
    (by (flushing pins (job ∷ []) (around e [] 1 false 0) e (Put e) []) (Go 0) Stepped
    (inr (taken_pinned e, (refl, refl)), ((refl, refl), λ q ne. refl, tt, λ free. refl))
    (by (flushing pins [] (around e (bag e ∷ []) 1 true 0) e LoadScan []) (Go 0) Stepped (
      inr (
        taken_pinned e,
        (PutDone, bag e ∷ [], refl, record { front = []; back = []; without = refl; with = refl }, refl),
      ),
      (
        (PutDone, refl, place_filled),
        λ q ne. refl,
        tt,
        room_told e pins,
      ),
    )
    rest))

-- the collection takes the bag, and calls its job
abbrev pub by_got : {last : State} (e seal pins : ℕ) → seal + 2 ≤ e + 1
    → To last (flushing pins [] (around (e + 1) [] 1 true 0) e (Take (e + 1) 1) [])
    → To last (flushing pins [] (around (e + 1) (bag seal ∷ []) 1 true 1) e (Take (e + 1) 0) [])
by_got e seal pins expired rest =
    by (flushing pins [] (around (e + 1) [] 1 true 0) e (Calling (e + 1) 0) (job ∷ [])) (Go 0) Stepped (
      inr (
        taken_pinned e,
        (
          Got,
          job ∷ [],
          [],
          refl,
          (bag seal, refl, expired, record { front = []; back = []; without = refl; with = refl }),
          refl,
        ),
      ),
      (
        (refl, refl),
        λ q ne. refl,
        record { counted = λ on. refl; none = λ over same. absurd (omega (arith, same)) },
        tt,
      ),
    )
    (by (flushing pins [] (around (e + 1) [] 1 true 0) e (Take (e + 1) 1) []) (Go 0) (CalledReply 0 Ran)
    (inr (taken_pinned e, (job, [], refl, refl, refl)), ((refl, refl), λ q ne. refl, λ on. refl, tt))
    rest)
