-- What holds of each seat between any two steps.
use Rattle.std.proofs.Common.{◌≡◌, ℕ, ◌+◌, ◌<◌, ◌≤◌, ◌==◌, Bool, true, false, not, List, ◌⊎◌, inl, inr, refl, sym, ◌∙◌}
use Rattle.std.proofs.Common.{arith}
use Rattle.epoch_machine.specs.declared.machine.Action.{Action}
use Rattle.epoch_machine.specs.declared.machine.Action.TheVariants.{Release}
use Rattle.epoch_machine.specs.declared.machine.Stage.{Stage}
use Rattle.epoch_machine.specs.declared.machine.Stage.TheVariants.{Idle, LoadPin, StorePin, Scan, Advance, Take}
use Rattle.epoch_machine.specs.declared.machine.Stage.TheVariants.{Calling, Put, Keep, LoadRepin, StoreRepin}
use Rattle.epoch_machine.specs.declared.machine.Stage.TheVariants.{ReloadRepin, StoreUnpinned, StoreFree, End}
use Rattle.epoch_machine.specs.Machine.{Machine, guards_after}
use Rattle.epoch_laws.specs.declared.step.Deferral.{Deferral}
use Rattle.epoch_laws.specs.declared.step.Word.{Word}
use Rattle.epoch_laws.specs.declared.step.Word.TheVariants.{Pinned}
use Rattle.epoch_laws.specs.Run.{WorldSeat}
use Rattle.epoch_laws.proofs.DeferralEpochs.{DeferredBy, deferred_more}

-- what the seats are held against: the epoch, the tickets given, the words, and two values that no code keeps:
-- the epoch when each participant last published, and when each ticket was deferred
pub record View : Type 0 where
  pub epoch : ℕ
  pub tickets : ℕ
  pub word : ℕ → Word
  pub since : ℕ → ℕ
  pub when : ℕ → ℕ

abbrev pub is_pinned : Word → Bool
is_pinned (Pinned n) = true
is_pinned _ = false

abbrev pub is_release : Action → Bool
is_release Release = true
is_release _ = false

-- no guard is counted from the end of the action
abbrev pub ends_unguarded : Machine Deferral → Bool
ends_unguarded m = guards_after m.action m.guards == 0

-- whether the participant's word is pinned, by its machine alone
abbrev pub publishes_at : Machine Deferral → Stage → Bool
publishes_at m Idle = not (m.guards == 0)
publishes_at m LoadPin = false
publishes_at m (StorePin e) = false
publishes_at m StoreFree = false
publishes_at m End = not (ends_unguarded m)
publishes_at m _ = true

-- an action other than Release ends with a guard counted, if it isn't unpinning
abbrev pub AimsAt : Machine Deferral → Stage → Type 0
AimsAt m Idle = Unit {0}
AimsAt m StoreFree = Unit {0}
AimsAt m End = Unit {0}
AimsAt m StoreUnpinned = ends_unguarded m ≡ true
AimsAt m Keep = ends_unguarded m ≡ false
AimsAt m LoadRepin = ends_unguarded m ≡ false
AimsAt m (StoreRepin e) = ends_unguarded m ≡ false
AimsAt m ReloadRepin = ends_unguarded m ≡ false
AimsAt m _ = ends_unguarded m ≡ is_release m.action

-- a scan of this epoch by p has passed the positions of which passed holds
pub record HasScanned (v : View) (p scanned : ℕ) (passed : ℕ → Type 0) : Type 0 where
  pub own : v.since p ≤ scanned
  pub seen : scanned ≤ v.epoch
  pub others : (j : ℕ) → passed j → is_pinned (v.word j) ≡ true → scanned ≤ v.since j

-- the jobs in hand were deferred two epochs ago or before
pub record HandExpired (v : View) (hand : List Deferral) : Type 0 where
  pub bound : ℕ
  pub expired : bound + 2 ≤ v.epoch
  pub jobs : DeferredBy v.when v.tickets bound hand

-- what is known at each stage of the numbers that it keeps, and of the jobs held and in hand
abbrev pub KnowsAt : View → ℕ → List Deferral → List Deferral → Stage → Type 0
KnowsAt v p held hand (StorePin e) = e ≤ v.epoch
KnowsAt v p held hand (StoreRepin e) = e ≤ v.epoch
KnowsAt v p held hand (Scan e k) = HasScanned v p e (λ j. j < k)
KnowsAt v p held hand (Advance e) = HasScanned v p e (λ j. Unit {0})
KnowsAt v p held hand (Take x k) = x ≤ v.epoch
KnowsAt v p held hand (Calling x k) = (x ≤ v.epoch) × HandExpired v hand
KnowsAt v p held hand (Put s) = (s ≤ v.epoch) × DeferredBy v.when v.tickets s held
KnowsAt v p held hand _ = Unit {0}

-- the stage is a parameter of its own, so that a proof goes by its cases
pub record IsFine (v : View) (p : ℕ) (w : Word) (m : Machine Deferral) (s : Stage) : Type 0 where
  pub published : (n : ℕ) → w ≡ Pinned n → n ≤ v.since p  -- its word has at most the epoch when it published
  pub before : v.since p ≤ v.epoch
  pub recent : is_pinned w ≡ true → v.epoch ≤ v.since p + 1  -- while it is pinned the epoch advances once at most
  pub agrees : is_pinned w ≡ publishes_at m s  -- the word is pinned where the machine has it so
  pub aims : AimsAt m s  -- whether a guard is counted at the action's end
  pub held : DeferredBy v.when v.tickets v.epoch m.held  -- the jobs held were deferred by now
  pub knows : KnowsAt v p m.held m.hand s  -- what the stage knows of its numbers, and of the jobs held and in hand

abbrev pub SeatIsFine : View → ℕ → WorldSeat → Type 0
SeatIsFine v p seat = IsFine v p seat.word seat.machine seat.machine.stage

-- who is pinned after a step was so before it, or has published by it
abbrev pub WasPinned : View → View → ℕ → Type 0
WasPinned v w j = is_pinned (w.word j) ≡ true
    → ((is_pinned (v.word j) ≡ true) × (w.since j ≡ v.since j)) ⊎ (v.epoch ≤ w.since j)

-- how a step of somebody changes what seats are held against
pub record Passes (v w : View) : Type 0 where
  pub epoch : v.epoch ≤ w.epoch
  pub tickets : v.tickets ≤ w.tickets
  pub when : (t : ℕ) → t < v.tickets → w.when t ≡ v.when t
  pub pinned : (j : ℕ) → WasPinned v w j

-- a step that leaves the view as it was passes
pub passes_same : (v : View) → Passes v v
passes_same v = record {
  epoch = omega arith;
  tickets = omega arith;
  when = λ t lt. refl;
  pinned = λ j pinned. inl (pinned, refl);
}

has_scanned_more : (v w : View) (p e : ℕ) (P : ℕ → Type 0) → Passes v w → w.since p ≡ v.since p
    → HasScanned v p e P → HasScanned w p e P
has_scanned_more v w p e P pass same h = record {
  own = omega arith;
  seen = omega arith;
  others = λ j passed pinned. elim (pass.pinned j pinned) [
    | inl was ↦ omega (arith, h.others j passed was.0)
    | inr new ↦ omega arith
  ];
}

jobs_more : (v w : View) (bound bound' : ℕ) (jobs : List Deferral) → Passes v w → bound ≤ bound'
    → DeferredBy v.when v.tickets bound jobs → DeferredBy w.when w.tickets bound' jobs
jobs_more v w bound bound' jobs pass later h =
    deferred_more v.when w.when v.tickets w.tickets bound bound' jobs pass.tickets later pass.when h

knows_more : (v w : View) (p : ℕ) (held hand : List Deferral) (s : Stage) → Passes v w → w.since p ≡ v.since p
    → KnowsAt v p held hand s → KnowsAt w p held hand s
knows_more v w p held hand (StorePin e) pass same h = omega arith
knows_more v w p held hand (StoreRepin e) pass same h = omega arith
knows_more v w p held hand (Scan e k) pass same h = has_scanned_more v w p e _ pass same h
knows_more v w p held hand (Advance e) pass same h = has_scanned_more v w p e _ pass same h
knows_more v w p held hand (Take x k) pass same h = omega arith
knows_more v w p held hand (Calling x k) pass same h = (
  omega arith,
  record {
    bound = h.1.bound;
    expired = omega arith;
    jobs = jobs_more v w h.1.bound h.1.bound hand pass (omega arith) h.1.jobs;
  },
)
knows_more v w p held hand (Put s) pass same h = (omega arith, jobs_more v w s s held pass (omega arith) h.1)
knows_more v w p held hand _ pass same h = tt

-- a seat that isn't touched stays fine
pub fine_more : (v w : View) (p : ℕ) (word : Word) (m : Machine Deferral) (s : Stage) → Passes v w
    → w.since p ≡ v.since p → (is_pinned word ≡ true → w.epoch ≤ v.since p + 1)
    → IsFine v p word m s → IsFine w p word m s
fine_more v w p word m s pass same near h = record {
  published = λ n e. omega (arith, h.published n e);
  before = omega arith;
  recent = λ e. omega (arith, near e);
  agrees = h.agrees;
  aims = h.aims;
  held = jobs_more v w v.epoch w.epoch m.held pass pass.epoch h.held;
  knows = knows_more v w p m.held m.hand s pass same h.knows;
}

-- a stage that a machine may go on to, its word being pinned or not
pub record IsNext (v : View) (p : ℕ) (pinned : Bool) (m : Machine Deferral) (t : Stage) : Type 0 where
  pub publishes : publishes_at m t ≡ pinned
  pub aims : AimsAt m t
  pub knows : KnowsAt v p m.held m.hand t

-- another machine under the same word
pub fine_next : (v : View) (p : ℕ) (word : Word) (m n : Machine Deferral) (s t : Stage) → IsFine v p word m s
    → IsNext v p (publishes_at m s) n t → DeferredBy v.when v.tickets v.epoch n.held → IsFine v p word n t
fine_next v p word m n s t h next held = record {
  published = h.published;
  before = h.before;
  recent = h.recent;
  agrees = h.agrees ∙ sym next.publishes;
  aims = next.aims;
  held = held;
  knows = next.knows;
}
