-- What the put of a participant has found of the places, by its seat, between any two steps.
use Rattle.std.proofs.Common.{◌≡◌, ℕ, Bool, true, false, Some, None, refl, ap, sym, subst, ◌∙◌, if◌then◌else◌}
use Rattle.epoch_machine.specs.declared.machine.Action.{Action}
use Rattle.epoch_machine.specs.declared.machine.Action.TheVariants.{Pin as PinAction, Unpin as UnpinAction}
use Rattle.epoch_machine.specs.declared.machine.Action.TheVariants.{Repin as RepinAction, Defer as DeferAction}
use Rattle.epoch_machine.specs.declared.machine.Action.TheVariants.{Flush as FlushAction, Release as ReleaseAction}
use Rattle.epoch_machine.specs.declared.machine.Stage.{Stage}
use Rattle.epoch_machine.specs.declared.machine.Stage.TheVariants.{Idle as Resting, LoadPin, StorePin, ReloadPin}
use Rattle.epoch_machine.specs.declared.machine.Stage.TheVariants.{LoadScan, Scan, Advance, Take, Calling, LoadSeal}
use Rattle.epoch_machine.specs.declared.machine.Stage.TheVariants.{Put, StoreFree}
use Rattle.epoch_machine.specs.Machine.{Machine}
use Rattle.epoch_laws.specs.declared.heap.access.Access.{Access}
use Rattle.epoch_laws.specs.declared.heap.access.AccessAnswer.TheVariants.{Absent}
use Rattle.epoch_laws.specs.Heap.{null, has_steps}
use Rattle.epoch_laws.specs.declared.step.Call.{Call}
use Rattle.epoch_laws.specs.declared.step.Call.TheVariants.{Pin, Unpin, Repin, Pause, Resume, Defer, Flush, Release}
use Rattle.epoch_laws.specs.declared.step.Call.TheVariants.{DeferDestroy, Access as AccessCall}
use Rattle.epoch_laws.specs.declared.step.Deferral.{Deferral}
use Rattle.epoch_laws.specs.declared.step.Progress.{Progress}
use Rattle.epoch_laws.specs.declared.step.Progress.TheVariants.{Idle, Driven, CallsNow, Accesses, Ends}
use Rattle.epoch_laws.specs.declared.step.Reply.TheVariants.{Done}
use Rattle.epoch_laws.specs.declared.step.Word.{Word}
use Rattle.epoch_laws.specs.Run.{WorldSeat, with_word, drives, begun_seat, ended_seat}
use Rattle.epoch_laws.proofs.PutStages.{NoneFound, FoundSeen, FoundWhere, none_missed, puts_bag, NoneYet, FoundAt}
use Rattle.epoch_laws.proofs.PutStages.{found_first}

-- a call that its machine drives may have found places, and another one none
abbrev pub FoundIn : (found : ℕ → Type 0) (count : ℕ) → Bool → Progress → Type 0
FoundIn found count full Idle = Unit {0}
FoundIn found count full (Driven c) = FoundWhere found count full
FoundIn found count full _ = NoneFound found

-- an action with no put doesn't find the bags full
abbrev pub FullByPut : Machine Deferral → Type 0
FullByPut m = puts_bag m.action ≡ false → m.full ≡ false

-- what is known of the places that a put has found: by the seat's stage, by its call, and by its action
pub record PutFinds (found : ℕ → Type 0) (count seen : ℕ) (seat : WorldSeat) : Type 0 where
  pub by_stage : FoundAt found count seen seat.machine.action seat.machine.full seat.machine.stage
  pub by_progress : FoundIn found count seat.machine.full seat.progress
  pub by_action : FullByPut seat.machine

-- THE SAME PLACES ARE FOUND

pub record SameFound (was found : ℕ → Type 0) : Type 0 where
  pub more : (k : ℕ) → was k → found k
  pub back : (k : ℕ) → found k → was k

-- where nothing is added, the same places are found
pub as_before : (found : ℕ → Type 0) → SameFound found found
as_before found = record { more = λ k at. at; back = λ k at. at }

module _ (was found : ℕ → Type 0) (same : SameFound was found) where
  -- where the same places are found, and none was, none is
  pub none_still : NoneFound was → NoneFound found
  none_still none k at = none k (same.back k at)

  yet_still : (a : Action) → NoneYet was a → NoneYet found a
  yet_still ReleaseAction none = none_still none
  yet_still _ none = tt

  where_still : (count : ℕ) (full : Bool) → FoundWhere was count full → FoundWhere found count full
  where_still count true each = λ k lt. same.more k (each k lt)
  where_still count false missed = λ some each. missed some (λ k lt. same.back k (each k lt))

  seen_still : (count seen : ℕ) → FoundSeen was count seen → FoundSeen found count seen
  seen_still count seen at = record {
    so_far = λ k lt. same.more k (at.so_far k lt);
    only = λ k is. at.only k (same.back k is);
    short = at.short;
  }

  at_still : (count seen : ℕ) (a : Action) (full : Bool) (s : Stage) → FoundAt was count seen a full s
      → FoundAt found count seen a full s
  at_still count seen a full LoadPin at = yet_still a at
  at_still count seen a full (StorePin e) at = yet_still a at
  at_still count seen a full ReloadPin at = yet_still a at
  at_still count seen a full LoadScan at = yet_still a at
  at_still count seen a full (Scan e k) at = yet_still a at
  at_still count seen a full (Advance e) at = yet_still a at
  at_still count seen a full (Take x k) at = yet_still a at
  at_still count seen a full (Calling x k) at = yet_still a at
  at_still count seen a full LoadSeal (puts, none) = (puts, none_still none)
  at_still count seen a full (Put s) (puts, at) = (puts, seen_still count seen at)
  at_still count seen a full StoreFree at = at
  at_still count seen a full _ at = tt

  in_still : (count : ℕ) (full : Bool) (progress : Progress) → FoundIn was count full progress
      → FoundIn found count full progress
  in_still count full Idle at = tt
  in_still count full (Driven c) at = where_still count full at
  in_still count full (CallsNow removes) at = none_still at
  in_still count full (Accesses a k last) at = none_still at
  in_still count full (Ends r) at = none_still at

  -- what is known of the places that a put has found stays known where the same ones are found
  pub finds_still : (count seen : ℕ) (seat : WorldSeat) → PutFinds was count seen seat → PutFinds found count seen seat
  finds_still count seen seat h = record {
    by_stage = at_still count seen seat.machine.action seat.machine.full seat.machine.stage h.by_stage;
    by_progress = in_still count seat.machine.full seat.progress h.by_progress;
    by_action = h.by_action;
  }

-- ONE SEAT

module _ (found : ℕ → Type 0) (count seen : ℕ) where
  -- at rest nothing has to be found
  pub rest_finds : (seat : WorldSeat)
      → seat.machine.stage ≡ Resting → FoundIn found count seat.machine.full seat.progress
      → FullByPut seat.machine → PutFinds found count seen seat
  rest_finds seat rests at by_action = record {
    by_stage = subst (FoundAt found count seen seat.machine.action seat.machine.full) (sym rests) tt;
    by_progress = at;
    by_action = by_action;
  }

  driven_finds : (a : Action) (c : Call) (seat : WorldSeat)
      → NoneFound found → PutFinds found count seen (drives a c seat)
  driven_finds a c seat none = record {
    by_stage = found_first found count seen a seat.machine none;
    by_progress = none_missed found count none;
    by_action = λ plain. refl;
  }

  access_finds : (a : Access) (b : Bool) (seat : WorldSeat) → seat.machine.stage ≡ Resting → FullByPut seat.machine
      → NoneFound found
      → PutFinds found count seen (record seat { progress = if b then Accesses a 0 null else Ends (Done Absent) })
  access_finds a true seat rests by_action none = rest_finds _ rests none by_action
  access_finds a false seat rests by_action none = rest_finds _ rests none by_action

  -- what is known of a put's places holds when a call begins at a seat at rest, with no place found yet
  pub begun_finds : (c : Call) (seat : WorldSeat) → seat.machine.stage ≡ Resting
      → FullByPut seat.machine → NoneFound found → PutFinds found count seen (begun_seat c seat)
  begun_finds Pin seat rests by_action none = driven_finds PinAction Pin seat none
  begun_finds (Unpin g) seat rests by_action none = driven_finds UnpinAction (Unpin g) seat none
  begun_finds (Repin (Some g)) seat rests by_action none = driven_finds RepinAction (Repin (Some g)) seat none
  begun_finds (Pause (Some g)) seat rests by_action none = driven_finds UnpinAction (Pause (Some g)) seat none
  begun_finds (Resume (Some g)) seat rests by_action none = driven_finds PinAction (Resume (Some g)) seat none
  begun_finds (Defer (Some g)) seat rests by_action none = driven_finds DeferAction (Defer (Some g)) seat none
  begun_finds (Flush (Some g)) seat rests by_action none = driven_finds FlushAction (Flush (Some g)) seat none
  begun_finds Release seat rests by_action none = driven_finds ReleaseAction Release seat none
  begun_finds (Defer None) seat rests by_action none = rest_finds _ rests none by_action
  begun_finds (DeferDestroy (Some g) ptr) seat rests by_action none =
      driven_finds DeferAction (DeferDestroy (Some g) ptr) seat none
  begun_finds (DeferDestroy None ptr) seat rests by_action none = rest_finds _ rests none by_action
  begun_finds (AccessCall a) seat rests by_action none = access_finds a (has_steps a) seat rests by_action none
  begun_finds _ seat rests by_action none = rest_finds _ rests none by_action

  -- what is known of a put's places holds when a call has just ended
  pub ended_finds : (c : Call) (seat : WorldSeat) → FullByPut seat.machine
      → PutFinds found count seen (ended_seat c seat)
  ended_finds Pin seat by_action = rest_finds _ refl tt by_action
  ended_finds (Unpin (Some g)) seat by_action = rest_finds _ refl tt by_action
  ended_finds (Pause (Some g)) seat by_action = rest_finds _ refl tt by_action
  ended_finds (Resume (Some g)) seat by_action = rest_finds _ refl tt by_action
  ended_finds _ seat by_action = rest_finds _ refl tt by_action

  -- its machine goes on to n, with no step of a put
  pub on_finds : (before : ℕ) (seat : WorldSeat) (w : Word) (n : Machine Deferral) → PutFinds found count before seat
      → n.action ≡ seat.machine.action → n.full ≡ seat.machine.full → FoundAt found count seen n.action n.full n.stage
      → PutFinds found count seen (with_word seat w n)
  on_finds before seat w n h action full at = record {
    by_stage = at;
    by_progress = subst (λ (b : Bool). FoundIn found count b seat.progress) (sym full) h.by_progress;
    by_action = λ plain. full ∙ h.by_action (sym (ap puts_bag action) ∙ plain);
  }
