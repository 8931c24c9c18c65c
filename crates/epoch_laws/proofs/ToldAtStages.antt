-- What a call has told at each stage of its machine, and at the stage after it.
use Rattle.std.proofs.Common.{◌≡◌, ℕ, ◌==◌, Bool, true, false, not, List, [], ◌∷◌, Some, None, refl, ap, sym, subst}
use Rattle.std.proofs.Common.{◌∙◌, if◌then◌else◌}
use Rattle.epoch_machine.specs.declared.machine.Action.{Action}
use Rattle.epoch_machine.specs.declared.machine.Stage.{Stage}
use Rattle.epoch_machine.specs.declared.machine.Stage.TheVariants.{Idle, LoadPin, StorePin, ReloadPin, LoadScan, Scan}
use Rattle.epoch_machine.specs.declared.machine.Stage.TheVariants.{Advance, Take, Calling, LoadSeal, Put, Keep}
use Rattle.epoch_machine.specs.declared.machine.Stage.TheVariants.{LoadRepin, StoreRepin, ReloadRepin, StoreUnpinned}
use Rattle.epoch_machine.specs.declared.machine.Stage.TheVariants.{StoreFree, End}
use Rattle.epoch_machine.specs.Machine.{Machine, after_collect, after_pin, after_put, after_unpin, after_job, past_word}
use Rattle.epoch_machine.proofs.StagesAfter.{either_way, after_pin_at, past_word_at, after_job_at}
use Rattle.epoch_laws.specs.declared.step.Call.{Call}
use Rattle.epoch_laws.specs.declared.step.Call.TheVariants.{Pin, Unpin, Repin, Pause, Resume, Defer, Flush, Release}
use Rattle.epoch_laws.specs.declared.step.Call.TheVariants.{DeferDestroy}
use Rattle.epoch_laws.specs.declared.step.Reply.TheVariants.{Unpinned, Deferred}
use Rattle.epoch_laws.specs.declared.step.Deferral.{Deferral}
use Rattle.epoch_laws.specs.Run.{is_out, without}
use Rattle.epoch_laws.specs.Lawful.{Told, after_go, MayPin, MayUnpin, MayRepin, MayDefer, MayCall, HasTold}
use Rattle.epoch_laws.proofs.SeatLinks.{action_of, BeganUnder}
use Rattle.epoch_laws.proofs.GuardLists.{has_any, none_left, some_out, none_without}

-- WHAT HAS BEEN TOLD

-- the calls that collect
abbrev pub Collecting : Told → Call → Type 0
Collecting t Pin = t.did_pin ≡ true
Collecting t (Resume g) = t.did_pin ≡ true
Collecting t (Flush g) = Unit {0}
Collecting t Release = (t.did_pin ≡ true) × (t.did_unpin ≡ false)
Collecting t _ = ⊥

-- the calls that put the held bag into the store
abbrev pub Putting : Told → Call → Type 0
Putting t (Defer g) = t.did_defer ≡ false
Putting t (DeferDestroy g ptr) = t.did_defer ≡ false
Putting t (Flush g) = Unit {0}
Putting t Release = (t.did_pin ≡ true) × (t.did_unpin ≡ false)
Putting t _ = ⊥

-- nothing is left to ask; full says that the put found no place
abbrev pub AtEnd : Told → Call → Bool → Type 0
AtEnd t (Defer g) full = t.did_defer ≡ not full
AtEnd t (DeferDestroy g ptr) full = t.did_defer ≡ not full
AtEnd t (Flush g) full = Unit {0}
AtEnd t Release full = (full ≡ true) × (t.did_pin ≡ true) × (t.did_unpin ≡ true)
AtEnd t c full = HasTold (Some c) t

abbrev pub HasToldAt : Told → Call → Bool → Stage → Type 0
HasToldAt t c full Idle = ⊥
HasToldAt t c full LoadPin = MayPin (Some c) t.guards × (t.did_pin ≡ false) × (t.did_unpin ≡ false)
HasToldAt t c full (StorePin e) = MayPin (Some c) t.guards × (t.did_pin ≡ false) × (t.did_unpin ≡ false)
HasToldAt t c full ReloadPin = MayPin (Some c) t.guards × (t.did_pin ≡ true) × (t.did_unpin ≡ false)
HasToldAt t c full LoadScan = Collecting t c
HasToldAt t c full (Scan e k) = Collecting t c
HasToldAt t c full (Advance e) = Collecting t c
HasToldAt t c full (Take x k) = Collecting t c
HasToldAt t c full (Calling x k) = Collecting t c
HasToldAt t c full LoadSeal = Putting t c
HasToldAt t c full (Put s) = Putting t c
HasToldAt t c full Keep = MayDefer (Some c) × (t.did_defer ≡ false) × (full ≡ false)
HasToldAt t c full LoadRepin = MayRepin (Some c) t.guards × (t.did_repin ≡ false)
HasToldAt t c full (StoreRepin e) = MayRepin (Some c) t.guards × (t.did_repin ≡ false)
HasToldAt t c full ReloadRepin = MayRepin (Some c) t.guards
HasToldAt t c full StoreUnpinned = MayUnpin (Some c) t.guards t.did_pin × (t.did_unpin ≡ false)
HasToldAt t c full StoreFree = (c ≡ Release) × (t.did_pin ≡ true) × (t.did_unpin ≡ true)
HasToldAt t c full End = AtEnd t c full

-- some guard is counted from the end of the call
abbrev pub leaves_some : Call → List ℕ → Bool
leaves_some Pin guards = true
leaves_some (Resume g) guards = true
leaves_some (Unpin (Some g)) guards = has_any (without g guards)
leaves_some (Pause (Some g)) guards = has_any (without g guards)
leaves_some c guards = has_any guards

-- the participant is pinned at this stage
abbrev pub pinned_at : Call → List ℕ → Stage → Bool
pinned_at c guards LoadPin = false
pinned_at c guards (StorePin e) = false
pinned_at c guards StoreFree = false
pinned_at c guards End = leaves_some c guards
pinned_at c guards _ = true

abbrev pub ToldAt : Told → Call → Bool → Stage → Type 0
ToldAt t c full s = HasToldAt t c full s × (t.pinned ≡ pinned_at c t.guards s)

-- THE STAGES AFTER A PART OF A CALL

-- a call under a guard that is out leaves some guard, where it takes none away
still_some : (b : Bool) (g : ℕ) (guards : List ℕ) → b ≡ true → is_out g guards ≡ true → b ≡ has_any guards
still_some b g guards on out = on ∙ sym (ap not (some_out g guards out))

-- when a call's collection is over, what it has told is right for the stage that follows
pub told_collected : (t : Told) (c : Call) (full : Bool) (held : List Deferral) → BeganUnder c t.guards
    → Collecting t c → t.pinned ≡ true → ToldAt t c full (after_collect (action_of c) held)
told_collected t Pin full held under h on = (λ none. h, on)
told_collected t (Resume (Some g)) full held under h on = (λ none. h, on)
told_collected t (Resume None) full held under h on = absurd under
told_collected t (Flush (Some g)) full held under h on = (tt, still_some t.pinned g t.guards on under)
told_collected t (Flush None) full held under h on = absurd under
told_collected t Release full [] under h on = (h, on)
told_collected t Release full (job ∷ jobs) under h on = (h, on)
told_collected t _ full held under h on = absurd h

-- whoever has pinned in its call goes on to collect
pinned_collects : (t : Told) (c : Call) → BeganUnder c t.guards
    → MayPin (Some c) t.guards × (t.did_pin ≡ true) × (t.did_unpin ≡ false) → Collecting t c
pinned_collects t Pin under h = h.1
pinned_collects t (Resume (Some g)) under h = h.1
pinned_collects t (Resume None) under h = absurd under
pinned_collects t Release under h = (h.1, h.2)
pinned_collects t _ under h = absurd h.0

-- when a call's put is over, what it has told is right for the stage that follows
pub told_put : (t : Told) (c : Call) (full : Bool) → BeganUnder c t.guards
    → Putting t c → t.pinned ≡ true → ToldAt t c full (after_put (action_of c) full)
told_put t (Defer (Some g)) false under h on = ((tt, h, refl), on)
told_put t (Defer (Some g)) true under h on = (h, still_some t.pinned g t.guards on under)
told_put t (Defer None) full under h on = absurd under
told_put t (DeferDestroy (Some g) ptr) false under h on = ((tt, h, refl), on)
told_put t (DeferDestroy (Some g) ptr) true under h on = (h, still_some t.pinned g t.guards on under)
told_put t (DeferDestroy None ptr) full under h on = absurd under
told_put t (Flush g) full under h on = (tt, on)
told_put t Release full under h on = (h, on)
told_put t _ full under h on = absurd h

-- with its unpin told, what a call has told is right for the stage that follows
pub told_unpinned : (t : Told) (p : ℕ) (c : Call) (full : Bool) → BeganUnder c t.guards
    → MayUnpin (Some c) t.guards t.did_pin → ToldAt (after_go t (Unpinned p)) c full (after_unpin (action_of c) full)
told_unpinned t p (Unpin (Some g)) full under h = (λ one. refl, sym (ap not (none_without g t.guards h)))
told_unpinned t p (Pause (Some g)) full under h = (λ one. refl, sym (ap not (none_without g t.guards h)))
told_unpinned t p Release false under h = ((refl, h, refl), refl)
told_unpinned t p Release true under h = ((refl, h, refl), sym (ap not (none_left t.guards under)))
told_unpinned t p _ full under h = absurd h

-- when a repin is over, what it has told is right for its end
pub told_repinned : (t : Told) (c : Call) (full : Bool) → BeganUnder c t.guards
    → MayRepin (Some c) t.guards → t.pinned ≡ true → ToldAt t c full End
told_repinned t (Repin (Some g)) full under h on = (tt, still_some t.pinned g t.guards on under)
told_repinned t _ full under h on = absurd h

-- with its ticket told, what a deferral has told is right for its end
pub told_kept : (t : Told) (c : Call) (full : Bool) (ticket : ℕ) → BeganUnder c t.guards
    → MayDefer (Some c) → full ≡ false → t.pinned ≡ true → ToldAt (after_go t (Deferred ticket)) c full End
told_kept t (Defer (Some g)) full ticket under h none on = (sym (ap not none), still_some t.pinned g t.guards on under)
told_kept t (DeferDestroy (Some g) ptr) full ticket under h none on =
    (sym (ap not none), still_some t.pinned g t.guards on under)
told_kept t (DeferDestroy None ptr) full ticket under h none on = absurd under
told_kept t _ full ticket under h none on = absurd h

-- a call that collects may call jobs
pub may_call : (t : Told) (c : Call) → BeganUnder c t.guards → Collecting t c → MayCall (Some c)
may_call t Pin under h = tt
may_call t (Resume (Some g)) under h = tt
may_call t (Resume None) under h = absurd under
may_call t (Flush (Some g)) under h = tt
may_call t (Flush None) under h = absurd under
may_call t Release under h = tt
may_call t _ under h = absurd h

-- THE SAME OF A MACHINE THAT DRIVES THE CALL

module _ (t : Told) (c : Call) (m : Machine Deferral)
    (drives : m.action ≡ action_of c) (under : BeganUnder c t.guards) where
  pub machine_collected : Collecting t c → t.pinned ≡ true → ToldAt t c m.full (after_collect m.action m.held)
  machine_collected h on = subst (λ (a : Action). ToldAt t c m.full (after_collect a m.held)) (sym drives)
      (told_collected t c m.full m.held under h on)

  pub machine_pinned : ToldAt t c m.full ReloadPin → ToldAt t c m.full (after_pin m)
  machine_pinned (told, on) =
      let collects : Collecting t c = pinned_collects t c under told in
      after_pin_at (ToldAt t c m.full) m (collects, on) (machine_collected collects on)

  pub machine_scanned : (e k w : ℕ) → Collecting t c → t.pinned ≡ true
      → ToldAt t c m.full (past_word m.sizes.positions e k w)
  machine_scanned e k w h on = past_word_at (ToldAt t c m.full) m.sizes.positions e k w (h, on) (h, on) (h, on)

  pub machine_called : (x k : ℕ) (jobs : List Deferral) → Collecting t c → t.pinned ≡ true
      → ToldAt t c m.full (after_job m x k jobs)
  machine_called x k jobs h on = after_job_at (ToldAt t c m.full) m x k jobs (h, on) (h, on) (machine_collected h on)

  pub machine_put : (full : Bool) → Putting t c → t.pinned ≡ true → ToldAt t c full (after_put m.action full)
  machine_put full h on = subst (λ (a : Action). ToldAt t c full (after_put a full)) (sym drives)
      (told_put t c full under h on)

  pub machine_unpinned : (p : ℕ) → MayUnpin (Some c) t.guards t.did_pin
      → ToldAt (after_go t (Unpinned p)) c m.full (after_unpin m.action m.full)
  machine_unpinned p h = subst (λ (a : Action). ToldAt (after_go t (Unpinned p)) c m.full (after_unpin a m.full))
      (sym drives) (told_unpinned t p c m.full under h)

  pub machine_reloaded : (e : ℕ) → ToldAt t c m.full LoadRepin
      → ToldAt t c m.full (if m.published == e then End else StoreRepin e)
  machine_reloaded e (told, on) = either_way (ToldAt t c m.full) (m.published == e) End (StoreRepin e)
      (told_repinned t c m.full under told.0 on) (told, on)
