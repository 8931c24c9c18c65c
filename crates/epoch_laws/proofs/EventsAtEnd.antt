-- What a call's last reply tells, and that it agrees with the seat after it.
use Rattle.std.proofs.Common.{◌≡◌, ◌≢◌, ℕ, Bool, true, false, not, List, [], ◌∷◌, ◌++◌, Option, Some, None, refl, ap}
use Rattle.std.proofs.Common.{sym, subst, ◌∙◌}
use Rattle.epoch_cells.specs.declared.fault.Fault.TheVariants.{BagsFull}
use Rattle.epoch_machine.specs.declared.machine.Stage.TheVariants.{End}
use Rattle.epoch_laws.specs.declared.step.Call.{Call}
use Rattle.epoch_laws.specs.declared.step.Call.TheVariants.{Pin, Unpin, Repin, Pause, Resume, Defer, Flush, Release}
use Rattle.epoch_laws.specs.declared.step.Call.TheVariants.{DeferDestroy, Access as AccessCall}
use Rattle.epoch_laws.specs.declared.heap.access.AccessAnswer.{AccessAnswer}
use Rattle.epoch_laws.specs.declared.heap.access.AccessAnswer.TheVariants.{Guard, Unit as UnitAnswer}
use Rattle.epoch_laws.specs.declared.step.Reply.{Reply}
use Rattle.epoch_laws.specs.declared.step.Reply.TheVariants.{Done, Refused}
use Rattle.epoch_laws.specs.declared.step.Word.TheVariants.{Free}
use Rattle.epoch_laws.specs.Run.{WorldSeat, without, lowest, full_or_done, end_reply, with_guards, ended_seat}
use Rattle.epoch_laws.specs.Lawful.{Told, counted_after, paused_after, registered_after, after_done, after_go, HasTold}
use Rattle.epoch_laws.specs.Lawful.{AnswerFits, HasToldRefused, MayTell}
use Rattle.epoch_laws.proofs.SeatLinks.{BeganUnder}
use Rattle.epoch_laws.proofs.GuardLists.{has_any, some_with}
use Rattle.epoch_laws.proofs.ToldAtStages.{AtEnd, ToldAt}
use Rattle.epoch_laws.proofs.EventsAgree.{PinnedByGuards, Agrees}

-- the reply may stand, and what it tells agrees with the seat after it
abbrev pub Tells : ℕ → Told → Reply → WorldSeat → Type 0
Tells p t reply after = MayTell p t reply × Agrees (after_go t reply) after

-- the calls that a store without a place refuses, and that are done else
abbrev may_be_full : Call → Bool
may_be_full (Defer g) = true
may_be_full (Flush g) = true
may_be_full (DeferDestroy g ptr) = true
may_be_full _ = false

-- what a call has told when it is refused, or done
abbrev HasToldBy : Told → Call → Bool → Type 0
HasToldBy t c true = HasToldRefused (Some c) t
HasToldBy t c false = HasTold (Some c) t × AnswerFits (Some c) UnitAnswer

told_by : (t : Told) (c : Call) (full : Bool) → BeganUnder c t.guards → may_be_full c ≡ true → AtEnd t c full
    → HasToldBy t c full
told_by t (Defer (Some g)) true under may told = told
told_by t (Defer (Some g)) false under may told = (told, tt)
told_by t (Defer None) full under may told = absurd under
told_by t (Flush (Some g)) true under may told = tt
told_by t (Flush (Some g)) false under may told = (tt, tt)
told_by t (Flush None) full under may told = absurd under
told_by t (DeferDestroy (Some g) ptr) true under may told = told
told_by t (DeferDestroy (Some g) ptr) false under may told = (told, tt)
told_by t (DeferDestroy None ptr) full under may told = absurd under
told_by t _ full under may told = absurd (cc)

module _ (t : Told) (seat : WorldSeat) (p : ℕ) (taken : seat.word ≢ Free) (h : Agrees t seat) where
  -- the call is done, and leaves these guards
  done : (c : Call) (answer : AccessAnswer) (left : List ℕ) (paused : Option ℕ) → t.call ≡ Some c → HasTold (Some c) t
      → AnswerFits (Some c) answer → counted_after (Some c) answer t.guards ≡ left
      → paused_after (Some c) t.paused ≡ paused → registered_after (Some c) t.registered ≡ true
      → t.pinned ≡ has_any left → Tells p t (Done answer) (with_guards seat left paused)
  done c answer left paused call told fits counted waiting here on = (
    (
      subst (λ (under_way : Option Call). HasTold under_way t) (sym call) told,
      subst (λ (under_way : Option Call). AnswerFits under_way answer) (sym call) fits,
    ),
    subst (λ (under_way : Option Call). Agrees (after_done under_way answer t) (with_guards seat left paused))
        (sym call) (record {
          guards = counted;
          paused = waiting;
          told = (refl, on ∙ sym (ap has_any counted));
          here = λ word. here;
          away = λ free. absurd (taken free);
        }),
  )

  -- the call is refused, and leaves the guards as they were
  refused : (c : Call) → t.call ≡ Some c → HasToldRefused (Some c) t → PinnedByGuards t
      → Tells p t (Refused BagsFull) (with_guards seat seat.guards seat.paused)
  refused c call told on = (
    subst (λ (under_way : Option Call). HasToldRefused under_way t) (sym call) told,
    record {
      guards = h.guards;
      paused = h.paused;
      told = (refl, on);
      here = h.here;
      away = λ free. absurd (taken free);
    },
  )

  -- the call is refused or done, and the guards stay as they were
  full_or_not : (c : Call) (full : Bool) → t.call ≡ Some c → HasToldBy t c full
      → counted_after (Some c) UnitAnswer t.guards ≡ t.guards → paused_after (Some c) t.paused ≡ t.paused
      → registered_after (Some c) t.registered ≡ t.registered → PinnedByGuards t
      → Tells p t (full_or_done full) (with_guards seat seat.guards seat.paused)
  full_or_not c true call told counted waiting here on = refused c call told on
  full_or_not c false call told counted waiting here on =
      done c UnitAnswer seat.guards seat.paused call told.0 told.1 (counted ∙ h.guards) (waiting ∙ h.paused)
      (here ∙ h.here taken) (on ∙ ap has_any h.guards)

  refusable : (c : Call) → t.call ≡ Some c → BeganUnder c t.guards → may_be_full c ≡ true → AtEnd t c seat.machine.full
      → counted_after (Some c) UnitAnswer t.guards ≡ t.guards → paused_after (Some c) t.paused ≡ t.paused
      → registered_after (Some c) t.registered ≡ t.registered → PinnedByGuards t
      → Tells p t (full_or_done seat.machine.full) (with_guards seat seat.guards seat.paused)
  refusable c call under may told = full_or_not c seat.machine.full call (told_by t c seat.machine.full under may told)

  with_one : (g : ℕ) → t.pinned ≡ true → t.pinned ≡ has_any (seat.guards ++ g ∷ [])
  with_one g on = on ∙ sym (ap not (some_with seat.guards g))

  without_one : (g : ℕ) → t.pinned ≡ has_any (without g t.guards) → t.pinned ≡ has_any (without g seat.guards)
  without_one g on = on ∙ ap (λ (guards : List ℕ). has_any (without g guards)) h.guards

  -- a driven call ends
  pub end_agrees : (c : Call) → t.call ≡ Some c → BeganUnder c t.guards → ToldAt t c seat.machine.full End
      → Tells p t (end_reply c seat) (ended_seat c seat)
  end_agrees Pin call under (told, on) =
      let g : ℕ = lowest seat.guards in
      done Pin (Guard g) _ seat.paused call told tt (ap (λ (guards : List ℕ). guards ++ g ∷ []) h.guards)
      h.paused (h.here taken) (with_one g on)
  end_agrees (Resume (Some g)) call under (told, on) = done (Resume (Some g)) UnitAnswer _ None call told tt
      (ap (λ (guards : List ℕ). guards ++ g ∷ []) h.guards) refl (h.here taken) (with_one g on)
  end_agrees (Resume None) call under at = absurd under
  end_agrees (Unpin (Some g)) call under (told, on) =
      done (Unpin (Some g)) UnitAnswer _ seat.paused call told tt (ap (without g) h.guards) h.paused (h.here taken)
      (without_one g on)
  end_agrees (Unpin None) call under at = absurd under
  end_agrees (Pause (Some g)) call under (told, on) =
      done (Pause (Some g)) UnitAnswer _ (Some g) call told tt (ap (without g) h.guards) refl (h.here taken)
      (without_one g on)
  end_agrees (Pause None) call under at = absurd under
  end_agrees (Repin (Some g)) call under (told, on) = full_or_not (Repin (Some g)) false call (tt, tt) refl refl refl on
  end_agrees (Repin None) call under at = absurd under
  end_agrees (Defer g) call under (told, on) = refusable (Defer g) call under refl told refl refl refl on
  end_agrees (Flush g) call under (told, on) = refusable (Flush g) call under refl told refl refl refl on
  end_agrees Release call under (told, on) =
      subst (λ (full : Bool). Tells p t (full_or_done full) (with_guards seat seat.guards seat.paused)) (sym told.0)
      (refused Release call (told.1, told.2) on)
  end_agrees (DeferDestroy g ptr) call under (told, on) =
      refusable (DeferDestroy g ptr) call under refl told refl refl refl on
  end_agrees (AccessCall a) call under at = absurd under
