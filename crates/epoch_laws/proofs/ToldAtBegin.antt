-- At the first stage of a call nothing has been told yet.
use Rattle.std.proofs.Common.{◌≡◌, ◌≢◌, ℕ, ◌==◌, Bool, true, false, not, [], ◌∷◌, length, Some, None, refl, ap, sym}
use Rattle.std.proofs.Common.{◌∙◌, arith, if◌then◌else◌}
use Rattle.std.proofs.lemmas.Bool.Decides.{nat_tests}
use Rattle.epoch_machine.specs.declared.machine.Stage.{Stage}
use Rattle.epoch_machine.specs.declared.machine.Stage.TheVariants.{LoadPin, LoadScan, LoadSeal, Keep, LoadRepin}
use Rattle.epoch_machine.specs.declared.machine.Stage.TheVariants.{StoreUnpinned, End}
use Rattle.epoch_machine.specs.Machine.{Machine, is_empty, first_stage}
use Rattle.epoch_machine.proofs.StagesAfter.{either_way}
use Rattle.epoch_laws.specs.declared.step.Call.{Call}
use Rattle.epoch_laws.specs.declared.step.Call.TheVariants.{Pin, Unpin, Repin, Pause, Resume, Defer, Flush, Release}
use Rattle.epoch_laws.specs.declared.step.Call.TheVariants.{DeferDestroy, Access as AccessCall}
use Rattle.epoch_laws.specs.declared.step.Reply.TheVariants.{Began}
use Rattle.epoch_laws.specs.declared.step.Deferral.{Deferral}
use Rattle.epoch_laws.specs.Run.{is_out, without}
use Rattle.epoch_laws.specs.Lawful.{Told, after_begin}
use Rattle.epoch_laws.proofs.SeatLinks.{action_of, BeganUnder}
use Rattle.epoch_laws.proofs.GuardLists.{has_any, none_left, none_is, some_left, some_out, only_out, some_without}
use Rattle.epoch_laws.proofs.ToldAtStages.{ToldAt}

by_test : (P : Stage → Type 0) (b : Bool) (s t : Stage) → (b ≡ true → P s) → (b ≡ false → P t)
    → P (if b then s else t)
by_test P true s t one other = one refl
by_test P false s t one other = other refl

test_true : (n k : ℕ) → (n == k) ≡ true → n ≡ k
test_true n k e = grind (arith, nat_tests)

test_false : (n k : ℕ) → (n == k) ≡ false → n ≢ k
test_false n k e = grind (arith, nat_tests)

module _ (t : Told) (m : Machine Deferral)
    (counted : m.guards ≡ length t.guards) (rests : t.pinned ≡ has_any t.guards) where
  pinned_by : (b : Bool) → is_empty t.guards ≡ b → t.pinned ≡ not b
  pinned_by b e = rests ∙ ap not e

  out_pinned : (g : ℕ) → is_out g t.guards ≡ true → t.pinned ≡ true
  out_pinned g out = pinned_by false (some_out g t.guards out)

  -- no guard is counted, or some is
  by_none : (P : Stage → Type 0)
      → (t.guards ≡ [] → t.pinned ≡ false → P LoadPin)
      → (t.guards ≢ [] → t.pinned ≡ true → P End)
      → P (if m.guards == 0 then LoadPin else End)
  by_none P one other = by_test P (m.guards == 0) LoadPin End
      (λ e. at_none (none_is t.guards (sym counted ∙ test_true m.guards 0 e)))
      (λ e. at_some (some_left t.guards (λ zero. test_false m.guards 0 e (counted ∙ zero))))
    where
      at_none : t.guards ≡ [] → P LoadPin
      at_none none = one none (pinned_by true (ap is_empty none))

      at_some : is_empty t.guards ≡ false → P End
      at_some some = other (λ none. cc (some, ap is_empty none)) (pinned_by false some)

  -- this guard is the only one, or others are counted too
  by_only : (P : Stage → Type 0) (s : Stage) (g : ℕ) → is_out g t.guards ≡ true
      → (t.guards ≡ g ∷ [] → P s)
      → (t.guards ≢ g ∷ [] → t.pinned ≡ has_any (without g t.guards) → P End)
      → P (if m.guards == 1 then s else End)
  by_only P s g out one other = by_test P (m.guards == 1) s End
      (λ e. one (only_out g t.guards (sym counted ∙ test_true m.guards 1 e) out))
      (λ e. at_more (λ single. test_false m.guards 1 e (counted ∙ single)))
    where
      at_more : length t.guards ≢ 1 → P End
      at_more more = other (λ single. more (ap length single))
          (out_pinned g out ∙ sym (ap not (some_without g t.guards more out)))

  abbrev At : Call → Stage → Type 0
  At c s = ToldAt (after_begin t c Began) c false s

  pub told_first : (c : Call) → BeganUnder c t.guards
      → ToldAt (after_begin t c Began) c false (first_stage (action_of c) m)
  told_first Pin under = by_none (At Pin)
      (λ none off. ((none, refl, refl), off)) (λ some on. ((λ none. absurd (some none)), on))
  told_first (Resume (Some g)) under = by_none (At (Resume (Some g)))
      (λ none off. ((none, refl, refl), off)) (λ some on. ((λ none. absurd (some none)), on))
  told_first (Resume None) under = absurd under
  told_first (Unpin (Some g)) out = by_only (At (Unpin (Some g))) StoreUnpinned g out
      (λ only. ((only, refl), out_pinned g out)) (λ more on. ((λ only. absurd (more only)), on))
  told_first (Unpin None) under = absurd under
  told_first (Pause (Some g)) out = by_only (At (Pause (Some g))) StoreUnpinned g out
      (λ only. ((only, refl), out_pinned g out)) (λ more on. ((λ only. absurd (more only)), on))
  told_first (Pause None) under = absurd under
  told_first (Repin (Some g)) out = by_only (At (Repin (Some g))) LoadRepin g out
      (λ only. ((ap length only, refl), out_pinned g out)) (λ more on. (tt, rests))
  told_first (Repin None) under = absurd under
  told_first (Defer (Some g)) out = either_way (At (Defer (Some g))) (length m.held == m.sizes.bag_jobs)
      LoadSeal Keep (refl, out_pinned g out) ((tt, refl, refl), out_pinned g out)
  told_first (Defer None) under = absurd under
  told_first (Flush (Some g)) out = either_way (At (Flush (Some g))) (is_empty m.held)
      LoadScan LoadSeal (tt, out_pinned g out) (tt, out_pinned g out)
  told_first (Flush None) under = absurd under
  told_first Release none = ((tt, refl, refl), pinned_by true (none_left t.guards none))
  told_first (DeferDestroy (Some g) ptr) out =
      either_way (At (DeferDestroy (Some g) ptr)) (length m.held == m.sizes.bag_jobs)
      LoadSeal Keep (refl, out_pinned g out) ((tt, refl, refl), out_pinned g out)
  told_first (DeferDestroy None ptr) under = absurd under
  told_first (AccessCall a) under = absurd under
