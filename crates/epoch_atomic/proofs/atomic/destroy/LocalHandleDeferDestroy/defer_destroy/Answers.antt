use Rattle.std.proofs.Common.{◌≡◌, ◌∙◌, ◌++◌, [], ◌∷◌, ◌⊎◌, ℕ, Option, Some, None, IsSome, refl, sym, ap, subst, ⊎_elim}
use Rattle.std.proofs.lemmas.Bool.{false≢true}
use Rattle.std.proofs.lemmas.Option.{same_Some}
use Rattle.epoch_cells.specs.declared.cells.name.Name.{Name}
use Rattle.epoch_bags.specs.declared.job.Job.TheVariants.{Remove}
use Rattle.epoch_handles.specs.declared.home.Home.{Home}
use Rattle.epoch_handles.proofs.Tests.{not_both}
use Rattle.epoch_atomic.specs.Pointers.{IsUnder}
use Rattle.epoch_atomic.proofs.atomic.destroy.LocalHandleDeferDestroy.defer_destroy.Goals as goal
use Rattle.epoch_atomic.proofs.atomic.destroy.LocalHandleDeferDestroy.defer_destroy.Goals.{else-is_protecting-via-then-is_protecting+else-not-owns}
use Rattle.epoch_atomic.proofs.atomic.destroy.LocalHandleDeferDestroy.defer_destroy.Goals.{else-is_protecting-via-else-is_protecting}

is_some_of : {A : Type 0} {o : Option A} {x : A} → o ≡ Some x → IsSome o
is_some_of at = subst IsSome (sym at) refl

none_is_not_some : {A : Type 0} {o : Option A} → o ≡ None → IsSome o → ⊥
none_is_not_some none some = false≢true (subst IsSome none some)

under_same : {T : Type 0} (home : Option (Home T)) {one other : ℕ} → one ≡ other → IsUnder one home → IsUnder other home
under_same home same under = subst (λ (id : ℕ). IsUnder id home) same under

-- the guard is a stranger's

pub returns-then-not-owns-clause-pointer : goal.returns-then-not-owns-clause-pointer
returns-then-not-owns-clause-pointer g c = λ which _. absurd (⊎_elim
    (λ none. none_is_not_some none (c.is_protecting.ensures.0 c.if-is_protecting.true))
    (λ owns. not_both c.if-not-owns.true (c.owns.ensures.value.1 owns))
    which)

pub returns-then-not-owns-clause-does : goal.returns-then-not-owns-clause-does
returns-then-not-owns-clause-does g c = λ _ owns _. absurd (not_both c.if-not-owns.true (c.owns.ensures.value.1 owns))

pub returns-then-not-owns-clause-found : goal.returns-then-not-owns-clause-found
returns-then-not-owns-clause-found g c = λ _ owns _. absurd (not_both c.if-not-owns.true (c.owns.ensures.value.1 owns))

pub returns-then-not-owns-clause-room : goal.returns-then-not-owns-clause-room
returns-then-not-owns-clause-room g c = λ _ owns _ _. absurd (not_both c.if-not-owns.true (c.owns.ensures.value.1 owns))

pub returns-then-not-owns-clause-at_once : goal.returns-then-not-owns-clause-at_once
returns-then-not-owns-clause-at_once g c =
    λ _ none _. absurd (none_is_not_some none (c.is_protecting.ensures.0 c.if-is_protecting.true))

-- the pointer is a stranger's

pub returns-in_default-clause-at_once : goal.returns-in_default-clause-at_once
returns-in_default-clause-at_once g c = λ _ _ names. c.in_default.ensures.some.1 (
  is_some_of names.name_of,
  under_same c.args.shared.home
      (sym (c.id.ensures ∙ ap (λ collector. collector.id) c.collector.ensures.value)) names.under,
)

pub returns-in_default-clause-stranger : goal.returns-in_default-clause-stranger
returns-in_default-clause-stranger g c = λ some stranger. elim c.else-is_protecting.branch [
  | else-is_protecting-via-then-is_protecting+else-not-owns w ↦
      absurd (stranger (w.owns.ensures.value.0 w.if-not-owns.false))
  | else-is_protecting-via-else-is_protecting w ↦
      absurd (not_both w.if-is_protecting.false (c.is_protecting.ensures.1 some))
]

pub returns-in_default-clause-does : goal.returns-in_default-clause-does
returns-in_default-clause-does g c = λ _ _ names. absurd (false≢true (c.in_default.ensures.some.1 (
  is_some_of names.name_of,
  under_same c.args.shared.home
      (sym (c.id.ensures ∙ ap (λ collector. collector.id) c.collector.ensures.value)) names.under,
)))

pub returns-in_default-clause-found : goal.returns-in_default-clause-found
returns-in_default-clause-found g c = λ _ _ names. absurd (false≢true (c.in_default.ensures.some.1 (
  is_some_of names.name_of,
  under_same c.args.shared.home
      (sym (c.id.ensures ∙ ap (λ collector. collector.id) c.collector.ensures.value)) names.under,
)))

pub returns-in_default-clause-room : goal.returns-in_default-clause-room
returns-in_default-clause-room g c = λ _ _ names _. absurd (false≢true (c.in_default.ensures.some.1 (
  is_some_of names.name_of,
  under_same c.args.shared.home
      (sym (c.id.ensures ∙ ap (λ collector. collector.id) c.collector.ensures.value)) names.under,
)))

-- the job is handed back

pub returns-in-Err-clause-unprotected : goal.returns-in-Err-clause-unprotected
returns-in-Err-clause-unprotected g c = λ none. (c.in-Err.ensures.unprotected none).1

pub returns-in-Err-clause-at_once : goal.returns-in-Err-clause-at_once
returns-in-Err-clause-at_once g c = λ _ none _. (c.in-Err.ensures.unprotected none).0

pub returns-in-Err-clause-pointer : goal.returns-in-Err-clause-pointer
returns-in-Err-clause-pointer g c = λ _ stranger. absurd (stranger c.in-Some.name (record {
  name_of = c.in-Some.ensures.name;
  under = under_same c.args.shared.home (c.id.ensures ∙ ap (λ collector. collector.id) c.collector.ensures.value)
      (c.in-Some.ensures.some.0 refl).1;
}))

pub returns-in-Err-clause-does : goal.returns-in-Err-clause-does
returns-in-Err-clause-does g c = λ _ owns _. c.in-Err.ensures.does (is_some_of owns.position) owns

pub returns-in-Err-clause-found : goal.returns-in-Err-clause-found
returns-in-Err-clause-found g c = λ _ owns _. c.in-Err.ensures.found owns

pub returns-in-Err-clause-room : goal.returns-in-Err-clause-room
returns-in-Err-clause-room g c = λ _ owns _ fits. absurd (false≢true (c.in-Err.ensures.room owns fits).0)

-- the job is kept, or was called

pub returns-clause-unprotected : goal.returns-clause-unprotected
returns-clause-unprotected g c = λ none. (c.in_default-defer.ensures.unprotected none).1

pub returns-clause-stranger : goal.returns-clause-stranger
returns-clause-stranger g c = λ some stranger.
    let told = c.in_default-defer.ensures.stranger some stranger in
    absurd (false≢true told.1)

pub returns-clause-pointer : goal.returns-clause-pointer
returns-clause-pointer g c = λ _ stranger. absurd (stranger c.in-Some.name (record {
  name_of = c.in-Some.ensures.name;
  under = under_same c.args.shared.home (c.id.ensures ∙ ap (λ collector. collector.id) c.collector.ensures.value)
      (c.in-Some.ensures.some.0 refl).1;
}))

pub returns-clause-does : goal.returns-clause-does
returns-clause-does g c = λ _ owns _. c.in_default-defer.ensures.does (is_some_of owns.position) owns

pub returns-clause-room : goal.returns-clause-room
returns-clause-room g c = λ name owns names fits.
    let same = same_Some c.in-Some.name name (sym c.in-Some.ensures.name ∙ names.name_of) in
    let told = c.in_default-defer.ensures.room owns fits in (
      refl,
      subst (λ (n : Name). c.defer.new.self.machine.held ≡ c.args.self.now.machine.held ++ Remove n ∷ []) same told.1,
    )

pub returns-clause-found : goal.returns-clause-found
returns-clause-found g c = λ _ owns _. c.in_default-defer.ensures.found owns

pub returns-clause-kept : goal.returns-clause-kept
returns-clause-kept g c = λ name owns names ok.
    let same = same_Some c.in-Some.name name (sym c.in-Some.ensures.name ∙ names.name_of) in
    subst (λ (n : Name). (c.defer.new.self.machine.held ≡ c.args.self.now.machine.held ++ Remove n ∷ [])
    ⊎ (c.defer.new.self.machine.held ≡ Remove n ∷ [])) same (c.in_default-defer.ensures.kept owns ok)

-- without protection the removal was tried
pub returns-clause-tried : goal.returns-clause-tried
returns-clause-tried g c = λ name none names.
    subst (λ (n : Name). g.W.Removing.Remove.tried n)
    (same_Some c.in-Some.name name (sym c.in-Some.ensures.name ∙ names.name_of))
    (c.in_default-defer.ensures.at_once none)

pub returns-in-Err-clause-tried : goal.returns-in-Err-clause-tried
returns-in-Err-clause-tried g c = λ name none names.
    subst (λ (n : Name). g.W.Removing.Remove.tried n)
    (same_Some c.in-Some.name name (sym c.in-Some.ensures.name ∙ names.name_of)) (c.in-Err.ensures.at_once none)

pub returns-in_default-clause-tried : goal.returns-in_default-clause-tried
returns-in_default-clause-tried g c = λ _ _ names. absurd (false≢true (c.in_default.ensures.some.1 (
  is_some_of names.name_of,
  under_same c.args.shared.home
      (sym (c.id.ensures ∙ ap (λ collector. collector.id) c.collector.ensures.value)) names.under,
)))

pub returns-then-not-owns-clause-tried : goal.returns-then-not-owns-clause-tried
returns-then-not-owns-clause-tried g c =
    λ _ none _. absurd (none_is_not_some none (c.is_protecting.ensures.0 c.if-is_protecting.true))
