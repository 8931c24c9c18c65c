-- Once all participants have left, what they were given to keep and not to call is what the closed places have.
use Rattle.std.proofs.Common.{◌≡◌, ◌∙◌, ℕ, zero, suc, ◌+◌, List, [], ◌∷◌, Option, None, All, refl, sym, ap, arith}
use Rattle.std.proofs.lemmas.List.Sums.{sum_by-cons}
use Rattle.std.specs.Prelude.{sum_by}
use Rattle.epoch_bags.specs.Bags.{Sealed}
use Rattle.epoch_tables.specs.ClosedPlaces.{AreLast, LastHaveTheRest}
use Rattle.epoch_tables.specs.declared.shared_places.view.PlaceView.{PlaceView}
use Rattle.epoch_machine.specs.Machine.{Machine}
use Rattle.epoch_handles.specs.Drives.{Situation}
use Rattle.epoch_handles.specs.JobsKept.{left_to_call, slots_weight, has_weight, jobs_weight, Life, AreLivesOf}
use Rattle.epoch_handles.specs.JobsKept.{LosesNoJob}
use Rattle.epoch_handles.specs.JobsKept.{HasLeft, LeavesTheRest}

module _ {J : Type 0} where
  -- who has left has no job
  has_none : (weigh : J → ℕ) (at : Situation J) → HasLeft at → has_weight weigh at ≡ 0
  has_none weigh at left =
      let held = ap (λ (m : Machine J). sum_by weigh m.held) left.machine in
      let owes = ap (λ (m : Machine J). sum_by weigh (left_to_call m.stage m.hand)) left.machine in
      let slots = ap (λ (l : List (ℕ × Option (Sealed J))). slots_weight weigh l) left.rests.1 in
      omega arith

  all_have_none : (weigh : J → ℕ) (lives : List (Life J)) → All (λ life. HasLeft life.now) lives
      → sum_by (λ life. has_weight weigh life.now) lives ≡ 0
  all_have_none weigh [] left = refl
  all_have_none weigh (life ∷ lives) left =
      let one = has_none weigh life.now (left zero life (omega arith)) in
      let others = all_have_none weigh lives (λ k d less. left (suc k) d (omega (arith, less))) in
      omega (arith, sum_by-cons (λ (l : Life J). has_weight weigh l.now) life lives)

  -- its seat has claimed no place
  claims_none : (places : ℕ) (views : List (PlaceView J)) (lives : List (Life J)) → AreLivesOf places views lives
      → All (λ life. HasLeft life.now) lives → All (λ view. view.claimed ≡ None) views
  claims_none places [] lives are left k d less = absurd (omega (arith, less))
  claims_none places (view ∷ views) [] are left k d less = absurd are
  claims_none places (view ∷ views) (life ∷ lives) (is, are) left zero d less =
      ap (λ (v : PlaceView J). v.claimed) (sym is.view_now) ∙ (left zero life (omega arith)).rests.0
  claims_none places (view ∷ views) (life ∷ lives) (is, are) left (suc k) d less =
      claims_none places views lives are (λ i e below. left (suc i) e (omega (arith, below))) k d (omega (arith, less))

  pub leaves_the_rest : LosesNoJob J → LastHaveTheRest J → LeavesTheRest J
  leaves_the_rest loses_none last_have places left last lives are gone weigh =
      let all = loses_none places last.state lives last.agrees are weigh in
      let none = all_have_none weigh lives gone in
      let rest = last_have places left last (claims_none places last.state.views lives are gone) (jobs_weight weigh) in
      let balanced = last.agrees.balanced (jobs_weight weigh) in
      omega arith
