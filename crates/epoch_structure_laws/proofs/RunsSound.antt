-- What holds of a structure whose plans obey holds at the end of each run.
use Rattle.std.proofs.Common.{◌≡◌, ℕ, List, [], ◌∷◌, Some, None, refl, sym, subst}
use Rattle.epoch_laws.specs.Run.{State}
use Rattle.epoch_laws.specs.Reach.{Past, past_after}
use Rattle.epoch_structure_laws.specs.Plans.{Program, AllPlans, PlanEvent, Asked, Declined, Answered, Makes, Follows}
use Rattle.epoch_structure_laws.specs.Plans.{made_at}
use Rattle.epoch_structure_laws.specs.Plans.{WorldThen, PlanRuns}
use Rattle.epoch_structure_laws.proofs.Custody.{Structure, Sound}
use Rattle.epoch_structure_laws.proofs.Obligations.{Obeys}
use Rattle.epoch_structure_laws.proofs.Runs.{follows_none, follows_some}

module _ (S : Program) (T : Structure S) (Starts : S.Phase → Type 0) (obeys : Obeys S T Starts) where
  pub runs_sound : (past : Past) (world : State) (plans : AllPlans S.Phase)
      (log : List (PlanEvent S.Phase S.Answer)) (world' : State) (plans' : AllPlans S.Phase)
      → Sound S T past world plans → PlanRuns S Starts world plans log world' plans'
      → (past' : Past) × Sound S T past' world' plans'
  runs_sound past world plans [] world' plans' sound run = (
    past,
    subst (λ (w : State). Sound S T past w plans') (sym run.0)
        (subst (λ (l : AllPlans S.Phase). Sound S T past world l) (sym run.1) sound),
  )
  runs_sound past world plans (event ∷ log) world' plans' sound run =
      by_event (λ past' w next rest. runs_sound past' w run.0 log world' plans' next rest) event run.1 run.2
    where
      by_event : ((past' : Past) (w : State) → Sound S T past' w run.0 → PlanRuns S Starts w run.0 log world' plans'
          → (last : Past) × Sound S T last world' plans')
          → (event : PlanEvent S.Phase S.Answer) → Follows S Starts world plans run.0 event
          → WorldThen (made_at event) world (λ w. PlanRuns S Starts w run.0 log world' plans')
          → (last : Past) × Sound S T last world' plans'
      by_event go_on (Makes x) follows rest =
          let along = follows_some S T Starts obeys past world rest.0 plans run.0 x sound rest.1 follows in
          go_on (past_after past world x rest.0) rest.0 along.1 rest.2
      by_event go_on (Asked p g phase) follows rest =
          go_on past world
          (follows_none S T Starts obeys past world plans run.0 sound (Asked p g phase) refl follows) rest
      by_event go_on (Declined p f) follows rest =
          go_on past world (follows_none S T Starts obeys past world plans run.0 sound (Declined p f) refl follows) rest
      by_event go_on (Answered p a) follows rest =
          go_on past world (follows_none S T Starts obeys past world plans run.0 sound (Answered p a) refl follows) rest
