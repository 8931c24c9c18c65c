-- Whole runs of plans that obey: cells leave rightly, so that what is loaded under a guard still held stands.
use Rattle.std.proofs.Common.{◌≡◌, ℕ, false, List, [], ◌∷◌, Some, None, inl, inr, refl, ap}
use Rattle.std.proofs.Common.{sym, subst, ◌∙◌}
use Rattle.epoch_cells.specs.declared.cells.name.Name.{Name}
use Rattle.epoch_laws.specs.declared.step.Entry.{Entry}
use Rattle.epoch_laws.specs.Run.{State, seat_of, TakesStep}
use Rattle.epoch_laws.specs.Reach.{Past, past_after, LeavesRightly, LeavesFrom}
use Rattle.epoch_structure_laws.specs.declared.plan.Plan.{Plan}
use Rattle.epoch_structure_laws.specs.declared.plan.Plan.TheVariants.{NoPlan, Under}
use Rattle.epoch_structure_laws.specs.Plans.{Program, AllPlans, Replans, KeepsPlans, PlanEvent, Asked}
use Rattle.epoch_structure_laws.specs.Plans.{Declined, Answered, Makes, Follows, asks, declines, answers, passes}
use Rattle.epoch_structure_laws.specs.Plans.{free_begins}
use Rattle.epoch_structure_laws.specs.Plans.{free_goes, begins, goes, made_at, WorldThen, PlanRuns, also_made}
use Rattle.epoch_structure_laws.specs.Plans.{world_log}
use Rattle.epoch_structure_laws.specs.Plans.{then_world_runs, run_of_world, plan_begun, plan_gone}
use Rattle.epoch_structure_laws.proofs.Custody.{same_number, Tied, now_of, now, Structure, OwnsNow, StandsNow, Sound}
use Rattle.epoch_structure_laws.proofs.Obligations.{Obeys}
use Rattle.epoch_structure_laws.proofs.Kept.{go_none, go_under, begin_under, begin_plain, pass}

module _ (S : Program) (T : Structure S) (Starts : S.Phase → Type 0) (obeys : Obeys S T Starts) where
  not_made : (event : PlanEvent S.Phase S.Answer) (x : Entry) → event ≡ Makes x → made_at event ≡ None → ⊥
  not_made event x is none = cc (none, ap (λ (v : PlanEvent S.Phase S.Answer). made_at v) is)

  -- a step that makes none of the world
  module _ (past : Past) (world : State) (plans plans' : AllPlans S.Phase) (sound : Sound S T past world plans) where
    -- p's plan is another, that owns nothing
    planned : (p : ℕ) (plan : Plan S.Phase) → Replans plans p plan plans' → Tied S plan (seat_of world p)
        → StandsNow S T past world.heap sound.ghost (now_of S plan (seat_of world p))
        → ((n : Name) → ¬ (OwnsNow S T (now_of S plan (seat_of world p)) n)) → Sound S T past world plans'
    planned p plan sets tied stands none = record {
      ghost = sound.ghost;
      shape = sound.shape;
      linked = sound.linked;
      jobs = sound.jobs;
      ties = λ q. elim (same_number q p) [
        | inl e ↦ subst (λ (k : ℕ). Tied S (plans' k) (seat_of world k)) (sym e)
            (subst (λ (l : Plan S.Phase). Tied S l (seat_of world p)) (sym sets.0) tied)
        | inr ne ↦ subst (λ (l : Plan S.Phase). Tied S l (seat_of world q)) (sym (sets.1 q ne)) (sound.ties q)
      ];
      stands = λ q. elim (same_number q p) [
        | inl e ↦ subst (λ (k : ℕ). StandsNow S T past world.heap sound.ghost (now S world plans' k)) (sym e)
            (subst (λ (l : Plan S.Phase). StandsNow S T past world.heap sound.ghost (now_of S l (seat_of world p)))
            (sym sets.0) stands)
        | inr ne ↦ subst
            (λ (l : Plan S.Phase). StandsNow S T past world.heap sound.ghost (now_of S l (seat_of world q)))
            (sym (sets.1 q ne)) (sound.stands q)
      ];
      apart = λ q r n ne a b. elim (same_number q p) [
        | inl e ↦ absurd (nothing n (subst (λ (k : ℕ). OwnsNow S T (now S world plans' k) n) e a))
        | inr off ↦ elim (same_number r p) [
          | inl e ↦ absurd (nothing n (subst (λ (k : ℕ). OwnsNow S T (now S world plans' k) n) e b))
          | inr off' ↦ sound.apart q r n ne
              (subst (λ (l : Plan S.Phase). OwnsNow S T (now_of S l (seat_of world q)) n) (sets.1 q off) a)
              (subst (λ (l : Plan S.Phase). OwnsNow S T (now_of S l (seat_of world r)) n) (sets.1 r off') b)
        ]
      ];
      left_out = sound.left_out;
      left_given = sound.left_given;
      seen = sound.seen;
      reached_given = sound.reached_given;
    }
      where
        nothing : (n : Name) → ¬ (OwnsNow S T (now S world plans' p) n)
        nothing n o =
            none n (subst (λ (l : Plan S.Phase). OwnsNow S T (now_of S l (seat_of world p)) n) sets.0 o)

    same_plans : KeepsPlans plans plans' → Sound S T past world plans'
    same_plans same = record {
      ghost = sound.ghost;
      shape = sound.shape;
      linked = sound.linked;
      jobs = sound.jobs;
      ties = λ q. subst (λ (l : Plan S.Phase). Tied S l (seat_of world q)) (sym (same q)) (sound.ties q);
      stands = λ q. subst
          (λ (l : Plan S.Phase). StandsNow S T past world.heap sound.ghost (now_of S l (seat_of world q)))
          (sym (same q)) (sound.stands q);
      apart = λ q r n ne a b. sound.apart q r n ne
          (subst (λ (l : Plan S.Phase). OwnsNow S T (now_of S l (seat_of world q)) n) (same q) a)
          (subst (λ (l : Plan S.Phase). OwnsNow S T (now_of S l (seat_of world r)) n) (same r) b);
      left_out = sound.left_out;
      left_given = sound.left_given;
      seen = sound.seen;
      reached_given = sound.reached_given;
    }

    pub follows_none : (event : PlanEvent S.Phase S.Answer) → made_at event ≡ None
        → Follows S Starts world plans plans' event → Sound S T past world plans'
    follows_none event none (declines p f is same) = same_plans same
    follows_none event none (asks p g phase is free idle starts sets) =
        let begun = obeys.starts phase starts in
        planned p (Under g phase false) sets idle (begun.1 past world.heap sound.ghost sound.shape) begun.0
    follows_none event none (answers p g phase answer is under over sets) =
        planned p NoPlan sets
        (inl (inl (subst (λ (l : Plan S.Phase). Tied S l (seat_of world p)) under (sound.ties p)))) tt (λ n o. o)
    follows_none event none (passes x is other same) = absurd (not_made event x is none)
    follows_none event none (free_begins x p c is on plain free same) = absurd (not_made event x is none)
    follows_none event none (free_goes x p is on free same) = absurd (not_made event x is none)
    follows_none event none (begins x p g phase is on under call sets) = absurd (not_made event x is none)
    follows_none event none (goes x p g phase is on under sets) = absurd (not_made event x is none)

  -- a step that makes one
  module _ (past : Past) (world new : State) (plans plans' : AllPlans S.Phase) (y : Entry)
      (sound : Sound S T past world plans) (takes : TakesStep world y.step y.reply new) where
    abbrev Kept : Type 1
    Kept = LeavesRightly past world y new × Sound S T (past_after past world y new) new plans'

    made_is : (event : PlanEvent S.Phase S.Answer) (x : Entry) → made_at event ≡ Some y → event ≡ Makes x → x ≡ y
    made_is event x made is = cc (made, ap (λ (v : PlanEvent S.Phase S.Answer). made_at v) is)

    pub follows_some : Follows S Starts world plans plans' (Makes y) → Kept
    follows_some (declines p f is same) = absurd (cc (is))
    follows_some (asks p g phase is free idle starts sets) = absurd (cc (is))
    follows_some (answers p g phase answer is under over sets) = absurd (cc (is))
    follows_some (passes x made other same) =
        pass S T Starts obeys past world new plans plans' y sound takes x.step
        (sym (ap (λ (z : Entry). z.step) (made_is (Makes y) x refl made))) other same
    follows_some (free_begins x p c made on plain free same) =
        begin_plain S T Starts obeys past world new plans plans' y sound takes p c
        (sym (ap (λ (z : Entry). z.step) (made_is (Makes y) x refl made)) ∙ on) plain free same
    follows_some (free_goes x p made on free same) =
        go_none S T Starts obeys past world new plans plans' y sound takes p
        (sym (ap (λ (z : Entry). z.step) (made_is (Makes y) x refl made)) ∙ on) free same
    follows_some (begins x p g phase made on under call sets) =
        begin_under S T Starts obeys past world new plans plans' y sound takes p g phase call
        (sym (ap (λ (z : Entry). z.step) (made_is (Makes y) x refl made)) ∙ on) under
        (subst (λ (z : Entry). Replans plans p (plan_begun g phase (S.deed g phase) z.reply) plans')
        (made_is (Makes y) x refl made) sets)
    follows_some (goes x p g phase made on under sets) =
        go_under S T Starts obeys past world new plans plans' y sound takes p g phase
        (sym (ap (λ (z : Entry). z.step) (made_is (Makes y) x refl made)) ∙ on) under
        (subst (λ (z : Entry). Replans plans p (plan_gone g phase (S.deed g phase) z.reply) plans')
        (made_is (Makes y) x refl made) sets)

  -- whole runs
  pub runs_leave : (past : Past) (world : State) (plans : AllPlans S.Phase)
      (log : List (PlanEvent S.Phase S.Answer)) (world' : State) (plans' : AllPlans S.Phase)
      → (sound : Sound S T past world plans)
      → (run : PlanRuns S Starts world plans log world' plans')
      → LeavesFrom past world (world_log log) world' (run_of_world S Starts world plans log world' plans' run)
  runs_leave past world plans [] world' plans' sound run = tt
  runs_leave past world plans (event ∷ log) world' plans' sound run =
      by_event (λ past' w next rest. runs_leave past' w run.0 log world' plans' next rest) event run.1 run.2
    where
      by_event : ((past' : Past) (w : State) (next : Sound S T past' w run.0)
          → (rest : PlanRuns S Starts w run.0 log world' plans') → LeavesFrom past' w (world_log log) world'
          (run_of_world S Starts w run.0 log world' plans' rest))
          → (event : PlanEvent S.Phase S.Answer) → Follows S Starts world plans run.0 event
          → (rest : WorldThen (made_at event) world (λ w. PlanRuns S Starts w run.0 log world' plans'))
          → LeavesFrom past world (also_made (made_at event) (world_log log)) world'
          (then_world_runs (made_at event) world (λ w. PlanRuns S Starts w run.0 log world' plans') (world_log log)
          world' (λ w rest. run_of_world S Starts w run.0 log world' plans' rest) rest)
      by_event go_on (Asked p g phase) follows rest =
          go_on past world (follows_none past world plans run.0 sound (Asked p g phase) refl follows) rest
      by_event go_on (Declined p f) follows rest =
          go_on past world (follows_none past world plans run.0 sound (Declined p f) refl follows) rest
      by_event go_on (Answered p answer) follows rest =
          go_on past world (follows_none past world plans run.0 sound (Answered p answer) refl follows) rest
      by_event go_on (Makes x) follows rest =
          let along = follows_some past world rest.0 plans run.0 x sound rest.1 follows in
          (along.0, go_on (past_after past world x rest.0) rest.0 along.1 rest.2)
