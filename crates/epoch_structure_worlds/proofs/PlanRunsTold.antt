-- A list of steps of a structure goes on by one step.
use Rattle.std.proofs.Common.{◌≡◌, ℕ, ◌+◌, ◌<◌, ◌≤◌, Bool, List, [], ◌∷◌, ◌++◌, length, refl, ap}
use Rattle.std.proofs.Common.{sym, subst, ◌∙◌, get_or, take, take_all}
use Rattle.std.proofs.lemmas.List.{take_more}
use Rattle.epoch_laws.specs.Run.{State}
use Rattle.epoch_structure_laws.specs.Plans.{Deed, AllPlans, PlanEvent, made_at, WorldThen, Follows}
use Rattle.epoch_structure_worlds.specs.declared.plans.step.PlanReply.{PlanReply}
use Rattle.epoch_structure_worlds.specs.declared.plans.step.PlanStep.{PlanStep}
use Rattle.epoch_structure_worlds.specs.PlanWorlds.{PlanState, PlanEntry, PlanTakes, Shows, GoesBySteps, GoesByPlans}
use Rattle.epoch_structure_worlds.specs.PlanWorlds.{ListsSteps, asked_steps, told_replies, then_plan_runs, program_of}
use Rattle.epoch_structure_worlds.specs.PlanWorlds.{plans_in}

module _ {P A W : Type 0} where
  steps_append : (a b : List (PlanEntry P A W)) → asked_steps (a ++ b) ≡ asked_steps a ++ asked_steps b
  steps_append [] b = refl
  steps_append (e ∷ es) b = ap (λ ss. e.step ∷ ss) (steps_append es b)

  replies_append : (a b : List (PlanEntry P A W)) → told_replies (a ++ b) ≡ told_replies a ++ told_replies b
  replies_append [] b = refl
  replies_append (e ∷ es) b = ap (λ rs. e.reply ∷ rs) (replies_append es b)

module _ {P A W : Type 0} (deed : ℕ → P → Deed P A) (starts : P → Type 0) (first : W → Bool → P) where
  -- lists of steps that are given one after the other are one list
  pub steps_after_steps : (world world' world'' : State) (plans plans' plans'' : AllPlans P)
      (log more : List (PlanEntry P A W)) → GoesBySteps deed starts first world plans log world' plans'
      → GoesBySteps deed starts first world' plans' more world'' plans''
      → GoesBySteps deed starts first world plans (log ++ more) world'' plans''
  steps_after_steps world world' world'' plans plans' plans'' [] more run later =
      subst (λ (l : AllPlans P). GoesBySteps deed starts first world l more world'' plans'') run.1
      (subst (λ (w : State). GoesBySteps deed starts first w plans' more world'' plans'') run.0 later)
  steps_after_steps world world' world'' plans plans' plans'' (e ∷ es) more run later = (
    run.0,
    run.1,
    run.2,
    then_plan_runs (made_at e.event) world
        (λ w. GoesBySteps deed starts first w run.0 es world' plans')
        (λ w. GoesBySteps deed starts first w run.0 (es ++ more) world'' plans'')
        (λ w rest. steps_after_steps w world' world'' run.0 plans' plans'' es more rest later) run.3,
  )

  -- one step is a list of one entry
  one_step : (old new : PlanState P) (step : PlanStep W) (reply : PlanReply A) (event : PlanEvent P A)
      → Shows deed first old.world (plans_in old.plans) step reply event
      → Follows (program_of deed) starts old.world (plans_in old.plans) (plans_in new.plans) event
      → WorldThen (made_at event) old.world (λ w. new.world ≡ w)
      → GoesByPlans deed starts first old (record { step = step; reply = reply; event = event } ∷ []) new
  one_step old new step reply event shows follows made = (
    plans_in new.plans,
    shows,
    follows,
    then_plan_runs (made_at event) old.world (λ w. new.world ≡ w)
        (λ w. GoesBySteps deed starts first w (plans_in new.plans) [] new.world (plans_in new.plans))
        (λ w is. (is, refl)) made,
  )

  -- what leads from one state to another by these steps
  abbrev pub LeadsBySteps : PlanState P → List (PlanStep W) → List (PlanReply A) → PlanState P → Type 0
  LeadsBySteps old steps replies new =
      (log : List (PlanEntry P A W)) × ListsSteps log steps replies × GoesByPlans deed starts first old log new

  pub leads_more : (start old new : PlanState P) (steps : List (PlanStep W)) (i : ℕ) (d : PlanStep W)
      (replies later : List (PlanReply A)) (r : PlanReply A)
      → i < length steps → later ≡ replies ++ r ∷ [] → LeadsBySteps start (take i steps) replies old
      → PlanTakes deed starts first old (get_or steps i d) r new → LeadsBySteps start (take (i + 1) steps) later new
  leads_more start old new steps i d replies later r lt more (log, tells, run) (event, shows, follows, made) =
      let last : List (PlanEntry P A W) = record { step = get_or steps i d; reply = r; event = event } ∷ [] in
      let asked : asked_steps (log ++ last) ≡ take (i + 1) steps =
      steps_append log last ∙ ap (λ ss. ss ++ get_or steps i d ∷ []) tells.0 ∙ sym (take_more steps i d lt) in
      let told : told_replies (log ++ last) ≡ later = replies_append log last
      ∙ ap (λ rs. rs ++ r ∷ []) tells.1 ∙ sym more in (
        log ++ last,
        (asked, told),
        steps_after_steps _ _ _ _ _ _ log last run
            (one_step old new (get_or steps i d) r event shows follows made),
      )

  -- the run of all steps
  pub leads_whole : (start new : PlanState P) (steps : List (PlanStep W)) (i : ℕ) (replies : List (PlanReply A))
      → length steps ≤ i → LeadsBySteps start (take i steps) replies new → LeadsBySteps start steps replies new
  leads_whole start new steps i replies le run =
      subst (λ (ss : List (PlanStep W)). LeadsBySteps start ss replies new) (take_all i steps le) run
