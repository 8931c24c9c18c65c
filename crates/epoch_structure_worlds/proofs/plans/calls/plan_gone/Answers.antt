use Rattle.std.proofs.Common.{ap, ◌∙◌, false, inl, inr}
use Rattle.epoch_laws.specs.declared.step.Reply.{Reply}
use Rattle.epoch_structure_laws.specs.declared.plan.Plan.TheVariants.{Under}
use Rattle.epoch_structure_laws.specs.Plans.{after_by}
use Rattle.epoch_structure_worlds.proofs.plans.calls.plan_gone.Goals as goal

pub returns-in-Done : goal.returns-in-Done
returns-in-Done g c = elim c.in-Done.is [
  | inl (answer, is) ↦ rw is (ap (λ phase. Under c.args.guard phase false)
      (c.hear.ensures c.args.guard ∙ ap (λ (r : Reply). after_by c.args.phase
      (g.P.PhaseMachine.deed c.args.guard c.args.phase) r) is))
  | inr (fault, is) ↦ rw is (ap (λ phase. Under c.args.guard phase false)
      (c.hear.ensures c.args.guard ∙ ap (λ (r : Reply). after_by c.args.phase
      (g.P.PhaseMachine.deed c.args.guard c.args.phase) r) is))
]
