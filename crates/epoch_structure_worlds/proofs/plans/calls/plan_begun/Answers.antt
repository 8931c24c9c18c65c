use Rattle.std.proofs.Common.{ap, ◌∙◌, false}
use Rattle.epoch_laws.specs.declared.step.Reply.{Reply}
use Rattle.epoch_structure_laws.specs.declared.plan.Plan.TheVariants.{Under}
use Rattle.epoch_structure_laws.specs.Plans.{after_by}
use Rattle.epoch_structure_worlds.proofs.plans.calls.plan_begun.Goals as goal

pub returns-in-Refused : goal.returns-in-Refused
returns-in-Refused g c =
    let heard = c.hear.ensures c.args.guard in
    rw c.in-Refused.is (ap (λ phase. Under c.args.guard phase false) (heard ∙ ap (λ (r : Reply). after_by c.args.phase
    (g.P.PhaseMachine.deed c.args.guard c.args.phase) r) c.in-Refused.is))
