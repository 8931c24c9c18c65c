use Rattle.epoch_world.proofs.ListedSteps.{lists_none, lists_more, leads_to_sharp}
use Rattle.epoch_world.proofs.witness.sharp.sharp_steps.Goals as goal

-- the steps are those of the sharp list
pub returns-clause-sharp : goal.returns-clause-sharp
returns-clause-sharp g c =
    leads_to_sharp c.in_ok-list_step.ensures.ok c.in_ok-list_step-2.ensures.ok
    (lists_more c.in_ok-list_call.ensures.ok
    (lists_more c.in_ok-list_call-2.ensures.ok
    (lists_more c.in_ok-list_call-3.ensures.ok
    (lists_more c.in_ok-list_call-4.ensures.ok
    (lists_more c.in_ok-list_call-5.ensures.ok
    (lists_more c.in_ok-list_call-6.ensures.ok
    (lists_more c.in_ok-list_call-7.ensures.ok
    (lists_more c.in_ok-list_call-8.ensures.ok lists_none))))))))
    c.new-steps.ensures.items
