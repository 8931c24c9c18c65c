use Rattle.epoch_structure_calls.proofs.HandInHand.{first_work_goes, asks_same, step_goes, told_by_order}
use Rattle.epoch_structure_calls.proofs.map.laws.every_coded_call_goes_as_one_with_entries.Goals as goal

-- both begin alike
pub returns-clause-begins : goal.returns-clause-begins
returns-clause-begins c = first_work_goes

-- each phase asks for the same call
pub returns-clause-asks_alike : goal.returns-clause-asks_alike
returns-clause-asks_alike c = asks_same

-- and is followed by the same one
pub returns-clause-goes_on : goal.returns-clause-goes_on
returns-clause-goes_on c = step_goes

pub returns-clause-by_order : goal.returns-clause-by_order
returns-clause-by_order c = told_by_order
