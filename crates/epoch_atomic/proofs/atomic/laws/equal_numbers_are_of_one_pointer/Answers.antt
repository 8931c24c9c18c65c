use Rattle.epoch_atomic.proofs.PointerNumbers.{of_one_pointer}
use Rattle.epoch_atomic.proofs.atomic.laws.equal_numbers_are_of_one_pointer.Goals as goal

pub returns : goal.returns
returns c = of_one_pointer
