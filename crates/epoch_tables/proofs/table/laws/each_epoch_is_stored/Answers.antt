use Rattle.std.proofs.Common.{arith}
use Rattle.epoch_tables.proofs.table.laws.each_epoch_is_stored.Goals as goal

-- the word tells of the epoch that the rule speaks of
pub returns : goal.returns
returns c = λ positions s r epoch number word above below. let is = r.epoch_word in r.reached number above (omega arith)
