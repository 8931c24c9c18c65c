use Rattle.std.proofs.Common.{arith}
use Rattle.std.proofs.lemmas.Str.Pattern.{strip_prefix_char}
use Rattle.epoch_script.proofs.words.past_r.Goals as goal

pub returns : goal.returns
returns c = strip_prefix_char 114 _ _ c.strip_prefix.ensures.cases (omega arith)
