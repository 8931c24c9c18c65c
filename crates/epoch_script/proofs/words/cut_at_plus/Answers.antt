-- `split_once` cuts at the first plus.
use Rattle.std.proofs.Common.{sym, arith}
use Rattle.epoch_script.proofs.Cuts.{first_of_cut, others_of_cut, first_uncut, others_uncut}
use Rattle.epoch_script.proofs.words.cut_at_plus.Goals as goal

pub returns-in-Some-clause-first : goal.returns-in-Some-clause-first
returns-in-Some-clause-first c = sym (first_of_cut 43 (omega arith) _ _ c.split_once.ensures.cases _ c.in-Some.is)

pub returns-in-Some-clause-others : goal.returns-in-Some-clause-others
returns-in-Some-clause-others c = others_of_cut 43 (omega arith) _ _ c.split_once.ensures.cases _ c.in-Some.is

pub returns-in-None-clause-first : goal.returns-in-None-clause-first
returns-in-None-clause-first c = sym (first_uncut 43 (omega arith) _ _ c.split_once.ensures.cases c.in-None.is)

pub returns-in-None-clause-others : goal.returns-in-None-clause-others
returns-in-None-clause-others c = others_uncut 43 (omega arith) _ _ c.split_once.ensures.cases c.in-None.is
