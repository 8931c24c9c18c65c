use Rattle.std.proofs.Common.{ap, sym, ◌∙◌, refl, not}
use Rattle.epoch_machine.specs.declared.machine.Stage.{Stage}
use Rattle.epoch_machine.specs.Machine.{is_calling}
use Rattle.epoch_machine.proofs.Stages.{word_unasked}
use Rattle.epoch_machine.proofs.machine.Machine.looked.Goals as goal

pub invariant_of-self : goal.invariant_of-self
invariant_of-self g c = record {
  sized = c.self.invariant.sized;
  limit = c.self.invariant.limit;
  within = c.self.invariant.within;
  pins = c.self.invariant.pins;
  stage = c.past_word-self-inside.ensures.fits c.self.inside.sizes _ refl c.self.invariant.sized.collect_bags.0;
  hand = c.self.invariant.hand ∙ ap (λ (s : Stage). not (is_calling s)) c.in-Scan.is
      ∙ sym (ap not c.past_word-self-inside.ensures.calls_nothing);
}

pub returns-in_default : goal.returns-in_default
returns-in_default g c = word_unasked _ _ _ c.self.view_is c.in_default.not-Scan
