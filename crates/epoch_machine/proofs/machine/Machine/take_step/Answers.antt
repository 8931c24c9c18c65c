use Rattle.std.proofs.Common.{◌∙◌, ap, length, refl, subst}
use Rattle.epoch_machine.specs.Machine.{StageFits, is_empty}
use Rattle.epoch_bags.specs.Bags.{Sealed}
use Rattle.epoch_machine.proofs.Stages.{fits_within, still_none, hand_after}
use Rattle.epoch_machine.proofs.machine.Machine.take_step.Goals as goal

pub invariant_of-self-in-Empty : goal.invariant_of-self-in-Empty
invariant_of-self-in-Empty g c = record {
  sized = c.self.invariant.sized;
  limit = c.self.invariant.limit;
  within = c.self.invariant.within;
  pins = c.self.invariant.pins;
  stage = fits_within _ _ _ c.self.view_is c.after_collect-after.ensures.fits;
  hand = ap (λ (bag : Sealed _). is_empty bag.jobs) c.in-Empty.ensures.bag.0
      ∙ still_none _ _ _ _ _ c.self.invariant.hand c.in-Take.is c.after_collect-after.ensures.calls_nothing;
}

pub invariant_of-self-in-Got : goal.invariant_of-self-in-Got
invariant_of-self-in-Got g c =
    let fits =
    subst (StageFits c.self.inside.sizes (length c.self.inside.held.jobs)) c.in-Take.is c.self.invariant.stage in
    record {
      sized = c.self.invariant.sized;
      limit = c.self.invariant.limit;
      within = c.self.invariant.within;
      pins = c.self.invariant.pins;
      stage = c.after_job-self-inside.ensures.fits c.self.inside.sizes _ refl fits.0
          (fits_within _ _ _ c.self.view_is c.after_collect-after.ensures.fits);
      hand = hand_after _ _ _ c.is_empty-none_left.ensures.test
          (c.after_job-self-inside.ensures.calls c.after_collect-after.ensures.calls_nothing);
    }
