use Rattle.std.proofs.Common.{◌∙◌, ℕ, sym, ap, not, length, refl, subst, arith}
use Rattle.epoch_tables.specs.SharedSteps.{TakesAt}
use Rattle.epoch_bags.specs.Bags.{Sealed}
use Rattle.epoch_machine.specs.Machine.{Machine, StageFits, is_empty, ask_at}
use Rattle.epoch_machine.proofs.Stages.{fits_within, still_none, hand_after, none_in_hand}
use Rattle.epoch_machine.proofs.machine.Machine.take_shared.Goals as goal

pub take_step-step-requires : goal.take_step-step-requires
take_step-step-requires g c =
    let asked = ap (λ (z : Machine _). ask_at z.stage) (sym c.self.view_is) ∙ ap ask_at c.in-Take.is in (
      omega arith,
      (
        c.requires.of,
        (
          subst (λ (x : ℕ). TakesAt c.args.places.now.capacity x c.args.cursor.now c.args.seat.now.me)
              (sym c.new.ensures.number) (c.requires.at c.in-Take.expiry asked),
          none_in_hand c.self.inside.hand.jobs c.self.inside.stage c.in-Take.expiry c.in-Take.taken
              c.in-Take.is c.self.invariant.hand,
        ),
      ),
    )

pub invariant_of-self-in-Empty : goal.invariant_of-self-in-Empty
invariant_of-self-in-Empty g c = record {
  sized = c.self.invariant.sized;
  limit = c.self.invariant.limit;
  within = c.self.invariant.within;
  pins = c.self.invariant.pins;
  stage = fits_within _ _ _ c.self.view_is c.after_collect-after.ensures.fits;
  hand = ap (λ (bag : Sealed _). is_empty bag.jobs)
      (c.take_step-step.ensures.not (λ got. absurd (cc (c.in-Empty.is, got))))
      ∙ still_none _ _ _ _ _ c.self.invariant.hand c.in-Take.is c.after_collect-after.ensures.calls_nothing;
}

pub invariant_of-self-in-Got : goal.invariant_of-self-in-Got
invariant_of-self-in-Got g c =
    let fits =
    subst (StageFits c.self.inside.sizes (length c.self.inside.held.jobs)) c.in-Take.is c.self.invariant.stage in
    record {
      sized = c.self.invariant.sized;
      limit = c.self.invariant.limit;
      within = c.self.invariant.within;
      pins = c.self.invariant.pins;
      stage = c.after_job-self-inside.ensures.fits c.self.inside.sizes _ refl fits.0
          (fits_within _ _ _ c.self.view_is c.after_collect-after.ensures.fits);
      hand = hand_after _ _ _ c.is_empty-none_left.ensures.test
          (c.after_job-self-inside.ensures.calls c.after_collect-after.ensures.calls_nothing);
    }
