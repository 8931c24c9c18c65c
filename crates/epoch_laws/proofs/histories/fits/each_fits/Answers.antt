use Rattle.std.proofs.Common.{below_more, refl, sym, subst, arith}
use Rattle.std.proofs.lemmas.Bool.Decides.{not_from_Decides}
use Rattle.epoch_laws.proofs.FitsRead.{FitsBefore, FitsAt, all_fit, fits_read, read_fits}
use Rattle.epoch_laws.proofs.histories.fits.each_fits.Goals as goal

pub returns-then-not-fits : goal.returns-then-not-fits
returns-then-not-fits c = (
  λ yes. absurd (cc),
  λ all. absurd (not_from_Decides _ c.fits.ensures c.if-not-fits.true
      (subst (FitsBefore c.args.entries.now c.loop-place.place) (sym c.index-entries-place.is)
      (fits_read c.args.entries.now c.loop-place.place _ c.loop-place-test.true all))),
)

pub loop-place-preserved : goal.loop-place-preserved
loop-place-preserved c =
    below_more (FitsAt c.args.entries.now) c.loop-place.place c.loop-place.invariant
    (read_fits c.args.entries.now c.loop-place.place _
    (subst (FitsBefore c.args.entries.now c.loop-place.place) c.index-entries-place.is
    (c.fits.ensures.0 c.if-not-fits.false)))

pub returns : goal.returns
returns c = (
  λ yes. all_fit c.args.entries.now (λ k within. c.loop-place.invariant k (omega arith)),
  λ all. refl,
)
