use Rattle.std.proofs.Common.{◌≡◌, ℕ, false, below_more, arith, refl, ap, sym, ◌∙◌}
use Rattle.epoch_laws.specs.Lawful.{told_of}
use Rattle.epoch_laws.specs.declared.histories.known.Known.{Known}
use Rattle.epoch_laws.proofs.Log.{stands_within}
use Rattle.epoch_laws.proofs.PlacesRead.{stands_read}
use Rattle.epoch_laws.proofs.Leavers.{of_each_registered, where_none_registered}
use Rattle.epoch_laws.proofs.histories.fits.each_has_left.Goals as goal
use Rattle.epoch_laws.proofs.histories.fits.each_has_left.Goals.{in-Registered+else-of, in_default}

-- the participant that registers here has not left
pub returns-then-of : goal.returns-then-of
returns-then-of c =
    let here = stands_read c.args.entries.now c.loop-place.place _ _ c.loop-place-test.true c.in-Registered.is in
    let known = ap (λ (known : Known). known.registered) c.of.ensures in (
      λ yes. absurd (cc),
      λ all. absurd (cc (all c.loop-place.place c.in-Registered.participant here, known, c.if-of.true)),
    )

pub loop-place-preserved : goal.loop-place-preserved
loop-place-preserved c =
    let left = λ (p : ℕ). (told_of p c.args.entries.now).registered ≡ false in
    below_more _ _ c.loop-place.invariant (elim c.match-entries-place.branch [
      | in-Registered+else-of w ↦
          of_each_registered c.args.entries.now c.loop-place.place _ _ left
          w.in-Registered.is
          (sym (ap (λ (known : Known). known.registered) w.of.ensures) ∙ w.if-of.false)
      | in_default w ↦ where_none_registered c.args.entries.now c.loop-place.place _ left
          (λ p is. w.in_default.not-Registered p is)
    ])

pub returns : goal.returns
returns c = (
  λ yes i p at. c.loop-place.invariant i (omega (arith, stands_within c.args.entries.now i _ at)) p at,
  λ h. refl,
)
