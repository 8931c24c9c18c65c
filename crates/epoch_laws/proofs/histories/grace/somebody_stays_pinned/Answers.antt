use Rattle.std.proofs.Common.{ℕ, ◌<◌, ◌≤◌, inl, inr, subst, below_more, arith}
use Rattle.epoch_laws.specs.Grace.{WithdrawsAt, StaysPinned}
use Rattle.epoch_laws.proofs.PlacesRead.{read_publishes, one_publishes}
use Rattle.epoch_laws.proofs.histories.grace.somebody_stays_pinned.Goals as goal
use Rattle.epoch_laws.proofs.histories.grace.somebody_stays_pinned.Goals.{in_default}
use Rattle.epoch_laws.proofs.histories.grace.somebody_stays_pinned.Goals.{in-Pinned+else-not-withdraws_between}

pub loop-place-preserved : goal.loop-place-preserved
loop-place-preserved c =
    let place = c.loop-place.place in
    below_more _ _ c.loop-place.invariant (elim c.match-entries-place.branch [
      | in_default w ↦ λ who at. elim (read_publishes c.args.entries.now place _ who at) [
        | inl is ↦ absurd (w.in_default.not-Pinned who is)
        | inr is ↦ absurd (w.in_default.not-Repinned who is)
      ]
      | in-Pinned+else-not-withdraws_between w ↦ λ who at. subst
          (λ (p : ℕ). (k : ℕ) × (place < k) × (k ≤ c.args.until) × WithdrawsAt c.args.entries.now k p)
          (one_publishes c.args.entries.now place _ w.in-Pinned.who who w.in-Pinned.is
          (read_publishes c.args.entries.now place _ who at))
          (w.withdraws_between.ensures.0 w.if-not-withdraws_between.false)
    ])

-- whoever published in time has withdrawn it
pub returns : goal.returns
returns c = (
  λ yes. absurd (cc),
  λ some.
      let stays : StaysPinned c.args.entries.now some.0 c.args.from c.args.until = some.1 in
      let gone = c.loop-place.invariant stays.at (omega (arith, stays.before)) some.0 stays.published in
      absurd (stays.lasted gone.0 gone.1 gone.2 gone.3),
)
