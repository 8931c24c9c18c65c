use Rattle.std.proofs.Common.{ℕ, inl, inr, refl, subst, below_more, arith}
use Rattle.epoch_laws.specs.Grace.{WithdrawsAt}
use Rattle.epoch_laws.proofs.PlacesRead.{withdraws_read, read_withdraws, one_withdraws}
use Rattle.epoch_laws.proofs.histories.grace.withdraws_between.Goals as goal
use Rattle.epoch_laws.proofs.histories.grace.withdraws_between.Goals.{in_default, in-Unpinned+else-other-who}

pub returns-then-other-who : goal.returns-then-other-who
returns-then-other-who c =
    let place = c.loop-place.place in
    let found : WithdrawsAt c.args.entries.now place c.in-Unpinned.other =
    withdraws_read c.args.entries.now place _ c.in-Unpinned.other (omega arith) c.in-Unpinned.is in (
      λ yes. (
        place,
        omega arith,
        omega arith,
        subst (λ (p : ℕ). WithdrawsAt c.args.entries.now place p) c.if-other-who.true found,
      ),
      λ some. refl,
    )

pub loop-place-preserved : goal.loop-place-preserved
loop-place-preserved c = below_more _ _ c.loop-place.invariant (elim c.match-entries-place.branch [
  | in_default w ↦ λ after at. elim (read_withdraws c.args.entries.now c.loop-place.place _ c.args.who at) [
    | inl is ↦ w.in_default.not-Unpinned c.args.who is
    | inr is ↦ w.in_default.not-Repinned c.args.who is
  ]
  | in-Unpinned+else-other-who w ↦ λ after at. w.if-other-who.false
      (one_withdraws c.args.entries.now c.loop-place.place _ w.in-Unpinned.other c.args.who w.in-Unpinned.is
      (read_withdraws c.args.entries.now c.loop-place.place _ c.args.who at))
])
