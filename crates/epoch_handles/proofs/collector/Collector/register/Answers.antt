use Rattle.std.proofs.Common.{◌∙◌, ◌+◌, refl, sym, ap, subst, arith}
use Rattle.epoch_handles.specs.Handles.{FindsEachTaken}
use Rattle.epoch_bags.specs.declared.job.Job.{Job}
use Rattle.epoch_tables.specs.declared.table.view.ParticipantView.{ParticipantView}
use Rattle.epoch_machine.specs.Machine.{Machine}
use Rattle.epoch_handles.proofs.Registering.{loses_one_more}
use Rattle.epoch_handles.proofs.collector.Collector.register.Goals as goal

pub new-requires : goal.new-requires
new-requires g c = (omega arith, c.args.self.now.sized)

-- the claimed position is that of a participant who isn't pinned
pub invariant_of-result : goal.invariant_of-result
invariant_of-result g c =
    let claimed = c.claim.ensures.won c.if-claim-eq0.true in
    let kept = c.claim.ensures.kept in
    let seat = c.loop-position.invariant in
    let machine = c.new.ensures in
    record {
      seated = record {
        words_of = (kept.0 ∙ seat.0.0, kept.2 ∙ seat.0.1);
        places_of = c.seat.ensures.of;
        own = (
          ap (λ (z : ParticipantView). z.position) claimed,
          let end = c.positions-position-end.ensures in let test = c.loop-position-test.true in omega arith,
        );
        sizes = ap (λ (z : Machine (Job g.row.W.Denot)). z.sizes) machine;
        positions = c.args.self.now.positions;
      };
      rests = (ap (λ z. z.0.claimed) c.seat.ensures.view, ap (λ z. z.1) c.seat.ensures.view);
      idle = ap (λ (z : Machine (Job g.row.W.Denot)). z.stage) machine;
      agrees = record {
        published = λ out.
            let none = ap (λ (z : Machine (Job g.row.W.Denot)). z.guards) machine in
            absurd (omega arith);
        read = λ out. let none = ap (λ (z : Machine (Job g.row.W.Denot)). z.guards) machine in absurd (omega arith);
        unpinned = λ _. ap (λ (z : ParticipantView). z.published) claimed;
      };
    }

-- each position before this one was tried and lost, and this one is won
pub returns-then-claim-eq0-clause-fresh : goal.returns-then-claim-eq0-clause-fresh
returns-then-claim-eq0-clause-fresh g c = record {
  of = refl;
  machine = c.new.ensures;
  tries = let claimed = c.claim.ensures.won c.if-claim-eq0.true in (
    c.loop-position.seat.me.0.looked,
    c.loop-position.seat.me.0.found,
    c.loop-position.invariant.2,
    ap (λ (z : ParticipantView). z.looked) claimed,
    ap (λ (z : ParticipantView). z.found) claimed,
  );
  places = c.seat.ensures.view;
}

-- this position is lost as those before it were
pub loop-position-preserved : goal.loop-position-preserved
loop-position-preserved g c =
    let lost = c.claim.ensures.lost c.if-claim-eq0.false in
    let kept = c.claim.ensures.kept in
    let seat = c.loop-position.invariant in
    let before = c.loop-position.seat.me.0 in
    let more =
    loses_one_more c.loop-position.position before.looked before.found c.claim.result seat.2 c.if-claim-eq0.false in (
      (kept.0 ∙ seat.0.0, kept.2 ∙ seat.0.1),
      ap (λ (z : ParticipantView). z.position) lost ∙ seat.1,
      subst (λ (z : ParticipantView). FindsEachTaken (c.loop-position.position + 1) z.looked z.found) (sym lost) more,
    )
