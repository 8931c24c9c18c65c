use Rattle.std.proofs.Common.{◌∙◌, [], ◌∷◌, ◌++◌, None, refl, sym, ap, subst, ◌<◌, arith}
use Rattle.epoch_structure_calls.specs.Paths.{fault_after, GoesTo}
use Rattle.epoch_structure_calls.proofs.PathsGrown.{goes_further, goes_reading, goes_still, reads_refuse_more}
use Rattle.epoch_structure_calls.proofs.PathsGrown.{newest_after, performing_goes_on, reading_lowers}
use Rattle.epoch_structure_calls.proofs.phases.driver.drive.Goals as goal

-- each reply comes nearer the answer, and reading comes no further from it
pub loop-reply-smaller : goal.loop-reply-smaller
loop-reply-smaller g c =
    let ahead = c.ahead-there.ensures in
    let reading =
    reading_lowers g.L.Spots.does (g.P.PhaseMachine.deed 0) g.C.Ends.calls_left ahead.0 c.loop-reply.phase
    c.ahead-there.result c.loop-reply.spots c.ahead-there.new.spots (g.met.C.Ends.lowered 0) ahead.1 in
    let left =
    g.met.C.Ends.lowered 0 c.ahead-there.result c.in-Ok.reply
    (performing_goes_on g.L.Spots.does g.K.Keeps.keeping (g.P.PhaseMachine.deed 0 c.ahead-there.result)
    c.loop-reply.handle c.perform.new.handle c.ahead-there.new.spots c.perform.new.spots c.in-Ok.reply
    c.in-Ok.ensures.performs) in
    let at_next =
    subst (λ f. g.C.Ends.calls_left f < g.C.Ends.calls_left c.ahead-there.result) (sym (c.hear-phase.ensures 0)) left
    in
    omega (arith, reading, at_next)

-- the call of one phase is made, and the next phase is the program's
pub loop-reply-preserved : goal.loop-reply-preserved
loop-reply-preserved g c =
    let before = c.loop-reply.invariant in
    let ahead = c.ahead-there.ensures in
    let deed = g.P.PhaseMachine.deed 0 in
    let there =
    goes_reading g.L.Spots.does g.K.Keeps.keeping deed before.0.0 ahead.0 c.args.first c.loop-reply.phase
    c.ahead-there.result c.args.handle.now c.loop-reply.handle c.args.spots.now c.loop-reply.spots
    c.ahead-there.new.spots before.0.1 ahead.1 in
    let further =
    goes_further g.L.Spots.does g.K.Keeps.keeping deed (before.0.0 ++ ahead.0) c.in-Ok.reply c.args.first
    c.ahead-there.result c.args.handle.now c.loop-reply.handle c.perform.new.handle c.args.spots.now
    c.ahead-there.new.spots c.perform.new.spots there c.in-Ok.ensures.performs in
    let replies = (before.0.0 ++ ahead.0) ++ c.in-Ok.reply ∷ [] in
    let stays =
    g.K.Keeps.stays_on c.args.handle.now c.loop-reply.handle c.perform.new.handle before.1 c.in-Ok.ensures.stays in (
      (
        replies,
        subst (λ f. GoesTo g.L.Spots.does g.K.Keeps.keeping deed replies c.args.first c.args.handle.now
            c.args.spots.now f c.perform.new.handle c.perform.new.spots) (sym (c.hear-phase.ensures 0)) further,
        c.newest-refused.ensures ∙ ap (λ b. fault_after b c.in-Ok.reply) (before.0.2
            ∙ sym (reads_refuse_more g.L.Spots.does deed before.0.0 ahead.0 c.loop-reply.phase c.ahead-there.result
            c.loop-reply.spots c.ahead-there.new.spots None ahead.1))
            ∙ sym (newest_after None (before.0.0 ++ ahead.0) c.in-Ok.reply),
      ),
      stays,
      g.K.Keeps.serves_on c.loop-reply.handle c.perform.new.handle c.args.guard.now before.2
          c.in-Ok.ensures.stays,
    )

-- the phase answers, to which the path has come
pub returns-in-Err-clause-does : goal.returns-in-Err-clause-does
returns-in-Err-clause-does g c =
    let before = c.loop-reply.invariant in
    let ahead = c.ahead-there.ensures in
    let deed = g.P.PhaseMachine.deed 0 in
    let over = c.in-Err.ensures.over refl in
    let there =
    goes_reading g.L.Spots.does g.K.Keeps.keeping deed before.0.0 ahead.0 c.args.first c.loop-reply.phase
    c.ahead-there.result c.args.handle.now c.loop-reply.handle c.args.spots.now c.loop-reply.spots
    c.ahead-there.new.spots before.0.1 ahead.1 in
    record {
      replies = before.0.0 ++ ahead.0;
      last = c.ahead-there.result;
      goes =
          goes_still g.L.Spots.does g.K.Keeps.keeping deed (before.0.0 ++ ahead.0) c.args.first c.ahead-there.result
          c.args.handle.now c.loop-reply.handle c.perform.new.handle c.args.spots.now c.ahead-there.new.spots
          c.perform.new.spots there over.0 over.1;
      answers = c.in-Err.ensures.answers;
      newest =
          before.0.2 ∙ sym (reads_refuse_more g.L.Spots.does deed before.0.0 ahead.0 c.loop-reply.phase
          c.ahead-there.result c.loop-reply.spots c.ahead-there.new.spots None ahead.1);
    }
