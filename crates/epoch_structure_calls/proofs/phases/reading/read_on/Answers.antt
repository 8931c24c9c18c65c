use Rattle.std.proofs.Common.{◌∙◌, ◌++◌, ◌<◌, [], ◌∷◌, sym, ap, subst}
use Rattle.epoch_laws.specs.declared.step.Reply.{Reply}
use Rattle.epoch_structure_calls.specs.Paths.{IsTold, ReadsTo, reading_of}
use Rattle.epoch_structure_calls.proofs.PathsGrown.{reads_access, reads_further, reading_goes_on}
use Rattle.epoch_structure_calls.proofs.phases.reading.read_on.Goals as goal

-- each reply comes nearer the answer
pub loop-access-smaller : goal.loop-access-smaller
loop-access-smaller g c =
    let is = sym c.as_reply.ensures in
    let asks = sym (c.in-Some.ensures ∙ ap (λ w. reading_of w) c.wish.ensures) in
    let reads =
    reads_access g.L.Spots.does (g.P.PhaseMachine.deed 0 c.loop-access.phase) c.in-Some.access c.loop-access.spots
    c.touch.new.self c.as_reply.result asks
    (subst (λ (r : Reply). g.L.Spots.does c.loop-access.spots c.in-Some.access r c.touch.new.self) is
    c.touch.ensures.does) (subst (λ (r : Reply). IsTold c.in-Some.access r) is c.touch.ensures.told) in
    let left =
    g.met.E.Ends.lowered 0 c.loop-access.phase c.as_reply.result
    (reading_goes_on g.L.Spots.does (g.P.PhaseMachine.deed 0 c.loop-access.phase) c.loop-access.spots
    c.touch.new.self c.as_reply.result reads) in
    subst (λ f. g.E.Ends.calls_left f < g.E.Ends.calls_left c.loop-access.phase) (sym (c.hear-phase.ensures 0)) left

-- one more access was made
pub loop-access-preserved : goal.loop-access-preserved
loop-access-preserved g c =
    let is = sym c.as_reply.ensures in
    let asks = sym (c.in-Some.ensures ∙ ap (λ w. reading_of w) c.wish.ensures) in
    let reads =
    reads_access g.L.Spots.does (g.P.PhaseMachine.deed 0 c.loop-access.phase) c.in-Some.access c.loop-access.spots
    c.touch.new.self c.as_reply.result asks
    (subst (λ (r : Reply). g.L.Spots.does c.loop-access.spots c.in-Some.access r c.touch.new.self) is
    c.touch.ensures.does) (subst (λ (r : Reply). IsTold c.in-Some.access r) is c.touch.ensures.told) in
    let before = c.loop-access.invariant in
    let replies = before.0 ++ c.as_reply.result ∷ [] in (
      replies,
      subst (λ f. ReadsTo g.L.Spots.does (g.P.PhaseMachine.deed 0) replies c.args.first c.args.spots.now f
          c.touch.new.self) (sym (c.hear-phase.ensures 0))
          (reads_further g.L.Spots.does (g.P.PhaseMachine.deed 0) before.0 c.as_reply.result c.args.first
          c.loop-access.phase c.args.spots.now c.loop-access.spots c.touch.new.self before.1 reads),
    )
