use Rattle.std.proofs.Common.{◌≡◌, sym, subst, IsErr}
use Rattle.epoch_structure_laws.specs.declared.map.plan.MapWork.TheVariants.{Get}
use Rattle.epoch_structure_calls.proofs.MapFitting.{call_suits}
use Rattle.epoch_structure_calls.proofs.MapTelling.{get_needs_moves}
use Rattle.epoch_structure_calls.proofs.map.calls.get_over.Goals as goal

pub returns-clause-no_moves : goal.returns-clause-no_moves
returns-clause-no_moves g c =
    let outcome = c.work_over-outcome in
    let may =
    call_suits g.L.Spots.does g.K.Keeps.keeping (Get c.args.bucket 1 c.args.moves) outcome.result.answer
    outcome.result.refused c.args.handle.now outcome.new.handle c.args.spots.now outcome.new.spots
    outcome.ensures.does in
    subst (λ r. c.args.moves ≡ 0 → IsErr r) (sym c.get_tells.ensures)
    (get_needs_moves c.args.bucket 1 c.args.moves outcome.result.answer outcome.result.refused may)
