use Rattle.std.proofs.Common.{inr, ap, ◌∙◌}
use Rattle.epoch_cells.proofs.PlainCellLists.{Found, found, writes_nothing, writes_one}
use Rattle.epoch_cells.proofs.cells.plain.PlainCells.leave.Goals as goal

pub returns-in-Some-clause-stays : goal.returns-in-Some-clause-stays
returns-in-Some-clause-stays g c = λ no.
    let it : Found c.args.self.now c.args.name.slot c.args.name.turn c.index_mut.result.now
    = found _ _ _ _ _ _ c.self.view_is c.in-Some.ensures.some c.index_mut.ensures.value in
    writes_nothing _ _ _ _ _ _ c.self.view_is c.in-Some.ensures.some.0 it.at (c.leave.ensures.stays no)

pub returns-in-Some-clause-others : goal.returns-in-Some-clause-others
returns-in-Some-clause-others g c =
    let it : Found c.args.self.now c.args.name.slot c.args.name.turn c.index_mut.result.now
    = found _ _ _ _ _ _ c.self.view_is c.in-Some.ensures.some c.index_mut.ensures.value in
    let same_turn = ap (λ cell. cell.turn) c.leave.ensures.lowered ∙ it.turn_is in
    writes_one _ _ _ _ _ _ _ c.self.view_is c.in-Some.ensures.some.0 c.args.name.some it.at
    (inr it.turn_is) (inr same_turn)
