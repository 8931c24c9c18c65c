use Rattle.std.proofs.Common.{inr, ap, ◌∙◌}
use Rattle.epoch_cells.proofs.PlainCellLists.{Found, found, found_value, writes_one}
use Rattle.epoch_cells.proofs.cells.plain.PlainCells.amend.Goals as goal

pub returns-in-Some-clause-others : goal.returns-in-Some-clause-others
returns-in-Some-clause-others g c =
    let it : Found c.args.self.now c.args.name.slot c.args.name.turn c.index_mut.result.now
    = found _ _ _ _ _ _ c.self.view_is c.in-Some.ensures.some c.index_mut.ensures.value in
    let same_turn = ap (λ cell. cell.turn) c.amend.ensures ∙ it.turn_is in
    writes_one _ _ _ _ _ _ _ c.self.view_is c.in-Some.ensures.some.0 c.args.name.some it.at
    (inr it.turn_is) (inr same_turn)

pub amend-requires : goal.amend-requires
amend-requires g c =
    let it : Found c.args.self.now c.args.name.slot c.args.name.turn c.index_mut.result.now
    = found _ _ _ _ _ _ c.self.view_is c.in-Some.ensures.some c.index_mut.ensures.value in
    found_value it
