use Rattle.std.proofs.Common.{◌+◌, inr, ap, sym, ◌∙◌}
use Rattle.epoch_cells.specs.PlainCells.{empty, unread}
use Rattle.epoch_cells.proofs.PlainCellLists.{Found, found, on_some, vacated, writes_cell, writes_nothing, writes_one}
use Rattle.epoch_cells.proofs.cells.plain.PlainCells.take.Goals as goal

pub returns-clause-value : goal.returns-clause-value
returns-clause-value g c =
    let it : Found c.args.self.now c.args.name.slot c.args.name.turn c.index_mut.result.now
    = found _ _ _ _ _ _ c.self.view_is c.in_ok-index.ensures.some c.index_mut.ensures.value in
    c.vacate.ensures.value ∙ sym (ap unread it.is_cell)

pub returns-clause-some : goal.returns-clause-some
returns-clause-some g c =
    let it : Found c.args.self.now c.args.name.slot c.args.name.turn c.index_mut.result.now
    = found _ _ _ _ _ _ c.self.view_is c.in_ok-index.ensures.some c.index_mut.ensures.value in
    on_some c.vacate.result
    (λ value emptied. writes_cell _ _ _ _ _ _ c.self.view_is c.in_ok-index.ensures.some.0
    (emptied ∙ ap (λ turn. empty (turn + 1)) it.turn_is))
    c.vacate.ensures.some

pub returns-clause-none : goal.returns-clause-none
returns-clause-none g c = λ none.
    let it : Found c.args.self.now c.args.name.slot c.args.name.turn c.index_mut.result.now
    = found _ _ _ _ _ _ c.self.view_is c.in_ok-index.ensures.some c.index_mut.ensures.value in
    writes_nothing _ _ _ _ _ _ c.self.view_is c.in_ok-index.ensures.some.0 it.at (c.vacate.ensures.none none)

pub returns-clause-others : goal.returns-clause-others
returns-clause-others g c =
    let it : Found c.args.self.now c.args.name.slot c.args.name.turn c.index_mut.result.now
    = found _ _ _ _ _ _ c.self.view_is c.in_ok-index.ensures.some c.index_mut.ensures.value in
    writes_one _ _ _ _ _ _ _ c.self.view_is c.in_ok-index.ensures.some.0 c.args.name.some it.at (inr it.turn_is)
    (vacated c.vacate.result _ _ _ it.turn_is c.vacate.ensures.some c.vacate.ensures.none)
