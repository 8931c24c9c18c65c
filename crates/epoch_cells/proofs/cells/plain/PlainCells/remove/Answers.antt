use Rattle.std.proofs.Common.{◌+◌, inr, ap, sym, ◌∙◌}
use Rattle.epoch_cells.specs.PlainCells.{empty, removal_of}
use Rattle.epoch_cells.proofs.PlainCellLists.{Found, found, found_value, at_most, writes_cell, writes_nothing}
use Rattle.epoch_cells.proofs.PlainCellLists.{writes_one}
use Rattle.epoch_cells.proofs.cells.plain.PlainCells.remove.Goals as goal

pub returns-in-Some-clause-removal : goal.returns-in-Some-clause-removal
returns-in-Some-clause-removal g c =
    let it : Found c.args.self.now c.args.name.slot c.args.name.turn c.index_mut.result.now
    = found _ _ _ _ _ _ c.self.view_is c.in-Some.ensures.some c.index_mut.ensures.value in
    c.remove.ensures.removal ∙ sym (ap removal_of it.is_cell)

pub returns-in-Some-clause-destroyed : goal.returns-in-Some-clause-destroyed
returns-in-Some-clause-destroyed g c = λ destroyed.
    let it : Found c.args.self.now c.args.name.slot c.args.name.turn c.index_mut.result.now
    = found _ _ _ _ _ _ c.self.view_is c.in-Some.ensures.some c.index_mut.ensures.value in
    writes_cell _ _ _ _ _ _ c.self.view_is c.in-Some.ensures.some.0
    (c.remove.ensures.destroyed destroyed ∙ ap (λ turn. empty (turn + 1)) it.turn_is)

pub returns-in-Some-clause-stays : goal.returns-in-Some-clause-stays
returns-in-Some-clause-stays g c = λ held.
    let it : Found c.args.self.now c.args.name.slot c.args.name.turn c.index_mut.result.now
    = found _ _ _ _ _ _ c.self.view_is c.in-Some.ensures.some c.index_mut.ensures.value in
    writes_nothing _ _ _ _ _ _ c.self.view_is c.in-Some.ensures.some.0 it.at (c.remove.ensures.stays held)

pub returns-in-Some-clause-others : goal.returns-in-Some-clause-others
returns-in-Some-clause-others g c =
    let it : Found c.args.self.now c.args.name.slot c.args.name.turn c.index_mut.result.now
    = found _ _ _ _ _ _ c.self.view_is c.in-Some.ensures.some c.index_mut.ensures.value in
    writes_one _ _ _ _ _ _ _ c.self.view_is c.in-Some.ensures.some.0 c.args.name.some it.at (inr it.turn_is)
    (at_most _ c.index_mut.result.now c.remove.new.self it.turn_is c.remove.ensures.at_most)

pub remove-requires : goal.remove-requires
remove-requires g c =
    let it : Found c.args.self.now c.args.name.slot c.args.name.turn c.index_mut.result.now
    = found _ _ _ _ _ _ c.self.view_is c.in-Some.ensures.some c.index_mut.ensures.value in
    found_value it
