use Rattle.std.proofs.Common.{◌≡◌, ap, inr, ◌∙◌}
use Rattle.epoch_cells.specs.PlainCells.{filled, unread}
use Rattle.epoch_cells.proofs.PlainCellLists.{Found, found, on_err, on_ok, writes_cell, writes_nothing, writes_one}
use Rattle.epoch_cells.proofs.cells.plain.PlainCells.write.Goals as goal

pub returns-clause-err : goal.returns-clause-err
returns-clause-err g c =
    let it : Found c.args.self.now c.args.name.slot c.args.name.turn c.index_mut.result.now
    = found _ _ _ _ _ _ c.self.view_is c.in-Some.ensures.some c.index_mut.ensures.value in
    on_err c.replace.result
    (λ (read, same).
    (rw it.is_cell read, writes_nothing _ _ _ _ _ _ c.self.view_is c.in-Some.ensures.some.0 it.at same))
    c.replace.ensures.err

pub returns-clause-others : goal.returns-clause-others
returns-clause-others g c =
    let it : Found c.args.self.now c.args.name.slot c.args.name.turn c.index_mut.result.now
    = found _ _ _ _ _ _ c.self.view_is c.in-Some.ensures.some c.index_mut.ensures.value in
    let same_turn : c.replace.new.self.turn ≡ c.args.name.turn = c.replace.ensures.turn ∙ it.turn_is in
    writes_one _ _ _ _ _ _ _ c.self.view_is c.in-Some.ensures.some.0 c.args.name.some it.at
    (inr it.turn_is) (inr same_turn)

pub returns-clause-ok : goal.returns-clause-ok
returns-clause-ok g c =
    let it : Found c.args.self.now c.args.name.slot c.args.name.turn c.index_mut.result.now
    = found _ _ _ _ _ _ c.self.view_is c.in-Some.ensures.some c.index_mut.ensures.value in
    on_ok c.replace.result (λ before was. ap unread it.is_cell ∙ was) c.replace.ensures.ok

pub returns-clause-written : goal.returns-clause-written
returns-clause-written g c =
    let it : Found c.args.self.now c.args.name.slot c.args.name.turn c.index_mut.result.now
    = found _ _ _ _ _ _ c.self.view_is c.in-Some.ensures.some c.index_mut.ensures.value in
    on_ok c.replace.result
    (λ before written. writes_cell _ _ _ _ _ _ c.self.view_is c.in-Some.ensures.some.0
    (written ∙ ap (λ turn. filled turn 0 c.args.value) it.turn_is))
    c.replace.ensures.written
