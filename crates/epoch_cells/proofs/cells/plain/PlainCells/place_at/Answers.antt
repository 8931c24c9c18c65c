use Rattle.std.proofs.Common.{◌≡◌, ◌-◌, ◌<◌, length, slice_get, Some, inl, inr, refl, arith, ap}
use Rattle.epoch_cells.proofs.PlainCellLists.{read_at, writes_nothing, writes_one}
use Rattle.epoch_cells.proofs.cells.plain.PlainCells.place_at.Goals as goal

pub returns-in-Err-clause-err : goal.returns-in-Err-clause-err
returns-in-Err-clause-err g c =
    let within : c.args.slot - 1 < length c.args.self.now = omega arith in
    let at : slice_get c.args.self.now (c.args.slot - 1) ≡ Some c.index_mut.result.now
    = read_at _ _ _ _ c.self.view_is within c.index_mut.ensures.value in
    (rw at c.in-Err.ensures.err.0, writes_nothing _ _ _ _ _ _ c.self.view_is refl at c.in-Err.ensures.err.1)

pub returns-clause-others : goal.returns-clause-others
returns-clause-others g c =
    let within : c.args.slot - 1 < length c.args.self.now = omega arith in
    let at : slice_get c.args.self.now (c.args.slot - 1) ≡ Some c.index_mut.result.now
    = read_at _ _ _ _ c.self.view_is within c.index_mut.ensures.value in
    let after_turn = ap (λ cell. cell.turn) c.in-Ok.ensures.filled.0 in
    rw (c.at.ensures.slot, c.at.ensures.turn) (writes_one _ _ _ _ _ _ _ c.self.view_is refl c.requires.some at
    (inl c.in-Ok.ensures.ok.0) (inr after_turn))
