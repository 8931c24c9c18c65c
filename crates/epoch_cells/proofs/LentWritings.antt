-- A claim to write a cell is told by its claim, what it holds and its name.
use Rattle.std.proofs.Common.{◌≡◌, ap, ◌∙◌}
use Rattle.std.specs.Coded.{Coded-set, coded_ℕ}
use Rattle.epoch_cells.specs.contracts.cells.name.Name.{the_row}
use Rattle.epoch_cells.specs.declared.cells.held.Writing.{Writing}
use Rattle.epoch_cells.specs.LentCells.{with_held, with_written}

-- whatever shows the right and the names of the claim that is left, it is the same one
pub same_written : {T : Type 0} (writing : Writing T) (value : T)
    → (writes : writing.claim.right ≡ 2)
    → (same : (with_held writing.held value).name ≡ writing.name)
    → (fit : writing.name.slot ≡ writing.claim.tag)
    → record {
      claim = writing.claim;
      held = with_held writing.held value;
      name = writing.name;
      writes = writes;
      named = same;
      fits = fit;
    } ≡ with_written writing value
same_written writing value writes same fit =
    ap (λ w. record {
      claim = writing.claim;
      held = with_held writing.held value;
      name = writing.name;
      writes = w;
      named = same;
      fits = fit;
    }) (Coded-set coded_ℕ writing.claim.right 2 writes writing.writes)
    ∙ ap (λ n. record {
      claim = writing.claim;
      held = with_held writing.held value;
      name = writing.name;
      writes = writing.writes;
      named = n;
      fits = fit;
    }) (Coded-set the_row.coded writing.held.name writing.name same writing.named)
    ∙ ap (λ f. record {
      claim = writing.claim;
      held = with_held writing.held value;
      name = writing.name;
      writes = writing.writes;
      named = writing.named;
      fits = f;
    }) (Coded-set coded_ℕ writing.name.slot writing.claim.tag fit writing.fits)
