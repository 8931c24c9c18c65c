use Rattle.std.proofs.Common.{◌≡◌, ◌<◌, length}
use Rattle.std.specs.List.{All}
use Rattle.epoch_layouts.proofs.layout.columns.squeezed.Given as goal

abbrev pub invariant-loop-column : goal.invariant-loop-column
invariant-loop-column l =
    (length l.squeezed.items ≡ l.column-index) × All (λ column. column < 100) l.squeezed.items
