use Rattle.std.proofs.Common.{◌<◌, length, slice_get, refl, subst, arith}
use Rattle.std.proofs.lemmas.Bool.Decides.{nat_tests}
use Rattle.epoch_laws.specs.Heap.{Heap, touched, Places}
use Rattle.epoch_laws.proofs.HeapCalls.{placed_at, not_placed_at}
use Rattle.epoch_laws.proofs.heap.heap.Heap.place.Goals.{in-Ok, in-Err}
use Rattle.epoch_laws.proofs.heap.heap.Heap.place.Goals as goal

pub returns-clause-step : goal.returns-clause-step
returns-clause-step c =
    let h : Heap =
    record {
      roots = c.self.inside.roots.items;
      cells = c.self.inside.cells;
      fields = c.self.inside.fields;
      align = c.self.inside.align;
      start_turn = c.self.inside.start_turn;
    } in
    let within : c.args.made < length h.cells =
    grind (arith, nat_tests, c.if-made-capacity.false, c.capacity.ensures.value) in
    subst (λ (s : Heap). Places c.args.value c.args.made c.args.found s (slice_get s.cells c.args.made)
    (touched c.match-place_at.result (record h { cells = c.place_at.new.self }))) c.self.view_is
    (elim c.match-place_at.branch [
      | in-Ok w ↦ rw w.result-is (placed_at c.args.value c.args.made _ c.args.found h w.in-Ok.name _ _ refl within
          w.in-Ok.ensures.turn.0 w.in-Ok.ensures.ok w.in-Ok.ensures.turn.1 refl w.in-Ok.ensures.placed)
      | in-Err w ↦ rw w.result-is (not_placed_at c.args.value c.args.made _ c.args.found h _ refl within
          w.in-Err.ensures.err.0 w.in-Err.ensures.err.1)
    ])
