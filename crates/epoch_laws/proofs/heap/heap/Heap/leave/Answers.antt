use Rattle.std.proofs.Common.{◌≡◌, Option, ap, sym, subst, ◌∙◌}
use Rattle.epoch_cells.specs.declared.cells.name.Name.{Name}
use Rattle.epoch_laws.specs.declared.heap.access.AccessAnswer.TheVariants.{Unit as UnitAnswer}
use Rattle.epoch_laws.specs.Heap.{Heap, answers, at_name, cell_at, left_by}
use Rattle.epoch_laws.proofs.HeapCalls.{left_so}
use Rattle.epoch_laws.proofs.heap.heap.Heap.leave.Goals as goal

pub returns : goal.returns
returns c =
    let h : Heap =
    record {
      roots = c.self.inside.roots.items;
      cells = c.self.inside.cells;
      fields = c.self.inside.fields;
      align = c.self.inside.align;
      start_turn = c.self.inside.start_turn;
    } in
    let did : answers UnitAnswer (record h { cells = c.leave.new.self }) ≡ left_by h c.in-Some.name
    (cell_at h c.in-Some.name) =
    left_so h c.in-Some.name c.leave.result c.leave.new.self c.leave.ensures.left c.leave.ensures.lowered
    c.leave.ensures.stays in
    subst (λ (s : Heap). answers UnitAnswer (record h { cells = c.leave.new.self }) ≡ left_by s c.in-Some.name
    (cell_at s c.in-Some.name)) c.self.view_is did
    ∙ ap (λ (o : Option Name). at_name (λ n. left_by c.args.self.now n (cell_at c.args.self.now n)) c.args.self.now o)
    (sym c.in-Some.is)
