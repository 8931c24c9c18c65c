use Rattle.std.proofs.Common.{None, ap, sym, subst, ◌∙◌}
use Rattle.epoch_laws.specs.declared.heap.access.Access.TheVariants.{Point}
use Rattle.epoch_laws.specs.declared.heap.access.AccessAnswer.TheVariants.{Exchanged}
use Rattle.epoch_laws.specs.declared.heap.access.Change.{Change}
use Rattle.epoch_laws.specs.declared.heap.access.Ptr.{Ptr}
use Rattle.epoch_laws.specs.Heap.{AccessFits, Heap, answers, pointer_at, replaced}
use Rattle.epoch_laws.proofs.HeapCalls.{exchanged}
use Rattle.epoch_laws.proofs.heap.heap.Heap.point.Goals as goal

pub update-requires : goal.update-requires
update-requires c = subst (λ (change : Change). AccessFits (Point None c.args.spot change) c.args.made)
    c.in-FetchUpdate.is (c.requires None)

pub returns-else-not-is_same-clause-step : goal.returns-else-not-is_same-clause-step
returns-else-not-is_same-clause-step c =
    exchanged c.args.change c.in-CompareExchange.current c.in-CompareExchange.other c.args.made c.args.found
    c.in-Some.ptr c.args.spot c.args.self.now
    (pointer_at c.args.self.now c.args.spot) _ c.in-CompareExchange.is (sym c.load.ensures ∙ c.in-Some.is)
    (c.is_same.ensures.same c.if-not-is_same.false ∙ c.aligned-in-CompareExchange.ensures)
    (ap (λ (h : Heap). answers (Exchanged c.aligned-written.result) h) c.store-in-CompareExchange.ensures
    ∙ ap (λ (ptr : Ptr). replaced c.args.self.now c.args.spot ptr (Exchanged ptr)) c.aligned-written.ensures)
