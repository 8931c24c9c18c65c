use Rattle.std.proofs.Common.{◌∙◌, ap, sym}
use Rattle.epoch_handles.specs.declared.collector.Collector.{Collector}
use Rattle.epoch_handles.proofs.structures.serving.serves.Goals as goal

-- the handle's collector has this number, and whether the guard is one of the handle is told
pub returns-then-id-clause-value : goal.returns-then-id-clause-value
returns-then-id-clause-value g c = (
  λ yes. record {
    collector =
        sym (ap (λ (z : Collector g.row.T.Denot g.row.W.Denot). z.id) c.collector.ensures.value)
        ∙ sym c.id.ensures ∙ c.if-id.true;
    owns = c.owns.ensures.value.0 yes;
  },
  λ serves. c.owns.ensures.value.1 serves.owns,
)
