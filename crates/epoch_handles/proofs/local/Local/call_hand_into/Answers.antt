use Rattle.std.proofs.Common.{refl, sym, ap, subst}
use Rattle.epoch_handles.specs.declared.local.Local.{Local}
use Rattle.epoch_handles.specs.Handles.{CallsHand}
use Rattle.epoch_handles.proofs.Collecting.{HasCalled, one_more_called, all_called}
use Rattle.epoch_handles.proofs.local.Local.call_hand_into.Goals as goal

pub loop-preserved : goal.loop-preserved
loop-preserved g c =
    let h = c.args.self.now in let inv = c.loop.invariant in let did = c.loop-test.ensures.called refl in
    let only = ap (λ (z : Local g.row.T.Denot g.row.W.Denot). record z { machine = c.call_next.new.machine })
    inv.only in
    record {
      only = only;
      called = λ x k at. subst (λ z. HasCalled g.W.Run.done g.W.Removing.Remove.tried h x k z) (sym only)
          (one_more_called _ _ h c.loop.self x k did.0 c.call_next.new.machine
          (inv.called x k at) did.2 c.call_next.ensures.after did.1);
    }

pub returns-clause-calls : goal.returns-clause-calls
returns-clause-calls g c = λ x k at.
    let h = c.args.self.now in let inv = c.loop.invariant in
    let only = ap (λ (z : Local g.row.T.Denot g.row.W.Denot). record z { machine = c.call_next.new.machine })
    inv.only in
    subst (λ z. CallsHand g.W.Run.done g.W.Removing.Remove.tried h x k z) (sym only)
    (all_called _ _ h c.loop.self x k c.call_next.new.machine (inv.called x k at)
    (c.loop-test.ensures.none refl) c.call_next.ensures.after)
