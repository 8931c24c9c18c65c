use Rattle.std.proofs.Common.{◌≡◌, ◌∙◌, ap, arith}
use Rattle.epoch_bags.specs.declared.job.Job.{Job}
use Rattle.epoch_machine.specs.declared.machine.Action.{Action}
use Rattle.epoch_machine.specs.Machine.{Machine, guards_after}
use Rattle.epoch_handles.proofs.Releasing.{stayed, told_last}
use Rattle.epoch_handles.proofs.local.Local.stay.Goals as goal

-- the machine has nothing left to ask
pub end-requires : goal.end-requires
end-requires g c =
    let h = c.args.self.now in let m = c.take.new.self in
    let over = told_last h c.store_unpinned.new.self m c.requires.begins c.requires.action c.requires.full
    c.store_unpinned.ensures.machine c.take.ensures in
    let counts : guards_after m.action m.guards ≡ 0 =
    ap (λ (z : Machine (Job g.row.W.Denot)). guards_after z.action z.guards) over
    ∙ ap (λ (a : Action). guards_after a h.machine.guards) c.requires.action ∙ c.requires.none in
    (omega arith, (ap (λ (z : Machine (Job g.row.W.Denot)). z.stage) over, omega arith))

pub returns : goal.returns
returns g c = stayed _ _ c.args.self.now c.store_unpinned.new.self c.take.new.self c.end.new.self
    c.requires.rests c.requires.begins c.requires.action c.requires.full c.requires.held c.requires.none
    c.store_unpinned.ensures c.take.ensures c.end.ensures
