use Rattle.std.proofs.Common.{sym, ap, subst, arith}
use Rattle.epoch_bags.specs.declared.job.Job.{Job}
use Rattle.epoch_tables.specs.SharedSteps.{RestsAt}
use Rattle.epoch_machine.specs.Machine.{Machine}
use Rattle.epoch_handles.proofs.Collecting.{collected}
use Rattle.epoch_handles.proofs.local.Local.collect.Goals as goal

pub take_bags-requires : goal.take_bags-requires
take_bags-requires g c =
    let scans = c.scan-expiry.ensures.scans in (
      omega arith,
      (
        scans.seated,
        (
          subst (λ z. RestsAt z.me) (sym scans.claimer) c.requires.rests,
          (ap (λ (z : Machine (Job g.row.W.Denot)). z.stage) scans.machine, c.scan-expiry.ensures.within),
        ),
      ),
    )

pub returns : goal.returns
returns g c = collected _ _ c.args.self.now c.scan-expiry.new.self c.take_bags.new.self c.scan-expiry.result
    c.scan-expiry.ensures.scans c.take_bags.ensures
