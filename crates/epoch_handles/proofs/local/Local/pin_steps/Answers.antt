use Rattle.epoch_handles.proofs.FirstPins.{load_and_publish}
use Rattle.epoch_handles.proofs.local.Local.pin_steps.Goals as goal

pub returns-clause-steps : goal.returns-clause-steps
returns-clause-steps g c =
    load_and_publish c.args.self.now c.load_epoch-epoch.new.self c.publish_steps.new.self c.load_epoch-epoch.result
    c.load_epoch-epoch.ensures.rises c.load_epoch-epoch.ensures.steps c.publish_steps.ensures
