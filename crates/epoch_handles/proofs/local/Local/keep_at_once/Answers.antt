use Rattle.std.proofs.Common.{◌≡◌, refl, ap}
use Rattle.epoch_bags.specs.declared.job.Job.{Job}
use Rattle.epoch_machine.specs.declared.machine.Action.TheVariants.{Defer}
use Rattle.epoch_machine.specs.declared.machine.Answer.TheVariants.{Job as Deferred}
use Rattle.epoch_machine.specs.Machine.{Machine, begun, heard, ended}
use Rattle.epoch_handles.specs.Drives.{AnyJob}
use Rattle.epoch_handles.specs.Handles.{sight_of}
use Rattle.epoch_handles.proofs.Driving.{drives_of}
use Rattle.epoch_handles.proofs.Deferring.{keep_begins, job_kept, kept_at_once, keep_performed, ready_still, with_kept}
use Rattle.epoch_handles.proofs.local.Local.keep_at_once.Goals as goal

-- the action ends after the one answer
pub returns-clause-does : goal.returns-clause-does
returns-clause-does g c =
    let h = c.args.self.now in
    let m = h.machine in
    let b = begun Defer m in
    let n = heard b (Deferred c.args.job) in
    record {
      last = n;
      over = ap (λ (z : Machine (Job g.row.W.Denot)). z.stage) (job_kept m b n c.args.job c.requires.room refl refl);
      machine = c.keep_with_room.ensures;
      drives = drives_of AnyJob h.collector.now.places.capacity _ _ _ _
          (keep_performed h.collector.now.places.capacity b (sight_of h) c.args.job (keep_begins m c.requires.room));
    }

pub returns-clause-counted : goal.returns-clause-counted
returns-clause-counted g c =
    ap (λ (z : Machine (Job g.row.W.Denot)). z.guards)
    (kept_at_once c.args.self.now.machine c.keep_with_room.new.self c.args.job c.requires.room c.keep_with_room.ensures)

pub returns-clause-kept : goal.returns-clause-kept
returns-clause-kept g c =
    ap (λ (z : Machine (Job g.row.W.Denot)). z.held)
    (kept_at_once c.args.self.now.machine c.keep_with_room.new.self c.args.job c.requires.room c.keep_with_room.ensures)

pub returns-clause-found : goal.returns-clause-found
returns-clause-found g c =
    ap (λ (z : Machine (Job g.row.W.Denot)). z.full)
    (kept_at_once c.args.self.now.machine c.keep_with_room.new.self c.args.job c.requires.room c.keep_with_room.ensures)

pub returns-clause-ready : goal.returns-clause-ready
returns-clause-ready g c =
    let h = c.args.self.now in let n = c.keep_with_room.new.self in let ready = c.requires.ready in
    let is : n ≡ ended (with_kept h.machine h.machine.held c.args.job) =
    kept_at_once h.machine n c.args.job c.requires.room c.keep_with_room.ensures in
    ready_still h h n ready c.requires.out ready.seated ready.rests refl refl
    (ap (λ (z : Machine (Job g.row.W.Denot)). z.sizes) is)
    (ap (λ (z : Machine (Job g.row.W.Denot)). z.stage) is)
    (ap (λ (z : Machine (Job g.row.W.Denot)). z.guards) is)
    (ap (λ (z : Machine (Job g.row.W.Denot)). z.published) is)
