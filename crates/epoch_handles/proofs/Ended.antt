-- What an action that has ended gave: jobs that are such are also as is asked elsewhere.
use Rattle.epoch_bags.specs.declared.job.Job.{Job}
use Rattle.epoch_handles.specs.declared.local.Local.{Local}
use Rattle.epoch_handles.specs.Drives.{NoJob, AnyJob}
use Rattle.epoch_handles.specs.Handles.{EndsGiving, sight_of}
use Rattle.epoch_handles.proofs.Driving.{drives_also}

module _ {T W : Type 0} where
  -- jobs that are such are so as well, where the one follows from the other
  ends_also : (IsSuch IsSo : Job W → Type 0) → ((job : Job W) → IsSuch job → IsSo job)
      → (h n : Local T W) → EndsGiving IsSuch h n → EndsGiving IsSo h n
  ends_also IsSuch IsSo also h n ends = record {
    last = ends.last;
    over = ends.over;
    machine = ends.machine;
    drives = drives_also IsSuch IsSo also h.collector.now.places.capacity h.machine ends.last (sight_of h)
        (sight_of n) ends.drives;
  }

  -- whichever jobs it gave
  pub ends_with_any : (IsSuch : Job W → Type 0) (h n : Local T W) → EndsGiving IsSuch h n → EndsGiving AnyJob h n
  ends_with_any IsSuch h n ends = ends_also IsSuch AnyJob (λ job such. tt) h n ends

  -- it gave none, so that each is such
  pub ends_with_none : (IsSuch : Job W → Type 0) (h n : Local T W) → EndsGiving NoJob h n → EndsGiving IsSuch h n
  ends_with_none IsSuch h n ends = ends_also NoJob IsSuch (λ job none. absurd none) h n ends
