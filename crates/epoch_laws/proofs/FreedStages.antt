-- No stage but that after the unpin of a release gives a position up.
use Rattle.std.proofs.Common.{ℕ, ◌==◌, Bool, true, false, List, [], ◌∷◌, length, refl}
use Rattle.epoch_machine.specs.declared.machine.Action.{Action}
use Rattle.epoch_machine.specs.declared.machine.Action.TheVariants.{Pin, Unpin, Repin, Defer, Flush, Release}
use Rattle.epoch_machine.specs.declared.machine.Stage.TheVariants.{LoadPin, LoadScan, LoadSeal, Keep, LoadRepin}
use Rattle.epoch_machine.specs.declared.machine.Stage.TheVariants.{StoreUnpinned, End}
use Rattle.epoch_machine.specs.Machine.{Machine, is_empty, after_collect, after_pin, after_put, after_unpin, after_job}
use Rattle.epoch_machine.specs.Machine.{past_word, first_stage}
use Rattle.epoch_machine.proofs.StagesAfter.{either_way, after_pin_at, past_word_at, after_job_at}
use Rattle.epoch_laws.specs.declared.step.Deferral.{Deferral}
use Rattle.epoch_laws.specs.Readings.{FreesAt}

-- the stage after a collection gives no position up
pub frees_collected : (a b : Action) (jobs : List Deferral) → FreesAt a (after_collect b jobs)
frees_collected a Release [] = tt
frees_collected a Release (job ∷ jobs) = tt
frees_collected a _ jobs = tt

-- the stage after a pin gives no position up
pub frees_pinned : (a : Action) (m : Machine Deferral) → FreesAt a (after_pin m)
frees_pinned a m = after_pin_at (FreesAt a) m tt (frees_collected a m.action m.held)

-- the stage after a put gives no position up
pub frees_put : (a b : Action) (full : Bool) → FreesAt a (after_put b full)
frees_put a Defer false = tt
frees_put a _ _ = tt

-- the stage after an unpin gives a position up only in a release
pub frees_unpinned : (a : Action) (full : Bool) → FreesAt a (after_unpin a full)
frees_unpinned Release false = refl
frees_unpinned Release true = tt
frees_unpinned _ full = tt

-- the stage after the call of a job gives no position up
pub frees_called : (a : Action) (m : Machine Deferral) (x k : ℕ) (jobs : List Deferral)
    → FreesAt a (after_job m x k jobs)
frees_called a m x k jobs = after_job_at (FreesAt a) m x k jobs tt tt (frees_collected a m.action m.held)

-- the stage after a word of a scan gives no position up
pub frees_past : (a : Action) (positions e k w : ℕ) → FreesAt a (past_word positions e k w)
frees_past a positions e k w = past_word_at (FreesAt a) positions e k w tt tt tt

-- the first stage of an action gives no position up
pub frees_first : (a : Action) (m : Machine Deferral) → FreesAt a (first_stage a m)
frees_first Pin m = either_way (FreesAt Pin) (m.guards == 0) LoadPin End tt tt
frees_first Unpin m = either_way (FreesAt Unpin) (m.guards == 1) StoreUnpinned End tt tt
frees_first Repin m = either_way (FreesAt Repin) (m.guards == 1) LoadRepin End tt tt
frees_first Defer m = either_way (FreesAt Defer) (length m.held == m.sizes.bag_jobs) LoadSeal Keep tt tt
frees_first Flush m = either_way (FreesAt Flush) (is_empty m.held) LoadScan LoadSeal tt tt
frees_first Release m = tt
