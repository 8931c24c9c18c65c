-- An action that is under way stays so up to its last stage: none that it goes on to is that of rest.
use Rattle.std.proofs.Common.{◌≡◌, ℕ, ◌==◌, Bool, false, List, [], ◌∷◌, length, refl}
use Rattle.epoch_machine.specs.declared.machine.Action.{Action}
use Rattle.epoch_machine.specs.declared.machine.Action.TheVariants.{Pin, Unpin, Repin, Defer, Flush, Release}
use Rattle.epoch_machine.specs.declared.machine.Stage.{Stage}
use Rattle.epoch_machine.specs.declared.machine.Stage.TheVariants.{LoadPin, LoadScan, LoadSeal, Keep, LoadRepin}
use Rattle.epoch_machine.specs.declared.machine.Stage.TheVariants.{StoreUnpinned, End}
use Rattle.epoch_machine.specs.Machine.{Machine, rests, is_empty, after_collect, after_pin, after_put, after_unpin}
use Rattle.epoch_machine.specs.Machine.{after_job, past_word, first_stage}
use Rattle.epoch_machine.proofs.StagesAfter.{either_way, after_pin_at, past_word_at, after_job_at}

abbrev pub IsOn : Stage → Type 0
IsOn s = rests s ≡ false

-- after its collection an action is under way still
pub collect_on : {J : Type 0} (a : Action) (jobs : List J) → rests (after_collect a jobs) ≡ false
collect_on Release [] = refl
collect_on Release (job ∷ jobs) = refl
collect_on _ jobs = refl

-- after its pin an action is under way still
pub pin_on : {J : Type 0} (m : Machine J) → rests (after_pin m) ≡ false
pin_on m = after_pin_at IsOn m refl (collect_on m.action m.held)

-- after its put an action is under way still
pub put_on : (a : Action) (full : Bool) → rests (after_put a full) ≡ false
put_on Defer false = refl
put_on _ full = refl

-- after it has unpinned an action is under way still
pub unpin_on : (a : Action) (full : Bool) → rests (after_unpin a full) ≡ false
unpin_on Release false = refl
unpin_on _ full = refl

-- after a bag was taken, or a job of it called, an action is under way still
pub job_on : {J : Type 0} (m : Machine J) (x k : ℕ) (jobs : List J) → rests (after_job m x k jobs) ≡ false
job_on m x k jobs = after_job_at IsOn m x k jobs refl refl (collect_on m.action m.held)

-- after a word that its scan loaded an action is under way still
pub word_on : (positions e k w : ℕ) → rests (past_word positions e k w) ≡ false
word_on positions e k w = past_word_at IsOn positions e k w refl refl refl

-- an action that begins is under way
pub first_on : {J : Type 0} (a : Action) (m : Machine J) → rests (first_stage a m) ≡ false
first_on Pin m = either_way IsOn (m.guards == 0) LoadPin End refl refl
first_on Unpin m = either_way IsOn (m.guards == 1) StoreUnpinned End refl refl
first_on Repin m = either_way IsOn (m.guards == 1) LoadRepin End refl refl
first_on Defer m = either_way IsOn (length m.held == m.sizes.bag_jobs) LoadSeal Keep refl refl
first_on Flush m = either_way IsOn (is_empty m.held) LoadScan LoadSeal refl refl
first_on Release m = refl
