-- What the call of a job answers, and that it was made.
use Rattle.std.specs.Prelude.{◌≡◌, ◌≢◌}
use Rattle.epoch_cells.specs.declared.cells.name.Name.{Name}
use Rattle.epoch_bags.specs.declared.job.Job.{Job}
use Rattle.epoch_bags.specs.declared.job.Job.TheVariants.{Remove, Call}
use Rattle.epoch_bags.specs.declared.job.Called.{Called}
use Rattle.epoch_bags.specs.declared.job.Called.TheVariants.{Ran}

-- `Ran` is said of a caller's job, and of that alone
abbrev pub AnswersJob : {W : Type 0} → Job W → Called → Type 0
AnswersJob (Call work) called = called ≡ Ran
AnswersJob (Remove name) called = called ≢ Ran

-- The job was called: its work was called, for which `done` stands, or its removal was tried, for which `tried` stands.
-- What came of a removal is told by the answer.
abbrev pub IsCalled : {W : Type 0} → (W → Type 0) → (Name → Type 0) → Job W → Type 0
IsCalled done tried (Call work) = done work
IsCalled done tried (Remove name) = tried name
