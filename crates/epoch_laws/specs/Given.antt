-- What is said of whole runs: no name is given twice.
use Rattle.std.specs.Prelude.{◌≡◌, ℕ, List, [], ◌∷◌, ◌⊎◌}
use Rattle.epoch_cells.specs.declared.cells.name.Name.{Name}
use Rattle.epoch_laws.specs.declared.heap.access.Access.TheVariants.{Place}
use Rattle.epoch_laws.specs.declared.heap.access.AccessAnswer.TheVariants.{Name as NameAnswer}
use Rattle.epoch_laws.specs.declared.step.Entry.{Entry}
use Rattle.epoch_laws.specs.declared.step.Progress.TheVariants.{Accesses, Ends}
use Rattle.epoch_laws.specs.declared.heap.access.Ptr.{Ptr}
use Rattle.epoch_laws.specs.declared.step.Reply.TheVariants.{Done}
use Rattle.epoch_laws.specs.declared.step.Step.TheVariants.{Go}
use Rattle.epoch_laws.specs.Run.{State, seat_of, Runs}

-- a step of a Place gives this name, which its call answers at its end
pub record GivesName (s : State) (entry : Entry) (new : State) (x : Name) : Type 0 where
  pub who : ℕ
  pub step : entry.step ≡ Go who
  pub value : ℕ
  pub steps : ℕ
  pub found : Ptr
  pub progress : (seat_of s who).progress ≡ Accesses (Place value) steps found
  pub answer : (seat_of new who).progress ≡ Ends (Done (NameAnswer x))

-- which names were given, after one more step
abbrev pub given_after : (Name → Type 0) → State → Entry → State → Name → Type 0
given_after given s entry new x = given x ⊎ GivesName s entry new x

-- no step gives a name that was given before
abbrev pub GivesNewFrom : (Name → Type 0) → (s : State) (log : List Entry) (new : State) → Runs s log new → Type 0
GivesNewFrom given s [] new run = Unit {0}
GivesNewFrom given s (entry ∷ log) new (mid, did, run) =
    ((x : Name) → GivesName s entry mid x → ¬ (given x)) × GivesNewFrom (given_after given s entry mid) mid log new run

abbrev pub GivesNoNameTwice : (s : State) (log : List Entry) (new : State) → Runs s log new → Type 0
GivesNoNameTwice s log new run = GivesNewFrom (λ x. ⊥) s log new run
