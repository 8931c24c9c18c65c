-- A call of a structure with no step of others in its midst.
use Rattle.std.specs.Prelude.{◌≡◌, ℕ, List, [], ◌∷◌, ◌⊎◌}
use Rattle.epoch_laws.specs.declared.step.Call.{Call}
use Rattle.epoch_laws.specs.declared.step.Step.TheVariants.{Begin, Go}
use Rattle.epoch_structure_laws.specs.Plans.{PlanEvent, Answered, Makes}

module _ {P A : Type 0} where
  -- the step is p's own, or p's call answers
  abbrev pub IsOwn : ℕ → PlanEvent P A → Type 0
  IsOwn p (Makes x) = (x.step ≡ Go p) ⊎ ((c : Call) × (x.step ≡ Begin p c))
  IsOwn p (Answered q answer) = q ≡ p
  IsOwn p _ = ⊥

  abbrev pub AllOwn : ℕ → List (PlanEvent P A) → Type 0
  AllOwn p [] = Unit {0}
  AllOwn p (event ∷ log) = IsOwn p event × AllOwn p log

  -- nobody answers so
  module _ (Out : A → Type 0) where
    abbrev pub AnswersOut : PlanEvent P A → Type 0
    AnswersOut (Answered p answer) = Out answer
    AnswersOut _ = ⊥

    abbrev pub NeverOut : List (PlanEvent P A) → Type 0
    NeverOut [] = Unit {0}
    NeverOut (event ∷ log) = (¬ (AnswersOut event)) × NeverOut log
