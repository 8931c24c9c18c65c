-- How far a call goes on by accesses alone, none of which is refused.
use Rattle.std.specs.Prelude.{◌≡◌, List, [], ◌∷◌}
use Rattle.epoch_laws.specs.declared.heap.access.Access.{Access}
use Rattle.epoch_laws.specs.declared.heap.access.AccessAnswer.{AccessAnswer}
use Rattle.epoch_laws.specs.declared.step.Reply.{Reply}
use Rattle.epoch_laws.specs.declared.step.Reply.TheVariants.{Done}
use Rattle.epoch_structure_laws.specs.Plans.{Deed, Touches, after_by}

-- The access that this deed asks for was made, and got this answer.
abbrev pub TouchesBy : {P A L : Type 0} → (L → Access → Reply → L → Type 0) → Deed P A → L → AccessAnswer → L → Type 0
TouchesBy does (Touches access told refused) links answer links' = does links access (Done answer) links'
TouchesBy does deed links answer links' = ⊥

-- From this phase a call comes to that one by accesses alone: each phase asks for one, which gets the next of these
-- answers, and the phase that follows is the program's.
abbrev pub TouchesTo : {P A L : Type 0} → (L → Access → Reply → L → Type 0) → (P → Deed P A) → List AccessAnswer
    → P → L → P → L → Type 0
TouchesTo does deed [] phase links phase' links' = (phase' ≡ phase) × (links' ≡ links)
TouchesTo {P} {A} {L} does deed (answer ∷ answers) phase links phase' links' =
    (between : L) × TouchesBy does (deed phase) links answer between
    × TouchesTo does deed answers (after_by phase (deed phase) (Done answer)) between phase' links'

-- some path on which a call only makes accesses
abbrev pub TouchesOn : {P A L : Type 0} → (L → Access → Reply → L → Type 0) → (P → Deed P A) → P → L → P → L → Type 0
TouchesOn does deed phase links phase' links' =
    (answers : List AccessAnswer) × TouchesTo does deed answers phase links phase' links'
