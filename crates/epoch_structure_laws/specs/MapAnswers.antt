-- What a call of the map has found that answers `NotFound`.
use Rattle.std.specs.Prelude.{◌≡◌, ℕ, Bool, List, [], ◌∷◌, Option, Some, None, ◌⊎◌}
use Rattle.epoch_laws.specs.declared.step.Entry.{Entry}
use Rattle.epoch_laws.specs.Run.{State}
use Rattle.epoch_structure_laws.specs.Plans.{AllPlans, PlanEvent, Asked, Answered, made_at, WorldThen}
use Rattle.epoch_structure_laws.specs.Served.{ThenAlso}
use Rattle.epoch_structure_laws.specs.declared.map.plan.MapAnswer.{MapAnswer}
use Rattle.epoch_structure_laws.specs.declared.map.plan.MapAnswer.TheVariants.{NotFound}
use Rattle.epoch_structure_laws.specs.declared.map.plan.MapPhase.{MapPhase}
use Rattle.epoch_structure_laws.specs.declared.map.plan.MapWork.{MapWork}
use Rattle.epoch_structure_laws.specs.declared.map.plan.MapWork.TheVariants.{Insert, Remove, Get}
use Rattle.epoch_structure_laws.specs.MapProgram.{node_key, begin_map_work, map, MapLog, MapRuns}
use Rattle.epoch_structure_laws.specs.MapEntries.{FindsNoEntry}

-- the bucket and the key that a call was asked for
abbrev pub bucket_asked : MapWork → ℕ
bucket_asked (Insert b e k) = b
bucket_asked (Remove b key k) = b
bucket_asked (Get b key k) = b

abbrev pub key_asked : MapWork → ℕ
key_asked (Insert b e k) = node_key e
key_asked (Remove b key k) = key
key_asked (Get b key k) = key

-- p finds no entry of this key in bucket i at the step that is made, if one is
abbrev pub FindsNoneNow : (p i key : ℕ) (plans : AllPlans MapPhase) (made : Option Entry) (world : State)
    (P : State → Type 0) → WorldThen made world P → Type 0
FindsNoneNow p i key plans None world P goes = ⊥
FindsNoneNow p i key plans (Some x) world P goes =
    (finds : FindsNoEntry world plans x goes.0 i key) × (finds.participant ≡ p)

-- at this event p's call answers `NotFound`
abbrev pub AnswersNone : ℕ → PlanEvent MapPhase MapAnswer → Type 0
AnswersNone p (Answered q NotFound) = q ≡ p
AnswersNone p _ = ⊥

-- and at this one it answers anything else
abbrev pub AnswersElse : ℕ → PlanEvent MapPhase MapAnswer → Type 0
AnswersElse p (Answered q NotFound) = ⊥
AnswersElse p (Answered q answer) = q ≡ p
AnswersElse p _ = ⊥

-- In these steps p's call answers anything but `NotFound`, or finds no entry of the key before it answers. What p does
-- once its call has answered is not looked at.
abbrev pub FindsNoneFirst : (p i key : ℕ) (world : State) (plans : AllPlans MapPhase) (log : MapLog) (world' : State)
    (plans' : AllPlans MapPhase) → MapRuns world plans log world' plans' → Type 0
FindsNoneFirst p i key world plans [] world' plans' run = Unit {0}
FindsNoneFirst p i key world plans (event ∷ log) world' plans' run =
    FindsNoneNow p i key plans (made_at event) world (λ w. MapRuns w run.0 log world' plans') run.2
    ⊎ AnswersElse p event
    ⊎ ((¬ (AnswersNone p event)) × ThenAlso map (made_at event) world (λ w. MapRuns w run.0 log world' plans')
    (λ w rest. FindsNoneFirst p i key w run.0 log world' plans' rest) run.2)

-- of a call that is asked for at this event: so it does, for the key that it was asked for
abbrev pub AskedFindsNoneFirst : PlanEvent MapPhase MapAnswer → (world : State) (plans : AllPlans MapPhase)
    (log : MapLog) (world' : State) (plans' : AllPlans MapPhase) → MapRuns world plans log world' plans' → Type 0
AskedFindsNoneFirst (Asked p g phase) world plans log world' plans' run =
    (work : MapWork) (has_room : Bool) → phase ≡ begin_map_work work has_room
    → FindsNoneFirst p (bucket_asked work) (key_asked work) world plans log world' plans' run
AskedFindsNoneFirst _ world plans log world' plans' run = Unit {0}

-- and so does each call that is asked for in the run
abbrev pub AnswersNoneAsFound : (world : State) (plans : AllPlans MapPhase) (log : MapLog) (world' : State)
    (plans' : AllPlans MapPhase) → MapRuns world plans log world' plans' → Type 0
AnswersNoneAsFound world plans [] world' plans' run = Unit {0}
AnswersNoneAsFound world plans (event ∷ log) world' plans' run =
    ThenAlso map (made_at event) world (λ w. MapRuns w run.0 log world' plans')
    (λ w rest. AskedFindsNoneFirst event w run.0 log world' plans' rest
    × AnswersNoneAsFound w run.0 log world' plans' rest) run.2

-- what a run's calls answer, in the order of their answers
abbrev pub map_also_answers : PlanEvent MapPhase MapAnswer → List MapAnswer → List MapAnswer
map_also_answers (Answered p answer) rest = answer ∷ rest
map_also_answers _ rest = rest

abbrev pub map_answers_in : MapLog → List MapAnswer
map_answers_in [] = []
map_answers_in (event ∷ log) = map_also_answers event (map_answers_in log)
