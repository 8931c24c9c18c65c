-- The grammar of lines.
use Rattle.std.specs.Prelude.{◌≡◌, ℕ, ◌≤◌, List, MatchOption, codes}
use Rattle.epoch_laws.specs.Shapes.{IsValid}
use Rattle.epoch_laws.specs.declared.shape.Shape.{Shape}
use Rattle.epoch_laws.specs.declared.step.Call.{Call}
use Rattle.epoch_laws.specs.declared.step.Call.TheVariants.{Pin, Unpin, Repin, Pause, Resume, Defer, DeferDestroy}
use Rattle.epoch_laws.specs.declared.step.Call.TheVariants.{Flush, Release, Access as AccessCall}
use Rattle.epoch_laws.specs.declared.step.Step.{Step}
use Rattle.epoch_laws.specs.declared.step.Step.TheVariants.{Register, Begin, Go as OneGo, End, EndGo}
use Rattle.epoch_script.specs.Words.{Behind, IsOneWord, LeadsWith, SpellsGuard, SpellsNumber, first_word, others}
use Rattle.epoch_script.specs.Accesses.{SpellsAccess, SpellsGuarded}
use Rattle.epoch_script.specs.declared.lines.Command.{Command}
use Rattle.epoch_script.specs.declared.lines.Command.TheVariants.{Once, Go, Call as WholeCall, EndAll, Epoch, Word}

abbrev pub SpellsCall : Call → List ℕ → Type 0
SpellsCall Pin text = IsOneWord (codes "pin") text
SpellsCall (Unpin guard) text = LeadsWith (codes "unpin") text (SpellsGuard guard)
SpellsCall (Repin guard) text = LeadsWith (codes "repin") text (SpellsGuard guard)
SpellsCall (Pause guard) text = LeadsWith (codes "pause") text (SpellsGuard guard)
SpellsCall (Resume guard) text = LeadsWith (codes "resume") text (SpellsGuard guard)
SpellsCall (Defer guard) text = LeadsWith (codes "defer") text (SpellsGuard guard)
SpellsCall (DeferDestroy guard ptr) text = LeadsWith (codes "defer-destroy") text (SpellsGuarded guard ptr)
SpellsCall (Flush guard) text = LeadsWith (codes "flush") text (SpellsGuard guard)
SpellsCall Release text = IsOneWord (codes "release") text
SpellsCall (AccessCall access) text = SpellsAccess access text

-- a participant's position and its call
abbrev pub SpellsBoth : ℕ → Call → List ℕ → Type 0
SpellsBoth position call text = SpellsNumber position (first_word text) × Behind (others text) (SpellsCall call)

-- a participant's position and how many steps, one where the text doesn't say
abbrev pub SpellsSteps : ℕ → ℕ → List ℕ → Type 0
SpellsSteps position steps text = SpellsNumber position (first_word text)
    × MatchOption (others text) (steps ≡ 1) (SpellsNumber steps)
    × (1 ≤ steps) × (steps ≤ 100000)

abbrev pub SpellsStep : Step → List ℕ → Type 0
SpellsStep Register text = IsOneWord (codes "register") text
SpellsStep (Begin position call) text = LeadsWith (codes "begin") text (SpellsBoth position call)
SpellsStep (OneGo position) text = ⊥
SpellsStep End text = IsOneWord (codes "end") text
SpellsStep EndGo text = IsOneWord (codes "endgo") text

abbrev pub SpellsCommand : Command → List ℕ → Type 0
SpellsCommand (Once step) text = SpellsStep step text
SpellsCommand (Go position steps) text = LeadsWith (codes "go") text (SpellsSteps position steps)
SpellsCommand (WholeCall position call) text = LeadsWith (codes "call") text (SpellsBoth position call)
SpellsCommand EndAll text = IsOneWord (codes "endall") text
SpellsCommand Epoch text = IsOneWord (codes "epoch") text
SpellsCommand (Word position) text = LeadsWith (codes "word") text (SpellsNumber position)

-- the first word writes this number, and so it is with what stands after it
abbrev pub Leading : ℕ → List ℕ → (List ℕ → Type 0) → Type 0
Leading number text P = SpellsNumber number (first_word text) × Behind (others text) P

-- the turn, and how many jobs a bag takes and how many bags a collection: 64 and 8 where the text ends before
abbrev pub SpellsLastSizes : ℕ → ℕ → ℕ → List ℕ → Type 0
SpellsLastSizes start_turn bag_jobs collect_bags text = SpellsNumber start_turn (first_word text)
    × MatchOption (others text) ((bag_jobs ≡ 64) × (collect_bags ≡ 8))
    (λ rest. Leading bag_jobs rest (SpellsNumber collect_bags))

-- the numbers of a shape, in their order
abbrev pub SpellsSizes : Shape → List ℕ → Type 0
SpellsSizes shape text = Leading shape.participants text
    (λ t. Leading shape.cells t (λ t. Leading shape.roots t (λ t. Leading shape.fields t (λ t.
    Leading shape.bags t (λ t. Leading shape.align t (λ t. Leading shape.start_epoch t
    (SpellsLastSizes shape.start_turn shape.bag_jobs shape.collect_bags)))))))

-- a valid shape
abbrev pub SpellsShape : Shape → List ℕ → Type 0
SpellsShape shape text = LeadsWith (codes "shape") text (SpellsSizes shape)
    × IsValid shape
