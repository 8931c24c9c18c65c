-- What a call's answer tells.
use Rattle.std.proofs.Common.{◌≡◌, ℕ, Option, refl, arith, IsErr}
use Rattle.epoch_cells.specs.declared.fault.Fault.{Fault}
use Rattle.epoch_structure_laws.specs.declared.queue.plan.QueueAnswer.{QueueAnswer}
use Rattle.epoch_structure_laws.specs.declared.queue.plan.QueueAnswer.TheVariants.{Pushed, Popped, PoppedLeaking, Empty}
use Rattle.epoch_structure_laws.specs.declared.queue.plan.QueueWork.TheVariants.{Push, Pop}
use Rattle.epoch_structure_calls.specs.QueueCalls.{queue_push_tells, queue_pop_tells}
use Rattle.epoch_structure_calls.proofs.QueueFitting.{MayAnswer}

-- with no try a call fails
pub push_needs_tries : (tries value : ℕ) (a : QueueAnswer) (f : Option Fault) → MayAnswer (Push value tries) a
    → tries ≡ 0 → IsErr (queue_push_tells value a f)
push_needs_tries tries value Pushed f may none = absurd (omega (arith, may, none))
push_needs_tries tries value a f may none = refl

-- with no try a pop fails
pub pop_needs_tries : (tries : ℕ) (a : QueueAnswer) (f : Option Fault) → MayAnswer (Pop tries) a → tries ≡ 0
    → IsErr (queue_pop_tells a f)
pop_needs_tries tries (Popped v) f may none = absurd (omega (arith, may, none))
pop_needs_tries tries (PoppedLeaking v) f may none = absurd (omega (arith, may, none))
pop_needs_tries tries Empty f may none = absurd (omega (arith, may, none))
pop_needs_tries tries a f may none = refl
