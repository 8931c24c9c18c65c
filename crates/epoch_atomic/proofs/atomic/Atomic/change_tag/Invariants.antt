use Rattle.std.specs.Prelude.{ℕ}
use Rattle.epoch_atomic.specs.Pointers.{IsPointerWord}
use Rattle.epoch_atomic.specs.WordSteps.{LosesEach}
use Rattle.epoch_atomic.specs.WordSteps.WordStep.{Loads}
use Rattle.epoch_atomic.proofs.atomic.Atomic.change_tag.Given as goal

abbrev pub invariant-loop : goal.invariant-loop
invariant-loop g l = IsPointerWord l.seen
    × ((first : ℕ) × g.A.SharedWord.did l.fn.self.word (Loads first)
    × LosesEach (g.A.SharedWord.did l.fn.self.word) first l.counter l.seen)
