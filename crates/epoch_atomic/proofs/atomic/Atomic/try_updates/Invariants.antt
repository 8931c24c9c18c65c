use Rattle.std.specs.Prelude.{ℕ}
use Rattle.epoch_atomic.specs.Pointers.{IsPointerWord}
use Rattle.epoch_atomic.specs.Updates.{LosesTries}
use Rattle.epoch_atomic.specs.WordSteps.WordStep.{Loads}
use Rattle.epoch_atomic.proofs.atomic.Atomic.try_updates.Given as goal

abbrev pub invariant-loop : goal.invariant-loop
invariant-loop g l = IsPointerWord l.seen × goal.F-IsAlwaysCallable g l.f
    × ((first : ℕ) × g.A.SharedWord.did l.fn.self.word (Loads first)
    × LosesTries g.T.Pointable.ALIGN l.fn.guard.collector.now.id (g.A.SharedWord.did l.fn.self.word) (goal.F-step g)
    l.fn.f first l.counter l.f l.seen)
