-- How many bags one call takes, and how many jobs it calls.
use Rattle.std.specs.Prelude.{ℕ, ◌+◌, ◌-◌, ◌*◌, ◌≤◌, ◌==◌, if◌then◌else◌, List, [], ◌∷◌, length}
use Rattle.epoch_machine.specs.declared.machine.Sizes.{Sizes}
use Rattle.epoch_laws.specs.declared.step.Entry.{Entry}
use Rattle.epoch_laws.specs.declared.step.Reply.{Reply}
use Rattle.epoch_laws.specs.declared.step.Reply.TheVariants.{Began, Called}
use Rattle.epoch_laws.specs.declared.step.Step.{Step}
use Rattle.epoch_laws.specs.declared.step.Step.TheVariants.{Begin, Go}
use Rattle.epoch_laws.specs.Run.{State, Runs}

-- after one more step, how many jobs p's own steps have called since its last accepted Begin
abbrev pub called_after : ℕ → ℕ → Step → Reply → ℕ
called_after p called (Begin q c) Began = if q == p then 0 else called
called_after p called (Go q) (Called t how) = if q == p then called + 1 else called
called_after p called _ reply = called

-- and how many bags they have taken
abbrev pub taken_after : ℕ → ℕ → State → Step → Reply → State → ℕ
taken_after p taken old (Begin q c) Began new = if q == p then 0 else taken
taken_after p taken old (Go q) reply new = if q == p then taken + (length old.queued - length new.queued) else taken
taken_after p taken old _ reply new = taken

-- a call takes at most as many bags as one collection may, and calls at most so many times a full bag's jobs
pub record IsFew (z : Sizes) (taken called : ℕ) : Type 0 where
  pub bags : taken ≤ z.collect_bags
  pub jobs : called ≤ z.collect_bags * z.bag_jobs

-- for each participant, at each point of a run
abbrev pub FewAlong : Sizes → (taken called : ℕ → ℕ) → (s new : State) (log : List Entry) → Runs s log new → Type 0
FewAlong z taken called s new [] run = Unit {0}
FewAlong z taken called s new (x ∷ log) (mid, did, run) =
    ((p : ℕ) → IsFew z (taken_after p (taken p) s x.step x.reply mid) (called_after p (called p) x.step x.reply))
    × FewAlong z (λ p. taken_after p (taken p) s x.step x.reply mid)
    (λ p. called_after p (called p) x.step x.reply) mid new log run

-- at the start of a run
abbrev pub none_yet : ℕ → ℕ
none_yet p = 0

-- each call of a run from s to new takes few bags and calls few jobs
abbrev pub CollectsFew : (s : State) (log : List Entry) (new : State) → Runs s log new → Type 0
CollectsFew s log new run = FewAlong s.sizes none_yet none_yet s new log run
