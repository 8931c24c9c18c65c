-- Looks that pass posts.
use Rattle.std.proofs.Common.{ℕ, ◌+◌, ◌≤◌, sym, subst}
use native.Mathlib.Omega.{arith}
use native.Mathlib.Decide.{ℕ_discrete}
use mathlib.Core.Logic.{dite}
use Rattle.epoch_lend.specs.Grace.{PinStep, Passes, AllPassed}
use Rattle.epoch_lend.specs.Grace.PinStep.{Looks}

-- who passes for an epoch passes for each epoch before
pub passes_lower : (lower epoch word : ℕ) → lower ≤ epoch → Passes epoch word → Passes lower word
passes_lower lower epoch word less passes pinned = let past = passes pinned in omega (arith, less, past)

-- looks that passed each post for an epoch passed each for an epoch before it
pub all_passed_lower : (did : PinStep → Type 0) (clock lower epoch posts : ℕ) → lower ≤ epoch
    → AllPassed did clock epoch posts → AllPassed did clock lower posts
all_passed_lower did clock lower epoch posts less passed position within =
    let look = passed position within in
    (look.0, look.1, passes_lower lower epoch look.0 less look.2)

-- the look at one more post passes it
pub all_passed_more : (did : PinStep → Type 0) (clock epoch lower posts word : ℕ) → lower ≤ epoch
    → did (Looks clock posts word) → Passes lower word
    → AllPassed did clock epoch posts → AllPassed did clock lower (posts + 1)
all_passed_more did clock epoch lower posts word less last passes passed position within =
    let At : ℕ → Type 0 = λ p. did (Looks clock p word) in
    dite (ℕ_discrete position posts)
    (λ here. (word, subst At (sym here) last, passes))
    (λ before. all_passed_lower did clock lower epoch posts less passed position (omega (arith, within, before)))
