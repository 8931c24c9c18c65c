use Rattle.std.proofs.Common.{inl, inr, arith}
use mathlib.Core.Logic.{dite}
use native.Mathlib.Decide.{ℕ_discrete}
use Rattle.epoch_tables.proofs.table.laws.store_never_lowers.Goals as goal

-- the scanner itself is pinned with a reading of at most the scanned epoch, and the present epoch is at most one past
-- it
pub returns : goal.returns
returns c = λ positions s r seat view scanned sees is. let begun = r.scans_known seat view scanned positions sees is in
    let low = begun.1 in
    let known = r.none_ahead seat view sees in
    let first = begun.0 in
    let below = first.2 in
    let near = (r.pinned_near seat view first.0 sees first.1).4 in
    let word = r.epoch_word in
    dite (ℕ_discrete r.epoch scanned) (λ same. inl (omega arith)) (λ other. inr (omega arith))
