-- How far the end of the collector is after one more entry of a list.
use Rattle.std.proofs.Common.{◌≡◌, ℕ, zero, suc, ◌+◌, ◌<◌, List, [], ◌∷◌, length, take, get_or, refl, ap, ◌∙◌, arith}
use Rattle.std.proofs.Common.{add-one}
use Rattle.epoch_laws.specs.declared.step.Phase.{Phase}
use Rattle.epoch_laws.specs.declared.step.Phase.TheVariants.{Before}
use Rattle.epoch_laws.specs.declared.step.Entry.{Entry}
use Rattle.epoch_laws.specs.Fits.{phase_after, phase_from, phase_of}

phase_from_more : (phase : Phase) (log : List Entry) (i : ℕ) (default : Entry) → i < length log
    → phase_from phase (take (suc i) log)
    ≡ phase_after (phase_from phase (take i log)) (get_or log i default).step (get_or log i default).reply
phase_from_more phase [] i default within = absurd (omega arith)
phase_from_more phase (x ∷ log) zero default within = refl
phase_from_more phase (x ∷ log) (suc i) default within =
    phase_from_more (phase_after phase x.step x.reply) log i default (omega arith)

-- how far the end is after one more entry follows from how far it was and from the entry
pub phase_more : (log : List Entry) (i : ℕ) (default : Entry) → i < length log
    → phase_of (take (i + 1) log)
    ≡ phase_after (phase_of (take i log)) (get_or log i default).step (get_or log i default).reply
phase_more log i default within =
    ap (λ (n : ℕ). phase_of (take n log)) (add-one i) ∙ phase_from_more Before log i default within
