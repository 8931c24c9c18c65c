-- What a log tells of a participant, one entry after the other.
use Rattle.std.proofs.Common.{◌≡◌, ℕ, zero, suc, ◌+◌, ◌<◌, List, [], ◌∷◌, length, take, get_or, refl, ap, ◌∙◌, arith}
use Rattle.std.proofs.Common.{add-one}
use Rattle.epoch_laws.specs.declared.step.Entry.{Entry}
use Rattle.epoch_laws.specs.Lawful.{Told, nothing, told_after, told_from, told_of}

told_from_more : (p : ℕ) (t : Told) (log : List Entry) (i : ℕ) (default : Entry) → i < length log
    → told_from p t (take (suc i) log)
    ≡ told_after p (told_from p t (take i log)) (get_or log i default).step (get_or log i default).reply
told_from_more p t [] i default within = absurd (omega arith)
told_from_more p t (x ∷ log) zero default within = refl
told_from_more p t (x ∷ log) (suc i) default within =
    told_from_more p (told_after p t x.step x.reply) log i default (omega arith)

-- what a log tells of a participant after one more entry follows from that entry and what was told before it
pub told_more : (p : ℕ) (log : List Entry) (i : ℕ) (default : Entry) → i < length log
    → told_of p (take (i + 1) log)
    ≡ told_after p (told_of p (take i log)) (get_or log i default).step (get_or log i default).reply
told_more p log i default within =
    ap (λ (n : ℕ). told_of p (take n log)) (add-one i) ∙ told_from_more p nothing log i default within
