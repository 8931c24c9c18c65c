-- Each reply of a log may be that of its step where, at each place, it may be by what the entries before it tell.
use Rattle.std.proofs.Common.{◌≡◌, ℕ, zero, suc, ◌<◌, List, [], ◌∷◌, length, take, get_or, slice_get, Some, refl, subst}
use Rattle.std.proofs.Common.{arith}
use Rattle.std.proofs.lemmas.Option.{same_Some, slice_get-get_or, get_or_from_slice_get}
use Rattle.epoch_laws.specs.declared.step.Entry.{Entry}
use Rattle.epoch_laws.specs.Lawful.{Told, nothing, told_after, told_from, told_of, MayReply, MayReplyAll}

-- the entry at place k may have its reply
abbrev pub MayReplyAt : (ℕ → Told) → List Entry → ℕ → Type 0
MayReplyAt told log k = (entry : Entry) → slice_get log k ≡ Some entry
    → MayReply (λ p. told_from p (told p) (take k log)) entry.step entry.reply

-- where all replies of a log may be those of their steps, so may the one at each place
pub each_may_reply : (told : ℕ → Told) (log : List Entry) → MayReplyAll told log → (k : ℕ) → MayReplyAt told log k
each_may_reply told [] all k entry at = absurd (cc)
each_may_reply told (first ∷ log) all zero entry at =
    subst (λ (x : Entry). MayReply told x.step x.reply) (same_Some first entry at) all.0
each_may_reply told (first ∷ log) all (suc k) entry at =
    each_may_reply (λ p. told_after p (told p) first.step first.reply) log all.1 k entry at

-- where the reply at each place may be its step's, all replies of the log may be those of their steps
pub all_may_reply : (told : ℕ → Told) (log : List Entry) → ((k : ℕ) → k < length log → MayReplyAt told log k)
    → MayReplyAll told log
all_may_reply told [] each = tt
all_may_reply told (first ∷ log) each = (
  each 0 (omega arith) first refl,
  all_may_reply (λ p. told_after p (told p) first.step first.reply) log (λ k within. each (suc k) (omega arith)),
)

-- the entry may have its reply after the first k
abbrev pub MayReplyBefore : List Entry → ℕ → Entry → Type 0
MayReplyBefore log k entry = MayReply (λ p. told_of p (take k log)) entry.step entry.reply

-- the entry read at place k may have its reply
abbrev pub MayReplyRead : List Entry → ℕ → Entry → Type 0
MayReplyRead log k default = MayReplyBefore log k (get_or log k default)

-- in a log whose replies all may stand, the entry read at a place within it may have its reply
pub may_reply_read : (log : List Entry) (k : ℕ) (default : Entry) → k < length log → MayReplyAll (λ p. nothing) log
    → MayReplyRead log k default
may_reply_read log k default within all =
    each_may_reply (λ p. nothing) log all k (get_or log k default) (slice_get-get_or log k default within)

-- where the entry read at a place may have its reply, so may the entry that stands there
pub read_may_reply : (log : List Entry) (k : ℕ) (default : Entry) → MayReplyRead log k default
    → MayReplyAt (λ p. nothing) log k
read_may_reply log k default may entry at =
    subst (λ (x : Entry). MayReply (λ p. told_of p (take k log)) x.step x.reply)
    (get_or_from_slice_get log k entry default at) may
