-- What the word of a post says of its participant's guards. Guards of one pin share a lifetime of their own, named by
-- an atom. A post keeps a log of its pins so far: the atom of each, and the epoch that it published.
use Rattle.std.specs.Prelude.{◌≡◌, ℕ, suc, ◌+◌, ◌*◌, ◌⊎◌, Bool, true, false, ◌||◌, eqb, List, [], ◌∷◌, ◌++◌}
use base.Fraction.{full_share}
use base.Stored.{Coded, coded×, coded_ℕ, coded_via, gnum}
use base.Fml.{Lft, Fml, ftrue, ffalse, fsep, fex, fdead, fobs, fauth, fbor}
use base.Growing.{Order, prefixes, latest, at_least}
use denote.RawPtr.{Ptr, block_ptr, null_ptr}
use denote.Sharing.{said, beside, some, ends, always}
use Rattle.core.specs.Sync.RawAtomic.{word}
use Rattle.epoch_lend.specs.Parted.{tokens}

-- this holds
abbrev pub known : Type 0 → Fml
known φ = fex φ (λ _. ftrue)

-- it is one of these
abbrev pub IsOneOf : {T : Type 0} → T → List T → Type 0
IsOneOf x [] = ⊥
IsOneOf x (y ∷ ys) = (x ≡ y) ⊎ IsOneOf x ys

-- the word of a post whose participant is pinned in this epoch; else it is 0
abbrev pub posted : ℕ → ℕ
posted epoch = 2 * epoch + 1

-- a pin: the atom of its guards' lifetime, and its epoch
abbrev pub Entry : Type 0
Entry = ℕ × ℕ

-- the pins of a post so far, which only grow
abbrev pub logs : Order (List Entry)
logs = prefixes (coded× coded_ℕ coded_ℕ)

-- this pin is one of the post's whose log is η
abbrev pub entered_in : Entry → ℕ → List Entry → Fml
entered_in pin η pins = fsep (at_least logs η pins) (known (IsOneOf pin pins))

abbrev pub entered : Entry → ℕ → Fml
entered pin η = fex (List Entry) (entered_in pin η)

-- the guards of these pins are over
abbrev pub are_over : List Entry → Fml
are_over [] = ftrue
are_over (pin ∷ pins) = fsep (fdead (pin.0 ∷ [])) (are_over pins)

-- what names a post: its log, and whether it is pinned
pub record PostNames : Type 0 where
  pub log : ℕ
  pub state : ℕ

abbrev pub post_coded : Coded PostNames
post_coded = coded_via (coded× coded_ℕ coded_ℕ) (λ (d : PostNames). (
  d.log,
  d.state,
)) (λ x y e i. record { log = (e i).0; state = (e i).1 })

-- the logs of these posts
abbrev pub logs_of : List PostNames → List ℕ
logs_of [] = []
logs_of (d ∷ ds) = d.log ∷ logs_of ds

-- the post with this log is one of these
abbrev pub is_among : ℕ → List ℕ → Bool
is_among η [] = false
is_among η (other ∷ ηs) = eqb η other || is_among η ηs

abbrev pub IsAmong : ℕ → List ℕ → Type 0
IsAmong η ηs = is_among η ηs ≡ true

pub data PostStage : Type 0 where
  idle : PostStage
  out : Entry → PostStage

abbrev pub idle_log : ℕ → List Entry → Fml
idle_log η pins = fsep (latest logs full_share η pins) (are_over pins)

abbrev pub out_log : ℕ → Entry → List Entry → Fml
out_log η pin pins = fsep (latest logs full_share η (pins ++ pin ∷ [])) (are_over pins)

-- The word is 0, and the guards of all pins are over; or it is that of the last pin's epoch, and the guards of
-- all others are over.
abbrev pub at_stage : PostNames → ℕ → PostStage → Fml
at_stage d n idle = fsep (known (n ≡ 0)) (fsep (fauth d.state (gnum 0)) (fex (List Entry) (idle_log d.log)))
at_stage d n (out pin) = fsep (known (n ≡ posted pin.1)) (fsep (fauth d.state (gnum (suc pin.0))) (fex (List Entry)
    (out_log d.log pin)))

abbrev pub at_post : PostNames → ℕ → Fml
at_post d n = fex PostStage (at_stage d n)

abbrev pub post_owns : PostNames → (ℕ → Fml) → Fml
post_owns d fields = fex ℕ (λ n. fsep (fields n) (at_post d n))

abbrev pub post : PostNames → ℕ → ℕ → Fml
post d b o = post_owns d (word b (o + 0))

abbrev pub post_shares : PostNames → Ptr → Lft → Fml
post_shares d (block_ptr b o) = some Lft (λ α. beside (ends α) (always (fbor α (post d b o))))
post_shares d null_ptr = said ffalse

-- the right to end the pin of this atom, and the right to pin
abbrev pub pin_owns : ℕ → ℕ → Fml
pin_owns γ δ = fobs δ (gnum (suc γ))

abbrev pub unpinned_owns : ℕ → Fml
unpinned_owns δ = fobs δ (gnum 0)

-- what a guard owns, which is k parts in 2 ^ 63 of its pin's lifetime, and what is seen of one that is lent
abbrev pub guard_owns : ℕ → ℕ → ℕ → ℕ → Fml
guard_owns γ epoch η k = fsep (tokens γ k) (entered (γ, epoch) η)

abbrev pub guard_shares : ℕ → ℕ → ℕ → Lft → Fml
guard_shares γ epoch η = beside (ends (γ ∷ [])) (said (entered (γ, epoch) η))
