-- What is read at a place of a log stands there.
use Rattle.std.proofs.Common.{◌≡◌, ◌⊎◌, inl, inr, ℕ, zero, suc, ◌<◌, List, [], ◌∷◌, length, Some, ap, ◌∙◌, get_or}
use Rattle.std.proofs.Common.{option_map}
use Rattle.std.proofs.lemmas.Option.{slice_get-get_or, same_Some}
use Rattle.epoch_laws.specs.declared.step.Reply.{Reply}
use Rattle.epoch_laws.specs.declared.step.Reply.TheVariants.{Pinned, Unpinned, Repinned}
use Rattle.epoch_laws.specs.declared.step.Entry.{Entry}
use Rattle.epoch_laws.specs.Grace.{IsReplyAt, PublishesAt, WithdrawsAt}

-- a reply that is read at a place within the log stands there
pub stands_read : (log : List Entry) (i : ℕ) (default : Entry) (event : Reply) → i < length log
    → (get_or log i default).reply ≡ event → IsReplyAt log i event
stands_read log i default event within is =
    ap (option_map (λ (x : Entry). x.reply)) (slice_get-get_or log i default within) ∙ ap Some is

-- a reply that stands at a place of the log is read there
pub read_stands : (log : List Entry) (i : ℕ) (default : Entry) (event : Reply) → IsReplyAt log i event
    → (get_or log i default).reply ≡ event
read_stands [] i default event at = absurd (cc)
read_stands (x ∷ log) zero default event at = same_Some x.reply event at
read_stands (x ∷ log) (suc i) default event at = read_stands log i default event at

abbrev pub ReadsWithdrawal : List Entry → ℕ → Entry → ℕ → Type 0
ReadsWithdrawal log i default who =
    ((get_or log i default).reply ≡ Unpinned who) ⊎ ((get_or log i default).reply ≡ Repinned who)

-- who is read to withdraw at a place within the log withdraws there
pub withdraws_read : (log : List Entry) (i : ℕ) (default : Entry) (who : ℕ) → i < length log
    → ReadsWithdrawal log i default who → WithdrawsAt log i who
withdraws_read log i default who within (inl is) = inl (stands_read log i default _ within is)
withdraws_read log i default who within (inr is) = inr (stands_read log i default _ within is)

-- who withdraws at a place of the log is read to withdraw there
pub read_withdraws : (log : List Entry) (i : ℕ) (default : Entry) (who : ℕ) → WithdrawsAt log i who
    → ReadsWithdrawal log i default who
read_withdraws log i default who (inl at) = inl (read_stands log i default _ at)
read_withdraws log i default who (inr at) = inr (read_stands log i default _ at)

-- the withdrawal that is read is of one participant
pub one_withdraws : (log : List Entry) (i : ℕ) (default : Entry) (who other : ℕ)
    → ReadsWithdrawal log i default who → ReadsWithdrawal log i default other → who ≡ other
one_withdraws log i default who other (inl a) (inl b) = cc
one_withdraws log i default who other (inl a) (inr b) = absurd (cc)
one_withdraws log i default who other (inr a) (inl b) = absurd (cc)
one_withdraws log i default who other (inr a) (inr b) = cc

abbrev pub ReadsPublication : List Entry → ℕ → Entry → ℕ → Type 0
ReadsPublication log i default who =
    ((get_or log i default).reply ≡ Pinned who) ⊎ ((get_or log i default).reply ≡ Repinned who)

-- who publishes at a place of the log is read to publish there
pub read_publishes : (log : List Entry) (i : ℕ) (default : Entry) (who : ℕ) → PublishesAt log i who
    → ReadsPublication log i default who
read_publishes log i default who (inl at) = inl (read_stands log i default _ at)
read_publishes log i default who (inr at) = inr (read_stands log i default _ at)

-- the publication that is read is of one participant
pub one_publishes : (log : List Entry) (i : ℕ) (default : Entry) (who other : ℕ)
    → ReadsPublication log i default who → ReadsPublication log i default other → who ≡ other
one_publishes log i default who other (inl a) (inl b) = cc
one_publishes log i default who other (inl a) (inr b) = absurd (cc)
one_publishes log i default who other (inr a) (inl b) = absurd (cc)
one_publishes log i default who other (inr a) (inr b) = cc
