-- Where each call is looked at alone: no ticket is called twice, and each was deferred before.
use Rattle.std.proofs.Common.{◌≡◌, ℕ, ◌<◌, List, length, sym, ◌∙◌, subst, inl, inr, ◌⊎◌, arith, get_or}
use Rattle.epoch_bags.specs.declared.job.Called.{Called}
use Rattle.epoch_laws.specs.declared.step.Reply.TheVariants.{Called as CalledReply}
use Rattle.epoch_laws.specs.declared.step.Entry.{Entry}
use Rattle.epoch_laws.specs.Grace.{IsReplyAt}
use Rattle.epoch_laws.specs.Lawful.{CallsNoneTwice, IsCalledBefore}
use Rattle.epoch_laws.proofs.Log.{stands_within}
use Rattle.epoch_laws.proofs.PlacesRead.{read_stands}

-- what holds of the ticket that is read to be called at j holds of each that is called there
pub of_each_called : (log : List Entry) (j : ℕ) (default : Entry) (ticket : ℕ) (outcome : Called) (P : ℕ → Type 0)
    → (get_or log j default).reply ≡ CalledReply ticket outcome
    → P ticket
    → (t : ℕ) (how : Called) → IsReplyAt log j (CalledReply t how) → P t
of_each_called log j default ticket outcome P is holds t how at =
    let read : CalledReply ticket outcome ≡ CalledReply t how = sym is ∙ read_stands log j default _ at in
    let same : ticket ≡ t = cc in
    subst P same holds

-- where no call is read, none stands
pub where_none_called : (log : List Entry) (j : ℕ) (default : Entry) (P : ℕ → Type 0)
    → ((t : ℕ) (how : Called) → (get_or log j default).reply ≡ CalledReply t how → ⊥)
    → (t : ℕ) (how : Called) → IsReplyAt log j (CalledReply t how) → P t
where_none_called log j default P none t how at = absurd (none t how (read_stands log j default _ at))

before_or_after : (i j : ℕ) → (i ≡ j) ⊎ ((i < j) ⊎ (j < i))
before_or_after i j = grind arith

-- no ticket is called twice if, wherever one is called, it wasn't called before
pub none_twice : (log : List Entry)
    → ((j : ℕ) → j < length log → (t : ℕ) (how : Called) → IsReplyAt log j (CalledReply t how)
    → ¬ (IsCalledBefore log t j))
    → CallsNoneTwice log
none_twice log first t i j how again one two = elim (before_or_after i j) [
  | inl same ↦ same
  | inr (inl before) ↦ absurd (first j (stands_within log j _ two) t again two (i, how, before, one))
  | inr (inr after) ↦ absurd (first i (stands_within log i _ one) t how one (j, again, after, two))
]

-- where a ticket is called that was called before, the rule is broken that none is called twice
pub called_twice : (log : List Entry) (t j : ℕ) (how : Called) → IsReplyAt log j (CalledReply t how)
    → IsCalledBefore log t j → ¬ (CallsNoneTwice log)
called_twice log t j how at before none = omega (arith, none t before.0 j before.1 how before.3 at, before.2)
