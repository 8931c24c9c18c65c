-- What one more entry does to what the log says.
use Rattle.std.proofs.Common.{◌≡◌, ℕ, zero, suc, ◌+◌, ◌<◌, ◌≤◌, List, [], ◌∷◌, ◌++◌, length, Some, ◌⊎◌, inl, inr, refl}
use Rattle.std.proofs.Common.{ap, sym, ◌∙◌, arith, subst}
use Rattle.epoch_bags.specs.declared.job.Called.{Called}
use Rattle.epoch_laws.specs.declared.step.Reply.{Reply}
use Rattle.epoch_laws.specs.declared.step.Reply.TheVariants.{Pinned, Unpinned, Repinned, Deferred}
use Rattle.epoch_laws.specs.declared.step.Reply.TheVariants.{Called as CalledReply}
use Rattle.epoch_laws.specs.declared.step.Entry.{Entry}
use Rattle.epoch_laws.specs.Grace.{IsReplyAt, PublishesAt, WithdrawsAt, StaysPinned, KeepsGrace}

-- what one reply tells of p
abbrev pub IsPublish : Reply → ℕ → Type 0
IsPublish r p = (r ≡ Pinned p) ⊎ (r ≡ Repinned p)

abbrev pub IsWithdrawal : Reply → ℕ → Type 0
IsWithdrawal r p = (r ≡ Unpinned p) ⊎ (r ≡ Repinned p)

-- a reply in the log with one more entry stood in it before, or is that of the last entry
pub stands_push : (log : List Entry) (x : Entry) (k : ℕ) (event : Reply) → IsReplyAt (log ++ x ∷ []) k event
    → IsReplyAt log k event ⊎ ((k ≡ length log) × (x.reply ≡ event))
stands_push [] x zero event h = inr (refl, cc)
stands_push [] x (suc k) event h = absurd (cc)
stands_push (first ∷ log) x zero event h = inl h
stands_push (first ∷ log) x (suc k) event h =
    elim (stands_push log x k event h) [ inl old ↦ inl old | inr new ↦ inr (ap suc new.0, new.1) ]

-- a reply in the log stays where it is when one more entry comes
pub stands_keep : (log : List Entry) (x : Entry) (k : ℕ) (event : Reply) → IsReplyAt log k event
    → IsReplyAt (log ++ x ∷ []) k event
stands_keep [] x k event h = absurd (cc)
stands_keep (first ∷ log) x zero event h = h
stands_keep (first ∷ log) x (suc k) event h = stands_keep log x k event h

-- the reply of one more entry comes to stand at the end of the log
pub stands_new : (log : List Entry) (x : Entry) → IsReplyAt (log ++ x ∷ []) (length log) x.reply
stands_new [] x = refl
stands_new (first ∷ log) x = stands_new log x

-- a reply stands at a place within the log
pub stands_within : (log : List Entry) (k : ℕ) (event : Reply) → IsReplyAt log k event → k < length log
stands_within [] k event h = absurd (cc)
stands_within (first ∷ log) zero event h = omega arith
stands_within (first ∷ log) (suc k) event h = omega (arith, stands_within log k event h)

-- p published at that place, and has stayed pinned to the end of the log
pub record PinnedSince (log : List Entry) (p at : ℕ) : Type 0 where
  pub published : PublishesAt log at p
  pub lasts : (k : ℕ) → at < k → ¬ (WithdrawsAt log k p)

publishes_push : (log : List Entry) (x : Entry) (k p : ℕ) → PublishesAt (log ++ x ∷ []) k p
    → PublishesAt log k p ⊎ ((k ≡ length log) × IsPublish x.reply p)
publishes_push log x k p (inl h) =
    elim (stands_push log x k _ h) [ inl old ↦ inl (inl old) | inr new ↦ inr (new.0, inl new.1) ]
publishes_push log x k p (inr h) =
    elim (stands_push log x k _ h) [ inl old ↦ inl (inr old) | inr new ↦ inr (new.0, inr new.1) ]

withdraws_keep : (log : List Entry) (x : Entry) (k p : ℕ) → WithdrawsAt log k p → WithdrawsAt (log ++ x ∷ []) k p
withdraws_keep log x k p (inl h) = inl (stands_keep log x k _ h)
withdraws_keep log x k p (inr h) = inr (stands_keep log x k _ h)

withdraws_new : (log : List Entry) (x : Entry) (p : ℕ) → IsWithdrawal x.reply p
    → WithdrawsAt (log ++ x ∷ []) (length log) p
withdraws_new log x p (inl h) = inl (stands_new log x ∙ ap Some h)
withdraws_new log x p (inr h) = inr (stands_new log x ∙ ap Some h)

publishes_within : (log : List Entry) (k p : ℕ) → PublishesAt log k p → k < length log
publishes_within log k p (inl h) = stands_within log k _ h
publishes_within log k p (inr h) = stands_within log k _ h

withdraws_within : (log : List Entry) (k p : ℕ) → WithdrawsAt log k p → k < length log
withdraws_within log k p (inl h) = stands_within log k _ h
withdraws_within log k p (inr h) = stands_within log k _ h

-- who is pinned now published with the last entry, or was pinned before it, which withdraws nothing
pub pinned_push : (log : List Entry) (x : Entry) (p at : ℕ) → PinnedSince (log ++ x ∷ []) p at
    → ((at ≡ length log) × IsPublish x.reply p) ⊎ (PinnedSince log p at × (¬ (IsWithdrawal x.reply p)))
pinned_push log x p at now = elim (publishes_push log x at p now.published) [
  | inl old ↦ inr (
    record { published = old; lasts = λ k lt ends. now.lasts k lt (withdraws_keep log x k p ends) },
    λ ends. now.lasts (length log) (publishes_within log at p old) (withdraws_new log x p ends),
  )
  | inr new ↦ inl new
]

-- up to the last place is to the end
stays_to_the_end : (log : List Entry) (p i j : ℕ) → length log ≡ j + 1 → (stays : StaysPinned log p i j)
    → PinnedSince log p stays.at
stays_to_the_end log p i j last stays = record {
  published = stays.published;
  lasts = λ k lt ends. stays.lasted k lt (omega (arith, withdraws_within log k p ends)) ends;
}

publishes_old : (log : List Entry) (x : Entry) (k p : ℕ) → k < length log → PublishesAt (log ++ x ∷ []) k p
    → PublishesAt log k p
publishes_old log x k p lt h =
    elim (publishes_push log x k p h) [ inl old ↦ old | inr new ↦ absurd (omega arith) ]

-- a stretch within the old log was there before the last entry
stays_old : (log : List Entry) (x : Entry) (p i j : ℕ) → i < length log → StaysPinned (log ++ x ∷ []) p i j
    → StaysPinned log p i j
stays_old log x p i j lt stays = record {
  at = stays.at;
  before = stays.before;
  published = publishes_old log x stays.at p (omega arith) stays.published;
  lasted = λ k after upto ends. stays.lasted k after upto (withdraws_keep log x k p ends);
}

-- Grace is kept where the last entry calls nothing that is blocked, and defers nothing that was called before.
pub grace_push : (log : List Entry) (x : Entry) → KeepsGrace log
    → ((t i p at : ℕ) (how : Called) → x.reply ≡ CalledReply t how → IsReplyAt log i (Deferred t) → at ≤ i
    → ¬ (PinnedSince log p at))
    → ((t k : ℕ) (how : Called) → x.reply ≡ Deferred t → ¬ (IsReplyAt log k (CalledReply t how)))
    → KeepsGrace (log ++ x ∷ [])
grace_push log x grace calls defers t j how called blocked =
    at_call (stands_push log x (j + 1) _ called) (stands_push log x blocked.place _ blocked.deferred)
  where
    stays : IsReplyAt log blocked.place (Deferred t) → StaysPinned log blocked.who blocked.place j
    stays d = stays_old log x blocked.who blocked.place j (stands_within log blocked.place _ d) blocked.stays

    at_call : IsReplyAt log (j + 1) (CalledReply t how) ⊎ ((j + 1 ≡ length log) × (x.reply ≡ CalledReply t how))
        → IsReplyAt log blocked.place (Deferred t) ⊎ ((blocked.place ≡ length log) × (x.reply ≡ Deferred t)) → ⊥
    at_call (inl c) (inl d) =
        grace t j how c (record { who = blocked.who; place = blocked.place; deferred = d; stays = stays d })
    at_call (inl c) (inr d) = defers t (j + 1) how d.1 c
    at_call (inr c) (inl d) = calls t blocked.place blocked.who (stays d).at how c.1 d (stays d).before
        (stays_to_the_end log blocked.who blocked.place j (sym c.0) (stays d))
    at_call (inr c) (inr d) = absurd (cc (c.1, d.1))

-- WHO STAYS PINNED

publishes_keep : (log : List Entry) (x : Entry) (k p : ℕ) → PublishesAt log k p → PublishesAt (log ++ x ∷ []) k p
publishes_keep log x k p (inl h) = inl (stands_keep log x k _ h)
publishes_keep log x k p (inr h) = inr (stands_keep log x k _ h)

withdraws_push : (log : List Entry) (x : Entry) (k p : ℕ) → WithdrawsAt (log ++ x ∷ []) k p
    → WithdrawsAt log k p ⊎ ((k ≡ length log) × IsWithdrawal x.reply p)
withdraws_push log x k p (inl h) =
    elim (stands_push log x k _ h) [ inl old ↦ inl (inl old) | inr new ↦ inr (new.0, inl new.1) ]
withdraws_push log x k p (inr h) =
    elim (stands_push log x k _ h) [ inl old ↦ inl (inr old) | inr new ↦ inr (new.0, inr new.1) ]

-- one more entry makes the log longer by one
pub length_push : (log : List Entry) (x : Entry) → length (log ++ x ∷ []) ≡ length log + 1
length_push [] x = refl
length_push (first ∷ log) x = omega (arith, length_push log x)

-- who is pinned stays so where the last entry doesn't withdraw it
pub pinned_keep : (log : List Entry) (x : Entry) (p at : ℕ) → PinnedSince log p at → ¬ (IsWithdrawal x.reply p)
    → PinnedSince (log ++ x ∷ []) p at
pinned_keep log x p at now on = record {
  published = publishes_keep log x at p now.published;
  lasts = λ k lt ends. elim (withdraws_push log x k p ends) [ inl old ↦ now.lasts k lt old | inr new ↦ on new.1 ];
}

-- who publishes with the last entry is pinned since
pub pinned_new : (log : List Entry) (x : Entry) (p : ℕ)
    → IsPublish x.reply p → PinnedSince (log ++ x ∷ []) p (length log)
pinned_new log x p h = record {
  published = elim h [ inl e ↦ inl (stands_new log x ∙ ap Some e) | inr e ↦ inr (stands_new log x ∙ ap Some e) ];
  lasts = λ k lt ends. absurd (omega (arith, withdraws_within (log ++ x ∷ []) k p ends, length_push log x));
}

-- the place since which somebody is pinned is within the log
pub pinned_within : (log : List Entry) (p at : ℕ) → PinnedSince log p at → at < length log
pinned_within log p at now = publishes_within log at p now.published

-- where grace is kept, what was deferred while p was pinned isn't called while p stays so
pub grace_refuses : (log : List Entry) (x : Entry) → KeepsGrace (log ++ x ∷ []) → (t : ℕ) (how : Called)
    → x.reply ≡ CalledReply t how → (i p at : ℕ) → IsReplyAt log i (Deferred t) → PinnedSince log p at → at ≤ i → ⊥
grace_refuses [] x grace t how called i p at deferred now le = cc (deferred)
grace_refuses (first ∷ rest) x grace t how called i p at deferred now le = grace t (length rest) how
    (subst (λ (k : ℕ). IsReplyAt (log ++ x ∷ []) k (CalledReply t how)) up (stands_new log x ∙ ap Some called))
    (record {
      who = p;
      place = i;
      deferred = stands_keep log x i _ deferred;
      stays = record {
        at = at;
        before = le;
        published = publishes_keep log x at p now.published;
        lasted = λ k after upto ends. elim (withdraws_push log x k p ends) [
          | inl old ↦ now.lasts k after old
          | inr new ↦ absurd (omega (arith, new.0))
        ];
      };
    })
  where
    log : List Entry
    log = first ∷ rest

    up : length (first ∷ rest) ≡ length rest + 1
    up = omega arith
