-- What holds of the log between any two steps, and what a reply must keep of it.
use Rattle.std.proofs.Common.{◌≡◌, ℕ, ◌<◌, ◌≤◌, true, List, [], ◌∷◌, ◌++◌, length, ◌⊎◌, inl, inr, arith}
use Rattle.epoch_bags.specs.declared.job.Called.{Called}
use Rattle.epoch_laws.specs.declared.step.Reply.{Reply}
use Rattle.epoch_laws.specs.declared.step.Reply.TheVariants.{Deferred, Called as CalledReply}
use Rattle.epoch_laws.specs.declared.step.Entry.{Entry}
use Rattle.epoch_laws.specs.Grace.{IsReplyAt, KeepsGrace}
use Rattle.epoch_laws.proofs.Log.{IsPublish, IsWithdrawal, PinnedSince, stands_push, stands_within, pinned_push}
use Rattle.epoch_laws.proofs.Log.{grace_push}
use Rattle.epoch_laws.proofs.SeatsFine.{View, is_pinned, Passes}

-- What was told agrees with the view.
pub record LogHolds (v : View) (log : List Entry) : Type 0 where
  pub on : (p at : ℕ) → PinnedSince log p at → is_pinned (v.word p) ≡ true  -- who has stayed pinned is pinned now
  -- who has stayed pinned since a deferral or before it has published no later than it
  pub blocked : (t i p at : ℕ) → IsReplyAt log i (Deferred t) → at ≤ i → PinnedSince log p at → v.since p ≤ v.when t
  pub deferred : (t i : ℕ) → IsReplyAt log i (Deferred t) → t < v.tickets  -- each ticket that was told was given
  pub called : (t i : ℕ) (how : Called) → IsReplyAt log i (CalledReply t how) → t < v.tickets
  pub grace : KeepsGrace log  -- no blocked job was called

-- who was pinned before a reply that doesn't withdraw it stays so
abbrev pub Lasts : View → View → Reply → ℕ → Type 0
Lasts v w r p = is_pinned (v.word p) ≡ true → ¬ (IsWithdrawal r p)
    → (is_pinned (w.word p) ≡ true) × (w.since p ≡ v.since p)

-- what a reply may tell while the view passes from v to w
pub record Tells (v w : View) (r : Reply) : Type 0 where
  pub published : (p : ℕ) → IsPublish r p → is_pinned (w.word p) ≡ true
  pub lasting : (p : ℕ) → Lasts v w r p
  pub deferred : (t : ℕ) → r ≡ Deferred t → (t ≡ v.tickets) × (t < w.tickets) × ((p : ℕ) → w.since p ≤ w.when t)
  pub called : (t : ℕ) (how : Called) → r ≡ CalledReply t how
      → (t < v.tickets) × ((p : ℕ) → is_pinned (v.word p) ≡ true → v.when t < v.since p)

-- after one more reply that agrees with how the view changes, what was told agrees with the view still
pub log_push : (v w : View) (log : List Entry) (x : Entry) → LogHolds v log → Passes v w → Tells v w x.reply
    → LogHolds w (log ++ x ∷ [])
log_push v w log x h pass tells = record {
  on = on_more;
  blocked = λ t i p at d le now. elim (stands_push log x i _ d) [
    | inl old ↦ blocked_old t i p at old le (pinned_push log x p at now)
    | inr new ↦ (tells.deferred t new.1).2 p
  ];
  deferred = λ t i d. elim (stands_push log x i _ d) [
    | inl old ↦ omega (arith, h.deferred t i old, pass.tickets)
    | inr new ↦ (tells.deferred t new.1).1
  ];
  called = λ t i how c. elim (stands_push log x i _ c) [
    | inl old ↦ omega (arith, h.called t i how old, pass.tickets)
    | inr new ↦ omega (arith, (tells.called t how new.1).0, pass.tickets)
  ];
  grace = grace_push log x h.grace
      (λ t i p at how called d le now.
      absurd (omega (arith, h.blocked t i p at d le now, (tells.called t how called).1 p (h.on p at now))))
      (λ t k how d c. absurd (omega (arith, h.called t k how c, (tells.deferred t d).0)));
}
  where
    on_more : (p at : ℕ) → PinnedSince (log ++ x ∷ []) p at → is_pinned (w.word p) ≡ true
    on_more p at now = elim (pinned_push log x p at now) [
      | inl new ↦ tells.published p new.1
      | inr old ↦ (tells.lasting p (h.on p at old.0) old.1).0
    ]

    blocked_old : (t i p at : ℕ) → IsReplyAt log i (Deferred t) → at ≤ i
        → ((at ≡ length log) × IsPublish x.reply p) ⊎ (PinnedSince log p at × (¬ (IsWithdrawal x.reply p)))
        → w.since p ≤ w.when t
    blocked_old t i p at d le (inl new) = absurd (omega (arith, stands_within log i _ d))
    blocked_old t i p at d le (inr old) = omega (
      arith,
      h.blocked t i p at d le old.0,
      (tells.lasting p (h.on p at old.0) old.1).1,
      pass.when t (h.deferred t i d),
    )
