-- What steps and replies alone say: who has stayed pinned, which job is blocked, and that no blocked job is called.
use Rattle.std.specs.Prelude.{◌≡◌, ℕ, ◌+◌, ◌<◌, ◌≤◌, List, ◌⊎◌, slice_get, Some, option_map}
use Rattle.epoch_bags.specs.declared.job.Called.{Called}
use Rattle.epoch_laws.specs.declared.step.Reply.{Reply}
use Rattle.epoch_laws.specs.declared.step.Reply.TheVariants.{Pinned, Unpinned, Repinned, Deferred}
use Rattle.epoch_laws.specs.declared.step.Reply.TheVariants.{Called as CalledReply}
use Rattle.epoch_laws.specs.declared.step.Entry.{Entry}

-- what the reply at place i of the log tells
abbrev pub IsReplyAt : List Entry → ℕ → Reply → Type 0
IsReplyAt log i event = option_map (λ entry. entry.reply) (slice_get log i) ≡ Some event

-- p publishes an epoch there
abbrev pub PublishesAt : List Entry → ℕ → ℕ → Type 0
PublishesAt log i p = IsReplyAt log i (Pinned p) ⊎ IsReplyAt log i (Repinned p)

-- p withdraws there what it had published
abbrev pub WithdrawsAt : List Entry → ℕ → ℕ → Type 0
WithdrawsAt log i p = IsReplyAt log i (Unpinned p) ⊎ IsReplyAt log i (Repinned p)

-- p has been pinned since a place at or before i, and up to j it neither unpinned nor repinned
pub record StaysPinned (log : List Entry) (p i j : ℕ) : Type 0 where
  pub at : ℕ
  pub before : at ≤ i
  pub published : PublishesAt log at p
  pub lasted : (k : ℕ) → at < k → k ≤ j → ¬ (WithdrawsAt log k p)

-- somebody who was pinned when t was deferred has stayed pinned up to j
pub record IsBlocked (log : List Entry) (t j : ℕ) : Type 0 where
  pub who : ℕ
  pub place : ℕ
  pub deferred : IsReplyAt log place (Deferred t)
  pub stays : StaysPinned log who place j

-- no blocked job is called
abbrev pub KeepsGrace : List Entry → Type 0
KeepsGrace log = (t j : ℕ) (how : Called) → IsReplyAt log (j + 1) (CalledReply t how) → ¬ (IsBlocked log t j)
