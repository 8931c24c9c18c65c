-- In every run a job is called at most once, and only after it was deferred.
use Rattle.std.proofs.Common.{◌≡◌, ℕ, zero, suc, ◌+◌, ◌<◌, ◌≤◌, List, [], ◌∷◌, ◌++◌, append_assoc, append-nil, length}
use Rattle.std.proofs.Common.{Some, ◌⊎◌, inl, inr, refl, ap, sym, subst, ◌∙◌, arith, nat_lt, if◌then◌else◌}
use Rattle.std.proofs.lemmas.Bool.Decides.{nat_tests}
use Rattle.std.proofs.lemmas.List.Sums.{sum_by-cons}
use Rattle.epoch_bags.specs.declared.job.Called.{Called}
use Rattle.epoch_laws.specs.declared.step.Reply.{Reply}
use Rattle.epoch_laws.specs.declared.step.Reply.TheVariants.{Deferred, Called as CalledReply}
use Rattle.epoch_laws.specs.declared.step.Entry.{Entry}
use Rattle.epoch_laws.specs.Run.{State, Runs, IsFresh}
use Rattle.epoch_laws.specs.Grace.{IsReplyAt}
use Rattle.epoch_laws.specs.Tickets.{calls_of, deferrals_of, times_called, times_deferred, HoldsEachTicketOnce}
use Rattle.epoch_laws.proofs.RunsGoOn.{runs_push}
use Rattle.epoch_laws.proofs.Log.{stands_push, stands_keep}
use Rattle.epoch_laws.proofs.TicketSums.{called_push, deferred_push}
use Rattle.epoch_laws.proofs.TicketsOnce.{holds_each_once}

-- COUNTS AND PLACES

one_call : (t : ℕ) (reply : Reply) (how : Called) → reply ≡ CalledReply t how → calls_of t reply ≡ 1
one_call t reply how is = ap (calls_of t) is ∙ grind (arith, nat_tests)

called_first : (t : ℕ) (x : Entry) (log : List Entry)
    → times_called t (x ∷ log) ≡ calls_of t x.reply + times_called t log
called_first t x log = sum_by-cons (λ (e : Entry). calls_of t e.reply) x log

deferred_first : (t : ℕ) (x : Entry) (log : List Entry)
    → times_deferred t (x ∷ log) ≡ deferrals_of t x.reply + times_deferred t log
deferred_first t x log = sum_by-cons (λ (e : Entry). deferrals_of t e.reply) x log

-- what is called somewhere is counted
called_counts : (log : List Entry) (t i : ℕ) (how : Called)
    → IsReplyAt log i (CalledReply t how) → 0 < times_called t log
called_counts [] t i how at = absurd (cc)
called_counts (x ∷ log) t zero how at = omega (arith, called_first t x log, one_call t x.reply how cc)
called_counts (x ∷ log) t (suc i) how at = omega (arith, called_first t x log, called_counts log t i how at)

-- what is counted as deferred was deferred somewhere
deferred_reply : (t : ℕ) (reply : Reply) → 0 < deferrals_of t reply → reply ≡ Deferred t
deferred_reply t (Deferred ticket) some = ap Deferred (grind (arith, nat_tests))
deferred_reply t _ some = absurd (omega arith)

some_part : (a b : ℕ) → 0 < a + b → (0 < a) ⊎ (0 < b)
some_part a b some = grind arith

deferred_somewhere : (log : List Entry) (t : ℕ) → 0 < times_deferred t log
    → (i : ℕ) × (i < length log) × IsReplyAt log i (Deferred t)
deferred_somewhere [] t some = absurd (omega arith)
deferred_somewhere (x ∷ log) t some =
    elim (some_part (deferrals_of t x.reply) (times_deferred t log) (omega (arith, deferred_first t x log))) [
      | inl first ↦ (0, omega arith, ap Some (deferred_reply t x.reply first))
      | inr later ↦ let found = deferred_somewhere log t later in (suc found.0, omega (arith, found.1), found.2)
    ]

-- ONE MORE ENTRY

pub record CallsFollow (log : List Entry) : Type 0 where
  pub once : (t i j : ℕ) (how again : Called)
      → IsReplyAt log i (CalledReply t how) → IsReplyAt log j (CalledReply t again)
      → i ≡ j
  pub deferred : (t j : ℕ) (how : Called) → IsReplyAt log j (CalledReply t how)
      → (i : ℕ) × (i < j) × IsReplyAt log i (Deferred t)

at_most_once : (t tickets : ℕ) → (if nat_lt t tickets then 1 else 0) ≤ 1
at_most_once t tickets = grind (arith, nat_tests)

module _ (log : List Entry) (x : Entry) (new : State) (h : CallsFollow log)
    (held : HoldsEachTicketOnce (log ++ x ∷ []) new) where
  -- the job that the last entry calls was not called before
  not_again : (t i : ℕ) (how again : Called) → IsReplyAt log i (CalledReply t how) → x.reply ≡ CalledReply t again → ⊥
  not_again t i how again before last = omega (
    arith,
    held.placed t,
    held.accepted t,
    at_most_once t new.tickets,
    called_push t log x,
    called_counts log t i how before,
    one_call t x.reply again last,
  )

  was_deferred : (t : ℕ) (how : Called) → x.reply ≡ CalledReply t how
      → (i : ℕ) × (i < length log) × IsReplyAt log i (Deferred t)
  was_deferred t how last = deferred_somewhere log t (omega (
    arith,
    held.placed t,
    called_push t log x,
    deferred_push t log x,
    one_call t x.reply how last,
    ap (deferrals_of t) last,
  ))

  -- t is called at i, before the last entry or by it
  abbrev CallsAt : ℕ → ℕ → Called → Type 0
  CallsAt t i how = IsReplyAt log i (CalledReply t how) ⊎ ((i ≡ length log) × (x.reply ≡ CalledReply t how))

  at_most : (t i j : ℕ) (how again : Called) → CallsAt t i how → CallsAt t j again → i ≡ j
  at_most t i j how again (inl first) (inl second) = h.once t i j how again first second
  at_most t i j how again (inl first) (inr second) = absurd (not_again t i how again first second.1)
  at_most t i j how again (inr first) (inl second) = absurd (not_again t j again how second first.1)
  at_most t i j how again (inr first) (inr second) = first.0 ∙ sym second.0

  after : (t j : ℕ) (how : Called) → CallsAt t j how → (i : ℕ) × (i < j) × IsReplyAt (log ++ x ∷ []) i (Deferred t)
  after t j how (inl called) =
      let found = h.deferred t j how called in
      (found.0, found.1, stands_keep log x found.0 _ found.2)
  after t j how (inr called) =
      let found = was_deferred t how called.1 in
      (found.0, omega (arith, found.1, called.0), stands_keep log x found.0 _ found.2)

  calls_push : CallsFollow (log ++ x ∷ [])
  calls_push = record {
    once = λ t i j how again first second.
        at_most t i j how again (stands_push log x i _ first) (stands_push log x j _ second);
    deferred = λ t j how called. after t j how (stands_push log x j _ called);
  }

-- WHOLE RUNS

calls_along : (s old new : State) (log entries : List Entry) → IsFresh s → Runs s log old → CallsFollow log
    → Runs old entries new → CallsFollow (log ++ entries)
calls_along s old new log [] fresh before h run = subst CallsFollow (sym (append-nil log)) h
calls_along s old new log (x ∷ entries) fresh before h (mid, took, run) =
    let upto : Runs s (log ++ x ∷ []) mid = runs_push s old mid log x before took in
    let held : HoldsEachTicketOnce (log ++ x ∷ []) mid = holds_each_once s mid (log ++ x ∷ []) fresh upto in
    subst CallsFollow (append_assoc log (x ∷ []) entries)
    (calls_along s mid new (log ++ x ∷ []) entries fresh upto (calls_push log x mid h held) run)

-- in every run of a new world each job is called at most once, and after its deferral
pub calls_follow : (s new : State) (log : List Entry) → IsFresh s → Runs s log new → CallsFollow log
calls_follow s new log fresh run = calls_along s s new [] log fresh refl none run
  where
    none : CallsFollow []
    none = record { once = λ t i j how again first. absurd (cc); deferred = λ t j how called. absurd (cc) }
