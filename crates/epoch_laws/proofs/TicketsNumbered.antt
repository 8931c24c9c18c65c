-- In every run the ticket of an accepted job is the number of those accepted before it.
use Rattle.std.proofs.Common.{◌≡◌, ℕ, ◌+◌, ◌<◌, List, [], ◌∷◌, ◌++◌, append_assoc, append-nil, length, take, ◌⊎◌, inl}
use Rattle.std.proofs.Common.{inr, refl, ap, sym, subst, ◌∙◌, arith}
use Rattle.std.proofs.lemmas.Bool.Decides.{nat_tests}
use Rattle.std.proofs.lemmas.List.{take-append-le}
use Rattle.std.proofs.lemmas.List.Sums.{sum_by-append}
use Rattle.std.proofs.Math.Seq.{take-append_seam}
use Rattle.epoch_laws.specs.declared.step.Reply.{Reply}
use Rattle.epoch_laws.specs.declared.step.Reply.TheVariants.{Deferred}
use Rattle.epoch_laws.specs.declared.step.Entry.{Entry}
use Rattle.epoch_laws.specs.Run.{State, Runs, IsFresh}
use Rattle.epoch_laws.specs.Grace.{IsReplyAt}
use Rattle.epoch_laws.specs.Tickets.{HoldsEachTicketOnce, one_if_deferral, deferrals, NumbersTickets}
use Rattle.epoch_laws.proofs.Log.{stands_push, stands_within}
use Rattle.epoch_laws.proofs.RunsGoOn.{runs_push}
use Rattle.epoch_laws.proofs.TicketSums.{deferred_push}
use Rattle.epoch_laws.proofs.TicketsTallied.{GivesTicket}
use Rattle.epoch_laws.proofs.TicketsOnce.{holds_each_once}

-- ONE MORE TICKET

-- the ticket given is the next one
own_ticket : (old new t : ℕ) → GivesTicket old (Deferred t) new → t ≡ old
own_ticket old new t given = grind (arith, nat_tests, given old, given t)

next_ticket : (old new : ℕ) (reply : Reply) → GivesTicket old reply new → new ≡ old + one_if_deferral reply
next_ticket old new (Deferred t) given =
    let own : t ≡ old = own_ticket old new t given in
    grind (arith, nat_tests, given old, given t, given (old + 1))
next_ticket old new _ given = grind (arith, nat_tests, given old, given new)

deferrals_push : (log : List Entry) (x : Entry) → deferrals (log ++ x ∷ []) ≡ deferrals log + one_if_deferral x.reply
deferrals_push log x = sum_by-append _ log (x ∷ []) ∙ omega arith

-- ONE MORE ENTRY

record Numbers (s : State) (log : List Entry) : Type 0 where
  tickets : s.tickets ≡ deferrals log
  numbered : NumbersTickets log

module _ (old new : State) (log : List Entry) (x : Entry) (h : Numbers old log)
    (before : HoldsEachTicketOnce log old) (after : HoldsEachTicketOnce (log ++ x ∷ []) new) where
  given : GivesTicket old.tickets x.reply new.tickets
  given t = omega (arith, before.accepted t, after.accepted t, deferred_push t log x)

  numbers_at : (t i : ℕ) → IsReplyAt log i (Deferred t) ⊎ ((i ≡ length log) × (x.reply ≡ Deferred t))
      → t ≡ deferrals (take i (log ++ x ∷ []))
  numbers_at t i (inl earlier) =
      let within : i < length log = stands_within log i _ earlier in
      h.numbered t i earlier ∙ ap deferrals (sym (take-append-le i log (x ∷ []) (omega (arith, within))))
  numbers_at t i (inr (last, told)) =
      let own : t ≡ old.tickets = own_ticket old.tickets new.tickets t
      (subst (λ (reply : Reply). GivesTicket old.tickets reply new.tickets) told given) in
      own ∙ h.tickets ∙ ap deferrals (sym (ap (λ (n : ℕ). take n (log ++ x ∷ [])) last ∙ take-append_seam log (x ∷ [])))

  numbers_push : Numbers new (log ++ x ∷ [])
  numbers_push = record {
    tickets = omega (arith, next_ticket old.tickets new.tickets x.reply given, h.tickets, deferrals_push log x);
    numbered = λ t i at. numbers_at t i (stands_push log x i _ at);
  }

-- WHOLE RUNS

numbers_along : (s old new : State) (log entries : List Entry) → IsFresh s → Runs s log old → Numbers old log
    → Runs old entries new → Numbers new (log ++ entries)
numbers_along s old new log [] fresh before h run =
    subst (λ (at : State). Numbers at (log ++ [])) (sym run) (subst (Numbers old) (sym (append-nil log)) h)
numbers_along s old new log (x ∷ entries) fresh before h (mid, took, run) =
    let upto : Runs s (log ++ x ∷ []) mid = runs_push s old mid log x before took in
    let next : Numbers mid (log ++ x ∷ []) =
    numbers_push old mid log x h (holds_each_once s old log fresh before) (holds_each_once s mid _ fresh upto) in
    subst (Numbers new) (append_assoc log (x ∷ []) entries)
    (numbers_along s mid new (log ++ x ∷ []) entries fresh upto next run)

-- in every run from a new world, the ticket of an accepted job is the number of those accepted before it
pub numbers_tickets : (s new : State) (log : List Entry) → IsFresh s → Runs s log new → NumbersTickets log
numbers_tickets s new log fresh run = (numbers_along s s new [] log fresh refl none run).numbered
  where
    none : Numbers s []
    none = record { tickets = fresh.no_tickets; numbered = λ t i at. absurd (cc) }
