-- Where each job is, in one bag or called once, and which ticket it has.
use Rattle.std.specs.Prelude.{◌≡◌, ℕ, ◌+◌, List, take, sum_by, ◌==◌, nat_lt, if◌then◌else◌}
use Rattle.epoch_laws.specs.declared.step.Reply.{Reply}
use Rattle.epoch_laws.specs.declared.step.Reply.TheVariants.{Deferred, Called}
use Rattle.epoch_laws.specs.declared.step.Entry.{Entry}
use Rattle.epoch_laws.specs.declared.step.Deferral.{Deferral}
use Rattle.epoch_laws.specs.Run.{Bag, WorldSeat, State, Ending, Emptying}
use Rattle.epoch_laws.specs.Grace.{IsReplyAt}

-- how often the job of a ticket is among these
abbrev pub times : ℕ → List Deferral → ℕ
times t jobs = sum_by (λ job. if job.ticket == t then 1 else 0) jobs

abbrev pub times_at_end : ℕ → Ending → ℕ
times_at_end t (Emptying hand n) = times t hand
times_at_end t _ = 0

abbrev pub times_at_seats : ℕ → List WorldSeat → ℕ
times_at_seats t seats = sum_by (λ seat. times t seat.machine.held + times t seat.machine.hand) seats

abbrev pub times_queued : ℕ → List Bag → ℕ
times_queued t bags = sum_by (λ bag. times t bag.jobs) bags

-- how often it is in all bags: held, in the store, and taken by a participant or by an end
abbrev pub times_in_bags : ℕ → State → ℕ
times_in_bags t s = times_at_seats t s.seats + times_queued t s.queued + times_at_end t s.ending

abbrev pub calls_of : ℕ → Reply → ℕ
calls_of t (Called u how) = if u == t then 1 else 0
calls_of t _ = 0

abbrev pub deferrals_of : ℕ → Reply → ℕ
deferrals_of t (Deferred u) = if u == t then 1 else 0
deferrals_of t _ = 0

abbrev pub times_called : ℕ → List Entry → ℕ
times_called t log = sum_by (λ entry. calls_of t entry.reply) log

abbrev pub times_deferred : ℕ → List Entry → ℕ
times_deferred t log = sum_by (λ entry. deferrals_of t entry.reply) log

-- each accepted job is in exactly one bag, or was called exactly once
pub record HoldsEachTicketOnce (log : List Entry) (s : State) : Type 0 where
  pub placed : (t : ℕ) → times_in_bags t s + times_called t log ≡ times_deferred t log
  pub accepted : (t : ℕ) → times_deferred t log ≡ (if nat_lt t s.tickets then 1 else 0)

abbrev pub one_if_deferral : Reply → ℕ
one_if_deferral (Deferred t) = 1
one_if_deferral _ = 0

-- how many jobs were accepted
abbrev pub deferrals : List Entry → ℕ
deferrals log = sum_by (λ entry. one_if_deferral entry.reply) log

-- the ticket of an accepted job is the number of those accepted before it
abbrev pub NumbersTickets : List Entry → Type 0
NumbersTickets log = (t i : ℕ) → IsReplyAt log i (Deferred t) → t ≡ deferrals (take i log)
