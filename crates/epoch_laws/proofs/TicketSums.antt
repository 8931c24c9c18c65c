-- How often a ticket's job is in lists of bags and seats, and in a log, after one of them has changed.
use Rattle.std.proofs.Common.{◌≡◌, ℕ, suc, ◌+◌, ◌<◌, ◌==◌, List, [], ◌∷◌, ◌++◌, length, refl, ap, ◌∙◌, arith, get_or}
use Rattle.std.proofs.Common.{if◌then◌else◌, slice_set, sum_by, nat_lt}
use Rattle.std.proofs.lemmas.Bool.Decides.{nat_tests}
use Rattle.std.proofs.lemmas.List.Sums.{sum_by-append, sum_by-cons, sum_by-set}
use Rattle.epoch_bags.specs.Stores.{IsInserted}
use Rattle.epoch_laws.specs.declared.step.Entry.{Entry}
use Rattle.epoch_laws.specs.declared.step.Deferral.{Deferral}
use Rattle.epoch_laws.specs.Run.{Bag, WorldSeat, State, seat_of, free_seat}
use Rattle.epoch_laws.specs.Tickets.{times, times_at_seats, times_queued, calls_of, deferrals_of, times_called}
use Rattle.epoch_laws.specs.Tickets.{times_deferred}

-- one more entry adds the calls of the ticket that its reply tells
pub called_push : (t : ℕ) (log : List Entry) (x : Entry)
    → times_called t (log ++ x ∷ []) ≡ times_called t log + calls_of t x.reply
called_push t log x = sum_by-append _ log (x ∷ []) ∙ omega arith

-- one more entry adds the deferrals of the ticket that its reply tells
pub deferred_push : (t : ℕ) (log : List Entry) (x : Entry)
    → times_deferred t (log ++ x ∷ []) ≡ times_deferred t log + deferrals_of t x.reply
deferred_push t log x = sum_by-append _ log (x ∷ []) ∙ omega arith

-- how often it is at one participant
abbrev pub times_at : ℕ → WorldSeat → ℕ
times_at t seat = times t seat.machine.held + times t seat.machine.hand

-- where a participant's seat is written, its jobs count at all seats in place of those that it had
pub seats_set : (t : ℕ) (s : State) (p : ℕ) (seat : WorldSeat)
    → p < length s.seats
    → times_at_seats t (slice_set s.seats p seat) + times_at t (seat_of s p)
    ≡ times_at_seats t s.seats + times_at t seat
seats_set t s p seat there = sum_by-set _ s.seats p seat (free_seat s.sizes) there

-- a bag more in the store
pub queued_put : (t : ℕ) (old new : List Bag) (bag : Bag)
    → IsInserted bag old new
    → times_queued t new ≡ times_queued t old + times t bag.jobs
queued_put t old new bag at =
    let of_bag = λ (b : Bag). times t b.jobs in
    let rest = at.back in
    let more : times_queued t (bag ∷ rest) ≡ times t bag.jobs + times_queued t rest = sum_by-cons of_bag bag rest in
    let before : times_queued t old ≡ times_queued t (at.front ++ at.back) = ap (times_queued t) at.without in
    let after : times_queued t new ≡ times_queued t (at.front ++ bag ∷ at.back) = ap (times_queued t) at.with in
    omega (arith, sum_by-append of_bag at.front (bag ∷ at.back), sum_by-append of_bag at.front at.back)

-- a job put in front of others counts once if it has the ticket
pub times_cons : (t : ℕ) (job : Deferral) (jobs : List Deferral)
    → times t (job ∷ jobs) ≡ (if job.ticket == t then 1 else 0) + times t jobs
times_cons t job jobs = sum_by-cons (λ (j : Deferral). if j.ticket == t then 1 else 0) job jobs

-- a job put behind others counts once if it has the ticket
pub times_push : (t : ℕ) (jobs : List Deferral) (job : Deferral)
    → times t (jobs ++ job ∷ []) ≡ times t jobs + (if job.ticket == t then 1 else 0)
times_push t jobs job = sum_by-append (λ (j : Deferral). if j.ticket == t then 1 else 0) jobs (job ∷ []) ∙ omega arith

-- what is zero at each participant is zero over all of them
pub sum_zero : (f : WorldSeat → ℕ) (seats : List WorldSeat) (default : WorldSeat)
    → ((p : ℕ) → f (get_or seats p default) ≡ 0)
    → sum_by f seats ≡ 0
sum_zero f [] default none = refl
sum_zero f (seat ∷ seats) default none =
    let first : f seat ≡ 0 = none 0 in
    omega (arith, sum_by-cons f seat seats, sum_zero f seats default (λ p. none (suc p)))

-- where no participant has a job, none is at the seats
pub none_at_seats : (t : ℕ) (s : State)
    → ((p : ℕ) → ((seat_of s p).machine.held ≡ []) × ((seat_of s p).machine.hand ≡ []))
    → times_at_seats t s.seats ≡ 0
none_at_seats t s none = sum_zero _ s.seats (free_seat s.sizes)
    (λ p. omega (arith, ap (times t) (none p).0, ap (times t) (none p).1))

-- the next ticket is the one that is given
pub ticket_given : (tickets t : ℕ)
    → (if nat_lt t tickets then 1 else 0) + (if tickets == t then 1 else 0) ≡ (if nat_lt t (tickets + 1) then 1 else 0)
ticket_given tickets t = grind (arith, nat_tests)

-- an empty log defers no ticket, where none was given
pub none_deferred : (t tickets : ℕ) → tickets ≡ 0 → times_deferred t [] ≡ (if nat_lt t tickets then 1 else 0)
none_deferred t tickets none = grind (arith, nat_tests)
