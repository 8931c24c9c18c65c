-- The tally of the tickets, and what keeps it: jobs move as the reply tells.
use Rattle.std.proofs.Common.{◌≡◌, ◌≢◌, ℕ, ◌+◌, ◌<◌, Bool, true, false, List, [], ◌∷◌, ◌++◌, length, inl, inr, refl, ap}
use Rattle.std.proofs.Common.{sym, subst, ◌∙◌, arith, if◌then◌else◌, nat_lt}
use Rattle.epoch_laws.specs.declared.step.Call.{Call}
use Rattle.epoch_laws.specs.declared.step.Call.TheVariants.{Pin, Defer, Flush, Release, DeferDestroy}
use Rattle.epoch_laws.specs.declared.step.Reply.{Reply}
use Rattle.epoch_laws.specs.declared.step.Reply.TheVariants.{Registered, Deferred, Called}
use Rattle.epoch_laws.specs.declared.step.Entry.{Entry}
use Rattle.epoch_laws.specs.declared.step.Word.TheVariants.{Free, Unpinned}
use Rattle.epoch_laws.specs.Run.{Bag, WorldSeat, State, seat_of, position_word, with_seat, free_seat, Ending, Open}
use Rattle.epoch_laws.specs.Run.{Over, AllFree, end_reply, full_or_done, with_heap, access_reply}
use Rattle.epoch_laws.specs.Tickets.{times, times_queued, times_in_bags, times_at_end, calls_of, deferrals_of}
use Rattle.epoch_laws.specs.Tickets.{times_called, times_deferred}
use Rattle.epoch_laws.proofs.SeatLemmas.{seat_written, seat_other, same_or_other}
use Rattle.epoch_laws.proofs.TicketSums.{called_push, deferred_push, times_at, seats_set}
use Rattle.epoch_laws.proofs.JobsPlaced.{PlacesHere}
use Rattle.epoch_laws.specs.declared.heap.access.Accessed.{Accessed}
use Rattle.epoch_laws.specs.declared.heap.access.Accessed.TheVariants.{Again, Answers, NoSlot}
use Rattle.epoch_laws.specs.Heap.{Heap}

-- what holds between any two steps
pub record Tallies (s : State) (log : List Entry) : Type 0 where
  pub seats : (p : ℕ) → PlacesHere (seat_of s p)
  pub placed : (t : ℕ) → times_in_bags t s + times_called t log ≡ times_deferred t log
  pub accepted : (t : ℕ) → times_deferred t log ≡ (if nat_lt t s.tickets then 1 else 0)
  pub closed : s.ending ≢ Open → AllFree s
  pub over : s.ending ≡ Over → s.queued ≡ []

-- the cells and pointers play no part
pub heap_beside : (s : State) (log : List Entry) (heap : Heap) → Tallies (with_heap s heap) log → Tallies s log
heap_beside s log heap h =
    record { seats = h.seats; placed = h.placed; accepted = h.accepted; closed = h.closed; over = h.over }

-- whether a reply tells of a ticket
abbrev pub tells : Reply → Bool
tells (Deferred t) = true
tells (Called t how) = true
tells _ = false

-- a reply that tells of no ticket calls none
pub untold_calls : (t : ℕ) (told : Reply) → tells told ≡ false → calls_of t told ≡ 0
untold_calls t (Called u how) quiet = absurd (cc)
untold_calls t _ quiet = refl

-- a reply that tells of no ticket defers none
pub untold_deferrals : (t : ℕ) (told : Reply) → tells told ≡ false → deferrals_of t told ≡ 0
untold_deferrals t (Deferred u) quiet = absurd (cc)
untold_deferrals t _ quiet = refl

-- a step of a call on cells and pointers tells of none
pub access_untold : (told : Accessed) → tells (access_reply told) ≡ false
access_untold (Again found) = refl
access_untold (Answers answer) = refl
access_untold NoSlot = refl

-- the end of a call tells of none
pub end_untold : (c : Call) (seat : WorldSeat) → tells (end_reply c seat) ≡ false
end_untold c seat = ends c
  where
    by_full : (full : Bool) → tells (full_or_done full) ≡ false
    by_full true = refl
    by_full false = refl

    ends : (c : Call) → tells (end_reply c seat) ≡ false
    ends (Defer g) = by_full seat.machine.full
    ends (Flush g) = by_full seat.machine.full
    ends Release = by_full seat.machine.full
    ends (DeferDestroy g ptr) = by_full seat.machine.full
    ends Pin = refl
    ends _ = refl

-- how often a job is in the bags that no participant has
abbrev times_left : ℕ → List Bag → Ending → ℕ
times_left t queued ending = times_queued t queued + times_at_end t ending

-- the state after a step of one participant
abbrev pub acted : State → ℕ → WorldSeat → ℕ → List Bag → ℕ → State
acted old p seat epoch queued tickets =
    record (with_seat old p seat) { epoch = epoch; queued = queued; tickets = tickets }

-- the next ticket is given where the reply tells so, and none else
abbrev pub GivesTicket : ℕ → Reply → ℕ → Type 0
GivesTicket old told new =
    (t : ℕ) → (if nat_lt t old then 1 else 0) + deferrals_of t told ≡ (if nat_lt t new then 1 else 0)

-- where a reply tells of no ticket, none is given
pub none_given : (tickets : ℕ) (told : Reply) → tells told ≡ false → GivesTicket tickets told tickets
none_given tickets told quiet t = omega (arith, untold_deferrals t told quiet)

-- a step of one participant, at which jobs move as the reply tells
pub record MovesJobs (old : State) (told : Reply) (p : ℕ) (seat : WorldSeat) (queued : List Bag) (tickets : ℕ)
    : Type 0 where
  pub there : p < length old.seats
  pub ending : old.ending ≡ Open
  pub places : PlacesHere seat
  pub moved : (t : ℕ) → times_at t seat + times_queued t queued + calls_of t told
      ≡ times_at t (seat_of old p) + times_queued t old.queued + deferrals_of t told
  pub given : GivesTicket old.tickets told tickets

module _ (old new : State) (log : List Entry) (x : Entry) (h : Tallies old log) where
  abbrev Kept : Type 0
  Kept = Tallies new (log ++ x ∷ [])

  pub stayed : (told : Reply) → x.reply ≡ told → tells told ≡ false → new ≡ old → Kept
  stayed told is quiet did = subst (λ s. Tallies s (log ++ x ∷ [])) (sym did) (record {
    seats = h.seats;
    placed = λ t. omega (
      arith,
      h.placed t,
      untold_calls t told quiet,
      untold_deferrals t told quiet,
      called_push t log x,
      deferred_push t log x,
      ap (calls_of t) is,
      ap (deferrals_of t) is,
    );
    accepted = λ t.
        omega (arith, h.accepted t, untold_deferrals t told quiet, deferred_push t log x, ap (deferrals_of t) is);
    closed = h.closed;
    over = h.over;
  })

  pub acts : (told : Reply) (p : ℕ) (seat : WorldSeat) (epoch : ℕ) (queued : List Bag) (tickets : ℕ)
      → x.reply ≡ told
      → MovesJobs old told p seat queued tickets
      → new ≡ acted old p seat epoch queued tickets
      → Kept
  acts told p seat epoch queued tickets is moves did = subst (λ s. Tallies s (log ++ x ∷ [])) (sym did) (record {
    seats = λ q. elim (same_or_other q p) [
      | inl same ↦
          let written = ap (seat_of (with_seat old p seat)) same ∙ seat_written old p seat moves.there in
          subst PlacesHere (sym written) moves.places
      | inr other ↦ subst PlacesHere (sym (seat_other old p q seat other)) (h.seats q)
    ];
    placed = λ t. omega (
      arith,
      h.placed t,
      moves.moved t,
      seats_set t old p seat moves.there,
      called_push t log x,
      deferred_push t log x,
      ap (calls_of t) is,
      ap (deferrals_of t) is,
    );
    accepted = λ t. omega (arith, h.accepted t, moves.given t, deferred_push t log x, ap (deferrals_of t) is);
    closed = λ shut. absurd (shut moves.ending);
    over = λ over. absurd (cc (over, moves.ending));
  })

  pub registers : (p : ℕ)
      → old.ending ≡ Open
      → p < length old.seats
      → position_word old p ≡ Free
      → x.reply ≡ Registered p
      → new ≡ with_seat old p (record (free_seat old.sizes) { word = Unpinned })
      → Kept
  registers p opened there free is did =
      let none = (h.seats p).free free in
      acts _ p _ old.epoch old.queued old.tickets is (record {
        there = there;
        ending = opened;
        places = record { hand = refl; held = tt; rests = refl; free = λ free. absurd (cc) };
        moved = λ t. omega (arith, ap (times t) none.0, ap (times t) none.1);
        given = none_given old.tickets (Registered p) refl;
      }) did

  -- a step of the end, when no participant is left
  pub closes : (told : Reply) (queued : List Bag) (ending : Ending) (heap : Heap)
      → x.reply ≡ told
      → AllFree old
      → (ending ≡ Over → queued ≡ [])
      → ((t : ℕ) → times_left t queued ending + calls_of t told ≡ times_left t old.queued old.ending)
      → ((t : ℕ) → deferrals_of t told ≡ 0)
      → new ≡ record old { queued = queued; ending = ending; heap = heap }
      → Kept
  closes told queued ending heap is free over moved none did =
      subst (λ s. Tallies s (log ++ x ∷ [])) (sym did) (record {
        seats = h.seats;
        placed = λ t. omega (
          arith,
          h.placed t,
          moved t,
          none t,
          called_push t log x,
          deferred_push t log x,
          ap (calls_of t) is,
          ap (deferrals_of t) is,
        );
        accepted = λ t. omega (arith, h.accepted t, none t, deferred_push t log x, ap (deferrals_of t) is);
        closed = λ shut. free;
        over = over;
      })
