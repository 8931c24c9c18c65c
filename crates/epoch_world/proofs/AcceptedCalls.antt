-- A call begins where nothing refuses it, and takes no more steps than its replies have room for.
use Rattle.std.proofs.Common.{◌≡◌, ℕ, ◌+◌, ◌<◌, Bool, false, List, length, Option, Some, None, refl, ap, ap₂, sym}
use Rattle.std.proofs.Common.{subst, ◌∙◌, slice_index_or, slice_set, get_or-set_same}
use Rattle.epoch_cells.specs.declared.fault.Fault.{Fault}
use Rattle.epoch_machine.specs.declared.machine.Sizes.{Sizes}
use Rattle.epoch_machine.specs.declared.machine.Stage.TheVariants.{Idle as Resting}
use Rattle.epoch_laws.specs.declared.step.Call.{Call}
use Rattle.epoch_laws.specs.declared.step.Step.TheVariants.{Begin}
use Rattle.epoch_laws.specs.declared.step.Reply.TheVariants.{Began, Refused}
use Rattle.epoch_laws.specs.declared.step.Entry.{Entry}
use Rattle.epoch_laws.specs.Run.{WorldSeat, State, Moves, TakesStep, with_places, BeginsCall, Runs, IsFresh, refusal}
use Rattle.epoch_laws.specs.Run.{seat_of, with_seat, begun_seat, free_seat}
use Rattle.epoch_machine.specs.Machine.{is_taking}
use Rattle.epoch_laws.specs.Collections.{expiry_of}
use Rattle.epoch_laws.specs.Room.{is_putting}
use Rattle.epoch_laws.specs.Kept.{IsSound}
use Rattle.epoch_laws.specs.Fits.{IsLawful}
use Rattle.epoch_world.specs.Steps.{InStore, steps_left, call_bound, IsSteady}
use Rattle.epoch_world.specs.Worlds.{aheads}
use Rattle.epoch_world.proofs.AheadsStay.{same_aheads, begun_for}
use Rattle.epoch_laws.proofs.SeatLemmas.{seat_there, begin_given}
use Rattle.epoch_laws.proofs.EventsLawful.{replies_stand}
use Rattle.epoch_laws.proofs.RepliesFit.{replies_fit}
use Rattle.epoch_laws.proofs.CallsAfterDeferrals.{calls_follow}
use Rattle.epoch_world.proofs.Performed.{found_there, begin_moves}
use Rattle.epoch_world.proofs.StepsFall.{begun_fits, begun_steady}
use Rattle.epoch_world.proofs.WorldKept.{rests_where_accepted}

-- A call of p isn't refused now: the fields of the world make the state s, but for the places, o is what refuses the
-- call, and the seat is the one found at p.
pub record IsGiven (s now : State) (p : ℕ) (c : Call) (o : Option Fault) (seat : WorldSeat) : Type 0 where
  pub places : List Bool
  pub seen : List ℕ
  pub ahead : List ℕ
  pub room : List Bool
  pub is : with_places s places seen ahead room ≡ now
  pub asked : o ≡ refusal c (seat_of now p) now.tickets now.heap
  pub none : o ≡ None
  pub found : seat ≡ slice_index_or s.seats p seat

-- what the code has found of a call is what the laws speak of, whatever the places tell
pub given_by : {s now : State} {p : ℕ} {c : Call} {o : Option Fault} {seat : WorldSeat} (places : List Bool)
    (seen ahead : List ℕ) (room : List Bool) → with_places s places seen ahead room ≡ now
    → o ≡ refusal c (seat_of now p) now.tickets now.heap → o ≡ None → seat ≡ slice_index_or s.seats p seat
    → IsGiven s now p c o seat
given_by places seen ahead room is asked none found = record {
  places = places;
  seen = seen;
  ahead = ahead;
  room = room;
  is = is;
  asked = asked;
  none = none;
  found = found;
}

module _ (s now : State) (p : ℕ) (c : Call) (o : Option Fault) (seat : WorldSeat) (h : IsGiven s now p c o seat) where
  not_refused : refusal c (seat_of s p) s.tickets s.heap ≡ None
  not_refused = ap (λ (z : State). refusal c (seat_of z p) z.tickets z.heap) h.is ∙ sym h.asked ∙ h.none

  -- the participant of a call that is accepted has a position in the table
  pub given_there : p < length s.seats
  given_there = seat_there s p (begin_given c (seat_of s p) s.tickets s.heap not_refused).taken

  given_at : seat ≡ seat_of s p
  given_at = found_there s.seats s.sizes p seat given_there h.found

  given_here : refusal c seat s.tickets s.heap ≡ None
  given_here = ap (λ (q : WorldSeat). refusal c q s.tickets s.heap) given_at ∙ not_refused

  -- its machine rests
  pub given_rests : IsSound s → seat.machine.stage ≡ Resting
  given_rests kept = rests_where_accepted s p c seat kept given_at given_here

  -- so it has no collection under way
  pub given_quiet : IsSound s → is_taking (seat_of s p).machine.stage ≡ false
  given_quiet kept = ap (λ (q : WorldSeat). is_taking q.machine.stage) (sym given_at) ∙ ap is_taking (given_rests kept)

  -- and no put
  pub given_away : IsSound s → is_putting (seat_of s p).machine.stage ≡ false
  given_away kept = ap (λ (q : WorldSeat). is_putting q.machine.stage) (sym given_at) ∙ ap is_putting (given_rests kept)

  -- nothing more or less is ahead of any collection
  pub given_aheads : {C : Type 0} (ahead : ℕ → C → ℕ) (cursors : List C) (after : WorldSeat)
      → IsSound s → after ≡ begun_seat c seat
      → aheads ahead (slice_set s.seats p after) cursors ≡ aheads ahead s.seats cursors
  given_aheads ahead cursors after kept begun =
      let rests : expiry_of seat.machine.stage ≡ 0 = ap expiry_of (given_rests kept) in
      let after_rests : expiry_of after.machine.stage ≡ 0 = ap (λ (q : WorldSeat). expiry_of q.machine.stage) begun
      ∙ begun_for c seat rests in
      let before_rests : expiry_of (seat_of s p).machine.stage ≡ 0 = ap (λ (q : WorldSeat). expiry_of q.machine.stage)
      (sym given_at) ∙ rests in
      same_aheads ahead s.seats cursors p after (free_seat s.sizes) (after_rests ∙ sym before_rests)

  -- to begin the call is a step of the world
  pub given_moves : (after : WorldSeat) (places : List Bool) (seen : List ℕ) (ahead : List ℕ) (room : List Bool)
      → after ≡ begun_seat c seat
      → Moves (with_places s places seen ahead room) (Begin p c) Began
      (with_seat (with_places s places seen ahead room) p after)
  given_moves after places seen ahead room begun =
      begin_moves (with_places s places seen ahead room) _ p c seat after given_at given_here begun refl

  -- no update has found anything yet
  pub given_steady : (after : WorldSeat) → after ≡ begun_seat c seat
      → IsSteady s.heap (slice_index_or (slice_set s.seats p after) p (free_seat s.sizes)).progress
  given_steady after begun =
      subst (λ (q : WorldSeat). IsSteady s.heap q.progress)
      (sym (get_or-set_same s.seats p after (free_seat s.sizes) given_there ∙ begun)) (begun_steady s.heap c seat)

  -- the whole call takes fewer steps than its replies have room for
  pub given_few : (slots : ℕ) (after : WorldSeat) (n : InStore) (found most steps : ℕ)
      → IsSound s → after ≡ begun_seat c seat → n.most ≡ most → found ≡ slots
      → steps ≡ call_bound found s.sizes most + 1
      → steps_left slots (slice_index_or (slice_set s.seats p after) p (free_seat s.sizes)) n < steps
  given_few slots after n found most steps kept begun same counted bound =
      let sized : seat.machine.sizes ≡ s.sizes = ap (λ (q : WorldSeat). q.machine.sizes) given_at
      ∙ (kept.linked.seats p).sized in
      subst (λ (q : WorldSeat). steps_left slots q n < steps)
      (sym (get_or-set_same s.seats p after (free_seat s.sizes) given_there ∙ begun))
      (subst (λ k. steps_left slots (begun_seat c seat) n < k) (ap₂ (λ (z : Sizes) m. call_bound slots z m + 1) sized
      same ∙ sym (bound ∙ ap (λ k. call_bound k s.sizes most + 1) counted)) (begun_fits c seat n slots))

-- and to refuse it is one too
pub refused_takes : (s : State) (p : ℕ) (c : Call) (o : Option Fault) (f : Fault)
    → o ≡ refusal c (seat_of s p) s.tickets s.heap → o ≡ Some f → TakesStep s (Begin p c) (Refused f) s
refused_takes s p c o f found some = (
  subst (λ (r : Option Fault). BeginsCall s p c r (Refused f) s) (sym some ∙ found) (refl, refl),
  (refl, refl, refl, refl),
)

-- the log of a run from a new world on is lawful
pub run_is_lawful : (s new : State) (log : List Entry) → IsFresh s → Runs s log new → IsLawful log
run_is_lawful s new log fresh run =
    let calls = calls_follow s new log fresh run in
    record {
      in_calls = replies_stand s new log fresh run;
      fits = replies_fit s new log fresh run;
      once = calls.once;
      deferred = calls.deferred;
    }
