-- Every step keeps what the world's code rests on.
use Rattle.std.proofs.Common.{◌≡◌, ℕ, ◌+◌, ◌^◌, ◌<◌, ◌≤◌, true, false, refl, List, ◌∷◌, length, Option, Some, None, ap}
use Rattle.std.proofs.Common.{sym, subst, ◌∙◌, inl, inr, arith}
use Rattle.epoch_machine.specs.declared.machine.Action.{Action}
use Rattle.epoch_machine.specs.declared.machine.Action.TheVariants.{Pin as PinAction, Unpin as UnpinAction}
use Rattle.epoch_machine.specs.declared.machine.Action.TheVariants.{Repin as RepinAction, Defer as DeferAction}
use Rattle.epoch_machine.specs.declared.machine.Action.TheVariants.{Flush as FlushAction, Release as ReleaseAction}
use Rattle.epoch_machine.specs.Machine.{guards_after, ask_at, asks}
use Rattle.epoch_machine.specs.declared.machine.Ask.TheVariants.{KeepJob}
use Rattle.epoch_machine.specs.declared.machine.Stage.{Stage}
use Rattle.epoch_machine.specs.declared.machine.Stage.TheVariants.{Idle as Resting, Keep, End}
use Rattle.epoch_world.specs.declared.world.EndStage.{EndStage}
use Rattle.epoch_world.specs.declared.world.EndStage.TheVariants.{Open as OpenStage, Emptying as EmptyingStage}
use Rattle.epoch_world.specs.declared.world.EndStage.TheVariants.{Over as OverStage}
use Rattle.epoch_laws.specs.declared.step.Call.{Call}
use Rattle.epoch_laws.specs.declared.step.Call.TheVariants.{Pin, Resume}
use Rattle.epoch_laws.specs.declared.step.Deferral.{Deferral}
use Rattle.epoch_laws.specs.declared.step.Step.{Step}
use Rattle.epoch_laws.specs.declared.step.Step.TheVariants.{EndGo}
use Rattle.epoch_laws.specs.declared.step.Reply.{Reply}
use Rattle.epoch_laws.specs.declared.step.Reply.TheVariants.{Called}
use Rattle.epoch_machine.specs.declared.machine.Sizes.{Sizes}
use Rattle.epoch_laws.specs.declared.step.Progress.{Progress}
use Rattle.epoch_laws.specs.declared.step.Progress.TheVariants.{Idle, Driven}
use Rattle.epoch_laws.specs.Run.{Bag, WorldSeat, State, Emptying, seat_of, refusal, Moves, IsFresh}
use Rattle.epoch_world.specs.Seats.{adds_guard}
use Rattle.epoch_world.specs.declared.world.common.Common.{Common}
use Rattle.epoch_world.specs.Worlds.{state_of, ending_of, IsEmptying}
use Rattle.epoch_laws.specs.Kept.{IsDriven, rests, BeganUnder, Awake, HasGuardRoom, IsSound, paused_count, jobs_at_end}
use Rattle.epoch_laws.proofs.SeatLemmas.{begin_given}
use Rattle.epoch_laws.proofs.Linked.{moved_linked, fresh_linked, follows_at}
use Rattle.epoch_laws.specs.Heap.{Heap, outcome_of, heap_after_job}
use Rattle.epoch_laws.proofs.HeapSteps.{heap_goes}
use Rattle.epoch_laws.proofs.ReadingsKept.{readings_move, fresh_readings}
use Rattle.epoch_world.proofs.SlotsStay.{job_slots, access_slots}
use Rattle.epoch_world.proofs.GuardsFew.{moves_room, fresh_room}
use Rattle.epoch_world.proofs.FreeSeats.{moves_free, fresh_free}
use Rattle.epoch_world.proofs.JobsCounted.{moves_jobs, fresh_jobs}
use Rattle.epoch_world.proofs.TicketsBounded.{tickets_bounded, fresh_bounded, keep_fits}

-- no step makes a cell more or less
moves_slots : (old new : State) (step : Step) (reply : Reply)
    → Moves old step reply new → length new.heap.cells ≡ length old.heap.cells
moves_slots old new step reply did = elim (heap_goes old new step reply step refl did) [
  | inl same ↦ ap (λ (h : Heap). length h.cells) same
  | inr (inl calls) ↦ ap (λ (h : Heap). length h.cells) calls.heap ∙ job_slots old.heap calls.removes
  | inr (inr (inl calls)) ↦ ap (λ (h : Heap). length h.cells) calls.heap ∙ job_slots old.heap calls.removes
  | inr (inr (inr access)) ↦ ap (λ (h : Heap). length h.cells) access.makes.heap
      ∙ access_slots access.call access.steps access.found old.heap access.makes.did access.makes.touches
]

-- each step keeps that
pub kept_moves : (old new : State) (step : Step) (reply : Reply)
    → IsSound old → length new.seats ≡ length old.seats → Moves old step reply new → IsSound new
kept_moves old new step reply h same did = record {
  linked = moved_linked old new step reply h.linked did;
  roomy = moves_room old new reply h.linked h.roomy step did;
  bounded = tickets_bounded old new step reply did h.bounded;
  jobs = moves_jobs old new step reply h.jobs did;
  free = moves_free old new h.free step reply did;
  few = omega (arith, h.few, same);
  readings = readings_move old new reply h.readings h.linked step did;
  cells = omega (arith, h.cells, moves_slots old new step reply did);
}

-- and it holds of a new world of these sizes
pub fresh_kept : (s : State) → IsFresh s → length s.seats ≤ 64 → length s.heap.cells ≤ 4096 → IsSound s
fresh_kept s fresh few cells = record {
  linked = fresh_linked s fresh;
  roomy = fresh_room s fresh;
  bounded = fresh_bounded s fresh;
  jobs = fresh_jobs s fresh;
  free = fresh_free s fresh;
  few = few;
  readings = fresh_readings s fresh;
  cells = cells;
}

-- an end calls the next job of the bag that it has taken
pub called_kept : (sizes : Sizes) (common : Common (List Bag)) (seats : List WorldSeat)
    (stage : EndStage) (hand left : List Deferral) (n : ℕ) (after : Heap) (job : Deferral)
    → IsSound (state_of sizes common seats (ending_of stage hand n))
    → IsEmptying (ending_of stage hand n) → hand ≡ job ∷ left
    → after ≡ heap_after_job common.heap job.removes
    → IsSound (state_of sizes (record common { heap = after }) seats (ending_of stage left (n + 1)))
called_kept sizes common seats EmptyingStage hand left n after job h emptying is called =
    let old : State = state_of sizes common seats (Emptying (job ∷ left) n) in
    let kept : IsSound old =
    subst (λ (jobs : List Deferral). IsSound (state_of sizes common seats (Emptying jobs n))) is h in
    subst (λ (heap : Heap). IsSound (state_of sizes (record common { heap = heap }) seats (Emptying left (n + 1))))
    (sym called)
    (kept_moves old _ EndGo (Called job.ticket (outcome_of common.heap job.removes)) kept refl (refl, refl))
called_kept sizes common seats OpenStage hand left n after job h emptying is called = absurd emptying
called_kept sizes common seats OverStage hand left n after job h emptying is called = absurd emptying

-- where a call isn't refused, the machine rests
pub rests_where_accepted : (s : State) (p : ℕ) (c : Call) (seat : WorldSeat)
    → IsSound s → seat ≡ seat_of s p → refusal c seat s.tickets s.heap ≡ None → seat.machine.stage ≡ Resting
rests_where_accepted s p c seat h is given =
    let accepted = begin_given c (seat_of s p) s.tickets s.heap
    (ap (λ (q : WorldSeat). refusal c q s.tickets s.heap) (sym is) ∙ given) in
    ap (λ (q : WorldSeat). q.machine.stage) is ∙ follows_at s.sizes (seat_of s p) (h.linked.seats p) Idle accepted.idle

-- a machine under way that asks nothing more is at its end
at_end : (s : Stage) → rests s ≡ false → ask_at s ≡ None → s ≡ End
at_end Resting busy none = absurd (cc)
at_end End busy none = refl
at_end _ busy none = absurd (cc)

keeps_at : (s : Stage) → ask_at s ≡ Some KeepJob → s ≡ Keep
keeps_at Keep asked = refl
keeps_at _ asked = absurd (cc)

-- a driven machine that asks for nothing is at its end
pub ends_where_driven : (s : State) (p : ℕ) (c : Call) (seat : WorldSeat)
    → IsSound s → seat ≡ seat_of s p → seat.progress ≡ Driven c → asks seat.machine ≡ None → seat.machine.stage ≡ End
ends_where_driven s p c seat h is drive none =
    let driven : IsDriven c (seat_of s p).machine (seat_of s p).guards = follows_at s.sizes (seat_of s p)
    (h.linked.seats p) (Driven c) (ap (λ (q : WorldSeat). q.progress) (sym is) ∙ drive) in
    at_end seat.machine.stage (ap (λ (q : WorldSeat). rests q.machine.stage) is ∙ driven.under_way) none

-- a guard that an ending call counts has room
room_left : (c : Call) (guards : List ℕ) (paused : Option ℕ) → BeganUnder c guards → Awake (Driven c) paused
    → length guards + paused_count paused ≤ 64 → adds_guard c ≡ true → length guards < 64
room_left Pin guards paused under awake few adds = under
room_left (Resume (Some g)) guards paused under awake few adds = omega (arith, few, ap paused_count awake)
room_left (Resume None) guards paused under awake few adds = absurd (cc)
room_left _ guards paused under awake few adds = absurd (cc)

-- a call that adds a guard has room for it
pub room_where_driven : (s : State) (p : ℕ) (c : Call) (seat : WorldSeat)
    → IsSound s → seat ≡ seat_of s p → seat.progress ≡ Driven c → adds_guard c ≡ true → length seat.guards < 64
room_where_driven s p c seat h is drive adds =
    let progress : (seat_of s p).progress ≡ Driven c = ap (λ (q : WorldSeat). q.progress) (sym is) ∙ drive in
    let driven : IsDriven c (seat_of s p).machine (seat_of s p).guards = follows_at s.sizes (seat_of s p)
    (h.linked.seats p) (Driven c) progress in
    let room : HasGuardRoom (seat_of s p) = h.roomy p in
    let awake : Awake (Driven c) (seat_of s p).paused =
    subst (λ (now : Progress). Awake now (seat_of s p).paused) progress room.awake in
    subst (λ (q : WorldSeat). length q.guards < 64) (sym is)
    (room_left c (seat_of s p).guards (seat_of s p).paused driven.under awake room.few adds)

-- the number of guards stays in its range
pub guards_fit : (s : State) (p : ℕ) (seat : WorldSeat)
    → IsSound s → seat ≡ seat_of s p → guards_after seat.machine.action seat.machine.guards < 2 ^ 32
guards_fit s p seat h is = by_action seat.machine.action seat.machine.guards few
  where
    few : seat.machine.guards ≤ 64
    few = subst (λ (q : WorldSeat). q.machine.guards ≤ 64) (sym is)
        (omega (arith, (h.linked.seats p).counted, (h.roomy p).few))

    by_action : (a : Action) (n : ℕ) → n ≤ 64 → guards_after a n < 2 ^ 32
    by_action PinAction n le = omega arith
    by_action UnpinAction n le = omega arith
    by_action RepinAction n le = omega arith
    by_action DeferAction n le = omega arith
    by_action FlushAction n le = omega arith
    by_action ReleaseAction n le = omega arith

-- where a job is kept, there is a ticket for it
pub ticket_left : (s : State) (p : ℕ) (seat : WorldSeat)
    → IsSound s → p < length s.seats → seat ≡ seat_of s p → asks seat.machine ≡ Some KeepJob → s.tickets + 1 < 2 ^ 64
ticket_left s p seat h there is asked = keep_fits s p h.bounded there
    (keeps_at (seat_of s p).machine.stage (ap (λ (q : WorldSeat). asks q.machine) (sym is) ∙ asked)) h.few

-- an end that has a job in hand has called fewer jobs than 2^64 - 1
pub one_more_counts : (s : State) (stage : EndStage) (job : Deferral) (hand left : List Deferral) (n : ℕ)
    → IsSound s → s.ending ≡ ending_of stage hand n → IsEmptying s.ending → hand ≡ job ∷ left → n + 1 < 2 ^ 64
one_more_counts s EmptyingStage job hand left n h at emptying is =
    let counted : jobs_at_end s.ending ≡ length hand + n = ap jobs_at_end at in
    omega (arith, h.jobs, h.bounded.tickets, h.few, counted, ap length is)
one_more_counts s OpenStage job hand left n h at emptying is = absurd (subst IsEmptying at emptying)
one_more_counts s OverStage job hand left n h at emptying is = absurd (subst IsEmptying at emptying)
