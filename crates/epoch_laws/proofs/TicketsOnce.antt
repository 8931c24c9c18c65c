-- Every step keeps the tally, so in every run each ticket's job is in one bag or was called once.
use Rattle.std.proofs.Common.{◌≡◌, ◌≢◌, ℕ, ◌+◌, Bool, List, [], ◌∷◌, ◌++◌, append_assoc, append-nil}
use Rattle.std.proofs.Common.{refl, ap, sym, subst, arith}
use Rattle.epoch_laws.specs.declared.step.Step.{Step}
use Rattle.epoch_laws.specs.declared.step.Reply.TheVariants.{Began, Stepped, Called as CalledReply, Done, Refused}
use Rattle.epoch_laws.specs.declared.step.Reply.{Reply}
use Rattle.epoch_laws.specs.declared.step.Entry.{Entry}
use Rattle.epoch_laws.specs.declared.step.Progress.TheVariants.{Driven, CallsNow, Accesses, Ends}
use Rattle.epoch_laws.specs.declared.heap.access.AccessAnswer.TheVariants.{Count}
use Rattle.epoch_laws.specs.Heap.{outcome_of, heap_after_job}
use Rattle.epoch_laws.specs.Run.{with_places, WorldSeat, State, seat_of, Ending, Open, Emptying, Over, AllFree}
use Rattle.epoch_laws.specs.Run.{Runs, IsFresh}
use Rattle.epoch_laws.specs.Tickets.{times_queued, times_at_end, times_called, times_deferred, HoldsEachTicketOnce}
use Rattle.epoch_laws.proofs.StepKinds.{StepKind, Refusal, Registration, CallBegins, MachineStep, JobStep, CellsStep}
use Rattle.epoch_laws.proofs.StepKinds.{LastReply, EndBegins, EndCalls, EndTakes, EndIsOver, step_kind}
use Rattle.epoch_laws.proofs.TicketSums.{queued_put, times_cons, none_at_seats, none_deferred}
use Rattle.epoch_laws.proofs.JobsPlaced.{PlacesHere}
use Rattle.epoch_laws.proofs.TicketsTallied.{Tallies, stayed, registers, closes}
use Rattle.epoch_laws.proofs.TicketsKept.{begins, goes}

-- once an end has begun, no participant is left
none_left : (old : State) (log : List Entry) → Tallies old log → (ending : Ending) → old.ending ≡ ending → ending ≢ Open
    → AllFree old
none_left old log h ending at shut = h.closed (λ opened. shut (cc (opened, at)))

kind_tallies : (old : State) (log : List Entry) → Tallies old log → (step : Step) (reply : Reply) (new : State)
    → StepKind old step reply new → Tallies new (log ++ record { step = step; reply = reply } ∷ [])
kind_tallies old log h _ _ _ (Refusal step fault) = stayed old _ log _ h (Refused fault) refl refl refl
kind_tallies old log h _ _ _ (Registration p opened there free) =
    registers old _ log _ h p opened there free refl refl
kind_tallies old log h _ _ _ (CallBegins p c given) =
    begins old _ log _ h p given.taken c given.idle refl refl
kind_tallies old log h _ _ _ (MachineStep p c reply new taken drive did) =
    goes old new log _ h p taken (Driven c) drive did
kind_tallies old log h _ _ _ (JobStep p removes taken now) =
    goes old _ log _ h p taken (CallsNow removes) now (refl, refl)
kind_tallies old log h _ _ _ (CellsStep p a k found did taken now touches) =
    goes old _ log _ h p taken (Accesses a k found) now (did, touches, refl, refl)
kind_tallies old log h _ _ _ (LastReply p reply taken now) = goes old _ log _ h p taken (Ends reply) now (refl, refl)
kind_tallies old log h _ _ _ (EndBegins opened free) =
    closes old _ log _ h Began old.queued (Emptying [] 0) old.heap refl free (λ over. absurd (cc (over)))
    (λ t. omega (arith, ap (times_at_end t) opened)) (λ t. refl) refl
kind_tallies old log h _ _ _ (EndCalls job jobs n at) =
    closes old _ log _ h (CalledReply job.ticket (outcome_of old.heap job.removes)) old.queued (Emptying jobs (n + 1))
    (heap_after_job old.heap job.removes) refl (none_left old log h _ at (λ opened. cc (opened)))
    (λ over. absurd (cc (over))) (λ t. omega (arith, ap (times_at_end t) at, times_cons t job jobs)) (λ t. refl) refl
kind_tallies old log h _ _ _ (EndTakes bag queued n at out) =
    closes old _ log _ h Stepped queued (Emptying bag.jobs n) old.heap refl
    (none_left old log h _ at (λ opened. cc (opened))) (λ over. absurd (cc (over)))
    (λ t. omega (arith, ap (times_at_end t) at, queued_put t queued old.queued bag out)) (λ t. refl) refl
kind_tallies old log h _ _ _ (EndIsOver n at none) =
    closes old _ log _ h (Done (Count n)) old.queued Over old.heap refl
    (none_left old log h _ at (λ opened. cc (opened))) (λ over. none)
    (λ t. omega (arith, ap (times_at_end t) at)) (λ t. refl) refl

-- the places play no part
tallies_aside : (s : State) (log : List Entry) (places : List Bool) (seen : List ℕ) (ahead : List ℕ) (room : List Bool)
    → Tallies (with_places s places seen ahead room) log
    → Tallies s log
tallies_aside s log places seen ahead room h =
    record { seats = h.seats; placed = h.placed; accepted = h.accepted; closed = h.closed; over = h.over }

runs_tally : (old new : State) (log entries : List Entry)
    → Tallies old log
    → Runs old entries new
    → Tallies new (log ++ entries)
runs_tally old new log [] h run =
    subst (λ s. Tallies s (log ++ [])) (sym run) (subst (Tallies old) (sym (append-nil log)) h)
runs_tally old new log (x ∷ entries) h (mid, did, run) =
    let aside = kind_tallies old log h x.step x.reply (with_places mid old.places old.seen old.ahead old.room)
    (step_kind old _ x.step x.reply did.0) in
    let step : Tallies mid (log ++ x ∷ []) =
    tallies_aside mid (log ++ x ∷ []) old.places old.seen old.ahead old.room aside in
    subst (Tallies new) (append_assoc log (x ∷ []) entries) (runs_tally mid new (log ++ x ∷ []) entries step run)

fresh_tallies : (s : State) → IsFresh s → Tallies s []
fresh_tallies s fresh = record {
  seats = λ p. subst PlacesHere (sym (fresh.free p))
      (record { hand = refl; held = tt; rests = refl; free = λ free. (refl, refl) });
  placed = λ t. omega (
    arith,
    none_at_seats t s no_job,
    ap (times_queued t) fresh.none_queued,
    ap (times_at_end t) fresh.open_end,
  );
  accepted = λ t. none_deferred t s.tickets fresh.no_tickets;
  closed = λ shut. absurd (shut fresh.open_end);
  over = λ over. absurd (cc (over, fresh.open_end));
}
  where
    no_job : (p : ℕ) → ((seat_of s p).machine.held ≡ []) × ((seat_of s p).machine.hand ≡ [])
    no_job p =
        let held = ap (λ (seat : WorldSeat). seat.machine.held) (fresh.free p) in
        let hand = ap (λ (seat : WorldSeat). seat.machine.hand) (fresh.free p) in
        (held, hand)

-- every run of a new world keeps the tally of jobs
pub run_tallies : (s new : State) (log : List Entry) → IsFresh s → Runs s log new → Tallies new log
run_tallies s new log fresh run = runs_tally s new [] log (fresh_tallies s fresh) run

-- in every run of a new world each accepted job is in exactly one bag, or was called exactly once
pub holds_each_once : (s new : State) (log : List Entry) → IsFresh s → Runs s log new → HoldsEachTicketOnce log new
holds_each_once s new log fresh run =
    let h = run_tallies s new log fresh run in
    record { placed = h.placed; accepted = h.accepted }

-- when an end is over, no bag is left anywhere
pub end_calls_all : (s new : State) (log : List Entry)
    → IsFresh s
    → Runs s log new
    → new.ending ≡ Over
    → (t : ℕ) → times_called t log ≡ times_deferred t log
end_calls_all s new log fresh run over t =
    let h = run_tallies s new log fresh run in
    let free : AllFree new = h.closed (λ opened. cc (opened, over)) in
    let none_seated = none_at_seats t new (λ p. (h.seats p).free (free p)) in
    omega (arith, h.placed t, none_seated, ap (times_queued t) (h.over over), ap (times_at_end t) over)
