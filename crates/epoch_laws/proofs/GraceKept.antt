-- Every step keeps what holds, so no run calls a job while somebody who was pinned at its deferral has stayed pinned.
use Rattle.std.proofs.Common.{◌≡◌, ℕ, ◌+◌, ◌<◌, Bool, List, [], ◌∷◌, ◌++◌, append_assoc, append-nil, length, inl, inr}
use Rattle.std.proofs.Common.{refl, ap, sym, subst, arith}
use Rattle.epoch_bags.specs.declared.job.Called.{Called}
use Rattle.epoch_laws.specs.declared.step.Step.{Step}
use Rattle.epoch_laws.specs.declared.step.Reply.TheVariants.{Registered, Began, Stepped, Done}
use Rattle.epoch_laws.specs.declared.step.Reply.TheVariants.{Called as CalledReply}
use Rattle.epoch_laws.specs.declared.step.Reply.{Reply}
use Rattle.epoch_laws.specs.declared.step.Progress.TheVariants.{Driven, CallsNow, Accesses, Ends}
use Rattle.epoch_laws.specs.declared.heap.access.AccessAnswer.TheVariants.{Count}
use Rattle.epoch_laws.specs.declared.step.Entry.{Entry}
use Rattle.epoch_laws.specs.declared.step.Word.TheVariants.{Free, Unpinned}
use Rattle.epoch_laws.specs.Grace.{KeepsGrace}
use Rattle.epoch_laws.specs.Run.{with_places, Bag, WorldSeat, State, position_word, with_seat, free_seat}
use Rattle.epoch_laws.specs.Run.{Ending, Open, Emptying, Over, AllFree, Runs}
use Rattle.epoch_laws.specs.Run.{IsFresh, TakesStep}
use Rattle.epoch_laws.proofs.StepKinds.{StepKind, Refusal, Registration, CallBegins, MachineStep, JobStep, CellsStep}
use Rattle.epoch_laws.proofs.StepKinds.{LastReply, EndBegins, EndCalls, EndTakes, EndIsOver, step_kind}
use Rattle.epoch_laws.proofs.SeatLinks.{AllLinked}
use Rattle.epoch_laws.proofs.Linked.{step_linked, fresh_linked}
use Rattle.epoch_laws.proofs.DeferralEpochs.{SealedBehind, sealed_got}
use Rattle.epoch_laws.proofs.QuietReplies.{IsPlain, plain_called, quiet_stepped, quiet_began, quiet_refused, quiet_done}
use Rattle.epoch_laws.proofs.SeatsFine.{View, is_pinned, SeatIsFine, passes_same}
use Rattle.epoch_laws.proofs.LogKept.{log_push}
use Rattle.epoch_laws.proofs.WorldHolds.{Holds, holds_along, view_of, acted, EndHolds}
use Rattle.epoch_laws.proofs.SeatSteps.{stay}
use Rattle.epoch_laws.proofs.GoesKeeps.{go_keeps}
use Rattle.epoch_laws.proofs.BeginsKeep.{accepted_holds}
use Rattle.epoch_laws.specs.Heap.{Heap, heap_after_job}

-- EVERY STEP

module _ (old new : State) (log : List Entry) (x : Entry) (h : Holds old log) (linked : AllLinked old) where
  registers : (p : ℕ) → old.ending ≡ Open → p < length old.seats → position_word old p ≡ Free → x.reply ≡ Registered p
      → new ≡ with_seat old p (record (free_seat old.sizes) { word = Unpinned }) → Holds new (log ++ x ∷ [])
  registers p opened lt free told did = holds_along new _ _ did
      (acted old _ log x h h.since h.when p (record (free_seat old.sizes) { word = Unpinned }) (record {
        there = lt;
        still_open = λ shut. shut opened;
        sizes = refl;
        seats = refl;
        ending = refl;
        epoch = omega arith;
        tickets = omega arith;
        when_old = λ t less. refl;
        since_other = λ q ne. refl;
        near = λ q ne pinned. (h.seats q).recent pinned;
        own = λ pinned. absurd (cc);
        fine = λ passes. record {
          published = λ i e. absurd (cc);
          before = (h.seats p).before;
          recent = λ pinned. absurd (cc);
          agrees = refl;
          aims = tt;
          held = tt;
          knows = tt;
        };
        queued = h.queued;
        published = λ q t. elim t [ inl a ↦ absurd (cc (told, a)) | inr a ↦ absurd (cc (told, a)) ];
        lasting = λ pinned on. absurd (cc (pinned, ap is_pinned free));
        deferred = λ t e. absurd (cc (told, e));
        called = λ t how e. absurd (cc (told, e));
      }))

  -- a step of the end, at which every word is free
  closes : (queued : List Bag) (ending : Ending) (heap : Heap) → AllFree old → IsPlain x.reply
      → ((t : ℕ) (how : Called) → x.reply ≡ CalledReply t how → t < old.tickets)
      → SealedBehind h.when old.tickets old.epoch queued → EndHolds h.when old.tickets ending
      → new ≡ record old { queued = queued; ending = ending; heap = heap } → Holds new (log ++ x ∷ [])
  closes queued ending heap free plain called sealed ends did = holds_along new _ _ did (record {
    since = h.since;
    when = h.when;
    seats = h.seats;
    queued = sealed;
    closed = λ shut. free;
    ending = ends;
    logged = log_push v v log x h.logged
        (passes_same v)
        (record {
          published = λ p told. absurd (plain.published p told);
          lasting = λ p pinned on. (pinned, refl);
          deferred = λ t told. absurd (plain.deferred t told);
          called = λ t how told. (called t how told, λ q pinned. absurd (cc (pinned, ap is_pinned (free q))));
        });
  })
    where
      v : View
      v = view_of old h.since h.when

-- each kind of step keeps what holds
kind_holds : (old : State) (log : List Entry) → Holds old log → AllLinked old → (step : Step) (reply : Reply)
    (new : State) → StepKind old step reply new → Holds new (log ++ record { step = step; reply = reply } ∷ [])
kind_holds old log h linked _ _ _ (Refusal step fault) = stay old _ log _ h (quiet_refused _ fault refl) refl
kind_holds old log h linked _ _ _ (Registration p opened there free) =
    registers old _ log _ h linked p opened there free refl refl
kind_holds old log h linked _ _ _ (CallBegins p c given) =
    accepted_holds old _ log _ h linked p c given refl c given.own refl
kind_holds old log h linked _ _ _ (MachineStep p c reply new taken drive did) =
    go_keeps old new log _ h linked p taken (Driven c) drive did
kind_holds old log h linked _ _ _ (JobStep p removes taken now) =
    go_keeps old _ log _ h linked p taken (CallsNow removes) now (refl, refl)
kind_holds old log h linked _ _ _ (CellsStep p a k found did taken now touches) =
    go_keeps old _ log _ h linked p taken (Accesses a k found) now (did, touches, refl, refl)
kind_holds old log h linked _ _ _ (LastReply p reply taken now) =
    go_keeps old _ log _ h linked p taken (Ends reply) now (refl, refl)
kind_holds old log h linked _ _ _ (EndBegins opened free) = let quiet = quiet_began Began refl in
    closes old _ log _ h linked old.queued (Emptying [] 0) old.heap free quiet.plain
    (λ t how a. absurd (quiet.called t how a)) h.queued (0, tt) refl
kind_holds old log h linked _ _ _ (EndCalls job jobs n at) =
    let hand : EndHolds h.when old.tickets (Emptying (job ∷ jobs) n) =
    subst (EndHolds h.when old.tickets) at h.ending in
    closes old _ log _ h linked old.queued (Emptying jobs (n + 1)) (heap_after_job old.heap job.removes)
    (h.closed (λ opened. absurd (cc (opened, at)))) (plain_called _ job.ticket _ refl)
    (λ t how a. let same : job.ticket ≡ t = cc (a) in omega (arith, same, hand.1.0)) h.queued (hand.0, hand.1.2) refl
kind_holds old log h linked _ _ _ (EndTakes bag queued n at out) =
    let parts = sealed_got h.when old.tickets old.epoch old.queued queued bag out h.queued in
    let quiet = quiet_stepped Stepped refl in
    closes old _ log _ h linked queued (Emptying bag.jobs n) old.heap (h.closed (λ opened. absurd (cc (opened, at))))
    quiet.plain (λ t how a. absurd (quiet.called t how a)) parts.sealed (bag.seal, parts.jobs) refl
kind_holds old log h linked _ _ _ (EndIsOver n at none) = let quiet = quiet_done (Done (Count n)) _ refl in
    closes old _ log _ h linked old.queued Over old.heap (h.closed (λ opened. absurd (cc (opened, at)))) quiet.plain
    (λ t how a. absurd (quiet.called t how a)) h.queued tt refl

-- WHOLE RUNS

-- the places play no part
holds_aside : (s : State) (log : List Entry) (places : List Bool) (seen : List ℕ) (ahead : List ℕ) (room : List Bool)
    → Holds (with_places s places seen ahead room) log
    → Holds s log
holds_aside s log places seen ahead room h = record {
  since = h.since;
  when = h.when;
  seats = h.seats;
  queued = h.queued;
  closed = h.closed;
  ending = h.ending;
  logged = h.logged;
}

-- each step keeps what holds of the world and its log
pub step_holds : (old new : State) (log : List Entry) (x : Entry) → AllLinked old → Holds old log
    → TakesStep old x.step x.reply new → Holds new (log ++ x ∷ [])
step_holds old new log x linked h did = holds_aside new _ _ _ _ _
    (kind_holds old log h linked x.step x.reply _ (step_kind old _ x.step x.reply did.0))

-- each run keeps what holds of the world and its log
pub runs_hold : (old new : State) (log entries : List Entry) → AllLinked old → Holds old log → Runs old entries new
    → Holds new (log ++ entries)
runs_hold old new log [] linked h run =
    holds_along new old _ run (subst (Holds old) (sym (append-nil log)) h)
runs_hold old new log (x ∷ entries) linked h (mid, did, run) =
    subst (Holds new) (append_assoc log (x ∷ []) entries)
    (runs_hold mid new (log ++ x ∷ []) entries (step_linked old mid x.step x.reply linked did)
    (step_holds old mid log x linked h did) run)

-- what holds of the world and its log holds of a new world, whose log is empty
pub fresh_holds : (s : State) → IsFresh s → Holds s []
fresh_holds s fresh = record {
  since = λ p. 0;
  when = λ t. 0;
  seats =
      λ p. subst (λ (seat : WorldSeat). SeatIsFine (view_of s (λ q. 0) (λ t. 0)) p seat) (sym (fresh.free p)) (record {
        published = λ n e. absurd (cc);
        before = omega arith;
        recent = λ pinned. absurd (cc);
        agrees = refl;
        aims = tt;
        held = tt;
        knows = tt;
      });
  queued = subst (SealedBehind (λ t. 0) s.tickets s.epoch) (sym fresh.none_queued) tt;
  closed = λ shut. absurd (shut fresh.open_end);
  ending = subst (EndHolds (λ t. 0) s.tickets) (sym fresh.open_end) tt;
  logged = record {
    on = λ p at now. elim now.published [ inl e ↦ absurd (cc (e)) | inr e ↦ absurd (cc (e)) ];
    blocked = λ t i p at d le now. absurd (cc (d));
    deferred = λ t i d. absurd (cc (d));
    called = λ t i how c. absurd (cc (c));
    grace = λ t j how c blocked. cc (c);
  };
}

-- in every run of a new world no blocked job is called
pub every_run_keeps_grace : (s new : State) (log : List Entry) → IsFresh s → Runs s log new → KeepsGrace log
every_run_keeps_grace s new log fresh run =
    (runs_hold s new [] log (fresh_linked s fresh) (fresh_holds s fresh) run).logged.grace
