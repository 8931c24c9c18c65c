-- Which participant a step is of: nobody else lets go what it has loaded, and a participant without a plan reads
-- nothing.
use Rattle.std.proofs.Common.{◌≡◌, ℕ, [], Option, Some, None, ◌⊎◌, inl, inr, refl, ap, sym}
use Rattle.std.proofs.Common.{subst, ◌∙◌}
use Rattle.epoch_machine.specs.declared.machine.Ask.{Ask}
use Rattle.epoch_machine.specs.declared.machine.Ask.TheVariants.{LoadEpoch, LoadWord, StorePinned, StoreRepinned}
use Rattle.epoch_machine.specs.declared.machine.Ask.TheVariants.{StoreUnpinned, StoreFree, StoreEpoch, PutBag, TakeBag}
use Rattle.epoch_machine.specs.declared.machine.Ask.TheVariants.{KeepJob, CallJob}
use Rattle.epoch_machine.specs.declared.machine.Stage.{Stage}
use Rattle.epoch_machine.specs.Machine.{ask_at}
use Rattle.epoch_laws.specs.declared.step.Call.{Call}
use Rattle.epoch_laws.specs.declared.step.Call.TheVariants.{Pin, Unpin, Repin, Pause, Resume, Defer, Flush, Release}
use Rattle.epoch_laws.specs.declared.step.Call.TheVariants.{DeferDestroy, Access as AccessCall}
use Rattle.epoch_laws.specs.declared.step.Entry.{Entry}
use Rattle.epoch_laws.specs.declared.step.Progress.{Progress}
use Rattle.epoch_laws.specs.declared.step.Progress.TheVariants.{Ends}
use Rattle.epoch_laws.specs.declared.step.Reply.{Reply}
use Rattle.epoch_laws.specs.declared.step.Reply.TheVariants.{Repinned}
use Rattle.epoch_laws.specs.declared.step.Step.{Step}
use Rattle.epoch_laws.specs.declared.step.Step.TheVariants.{Begin, Go}
use Rattle.epoch_laws.specs.Run.{WorldSeat, State, seat_of, begun_seat, ended_seat, PerformsAsk, DrivesCall, Moves}
use Rattle.epoch_laws.proofs.QuietReplies.{quiet_access}
use Rattle.epoch_laws.proofs.SeatChanges.{SeatChange, Registers, Begins, MachineGoes, Leaves, MachineEnds, JobCalled}
use Rattle.epoch_laws.proofs.SeatChanges.{AccessGoes, Replies}
use Rattle.epoch_laws.proofs.SeatLinks.{AllLinked}
use Rattle.epoch_laws.proofs.StepKinds.{StepKind, Refusal, Registration, CallBegins, MachineStep, JobStep, CellsStep}
use Rattle.epoch_laws.proofs.StepKinds.{LastReply, EndBegins, EndCalls, EndTakes, EndIsOver, step_kind}
use Rattle.epoch_laws.proofs.SeatLinks.{IsInStep}
use Rattle.epoch_laws.specs.Reach.{LetsGo}
use Rattle.epoch_structure_laws.proofs.Custody.{IsLoose, IsUnguarded}
use Rattle.epoch_structure_laws.proofs.Driven.{end_not_repinned}

-- the step is one of p's
abbrev pub IsOf : Step → ℕ → Type 0
IsOf step p = (step ≡ Go p) ⊎ ((c : Call) × (step ≡ Begin p c))

-- WHO LETS GO

module _ (old new : State) (p : ℕ) (s : Stage) (reply : Reply) (q : ℕ) (told : reply ≡ Repinned q) where
  -- a machine's step that tells of a repin tells of its own participant's
  performs : (ask : Ask) → PerformsAsk old p (seat_of old p) s ask reply new → p ≡ q
  performs (StoreRepinned e) did = cc (did.0, told)
  performs (PutBag seal) did = absurd (cc (did.2, told))
  performs (TakeBag e) did = absurd (cc (did.3, told))
  performs CallJob did = absurd (cc (did.3, told))
  performs _ did = absurd (cc (did.0, told))

  drives : (c : Call) (ask : Option Ask) → DrivesCall old p (seat_of old p) c s ask reply new → p ≡ q
  drives c (Some ask) did = performs ask did
  drives c None did = absurd (end_not_repinned c (seat_of old p) q (sym did.0 ∙ told))

-- a repin is told by a Go of its participant
repins : (old : State) (linked : AllLinked old) (step : Step) (reply : Reply) (new : State) → StepKind old step reply
    new
    → (q : ℕ) → reply ≡ Repinned q → step ≡ Go q
repins old linked _ _ _ (Refusal step fault) q e = absurd (cc (e))
repins old linked _ _ _ (Registration p opened there free) q e = absurd (cc (e))
repins old linked _ _ _ (CallBegins p c given) q e = absurd (cc (e))
repins old linked _ _ _ (MachineStep p c reply new taken drive did) q e =
    ap Go (drives old new p (seat_of old p).machine.stage reply q e c (ask_at (seat_of old p).machine.stage) did)
repins old linked _ _ _ (JobStep p removes taken now) q e = absurd (cc (e))
repins old linked _ _ _ (CellsStep p a k found did taken now touches) q e =
    absurd ((quiet_access _ did.told refl).plain.published q (inr e))
repins old linked _ _ _ (LastReply p reply taken now) q e =
    let follows : IsInStep (Ends reply) (seat_of old p).machine (seat_of old p).guards =
    subst (λ (s : Progress). IsInStep s (seat_of old p).machine (seat_of old p).guards) now (linked.seats p).follows in
    absurd (cc (follows.1.1, e))
repins old linked _ _ _ (EndBegins opened free) q e = absurd (cc (e))
repins old linked _ _ _ (EndCalls job jobs n at) q e = absurd (cc (e))
repins old linked _ _ _ (EndTakes bag queued n at out) q e = absurd (cc (e))
repins old linked _ _ _ (EndIsOver n at none) q e = absurd (cc (e))

-- only a participant's own step lets go what it has loaded
pub lets_own : (old new : State) (x : Entry) → AllLinked old → Moves old x.step x.reply new → (q g : ℕ) → LetsGo x q g
    → IsOf x.step q
lets_own old new x linked did q g (inl (inl e, told)) = inr (_, e)
lets_own old new x linked did q g (inl (inr e, told)) = inr (_, e)
lets_own old new x linked did q g (inr told) =
    inl (repins old linked x.step x.reply new (step_kind old new x.step x.reply did) q told)

-- WHO READS

begun_reads : (c : Call) (seat : WorldSeat) → (begun_seat c seat).readings ≡ seat.readings
begun_reads Pin seat = refl
begun_reads (Unpin g) seat = refl
begun_reads (Repin (Some g)) seat = refl
begun_reads (Repin None) seat = refl
begun_reads (Pause (Some g)) seat = refl
begun_reads (Pause None) seat = refl
begun_reads (Resume (Some g)) seat = refl
begun_reads (Resume None) seat = refl
begun_reads (Defer (Some g)) seat = refl
begun_reads (Defer None) seat = refl
begun_reads (Flush (Some g)) seat = refl
begun_reads (Flush None) seat = refl
begun_reads Release seat = refl
begun_reads (DeferDestroy (Some g) ptr) seat = refl
begun_reads (DeferDestroy None ptr) seat = refl
begun_reads (AccessCall a) seat = refl

ended_reads : (c : Call) (seat : WorldSeat) → (ended_seat c seat).readings ≡ seat.readings
ended_reads Pin seat = refl
ended_reads (Unpin (Some g)) seat = refl
ended_reads (Unpin None) seat = refl
ended_reads (Pause (Some g)) seat = refl
ended_reads (Pause None) seat = refl
ended_reads (Resume (Some g)) seat = refl
ended_reads (Resume None) seat = refl
ended_reads _ seat = refl

-- a participant that is in no call on cells and pointers, and reads nothing, begins no reading
pub reads_none : (old : State) (step : Step) (p : ℕ) (after : WorldSeat) → SeatChange old step p after
    → IsLoose (seat_of old p) ⊎ IsUnguarded (seat_of old p) → (seat_of old p).readings ≡ [] → after.readings ≡ []
reads_none old step p _ (Registers free) plain e = refl
reads_none old step p _ (Begins c on given) plain e = begun_reads c (seat_of old p) ∙ e
reads_none old step p _ (MachineGoes c w m on drive word stage heard) plain e = e
reads_none old step p _ (Leaves on) plain e = refl
reads_none old step p _ (MachineEnds c on drive) plain e = ended_reads c (seat_of old p) ∙ e
reads_none old step p _ (JobCalled removes on now) plain e = e
reads_none old step p _ (AccessGoes a k found did on now touches) (inl (inl idle)) e = absurd (cc (idle, now))
reads_none old step p _ (AccessGoes a k found did on now touches) (inl (inr (c, driven, ok, taken))) e =
    absurd (cc (driven, now))
reads_none old step p _ (AccessGoes a k found did on now touches) (inr (taken, inl calls)) e = absurd (cc (calls, now))
reads_none old step p _ (AccessGoes a k found did on now touches) (inr (taken, inr ends)) e = absurd (cc (ends, now))
reads_none old step p _ (Replies r on now) plain e = e
