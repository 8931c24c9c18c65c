-- What a participant's call of a structure keeps of its seat, so that no call of it is refused or finds nothing.
use Rattle.std.proofs.Common.{◌≡◌, ◌≢◌, ℕ, ◌==◌, Bool, true, false, List, [], length, Option, Some, None, inr, refl}
use Rattle.std.proofs.Common.{sym, subst, arith, if◌then◌else◌, ◌∷◌}
use Rattle.std.proofs.lemmas.Bool.Decides.{nat_tests}
use Rattle.epoch_bags.specs.Bags.{is_empty}
use Rattle.epoch_cells.specs.declared.cells.name.Name.{Name}
use Rattle.epoch_laws.specs.declared.heap.access.Access.{Access}
use Rattle.epoch_laws.specs.Heap.{Heap, has_steps, null}
use Rattle.epoch_laws.specs.declared.heap.access.AccessAnswer.TheVariants.{Absent}
use Rattle.epoch_machine.specs.declared.machine.Stage.TheVariants.{LoadScan, LoadSeal, Keep}
use Rattle.epoch_laws.specs.declared.step.Call.TheVariants.{Flush, DeferDestroy, Access as AccessCall}
use Rattle.epoch_laws.specs.declared.step.Deferral.{Deferral}
use Rattle.epoch_laws.specs.declared.step.Progress.{Progress}
use Rattle.epoch_laws.specs.declared.step.Progress.TheVariants.{Driven, Accesses, Ends}
use Rattle.epoch_laws.specs.declared.step.Reply.{Reply}
use Rattle.epoch_laws.specs.declared.step.Reply.TheVariants.{Done, Refused}
use Rattle.epoch_laws.specs.declared.step.Word.TheVariants.{Free}
use Rattle.epoch_laws.specs.Run.{WorldSeat, State, seat_of, begun_seat, is_out}
use Rattle.epoch_laws.specs.Reach.{Past}
use Rattle.epoch_laws.proofs.PointersGiven.{WasGiven}
use Rattle.epoch_structure_laws.specs.declared.plan.Plan.{Plan}
use Rattle.epoch_structure_laws.specs.declared.plan.Plan.TheVariants.{NoPlan, Under}
use Rattle.epoch_structure_laws.specs.Plans.{Deed, Flushes, Touches, Defers, Answers, Program, AllPlans, IsOver, IsFit}
use Rattle.epoch_structure_laws.specs.Plans.{ptr_to}
use Rattle.epoch_structure_laws.specs.Plans.{call_by, after_by, plan_gone}
use Rattle.epoch_structure_laws.proofs.Moved.{is_end}
use Rattle.epoch_structure_laws.specs.Served.{AnswersAccess, IsExpected, SeatHasRoom, IsReadySeat}
use Rattle.epoch_structure_laws.proofs.Driven.{FlushesAt, Flushing, IsKeeping, Keeping}
use Rattle.epoch_structure_laws.proofs.Duties.{Knowledge}

-- once a call on cells and pointers has its answer, it is an expected one
abbrev pub ExpectedBy : Access → Progress → Type 0
ExpectedBy a (Ends (Done answer)) = AnswersAccess a answer
ExpectedBy a _ = Unit {0}

module _ (S : Program) (K : Knowledge S) where
  -- the phase whose call comes next, once what is under way has ended
  abbrev pub next_under : ℕ → S.Phase → Progress → S.Phase
  next_under g phase (Ends r) = after_by phase (S.deed g phase) r
  next_under g phase _ = phase

  -- where a phase knows of room there is some
  abbrev pub RoomAt : S.Phase → WorldSeat → Type 0
  RoomAt phase seat = K.Roomy phase → SeatHasRoom seat

  -- what p knows in a phase, under this guard
  pub record Sees (past : Past) (h : Heap) (p g : ℕ) (phase : S.Phase) (seat : WorldSeat) : Type 0 where
    pub ready : IsReadySeat g seat
    pub known : (n : Name) → K.Names phase n → WasGiven h n
    pub loaded : (n : Name) → K.Loads phase n → past.loaded p g n
    pub reads : seat.readings ≡ K.reads phase

  -- a phase's call has begun
  abbrev pub Works : ℕ → S.Phase → Deed S.Phase S.Answer → WorldSeat → Type 0
  Works g phase (Flushes done failed) seat = (seat.progress ≡ Driven (Flush (Some g))) × Flushing seat.machine
  Works g phase (Touches a told failed) seat = RoomAt phase seat × ExpectedBy a seat.progress
  Works g phase (Defers n deferred failed) seat = Keeping seat.machine
  Works g phase (Answers a) seat = ⊥

  abbrev pub Steady : Past → Heap → ℕ → Plan S.Phase → WorldSeat → Type 0
  Steady past h p NoPlan seat = seat.readings ≡ []
  Steady past h p (Under g phase false) seat = Sees past h p g phase seat × RoomAt phase seat
  Steady past h p (Under g phase true) seat =
      Sees past h p g (next_under g phase seat.progress) seat × Works g phase (S.deed g phase) seat

  abbrev pub AllSteady : Past → State → AllPlans S.Phase → Type 0
  AllSteady past s plans = (p : ℕ) → Steady past s.heap p (plans p) (seat_of s p)

  -- a step of another keeps it
  pub steady_later : (past past' : Past) (h h' : Heap) (p : ℕ) → ((n : Name) → WasGiven h n → WasGiven h' n)
      → (plan : Plan S.Phase) (seat : WorldSeat) → ((g : ℕ) (phase : S.Phase) (b : Bool) → plan ≡ Under g phase b
      → (n : Name) → past.loaded p g n → past'.loaded p g n) → Steady past h p plan seat → Steady past' h' p plan seat
  steady_later past past' h h' p later NoPlan seat keeps steady = steady
  steady_later past past' h h' p later (Under g phase false) seat keeps (sees, room) = (
    record {
      ready = sees.ready;
      known = λ n k. later n (sees.known n k);
      loaded = λ n l. keeps g phase false refl n (sees.loaded n l);
      reads = sees.reads;
    },
    room,
  )
  steady_later past past' h h' p later (Under g phase true) seat keeps (sees, works) = (
    record {
      ready = sees.ready;
      known = λ n k. later n (sees.known n k);
      loaded = λ n l. keeps g phase true refl n (sees.loaded n l);
      reads = sees.reads;
    },
    works,
  )

-- the guards and the pause stay
pub ready_same : (g : ℕ) (old new : WorldSeat) → new.word ≢ Free → new.guards ≡ old.guards → new.paused ≡ old.paused
    → IsReadySeat g old → IsReadySeat g new
ready_same g old new taken guards paused ready = record {
  taken = taken;
  out = subst (λ (l : List ℕ). is_out g l ≡ true) (sym guards) ready.out;
  awake = subst (λ (o : Option ℕ). o ≡ None) (sym paused) ready.awake;
}

-- REPLIES

-- a reply that ends no call leaves the phase's call under way
pub going_on : {P A : Type 0} (g : ℕ) (phase : P) (d : Deed P A) (r : Reply) → is_end r ≡ false
    → plan_gone g phase d r ≡ Under g phase true
going_on g phase d (Done a) silent = absurd (cc (silent))
going_on g phase d (Refused f) silent = absurd (cc (silent))
going_on g phase d _ silent = refl

-- and is expected
pub expected_silent : {P A : Type 0} (d : Deed P A) (r : Reply) → is_end r ≡ false → IsExpected d r
expected_silent d (Done a) silent = absurd (cc (silent))
expected_silent d (Refused f) silent = absurd (cc (silent))
expected_silent d _ silent = tt

-- A CALL BEGINS

empty_is : {A : Type 0} (xs : List A) → is_empty xs ≡ true → xs ≡ []
empty_is [] e = refl
empty_is (y ∷ ys) e = absurd (cc (e))

-- a flush that begins, and a deferral where there is room
flushes_first : (b : Bool) (held : List Deferral) → is_empty held ≡ b
    → FlushesAt (if b then LoadScan else LoadSeal) false held
flushes_first true held e = inr (empty_is held e)
flushes_first false held e = tt

keeps_first : (b : Bool) (a c : ℕ) → (a == c) ≡ b → a ≢ c → IsKeeping (if b then LoadSeal else Keep)
keeps_first true a c test ne = absurd (ne (let same : a ≡ c = grind (arith, nat_tests) in same))
keeps_first false a c test ne = tt

-- what a call that begins leaves of the seat, and the phase that comes next
pub record BegunAt (S : Program) (K : Knowledge S) (g : ℕ) (phase : S.Phase) (seat after : WorldSeat) : Type 0 where
  pub word : after.word ≡ seat.word
  pub guards : after.guards ≡ seat.guards
  pub paused : after.paused ≡ seat.paused
  pub readings : after.readings ≡ seat.readings
  pub next : next_under S K g phase after.progress ≡ phase
  pub works : Works S K g phase (S.deed g phase) after

module _ (S : Program) (K : Knowledge S) (g : ℕ) (phase : S.Phase) (seat : WorldSeat) where
  abbrev Begun : Deed S.Phase S.Answer → Type 0
  Begun d = BegunAt S K g phase seat (begun_seat (call_by g d) seat)

  access_next : (a : Access) (b : Bool) → b ≡ true
      → next_under S K g phase (if b then Accesses a 0 null else Ends (Done Absent)) ≡ phase
  access_next a true e = refl
  access_next a false e = absurd (cc (e))

  access_expected : (a : Access) (b : Bool) → b ≡ true
      → ExpectedBy a (if b then Accesses a 0 null else Ends (Done Absent))
  access_expected a true e = tt
  access_expected a false e = absurd (cc (e))

  -- a phase's call that begins is at its first step
  pub begun_at : (d : Deed S.Phase S.Answer) → S.deed g phase ≡ d → ¬ (IsOver d) → IsFit d → RoomAt S K phase seat
      → ((n : Name) (deferred failed : S.Phase) → d ≡ Defers n deferred failed → K.Roomy phase) → Begun d
  begun_at (Flushes done failed) is call fit room roomy = record {
    word = refl;
    guards = refl;
    paused = refl;
    readings = refl;
    next = refl;
    works = subst (λ (d : Deed S.Phase S.Answer). Works S K g phase d (begun_seat (Flush (Some g)) seat)) (sym is)
        (refl, flushes_first (is_empty seat.machine.held) seat.machine.held refl);
  }
  begun_at (Touches a told failed) is call fit room roomy = record {
    word = refl;
    guards = refl;
    paused = refl;
    readings = refl;
    next = access_next a (has_steps a) fit.1;
    works = subst (λ (d : Deed S.Phase S.Answer). Works S K g phase d (begun_seat (AccessCall a) seat)) (sym is)
        (room, access_expected a (has_steps a) fit.1);
  }
  begun_at (Defers n deferred failed) is call fit room roomy = record {
    word = refl;
    guards = refl;
    paused = refl;
    readings = refl;
    next = refl;
    works = subst
        (λ (d : Deed S.Phase S.Answer). Works S K g phase d (begun_seat (DeferDestroy (Some g) (ptr_to n)) seat))
        (sym is) (
          keeps_first (length seat.machine.held == seat.machine.sizes.bag_jobs) _ _ refl
              (room (roomy n deferred failed refl)),
          refl,
        );
  }
  begun_at (Answers a) is call fit room roomy = absurd (call tt)
