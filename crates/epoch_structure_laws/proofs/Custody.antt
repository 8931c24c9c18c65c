-- What holds of a structure between any two steps, and what a step must show to keep it: so its cells leave rightly.
use Rattle.std.proofs.Common.{◌≡◌, ◌≢◌, ℕ, Bool, true, false, Option, Some, None, ◌⊎◌, inl, inr, refl, ap₂, sym}
use Rattle.std.proofs.Common.{subst, ◌∙◌, arith}
use Rattle.epoch_cells.specs.declared.cells.name.Name.{Name}
use Rattle.epoch_machine.specs.declared.machine.Action.TheVariants.{Defer as DeferAction}
use Rattle.epoch_machine.specs.declared.machine.Stage.{Stage}
use Rattle.epoch_machine.specs.declared.machine.Stage.TheVariants.{LoadSeal, Put, Keep, End}
use Rattle.epoch_laws.specs.declared.heap.access.Access.{Access}
use Rattle.epoch_laws.specs.declared.heap.access.AccessAnswer.TheVariants.{Unit as UnitAnswer}
use Rattle.epoch_laws.specs.declared.heap.access.Spot.TheVariants.{Field}
use Rattle.epoch_laws.specs.declared.heap.heap.Content.{Content}
use Rattle.epoch_laws.specs.declared.step.Call.{Call}
use Rattle.epoch_laws.specs.declared.step.Call.TheVariants.{Flush, DeferDestroy, Access as AccessCall}
use Rattle.epoch_laws.specs.declared.step.Deferral.{Deferral}
use Rattle.epoch_laws.specs.declared.step.Entry.{Entry}
use Rattle.epoch_laws.specs.declared.step.Progress.{Progress}
use Rattle.epoch_laws.specs.declared.step.Progress.TheVariants.{Idle, Driven, CallsNow, Accesses, Ends}
use Rattle.epoch_laws.specs.declared.step.Reply.TheVariants.{Done}
use Rattle.epoch_laws.specs.declared.step.Word.TheVariants.{Free}
use Rattle.epoch_laws.specs.Heap.{Heap, Cell, cell_at, pointer_at}
use Rattle.epoch_laws.specs.declared.heap.access.Ptr.{Ptr}
use Rattle.epoch_laws.specs.Run.{WorldSeat, State, seat_of, end_reply}
use Rattle.epoch_laws.specs.Reach.{IsReachable, Points, DefersRemoval, TakesOut, RemovesNow, Past}
use Rattle.epoch_laws.specs.Reach.{past_after, LeavesRightly}
use Rattle.epoch_laws.specs.Removals.{IsInBag}
use Rattle.epoch_laws.proofs.SeatLinks.{AllLinked}
use Rattle.epoch_laws.proofs.TurnsGiven.{IsGiven}
use Rattle.epoch_laws.proofs.PointerSteps.{Fewer, fewer_same}
use Rattle.epoch_structure_laws.specs.declared.plan.Plan.{Plan}
use Rattle.epoch_structure_laws.specs.declared.plan.Plan.TheVariants.{NoPlan, Under}
use Rattle.epoch_structure_laws.specs.Plans.{Program, AllPlans, IsPlain, call_by, after_by}

-- two numbers are equal or not
pub same_number : (a b : ℕ) → (a ≡ b) ⊎ (a ≢ b)
same_number a b = grind arith

-- THE SEAT OF A PLAN

-- no call is under way, or one that does nothing to cells and pointers
abbrev pub IsLoose : WorldSeat → Type 0
IsLoose seat = (seat.progress ≡ Idle) ⊎ ((c : Call) × (seat.progress ≡ Driven c) × IsPlain c × (seat.word ≢ Free))

-- such a call under an unprotected guard
abbrev pub IsUnguarded : WorldSeat → Type 0
IsUnguarded seat = (seat.word ≢ Free) × ((seat.progress ≡ CallsNow None) ⊎ (seat.progress ≡ Ends (Done UnitAnswer)))

-- this call on cells and pointers is under way, or over but for its reply
abbrev pub IsAccessing : Access → Progress → Type 0
IsAccessing a (Accesses b k found) = b ≡ a
IsAccessing a (Ends (Done answer)) = Unit {0}
IsAccessing a _ = ⊥

-- the deferral of a removal is at this stage; before its end its put hasn't found the places full
abbrev pub IsDeferring : Stage → Bool → Type 0
IsDeferring LoadSeal full = full ≡ false
IsDeferring (Put s) full = full ≡ false
IsDeferring Keep full = full ≡ false
IsDeferring End full = Unit {0}
IsDeferring _ full = ⊥

-- the seat is in the call that the plan is at
abbrev pub IsBegun : Call → WorldSeat → Type 0
IsBegun (Flush g) seat = IsLoose seat
IsBegun (AccessCall a) seat = (seat.word ≢ Free) × IsAccessing a seat.progress
IsBegun (DeferDestroy g ptr) seat =
    (seat.word ≢ Free) × (seat.progress ≡ Driven (DeferDestroy g ptr)) × (seat.machine.action ≡ DeferAction)
    × IsDeferring seat.machine.stage seat.machine.full
IsBegun _ seat = ⊥

-- a participant's plan and its seat say the same: with no plan no call on cells is under way; before a phase's call
-- the seat is idle; and then it is in that call
abbrev pub Tied : (S : Program) → Plan S.Phase → WorldSeat → Type 0
Tied S NoPlan seat = IsLoose seat ⊎ IsUnguarded seat
Tied S (Under g phase false) seat = seat.progress ≡ Idle
Tied S (Under g phase true) seat = IsBegun (call_by g (S.deed g phase)) seat

-- THE PHASE THAT COUNTS

-- where only the end of a deferral is left, what its reply will bring
abbrev pub now_deferring : (S : Program) → ℕ → S.Phase → WorldSeat → Call → Stage → S.Phase
now_deferring S g phase seat c End = after_by phase (S.deed g phase) (end_reply c seat)
now_deferring S g phase seat c s = phase

abbrev pub now_driven : (S : Program) → ℕ → S.Phase → WorldSeat → Call → Stage → S.Phase
now_driven S g phase seat (DeferDestroy h ptr) s = now_deferring S g phase seat (DeferDestroy h ptr) s
now_driven S g phase seat c s = phase

-- the phase that counts: once a call has its reply, the one that follows
abbrev pub now_under : (S : Program) → ℕ → S.Phase → WorldSeat → Progress → S.Phase
now_under S g phase seat (Ends r) = after_by phase (S.deed g phase) r
now_under S g phase seat (Driven c) = now_driven S g phase seat c seat.machine.stage
now_under S g phase seat _ = phase

-- and none where there is no plan
abbrev pub now_of : (S : Program) → Plan S.Phase → WorldSeat → Option S.Phase
now_of S NoPlan seat = None
now_of S (Under g phase false) seat = Some phase
now_of S (Under g phase true) seat = Some (now_under S g phase seat seat.progress)

abbrev pub now : (S : Program) → State → AllPlans S.Phase → ℕ → Option S.Phase
now S s plans p = now_of S (plans p) (seat_of s p)

-- WHAT A STRUCTURE SAYS

-- a step adds this to the past; gone is the name whose removal it defers
pub record Passed (past past' : Past) (h' : Heap) (gone : Option Name) : Type 0 where
  pub more : (n : Name) → past.reached n → past'.reached n
  pub come : (n : Name) → IsReachable h' n → past'.reached n
  pub reached : (n : Name) → past'.reached n → past.reached n ⊎ IsReachable h' n
  pub left_more : (n : Name) → past.left n → past'.left n
  pub left : (n : Name) → past'.left n → past.left n ⊎ (gone ≡ Some n)

-- Nothing changes but in cells that have left, in who reads, and in cells that were free.
pub record Calm (left : Name → Type 0) (h h' : Heap) : Type 0 where
  pub roots : h'.roots ≡ h.roots
  pub fields : h'.fields ≡ h.fields
  pub align : h'.align ≡ h.align
  pub kept : (n : Name) (c : Cell) (content : Content) → ¬ (left n) → cell_at h n ≡ Some c → c.value ≡ Some content
      → (d : Cell) × (cell_at h' n ≡ Some d) × (d.value ≡ Some content)
  pub back : (n : Name) (f : ℕ) (ptr : Ptr) → IsGiven h n → pointer_at h' (Field n f) ≡ Some ptr
      → pointer_at h (Field n f) ≡ Some ptr
  pub fewer : Fewer h h'
  pub given : (n : Name) → IsGiven h n → IsGiven h' n

-- a step that leaves the heap the same is calm
pub calm_same : (left : Name → Type 0) (h h' : Heap) → h' ≡ h → Calm left h h'
calm_same left h h' e =
    subst (Calm left h) (sym e)
    (record {
      roots = refl;
      fields = refl;
      align = refl;
      kept = λ n c content l at value. (c, at, value);
      back = λ n f ptr g e. e;
      fewer = fewer_same h h refl;
      given = λ n g. g;
    })

-- each job in any bag removes a name that left
abbrev pub AllLeft : (Name → Type 0) → State → Type 0
AllLeft left s = (job : Deferral) → IsInBag s job → (x : Name) → job.removes ≡ Some x → left x

-- what a structure says of itself
pub record Structure (S : Program) : Type 1 where
  pub Ghost : Type 0  -- what is abstract of it, as a list of nodes
  pub Shape : Past → Heap → Ghost → Type 0  -- how it stands in the cells
  pub Owns : S.Phase → Name → Type 0  -- who is in this phase, and nobody else, may defer the name's removal
  pub Stands : Past → Heap → Ghost → S.Phase → Type 0  -- what is known in this phase
  pub Common : Past → Heap → Ghost → Name → Type 0  -- the name is nobody's own

module _ (S : Program) (T : Structure S) where
  abbrev pub OwnsNow : Option S.Phase → Name → Type 0
  OwnsNow None n = ⊥
  OwnsNow (Some phase) n = T.Owns phase n

  abbrev pub StandsNow : Past → Heap → T.Ghost → Option S.Phase → Type 0
  StandsNow past h ghost None = Unit {0}
  StandsNow past h ghost (Some phase) = T.Stands past h ghost phase

  -- what holds of any phase of any structure
  pub record Sane : Type 1 where
    pub owned : (past : Past) (h : Heap) (ghost : T.Ghost) (phase : S.Phase) (n : Name)
        → T.Stands past h ghost phase → T.Owns phase n → (¬ (past.left n)) × IsGiven h n
    pub common : (past : Past) (h : Heap) (ghost : T.Ghost) (n : Name) → T.Shape past h ghost → T.Common past h ghost n
        → (¬ (past.left n)) × ((phase : S.Phase) → T.Stands past h ghost phase → ¬ (T.Owns phase n))

  -- What the actor of a step does, by the phases before and then.
  pub record Acts (past : Past) (h h' : Heap) (ghost : T.Ghost) (before next : Option S.Phase) : Type 1 where
    pub ghost' : T.Ghost
    pub gone : Option Name  -- the name whose removal is deferred
    pub reach : (n : Name) → IsReachable h' n → IsReachable h n ⊎ OwnsNow before n
    pub goes : (n : Name) → gone ≡ Some n → OwnsNow before n × (¬ (IsReachable h' n)) × (¬ (OwnsNow next n))
    pub owned : (n : Name) → OwnsNow next n
        → OwnsNow before n ⊎ T.Common past h ghost n ⊎ (¬ (IsGiven h n))
    pub given : (n : Name) → IsGiven h n → IsGiven h' n
    pub own : (past' : Past) → Passed past past' h' gone
        → T.Shape past' h' ghost' × StandsNow past' h' ghost' next
    pub other : (past' : Past) → Passed past past' h' gone → (phase : S.Phase)
        → ((n : Name) → T.Owns phase n → ¬ (OwnsNow before n)) → T.Stands past h ghost phase
        → T.Stands past' h' ghost' phase

  -- what holds between any two steps of a run
  pub record Sound (past : Past) (s : State) (plans : AllPlans S.Phase) : Type 1 where
    pub ghost : T.Ghost
    pub shape : T.Shape past s.heap ghost
    pub linked : AllLinked s
    pub jobs : AllLeft past.left s
    pub ties : (p : ℕ) → Tied S (plans p) (seat_of s p)
    pub stands : (p : ℕ) → StandsNow past s.heap ghost (now S s plans p)
    pub apart : (p q : ℕ) (n : Name) → p ≢ q → OwnsNow (now S s plans p) n → OwnsNow (now S s plans q) n → ⊥
    pub left_out : (n : Name) → past.left n → ¬ (IsReachable s.heap n)
    pub left_given : (n : Name) → past.left n → IsGiven s.heap n
    pub seen : (n : Name) → IsReachable s.heap n → past.reached n
    pub reached_given : (n : Name) → past.reached n → IsGiven s.heap n

  -- what a step is not: it takes no cell out and removes none at once
  pub record IsHarmless (past : Past) (old : State) (x : Entry) (new : State) : Type 0 where
    pub no_takes : (n : Name) → ¬ (TakesOut old x new n)
    pub no_now : (n : Name) → ¬ (RemovesNow old x n)
    pub frozen : (p : ℕ) (g : Option ℕ) (y : Name) (f : ℕ) → Points old x p g (Field y f)
        → pointer_at old.heap (Field y f) ≢ pointer_at new.heap (Field y f) → past.reached y
        → ¬ (¬ (IsReachable old.heap y))

  -- THE KEY LEMMA

  module _ (sane : Sane) (past : Past) (old new : State) (plans plans' : AllPlans S.Phase) (x : Entry)
      (sound : Sound past old plans) (p : ℕ)
      (acts : Acts past old.heap new.heap sound.ghost (now S old plans p) (now S new plans' p))
      (others : (q : ℕ) → q ≢ p → (seat_of new q ≡ seat_of old q) × (plans' q ≡ plans q))
      (tied : Tied S (plans' p) (seat_of new p)) (linked : AllLinked new)
      (jobs : AllLeft (past_after past old x new).left new) (harmless : IsHarmless past old x new)
      (defers : (t : ℕ) (n : Name) → DefersRemoval old x t n → acts.gone ≡ Some n)
    where
      abbrev past' : Past
      past' = past_after past old x new

      now_other : (q : ℕ) → q ≢ p → now S new plans' q ≡ now S old plans q
      now_other q ne =
          let o = others q ne in ap₂ (λ (plan : Plan S.Phase) (st : WorldSeat). now_of S plan st) o.1 o.0

      own_out : (before : Option S.Phase) (n : Name) → OwnsNow before n → StandsNow past old.heap sound.ghost before
          → (¬ (past.left n)) × IsGiven old.heap n
      own_out None n o s = absurd o
      own_out (Some phase) n o s = sane.owned past old.heap sound.ghost phase n s o

      out : (q : ℕ) (n : Name) → OwnsNow (now S old plans q) n → (¬ (past.left n)) × IsGiven old.heap n
      out q n o = own_out (now S old plans q) n o (sound.stands q)

      left : (n : Name) → past'.left n → past.left n ⊎ (acts.gone ≡ Some n)
      left n (inl was) = inl was
      left n (inr (inl (t, d))) = inr (defers t n d)
      left n (inr (inr takes)) = absurd (harmless.no_takes n takes)

      passed : Passed past past' new.heap acts.gone
      passed = record {
        more = λ n r. inl r;
        come = λ n r. inr r;
        reached = λ n r. r;
        left_more = λ n l. inl l;
        left = left;
      }

      left_out : (n : Name) → past'.left n → ¬ (IsReachable new.heap n)
      left_out n l reach = elim (left n l) [
        | inr gone ↦ (acts.goes n gone).1 reach
        | inl was ↦ elim (acts.reach n reach) [
          | inl before ↦ sound.left_out n was before
          | inr own ↦ (out p n own).0 was
        ]
      ]

      stands_other : (phase : Option S.Phase) → ((n : Name) → OwnsNow phase n → ¬ (OwnsNow (now S old plans p) n))
          → StandsNow past old.heap sound.ghost phase → StandsNow past' new.heap acts.ghost' phase
      stands_other None apart s = tt
      stands_other (Some phase) apart s = acts.other past' passed phase apart s

      other_stands : (q : ℕ) → q ≢ p → StandsNow past' new.heap acts.ghost' (now S new plans' q)
      other_stands q ne = subst (StandsNow past' new.heap acts.ghost') (sym (now_other q ne))
          (stands_other (now S old plans q) (λ n o own. sound.apart q p n ne o own) (sound.stands q))

      common_apart : (phase : Option S.Phase) (n : Name) → T.Common past old.heap sound.ghost n
          → StandsNow past old.heap sound.ghost phase → ¬ (OwnsNow phase n)
      common_apart None n c s o = o
      common_apart (Some phase) n c s o =
          (sane.common past old.heap sound.ghost n sound.shape c).1 phase s o

      own_apart : (q : ℕ) (n : Name) → q ≢ p → OwnsNow (now S new plans' p) n → OwnsNow (now S new plans' q) n → ⊥
      own_apart q n ne mine other =
          let was : OwnsNow (now S old plans q) n =
          subst (λ (v : Option S.Phase). OwnsNow v n) (now_other q ne) other in
          elim (acts.owned n mine) [
            | inl own ↦ sound.apart q p n ne was own
            | inr (inl common) ↦ common_apart (now S old plans q) n common (sound.stands q) was
            | inr (inr fresh) ↦ fresh (out q n was).1
          ]

      -- what holds of the structure before the step holds after it too
      pub sound_after : Sound past' new plans'
      sound_after = record {
        ghost = acts.ghost';
        shape = (acts.own past' passed).0;
        linked = linked;
        jobs = jobs;
        ties = λ q. elim (same_number q p) [
          | inl e ↦ subst (λ (k : ℕ). Tied S (plans' k) (seat_of new k)) (sym e) tied
          | inr ne ↦ let o = others q ne in subst (λ (st : WorldSeat). Tied S (plans' q) st) (sym o.0)
              (subst (λ (plan : Plan S.Phase). Tied S plan (seat_of old q)) (sym o.1) (sound.ties q))
        ];
        stands = λ q. elim (same_number q p) [
          | inl e ↦ subst (λ (k : ℕ). StandsNow past' new.heap acts.ghost' (now S new plans' k)) (sym e)
              (acts.own past' passed).1
          | inr ne ↦ other_stands q ne
        ];
        apart = λ q r n ne a b. elim (same_number q p) [
          | inl e ↦ own_apart r n (λ same. ne (e ∙ sym same)) (subst (λ (k : ℕ). OwnsNow (now S new plans' k) n) e a) b
          | inr off ↦ elim (same_number r p) [
            | inl e ↦ own_apart q n off (subst (λ (k : ℕ). OwnsNow (now S new plans' k) n) e b) a
            | inr off' ↦ sound.apart q r n ne (subst (λ (v : Option S.Phase). OwnsNow v n) (now_other q off) a)
                (subst (λ (v : Option S.Phase). OwnsNow v n) (now_other r off') b)
          ]
        ];
        left_out = left_out;
        left_given = λ n l. elim (left n l) [
          | inl was ↦ acts.given n (sound.left_given n was)
          | inr gone ↦ acts.given n (out p n (acts.goes n gone).0).1
        ];
        seen = λ n r. inr r;
        reached_given = λ n r. elim r [
          | inl was ↦ acts.given n (sound.reached_given n was)
          | inr at ↦ elim (acts.reach n at) [
            | inl before ↦ acts.given n (sound.reached_given n (sound.seen n before))
            | inr own ↦ acts.given n (out p n own).1
          ]
        ];
      }

      -- cells leave rightly at the step
      pub leaves_after : LeavesRightly past old x new
      leaves_after = record {
        deferred_once = λ t n d. (out p n (acts.goes n (defers t n d)).0).0;
        taken_once = λ n takes. absurd (harmless.no_takes n takes);
        taken_unreached = λ n takes. absurd (harmless.no_takes n takes);
        never_now = harmless.no_now;
        out = left_out;
        frozen = harmless.frozen;
      }
