-- Every step of a structure's plans keeps what holds, and lets cells leave as they should.
use Rattle.std.proofs.Common.{◌≡◌, ◌≢◌, ℕ, ◌==◌, Bool, true, false, length, Option, Some}
use Rattle.std.proofs.Common.{None, ◌⊎◌, inl, inr, refl, ap, sym, subst, ◌∙◌, if◌then◌else◌}
use Rattle.epoch_cells.specs.declared.cells.name.Name.{Name}
use Rattle.epoch_machine.specs.declared.machine.Stage.{Stage}
use Rattle.epoch_machine.specs.declared.machine.Stage.TheVariants.{LoadSeal, Keep}
use Rattle.epoch_laws.specs.declared.heap.access.Access.{Access}
use Rattle.epoch_laws.specs.declared.heap.access.Accessed.{Accessed}
use Rattle.epoch_laws.specs.declared.heap.access.Accessed.TheVariants.{Again, Answers as Told, NoSlot}
use Rattle.epoch_laws.specs.declared.heap.access.AccessAnswer.{AccessAnswer}
use Rattle.epoch_laws.specs.declared.heap.access.AccessAnswer.TheVariants.{Absent}
use Rattle.epoch_laws.specs.declared.step.Call.{Call}
use Rattle.epoch_laws.specs.declared.step.Call.TheVariants.{Pin, Unpin, Pause, Resume, Repin, Defer, Flush, Release}
use Rattle.epoch_laws.specs.declared.step.Call.TheVariants.{DeferDestroy, Access as AccessCall}
use Rattle.epoch_laws.specs.declared.step.Progress.TheVariants.{Idle, CallsNow, Accesses, Ends}
use Rattle.epoch_laws.specs.declared.step.Reply.{Reply}
use Rattle.epoch_laws.specs.declared.step.Reply.TheVariants.{Deferred, Done, Refused}
use Rattle.epoch_laws.specs.declared.heap.access.Spot.TheVariants.{Root, Field}
use Rattle.epoch_laws.specs.declared.step.Word.TheVariants.{Free}
use Rattle.epoch_laws.specs.Heap.{Heap, has_steps, null}
use Rattle.epoch_laws.specs.Run.{WorldSeat}
use Rattle.epoch_laws.specs.Run.{begun_seat, full_or_done, end_reply}
use Rattle.epoch_laws.specs.Run.{access_reply, accessed_seat}
use Rattle.epoch_laws.specs.Reach.{IsReachable, from_root, from_field}
use Rattle.epoch_laws.proofs.QuietReplies.{quiet_end}
use Rattle.epoch_laws.proofs.PointerSteps.{Fewer}
use Rattle.epoch_structure_laws.specs.declared.plan.Plan.{Plan}
use Rattle.epoch_structure_laws.specs.declared.plan.Plan.TheVariants.{NoPlan, Under}
use Rattle.epoch_structure_laws.specs.Plans.{Deed, Flushes, Touches, Defers, Answers, Program, ptr_to}
use Rattle.epoch_structure_laws.specs.Plans.{call_by, after_by, IsOver, IsFit, IsPlain}
use Rattle.epoch_structure_laws.specs.Plans.{plan_gone}
use Rattle.epoch_structure_laws.proofs.Custody.{IsLoose, IsUnguarded, IsAccessing, IsDeferring, IsBegun, Tied}
use Rattle.epoch_structure_laws.proofs.Custody.{now_driven, now_under, now_of, now}
use Rattle.epoch_structure_laws.proofs.Obligations.{phase_after}
use Rattle.epoch_structure_laws.proofs.Moved.{is_end}

-- REACH

-- where no pointer is new, nothing comes into reach
pub fewer_reach : (old new : Heap) → Fewer old new → (n : Name) → IsReachable new n → IsReachable old n
fewer_reach old new fewer n (from_root i _ leads) = from_root i n (fewer (Root i) n leads)
fewer_reach old new fewer n (from_field y f _ r leads) =
    from_field y f n (fewer_reach old new fewer y r) (fewer (Field y f) n leads)

-- PLAIN CALLS

-- a call of a participant without a plan, begun
pub plain_begun : (c : Call) (seat : WorldSeat) → IsPlain c → seat.word ≢ Free
    → IsLoose (begun_seat c seat) ⊎ IsUnguarded (begun_seat c seat)
plain_begun Pin seat plain taken = inl (inr (_, refl, tt, taken))
plain_begun (Unpin g) seat plain taken = inl (inr (_, refl, tt, taken))
plain_begun (Pause (Some g)) seat plain taken = inl (inr (_, refl, tt, taken))
plain_begun (Pause None) seat plain taken = inr (taken, inr refl)
plain_begun (Resume (Some g)) seat plain taken = inl (inr (_, refl, tt, taken))
plain_begun (Resume None) seat plain taken = inr (taken, inr refl)
plain_begun (Repin (Some g)) seat plain taken = inl (inr (_, refl, tt, taken))
plain_begun (Repin None) seat plain taken = inr (taken, inr refl)
plain_begun (Defer (Some g)) seat plain taken = inl (inr (_, refl, tt, taken))
plain_begun (Defer None) seat plain taken = inr (taken, inl refl)
plain_begun (Flush (Some g)) seat plain taken = inl (inr (_, refl, tt, taken))
plain_begun (Flush None) seat plain taken = inr (taken, inr refl)
plain_begun Release seat plain taken = inl (inr (_, refl, tt, taken))
plain_begun (DeferDestroy g ptr) seat plain taken = absurd plain
plain_begun (AccessCall a) seat plain taken = absurd plain

-- the reply that ends a call is not that of a job kept
pub end_not_deferred : (c : Call) (seat : WorldSeat) (t : ℕ) → end_reply c seat ≢ Deferred t
end_not_deferred c seat t e = (quiet_end (end_reply c seat) c seat refl).plain.deferred t e

-- A PHASE

module _ (S : Program) where
  -- the end of a phase's driven call
  pub gone_end : (g : ℕ) (phase : S.Phase) (c : Call) (seat : WorldSeat)
      → plan_gone g phase (S.deed g phase) (end_reply c seat)
      ≡ Under g (after_by phase (S.deed g phase) (end_reply c seat)) false
  gone_end g phase c seat = by_call c
    where
      by_full : (b : Bool) → plan_gone g phase (S.deed g phase) (full_or_done b)
          ≡ Under g (after_by phase (S.deed g phase) (full_or_done b)) false
      by_full true = refl
      by_full false = refl

      by_call : (c : Call) → plan_gone g phase (S.deed g phase) (end_reply c seat)
          ≡ Under g (after_by phase (S.deed g phase) (end_reply c seat)) false
      by_call Pin = refl
      by_call (Unpin h) = refl
      by_call (Pause h) = refl
      by_call (Resume h) = refl
      by_call (Repin h) = refl
      by_call (Defer h) = by_full seat.machine.full
      by_call (Flush h) = by_full seat.machine.full
      by_call Release = by_full seat.machine.full
      by_call (DeferDestroy h ptr) = by_full seat.machine.full
      by_call (AccessCall a) = refl

  stage_or : (g : ℕ) (phase : S.Phase) (seat : WorldSeat) (c : Call) (b : Bool) (s t : Stage)
      → now_driven S g phase seat c s ≡ phase
      → now_driven S g phase seat c t ≡ phase → now_driven S g phase seat c (if b then s else t) ≡ phase
  stage_or g phase seat c true s t one other = one
  stage_or g phase seat c false s t one other = other

  -- a phase's call, begun
  pub begun_now : (g : ℕ) (phase : S.Phase) (seat : WorldSeat) → ¬ (IsOver (S.deed g phase)) → IsFit (S.deed g phase)
      → now_of S (Under g phase true) (begun_seat (call_by g (S.deed g phase)) seat) ≡ Some phase
  begun_now g phase seat call fit = ap Some (by_deed (S.deed g phase) call fit)
    where
      by_steps : (a : Access) (b : Bool) → b ≡ true → (st : WorldSeat)
          → now_under S g phase st (if b then Accesses a 0 null else Ends (Done Absent)) ≡ phase
      by_steps a true e st = refl
      by_steps a false e st = absurd (cc (e))

      by_deed : (d : Deed S.Phase S.Answer) → ¬ (IsOver d) → IsFit d
          → now_under S g phase (begun_seat (call_by g d) seat) (begun_seat (call_by g d) seat).progress ≡ phase
      by_deed (Flushes done refused) call fit = refl
      by_deed (Touches a told refused) call fit = by_steps a (has_steps a) fit.1 (begun_seat (AccessCall a) seat)
      by_deed (Defers n deferred refused) call fit =
          stage_or g phase (begun_seat (DeferDestroy (Some g) (ptr_to n)) seat) (DeferDestroy (Some g) (ptr_to n))
          (length seat.machine.held == seat.machine.sizes.bag_jobs) LoadSeal Keep refl refl
      by_deed (Answers a) call fit = absurd (call tt)

  deferring_first : (b : Bool) → IsDeferring (if b then LoadSeal else Keep) false
  deferring_first true = refl
  deferring_first false = refl

  -- once its call has begun, the seat is in it
  pub begun_tied : (g : ℕ) (d : Deed S.Phase S.Answer) (seat : WorldSeat) → ¬ (IsOver d) → IsFit d → seat.word ≢ Free
      → IsBegun (call_by g d) (begun_seat (call_by g d) seat)
  begun_tied g (Flushes done refused) seat call fit taken = inr (Flush (Some g), refl, tt, taken)
  begun_tied g (Touches a told refused) seat call fit taken = (taken, by_steps (has_steps a) fit.1)
    where
      by_steps : (b : Bool) → b ≡ true → IsAccessing a (if b then Accesses a 0 null else Ends (Done Absent))
      by_steps true e = refl
      by_steps false e = absurd (cc (e))
  begun_tied g (Defers n deferred refused) seat call fit taken =
      (taken, refl, refl, deferring_first (length seat.machine.held == seat.machine.sizes.bag_jobs))
  begun_tied g (Answers a) seat call fit taken = absurd (call tt)

  -- no plan's call lets a seat's own job be called at once
  pub tied_not_now : (plan : Plan S.Phase) (seat : WorldSeat) → Tied S plan seat → (removes : Option Name)
      → seat.progress ≡ CallsNow removes → removes ≡ None
  tied_not_now NoPlan seat (inl (inl idle)) removes now = absurd (cc (idle, now))
  tied_not_now NoPlan seat (inl (inr (c, driven, plain, taken))) removes now = absurd (cc (driven, now))
  tied_not_now NoPlan seat (inr (taken, inl calls)) removes now = cc (calls, now)
  tied_not_now NoPlan seat (inr (taken, inr ends)) removes now = absurd (cc (ends, now))
  tied_not_now (Under g phase false) seat idle removes now = absurd (cc (idle, now))
  tied_not_now (Under g phase true) seat tied removes now = absurd (by_deed (S.deed g phase) tied)
    where
      by_deed : (d : Deed S.Phase S.Answer) → IsBegun (call_by g d) seat → ⊥
      by_deed (Flushes done refused) (inl idle) = cc (idle, now)
      by_deed (Flushes done refused) (inr (c, driven, plain, taken)) = cc (driven, now)
      by_deed (Touches a told refused) t = subst (IsAccessing a) now t.1
      by_deed (Defers n deferred refused) t = cc (t.1, now)
      by_deed (Answers a) t = t

  -- a seat in a plain call is at the phase itself
  plain_now : (g : ℕ) (phase : S.Phase) (seat : WorldSeat) (c : Call) (s : Stage) → IsPlain c
      → now_driven S g phase seat c s ≡ phase
  plain_now g phase seat (DeferDestroy h ptr) s plain = absurd plain
  plain_now g phase seat _ s plain = refl

  -- a seat in no call on cells is at the phase itself
  pub loose_now : (g : ℕ) (phase : S.Phase) (seat : WorldSeat) → IsLoose seat
      → now_under S g phase seat seat.progress ≡ phase
  loose_now g phase seat (inl idle) = ap (now_under S g phase seat) idle
  loose_now g phase seat (inr (c, driven, plain, taken)) =
      ap (now_under S g phase seat) driven ∙ plain_now g phase seat c seat.machine.stage plain

  -- a flush goes on, or is over
  pub room_tied : (g : ℕ) (phase done failed : S.Phase) (r : Reply) (seat : WorldSeat)
      → S.deed g phase ≡ Flushes done failed → IsLoose seat → (is_end r ≡ true → seat.progress ≡ Idle)
      → Tied S (plan_gone g phase (S.deed g phase) r) seat
  room_tied g phase done failed (Done a) seat is loose ends = ends refl
  room_tied g phase done failed (Refused f) seat is loose ends = ends refl
  room_tied g phase done failed _ seat is loose ends =
      subst (λ (d : Deed S.Phase S.Answer). IsBegun (call_by g d) seat) (sym is) loose

  -- after a step on cells and pointers
  pub gone_now : (g : ℕ) (phase : S.Phase) (a : Access) (next : AccessAnswer → S.Phase) (failed : S.Phase) (j : ℕ)
      (told : Accessed) (seat : WorldSeat) → S.deed g phase ≡ Touches a next failed
      → now_of S (plan_gone g phase (S.deed g phase) (access_reply told)) (accessed_seat a j told seat)
      ≡ Some (phase_after phase next failed told)
  gone_now g phase a next failed j (Again found) seat is = refl
  gone_now g phase a next failed j (Told answer) seat is =
      ap (λ (d : Deed S.Phase S.Answer). Some (after_by phase d (Done answer))) is
  gone_now g phase a next failed j NoSlot seat is =
      ap (λ (d : Deed S.Phase S.Answer). Some (after_by phase d (access_reply NoSlot))) is

  -- and the seat is in that call still, or idle
  pub gone_tied : (g : ℕ) (phase : S.Phase) (a : Access) (next : AccessAnswer → S.Phase) (failed : S.Phase) (j : ℕ)
      (told : Accessed) (seat : WorldSeat) → S.deed g phase ≡ Touches a next failed → seat.word ≢ Free
      → Tied S (plan_gone g phase (S.deed g phase) (access_reply told)) (accessed_seat a j told seat)
  gone_tied g phase a next failed j (Again found) seat is taken =
      subst (λ (d : Deed S.Phase S.Answer). IsBegun (call_by g d) (accessed_seat a j (Again found) seat)) (sym is)
      (taken, refl)
  gone_tied g phase a next failed j (Told answer) seat is taken =
      subst (λ (d : Deed S.Phase S.Answer). IsBegun (call_by g d) (accessed_seat a j (Told answer) seat)) (sym is)
      (taken, tt)
  gone_tied g phase a next failed j NoSlot seat is taken = refl
