-- Every step of a structure's plans keeps what holds, and lets cells leave as they should.
use Rattle.std.proofs.Common.{◌≡◌, ◌≢◌, ℕ, Bool, true, false, Option, Some, None, ◌⊎◌, inl, inr, refl, ap, ap₂, sym}
use Rattle.std.proofs.Common.{subst, ◌∙◌}
use Rattle.epoch_cells.specs.declared.cells.name.Name.{Name}
use Rattle.epoch_cells.specs.declared.fault.Fault.{Fault}
use Rattle.epoch_cells.specs.declared.fault.Fault.TheVariants.{BagsFull}
use Rattle.epoch_bags.specs.declared.queue.PutStep.{PutStep}
use Rattle.epoch_bags.specs.declared.queue.PutStep.TheVariants.{Again as PutAgain, Done as PutDone, Full as PutFull}
use Rattle.epoch_machine.specs.declared.machine.Action.{Action}
use Rattle.epoch_machine.specs.declared.machine.Action.TheVariants.{Defer as DeferAction}
use Rattle.epoch_machine.specs.declared.machine.Stage.{Stage}
use Rattle.epoch_machine.specs.declared.machine.Stage.TheVariants.{LoadSeal, Put, Keep, End}
use Rattle.epoch_machine.specs.Machine.{Machine, after_put, with_stage, put_heard}
use Rattle.epoch_laws.specs.declared.heap.access.Access.{Access}
use Rattle.epoch_laws.specs.declared.heap.access.Access.TheVariants.{Take as TakeAccess, Point}
use Rattle.epoch_laws.specs.declared.heap.access.AccessAnswer.{AccessAnswer}
use Rattle.epoch_laws.specs.declared.heap.access.AccessAnswer.TheVariants.{Unit as UnitAnswer}
use Rattle.epoch_laws.specs.declared.step.Call.{Call}
use Rattle.epoch_laws.specs.declared.step.Call.TheVariants.{Flush, DeferDestroy, Access as AccessCall}
use Rattle.epoch_laws.specs.declared.step.Deferral.{Deferral}
use Rattle.epoch_laws.specs.declared.step.Entry.{Entry}
use Rattle.epoch_laws.specs.declared.step.Progress.{Progress}
use Rattle.epoch_laws.specs.declared.step.Progress.TheVariants.{Idle, Driven, CallsNow, Accesses, Ends}
use Rattle.epoch_laws.specs.declared.heap.access.Ptr.{Ptr}
use Rattle.epoch_laws.specs.declared.step.Reply.{Reply}
use Rattle.epoch_laws.specs.declared.step.Reply.TheVariants.{Stepped, Deferred, Done, Refused}
use Rattle.epoch_laws.specs.declared.heap.access.Spot.TheVariants.{Field}
use Rattle.epoch_laws.specs.declared.step.Step.{Step}
use Rattle.epoch_laws.specs.declared.step.Step.TheVariants.{Register as WorldRegister, Begin as WorldBegin}
use Rattle.epoch_laws.specs.declared.step.Step.TheVariants.{Go as WorldGo, End as WorldEnd, EndGo as WorldEndGo}
use Rattle.epoch_laws.specs.declared.step.Word.TheVariants.{Free}
use Rattle.epoch_laws.specs.Heap.{Heap, pointer_at, Touched}
use Rattle.epoch_laws.specs.Run.{WorldSeat, State, seat_of, position_word, with_seat, with_machine, with_places}
use Rattle.epoch_laws.specs.Run.{begun_seat, full_or_done, end_reply, ended_seat, access_reply, accessed_seat, refusal}
use Rattle.epoch_laws.specs.Run.{BeginsCall, DoesGo, Moves, TakesStep}
use Rattle.epoch_laws.specs.Reach.{IsReachable, Points, DefersRemoval, Past, past_after, LeavesRightly}
use Rattle.epoch_laws.proofs.SeatLemmas.{seat_there, begin_given}
use Rattle.epoch_laws.proofs.SeatLinks.{AllLinked}
use Rattle.epoch_laws.proofs.Linked.{step_linked}
use Rattle.epoch_laws.proofs.GuardsStay.{idle_ended}
use Rattle.epoch_laws.proofs.HeapSteps.{heap_goes}
use Rattle.epoch_laws.proofs.JobsAsDeferred.{JobsGo, jobs_go}
use Rattle.epoch_laws.proofs.TurnsGiven.{touches_given}
use Rattle.epoch_structure_laws.specs.declared.plan.Plan.{Plan}
use Rattle.epoch_structure_laws.specs.declared.plan.Plan.TheVariants.{NoPlan, Under}
use Rattle.epoch_structure_laws.specs.Plans.{Deed, Flushes, Touches, Defers, Answers, Program, AllPlans}
use Rattle.epoch_structure_laws.specs.Plans.{ptr_to, call_by, after_by, IsOver, TakesNone, IsFit, IsFlush, IsPlain}
use Rattle.epoch_structure_laws.specs.Plans.{Replans}
use Rattle.epoch_structure_laws.specs.Plans.{KeepsPlans, plan_begun, plan_gone, IsOther}
use Rattle.epoch_structure_laws.proofs.Custody.{IsLoose, IsUnguarded, IsAccessing, IsDeferring, IsBegun, Tied}
use Rattle.epoch_structure_laws.proofs.Custody.{now_deferring}
use Rattle.epoch_structure_laws.proofs.Custody.{now_under, now_of, now, Passed, Calm, AllLeft, Structure, OwnsNow}
use Rattle.epoch_structure_laws.proofs.Custody.{StandsNow}
use Rattle.epoch_structure_laws.proofs.Custody.{Acts, Sound, IsHarmless, sound_after, leaves_after}
use Rattle.epoch_structure_laws.proofs.Obligations.{phase_after, after_touch, TouchesBy, Weaker, Settled, HandsOver}
use Rattle.epoch_structure_laws.proofs.Obligations.{Obeys}
use Rattle.epoch_structure_laws.proofs.CalmSteps.{calm_step, jobs_left}
use Rattle.epoch_structure_laws.proofs.Moved.{go_taken, Accessing, accessing, ended_with, Deferring, at_seal, at_put}
use Rattle.epoch_structure_laws.proofs.Moved.{at_keep}
use Rattle.epoch_structure_laws.proofs.Moved.{at_end, deferring, begin_refused, begin_made, registered, takes_place}
use Rattle.epoch_structure_laws.proofs.Moved.{changes_none, Registering, registering, alone, unmoved, end_unmoved}
use Rattle.epoch_structure_laws.proofs.Moved.{ending_unmoved, go_loose, go_plain}
use Rattle.epoch_structure_laws.proofs.Steps.{fewer_reach, plain_begun, end_not_deferred, gone_end, begun_now}
use Rattle.epoch_structure_laws.proofs.Steps.{begun_tied}
use Rattle.epoch_structure_laws.proofs.Steps.{tied_not_now, loose_now, room_tied, gone_now, gone_tied}

-- a step of the world, at which the plans pass from plans to plans'
module _ (S : Program) (T : Structure S) (Starts : S.Phase → Type 0) (obeys : Obeys S T Starts) (past : Past)
    (old new : State) (plans plans' : AllPlans S.Phase) (x : Entry) (sound : Sound S T past old plans)
    (did : TakesStep old x.step x.reply new) where
  abbrev next_past : Past
  next_past = past_after past old x new

  -- the state after it, but for the places
  abbrev aside : State
  aside = with_places new old.places old.seen old.ahead old.room

  abbrev Kept : Type 1
  Kept = LeavesRightly past old x new × Sound S T next_past new plans'

  go : JobsGo old aside x.step x.reply
  go = jobs_go old aside x.step x.reply sound.linked x.step refl did.0

  jobs : AllLeft next_past.left new
  jobs = jobs_left past old new aside x sound.jobs go

  linked : AllLinked new
  linked = step_linked old new x.step x.reply sound.linked did

  settled : Settled past old.heap
  settled = record {
    left_out = sound.left_out;
    left_given = sound.left_given;
    seen = sound.seen;
    reached_given = sound.reached_given;
  }

  -- no call on cells and pointers goes on
  abbrev NoAccess : Type 0
  NoAccess =
      (who : ℕ) (a : Access) (k : ℕ) (found : Ptr) → x.step ≡ WorldGo who
      → (seat_of old who).progress ≢ Accesses a k found

  not_now : (who : ℕ) (removes : Option Name) → (seat_of old who).progress ≡ CallsNow removes → removes ≡ None
  not_now who removes = tied_not_now S (plans who) (seat_of old who) (sound.ties who) removes

  -- where no call on cells goes on, nothing changes but cells that have left, readings and free cells
  calm : NoAccess → Calm past.left old.heap new.heap
  calm none =
      calm_step past.left old aside x.step x.reply sound.jobs go (λ who removes on. not_now who removes) none
      (heap_goes old aside x.step x.reply x.step refl did.0)

  -- such a step takes no cell out, removes none at once and changes no field
  harmless_plain : NoAccess → IsHarmless S T past old x new
  harmless_plain none = record {
    no_takes = λ n t. none t.who (TakeAccess t.guard t.pointer) t.steps t.found t.step t.progress;
    no_now = λ n r. cc (not_now r.who (Some n) r.progress);
    frozen = λ q g y f points changed.
        absurd (none q (Point g (Field y f) points.change) points.steps points.found points.step points.progress);
  }

  abbrev Others : ℕ → Type 0
  Others p = (q : ℕ) → q ≢ p → (seat_of new q ≡ seat_of old q) × (plans' q ≡ plans q)

  abbrev ActsNow : Option S.Phase → Option S.Phase → Type 1
  ActsNow b t = Acts S T past old.heap new.heap sound.ghost b t

  -- what the actor's step shows is enough: cells leave rightly, and all stays as it should
  finish : (p : ℕ) (b t : Option S.Phase) → now S old plans p ≡ b → now S new plans' p ≡ t → Others p
      → Tied S (plans' p) (seat_of new p) → IsHarmless S T past old x new
      → (acts : ActsNow b t) → ((k : ℕ) (n : Name) → DefersRemoval old x k n → acts.gone ≡ Some n) → Kept
  finish p b t eb et others tied harmless =
      subst (λ (v : Option S.Phase). (acts : ActsNow v t)
      → ((k : ℕ) (n : Name) → DefersRemoval old x k n → acts.gone ≡ Some n) → Kept) eb
      (subst (λ (v : Option S.Phase). (acts : ActsNow (now S old plans p) v)
      → ((k : ℕ) (n : Name) → DefersRemoval old x k n → acts.gone ≡ Some n) → Kept) et
      (λ acts defers. (
        leaves_after S T obeys.sane past old new plans plans' x sound p acts others tied linked jobs harmless defers,
        sound_after S T obeys.sane past old new plans plans' x sound p acts others tied linked jobs harmless defers,
      )))

  -- one says more than the other
  record WeakerNow (b t : Option S.Phase) : Type 1 where
    stands : (past : Past) (h : Heap) (ghost : T.Ghost) → T.Shape past h ghost → StandsNow S T past h ghost b
        → StandsNow S T past h ghost t
    owns : (n : Name) → OwnsNow S T t n → OwnsNow S T b n

  same_now : (b : Option S.Phase) → WeakerNow b b
  same_now b = record { stands = λ past h ghost shape s. s; owns = λ n o. o }

  some_now : (a b : S.Phase) → Weaker S T a b → WeakerNow (Some a) (Some b)
  some_now a b w = record { stands = w.stands; owns = w.owns }

  -- where no call on cells and pointers goes on, what is known stays
  module _ (none : NoAccess) (gone : Option Name) (out : (n : Name) → gone ≡ Some n → ¬ (IsReachable old.heap n))
      (past' : Past) (passed : Passed past past' new.heap gone) where
    calmly : T.Shape past' new.heap sound.ghost × ((phase : S.Phase)
        → ((n : Name) → T.Owns phase n → gone ≢ Some n)
        → T.Stands past old.heap sound.ghost phase → T.Stands past' new.heap sound.ghost phase)
    calmly = obeys.calm past past' old.heap new.heap sound.ghost gone settled (calm none) passed
        (λ n l reach. let before = fewer_reach old.heap new.heap (calm none).fewer n reach in
        elim (passed.left n l) [ inl was ↦ sound.left_out n was before | inr e ↦ out n e before ]) sound.shape

    calm_now : (phase : Option S.Phase) → ((n : Name) → OwnsNow S T phase n → gone ≢ Some n)
        → StandsNow S T past old.heap sound.ghost phase → StandsNow S T past' new.heap sound.ghost phase
    calm_now None off s = tt
    calm_now (Some phase) off s = calmly.1 phase off s

  -- a step of no call on cells, after which the actor knows no more than before
  weaken : NoAccess → (b t : Option S.Phase) → WeakerNow b t → StandsNow S T past old.heap sound.ghost b → ActsNow b t
  weaken none b t weak stands = record {
    ghost' = sound.ghost;
    gone = None;
    reach = λ n r. inl (fewer_reach old.heap new.heap (calm none).fewer n r);
    goes = λ n e. absurd (cc (e));
    owned = λ n o. inl (weak.owns n o);
    given = (calm none).given;
    own = λ past' passed. (
      (calmly none None (λ n e. absurd (cc (e))) past' passed).0,
      calm_now none None (λ n e. absurd (cc (e))) past' passed t (λ n o e. cc (e))
          (weak.stands past old.heap sound.ghost sound.shape stands),
    );
    other = λ past' passed phase apart s.
        (calmly none None (λ n e. absurd (cc (e))) past' passed).1 phase (λ n o e. cc (e)) s;
  }

  abbrev stands_at : ℕ → Type 0
  stands_at p = StandsNow S T past old.heap sound.ghost (now S old plans p)

  -- p's seat and plan alone change, and p knows no more
  alone_kept : (p : ℕ) (b t : Option S.Phase) → now S old plans p ≡ b → now S new plans' p ≡ t → WeakerNow b t
      → NoAccess → Others p → Tied S (plans' p) (seat_of new p)
      → ((k : ℕ) (n : Name) → ¬ (DefersRemoval old x k n)) → Kept
  alone_kept p b t eb et weak none others tied never =
      finish p b t eb et others tied (harmless_plain none)
      (weaken none b t weak (subst (StandsNow S T past old.heap sound.ghost) eb (sound.stands p)))
      (λ k n d. absurd (never k n d))

  -- nobody's seat or plan changes
  nobody : NoAccess → ((q : ℕ) → seat_of new q ≡ seat_of old q) → KeepsPlans plans plans'
      → ((k : ℕ) (n : Name) → ¬ (DefersRemoval old x k n)) → Kept
  nobody none seats same never =
      alone_kept 0 (now S old plans 0) (now S old plans 0) refl
      (ap₂ (λ (plan : Plan S.Phase) (st : WorldSeat). now_of S plan st) (same 0) (seats 0)) (same_now _) none
      (λ q ne. (seats q, same q))
      (subst (λ (st : WorldSeat). Tied S (plans' 0) st) (sym (seats 0))
      (subst (λ (plan : Plan S.Phase). Tied S plan (seat_of old 0)) (sym (same 0)) (sound.ties 0))) never

  -- the step taken is the one that the world says
  goes_by : (p : ℕ) → x.step ≡ WorldGo p → Moves old (WorldGo p) x.reply aside
  goes_by p on = subst (λ s. Moves old s x.reply aside) on did.0

  now_as : (p : ℕ) (plan : Plan S.Phase) → plans p ≡ plan → now S old plans p ≡ now_of S plan (seat_of old p)
  now_as p plan e = ap (λ (l : Plan S.Phase). now_of S l (seat_of old p)) e

  tied_as : (p : ℕ) (plan : Plan S.Phase) → plans p ≡ plan → Tied S plan (seat_of old p)
  tied_as p plan e = subst (λ (l : Plan S.Phase). Tied S l (seat_of old p)) e (sound.ties p)

  -- a step Go of p, which isn't at a call on cells and pointers
  none_go : (p : ℕ) → x.step ≡ WorldGo p
      → ((a : Access) (k : ℕ) (found : Ptr) → (seat_of old p).progress ≢ Accesses a k found) → NoAccess
  none_go p on none who a k found e now =
      none a k found (ap (λ (i : ℕ). (seat_of old i).progress) (let s : p ≡ who = cc (on, e) in s) ∙ now)

  none_loose : (p : ℕ) → x.step ≡ WorldGo p → IsLoose (seat_of old p) → NoAccess
  none_loose p on (inl idle) = none_go p on (λ a k found e. cc (idle, e))
  none_loose p on (inr (c, driven, plain, taken)) = none_go p on (λ a k found e. cc (driven, e))

  -- p defers a removal only in that call
  never_go : (p : ℕ) → x.step ≡ WorldGo p
      → ((g : Option ℕ) (ptr : Ptr) → (seat_of old p).progress ≢ Driven (DeferDestroy g ptr)) → (k : ℕ) (n : Name)
      → ¬ (DefersRemoval old x k n)
  never_go p on never k n d =
      never d.guard d.pointer
      (ap (λ (i : ℕ). (seat_of old i).progress) (let s : p ≡ d.who = cc (on, d.step) in s) ∙ d.progress)

  never_loose : (p : ℕ) → x.step ≡ WorldGo p → IsLoose (seat_of old p) → (k : ℕ) (n : Name)
      → ¬ (DefersRemoval old x k n)
  never_loose p on (inl idle) = never_go p on (λ g ptr e. cc (idle, e))
  never_loose p on (inr (c, driven, plain, taken)) =
      never_go p on (λ g ptr e. subst IsPlain (let s : c ≡ DeferDestroy g ptr = cc (driven, e) in s) plain)

  none_plain : (p : ℕ) → x.step ≡ WorldGo p → IsLoose (seat_of old p) ⊎ IsUnguarded (seat_of old p) → NoAccess
  none_plain p on (inl loose) = none_loose p on loose
  none_plain p on (inr (taken, inl now)) = none_go p on (λ a k found e. cc (now, e))
  none_plain p on (inr (taken, inr ends)) = none_go p on (λ a k found e. cc (ends, e))

  never_plain : (p : ℕ) → x.step ≡ WorldGo p → IsLoose (seat_of old p) ⊎ IsUnguarded (seat_of old p)
      → (k : ℕ) (n : Name) → ¬ (DefersRemoval old x k n)
  never_plain p on (inl loose) = never_loose p on loose
  never_plain p on (inr (taken, inl now)) = never_go p on (λ g ptr e. cc (now, e))
  never_plain p on (inr (taken, inr ends)) = never_go p on (λ g ptr e. cc (ends, e))

  -- a Go of a participant without a plan
  pub go_none : (p : ℕ) → x.step ≡ WorldGo p → plans p ≡ NoPlan → KeepsPlans plans plans' → Kept
  go_none p on none same =
      let plain = tied_as p NoPlan none in
      let gone = go_plain old aside x.reply p plain (goes_by p on) in
      alone_kept p None None (now_as p NoPlan none) (ap (λ (l : Plan S.Phase). now_of S l (seat_of new p))
      (same p ∙ none)) (same_now None) (none_plain p on plain) (λ q ne. (gone.others q ne, same q))
      (subst (λ (l : Plan S.Phase). Tied S l (seat_of new p)) (sym (same p ∙ none)) gone.plain)
      (never_plain p on plain)

  -- a Go of a flush
  go_room : (p g : ℕ) (phase done failed : S.Phase) → S.deed g phase ≡ Flushes done failed → x.step ≡ WorldGo p
      → plans p ≡ Under g phase true
      → Replans plans p (plan_gone g phase (S.deed g phase) x.reply) plans' → Kept
  go_room p g phase done failed is on at sets =
      let loose : IsLoose (seat_of old p) = subst (λ (d : Deed S.Phase S.Answer). IsBegun (call_by g d) (seat_of old p))
      is (tied_as p (Under g phase true) at) in
      let gone = go_loose old aside x.reply p loose (goes_by p on) in
      alone_kept p (Some phase) (now_of S (plan_gone g phase (S.deed g phase) x.reply) (seat_of new p))
      (now_as p (Under g phase true) at ∙ ap Some (loose_now S g phase (seat_of old p) loose))
      (ap (λ (l : Plan S.Phase). now_of S l (seat_of new p)) sets.0) (by_reply x.reply (seat_of new p) gone.loose)
      (none_loose p on loose) (λ q ne. (gone.others q ne, sets.1 q ne))
      (subst (λ (l : Plan S.Phase). Tied S l (seat_of new p)) (sym sets.0)
      (room_tied S g phase done failed x.reply (seat_of new p) is gone.loose gone.ends)) (never_loose p on loose)
    where
      flush : IsFlush (S.deed g phase)
      flush = subst (λ (d : Deed S.Phase S.Answer). IsFlush d) (sym is) tt

      by_reply : (r : Reply) (seat : WorldSeat) → IsLoose seat
          → WeakerNow (Some phase) (now_of S (plan_gone g phase (S.deed g phase) r) seat)
      by_reply (Done a) seat loose = some_now phase _ (obeys.flushed g phase (Done a) flush)
      by_reply (Refused f) seat loose = some_now phase _ (obeys.flushed g phase (Refused f) flush)
      by_reply _ seat loose = subst (λ (a : S.Phase). WeakerNow (Some phase) (Some a))
          (sym (loose_now S g phase seat loose)) (same_now (Some phase))

  -- a Go of a phase's call on cells and pointers
  module _ (p g : ℕ) (phase : S.Phase) (t : Access) (told : AccessAnswer → S.Phase) (failed : S.Phase)
      (is : S.deed g phase ≡ Touches t told failed) (on : x.step ≡ WorldGo p) (at : plans p ≡ Under g phase true)
      (sets : Replans plans p (plan_gone g phase (S.deed g phase) x.reply) plans') where
    abbrev seat : WorldSeat
    seat = seat_of old p

    tied : (position_word old p ≢ Free) × IsAccessing t (seat_of old p).progress
    tied = subst (λ (d : Deed S.Phase S.Answer). IsBegun (call_by g d) (seat_of old p)) is
        (tied_as p (Under g phase true) at)

    now_before : now S old plans p ≡ Some (now_under S g phase seat seat.progress)
    now_before = now_as p (Under g phase true) at

    not_deferred : (progress : Progress) → seat.progress ≡ progress → IsAccessing t progress → (k : ℕ) (n : Name)
        → ¬ (DefersRemoval old x k n)
    not_deferred progress now ok = never_go p on (λ g' ptr e. subst (IsAccessing t) (sym now ∙ e) ok)

    takes_none : TakesNone t
    takes_none = (subst (λ (d : Deed S.Phase S.Answer). IsFit d) is (obeys.fits g phase)).0

    harmless_by : (j : ℕ) (found : Ptr) → seat.progress ≡ Accesses t j found
        → ((k : Option ℕ) (y : Name) (f : ℕ) (points : Points old x p k (Field y f))
        → pointer_at old.heap (Field y f) ≢ pointer_at new.heap (Field y f) → past.reached y
        → ¬ (¬ (IsReachable old.heap y))) → IsHarmless S T past old x new
    harmless_by j found now frozen = record {
      no_takes =
          λ n takes. subst TakesNone (let s : t ≡ TakeAccess takes.guard takes.pointer =
          cc (now, ap (λ (i : ℕ). (seat_of old i).progress) (sym (same takes.who takes.step)), takes.progress) in s)
          takes_none;
      no_now = λ n r. cc (not_now r.who (Some n) r.progress);
      frozen = λ q k y f points changed. frozen k y f
          (subst (λ i. Points old x i k (Field y f)) (same q points.step) points) changed;
    }
      where
        same : (q : ℕ) → x.step ≡ WorldGo q → q ≡ p
        same q e = cc (on, e)

    touches : (j : ℕ) (found : Ptr) → seat.progress ≡ Accesses t j found → Accessing old aside x.reply p t j found
        → Kept
    touches j found going step =
        let made : Touched = step.did in
        let does = step.touches in
        let told_is = step.told in
        let e = step.state in
        let heap : new.heap ≡ made.heap = ap (λ (s : State). s.heap) e in
        let a = alone old aside _ p (accessed_seat t j made.told seat) (seat_there old p tied.0) e refl refl in
        let before : now S old plans p ≡ Some phase =
        now_before ∙ ap (λ (s : Progress). Some (now_under S g phase seat s)) going in
        let stands : T.Stands past old.heap sound.ghost phase =
        subst (StandsNow S T past old.heap sound.ghost) before (sound.stands p) in
        let plan : plans' p ≡ plan_gone g phase (S.deed g phase) (access_reply made.told) =
        sets.0 ∙ ap (plan_gone g phase (S.deed g phase)) told_is in
        let shown = obeys.touches past old.heap sound.ghost g phase j found made
        (subst (λ (d : Deed S.Phase S.Answer). TouchesBy d j found old.heap made) (sym is) does)
        (touches_given t j found old.heap made does) settled sound.shape stands in
        finish p (Some phase) (Some (phase_after phase told failed made.told)) before
        (ap₂ (λ (l : Plan S.Phase) (st : WorldSeat). now_of S l st) plan a.own
        ∙ gone_now S g phase t told failed j made.told seat is)
        (λ q ne. (a.others q ne, sets.1 q ne))
        (subst (λ (l : Plan S.Phase). Tied S l (seat_of new p)) (sym plan)
        (subst (λ (st : WorldSeat). Tied S (plan_gone g phase (S.deed g phase) (access_reply made.told)) st) (sym a.own)
        (gone_tied S g phase t told failed j made.told seat is tied.0)))
        (harmless_by j found going (λ k y f points changed was. shown.1 k y f points.change
        (ap (call_by g) is
        ∙ ap AccessCall (let s : t ≡ Point k (Field y f) points.change = cc (going, points.progress) in s))
        (λ same. changed (same ∙ ap (λ (h : Heap). pointer_at h (Field y f)) (sym heap))) was))
        (subst (λ (h : Heap). Acts S T past old.heap h sound.ghost (Some phase)
        (Some (phase_after phase told failed made.told))) (sym heap)
        (subst (λ (d : Deed S.Phase S.Answer). Acts S T past old.heap made.heap sound.ghost (Some phase)
        (Some (after_touch phase d made.told))) is shown.0))
        (λ k n d. absurd (not_deferred (Accesses t j found) going refl k n d))

    over : (answer : AccessAnswer) → seat.progress ≡ Ends (Done answer) → x.reply ≡ Done answer
        → aside ≡ with_seat old p (record seat { progress = Idle }) → Kept
    over answer going told_is e =
        let a = alone old aside _ p (record seat { progress = Idle }) (seat_there old p tied.0) e refl refl in
        let plan : plans' p ≡ Under g (after_by phase (S.deed g phase) (Done answer)) false =
        sets.0 ∙ ap (plan_gone g phase (S.deed g phase)) told_is in
        alone_kept p (Some (after_by phase (S.deed g phase) (Done answer)))
        (Some (after_by phase (S.deed g phase) (Done answer)))
        (now_before ∙ ap (λ (s : Progress). Some (now_under S g phase seat s)) going)
        (ap (λ (l : Plan S.Phase). now_of S l (seat_of new p)) plan) (same_now _)
        (none_go p on (λ b k found e. cc (going, e)))
        (λ q ne. (a.others q ne, sets.1 q ne))
        (subst (λ (l : Plan S.Phase). Tied S l (seat_of new p)) (sym plan) (ap (λ (st : WorldSeat). st.progress) a.own))
        (not_deferred (Ends (Done answer)) going tt)

    by_progress : (progress : Progress) → seat.progress ≡ progress → IsAccessing t progress
        → DoesGo old p seat progress x.reply aside → Kept
    by_progress (Accesses b j found) going same d =
        touches j found (going ∙ ap (λ (c : Access). Accesses c j found) same)
        (accessing old aside x.reply p t j found
        (subst (λ (c : Access). DoesGo old p seat (Accesses c j found) x.reply aside) same d))
    by_progress (Ends (Done answer)) going ok d =
        let step = ended_with old aside x.reply (Done answer) p d in over answer going step.0 step.1
    by_progress _ going ok d = absurd ok

    go_touch : Kept
    go_touch = by_progress seat.progress refl tied.1 (go_taken old aside x.reply p tied.0 (goes_by p on))

  -- a Go of the deferral of a removal
  module _ (p g : ℕ) (phase after failed : S.Phase) (n : Name) (is : S.deed g phase ≡ Defers n after failed)
      (on : x.step ≡ WorldGo p) (at : plans p ≡ Under g phase true)
      (sets : Replans plans p (plan_gone g phase (S.deed g phase) x.reply) plans') where
    abbrev sd : WorldSeat
    sd = seat_of old p

    abbrev md : Machine Deferral
    md = sd.machine

    abbrev c : Call
    c = DeferDestroy (Some g) (ptr_to n)

    deferral : (sd.word ≢ Free) × (sd.progress ≡ Driven c) × (md.action ≡ DeferAction) × IsDeferring md.stage md.full
    deferral = subst (λ (d : Deed S.Phase S.Answer). IsBegun (call_by g d) sd) is (tied_as p (Under g phase true) at)

    duty : HandsOver S T phase after n
    duty = obeys.defers g phase after failed n is

    -- a deferral that ends with room found is made
    ends_kept : (w : Machine Deferral) → w.full ≡ false
        → after_by phase (S.deed g phase) (end_reply c (with_machine sd w)) ≡ after
    ends_kept w free = ap (λ (b : Bool). after_by phase (S.deed g phase) (full_or_done b)) free
        ∙ ap (λ (d : Deed S.Phase S.Answer). after_by phase d (Done UnitAnswer)) is

    defer_before : (s : Stage) → md.stage ≡ s → now S old plans p ≡ Some (now_deferring S g phase sd c s)
    defer_before s stage =
        now_as p (Under g phase true) at ∙ ap (λ (s : Progress). Some (now_under S g phase sd s)) deferral.1
        ∙ ap (λ (s : Stage). Some (now_deferring S g phase sd c s)) stage

    who : (k : ℕ) (y : Name) (d : DefersRemoval old x k y) → y ≡ n
    who k y d =
        let same : d.who ≡ p = cc (on, d.step) in
        let pointers : ptr_to n ≡ d.pointer =
        cc (deferral.1, ap (λ (i : ℕ). (seat_of old i).progress) (sym same), d.progress) in
        let names : Some n ≡ Some y = ap (λ (q : Ptr). q.name) pointers ∙ d.name in cc

    none_here : NoAccess
    none_here = none_go p on (λ a k found e. cc (deferral.1, e))

    silent : (r : Reply) → x.reply ≡ r → ((t : ℕ) → r ≢ Deferred t) → (k : ℕ) (y : Name) → ¬ (DefersRemoval old x k y)
    silent r told ne k y d = ne k (sym told ∙ d.reply)

    after_now : (w : Machine Deferral) (t : Stage) → w.stage ≡ t
        → now_of S (Under g phase true) (with_machine sd w) ≡ Some (now_deferring S g phase (with_machine sd w) c t)
    after_now w t stage =
        ap (λ (s : Progress). Some (now_under S g phase (with_machine sd w) s)) deferral.1
        ∙ ap (λ (s : Stage). Some (now_deferring S g phase (with_machine sd w) c s)) stage

    after_tied : (w : Machine Deferral) (t : Stage) → w.action ≡ md.action → w.stage ≡ t → IsDeferring t w.full
        → Tied S (Under g phase true) (with_machine sd w)
    after_tied w t action stage ok =
        subst (λ (d : Deed S.Phase S.Answer). IsBegun (call_by g d) (with_machine sd w)) (sym is)
        (deferral.0, deferral.1, action ∙ deferral.2, subst (λ (s : Stage). IsDeferring s w.full) (sym stage) ok)

    -- the machine goes on
    goes_on : (w : Machine Deferral) (s t : Stage) (last : State) → md.stage ≡ s → x.reply ≡ Stepped → aside ≡ last
        → last.sizes ≡ old.sizes → last.seats ≡ (with_seat old p (with_machine sd w)).seats
        → w.action ≡ md.action → w.stage ≡ t → IsDeferring t w.full
        → WeakerNow (Some (now_deferring S g phase sd c s)) (Some (now_deferring S g phase (with_machine sd w) c t))
        → Kept
    goes_on w s t last stage told e sizes seats action stage' ok weak =
        let a = alone old aside last p (with_machine sd w) (seat_there old p deferral.0) e sizes seats in
        let plan : plans' p ≡ Under g phase true = sets.0 ∙ ap (plan_gone g phase (S.deed g phase)) told in
        alone_kept p (Some (now_deferring S g phase sd c s)) (Some (now_deferring S g phase (with_machine sd w) c t))
        (defer_before s stage)
        (ap₂ (λ (l : Plan S.Phase) (st : WorldSeat). now_of S l st) plan a.own ∙ after_now w t stage')
        weak none_here (λ q ne. (a.others q ne, sets.1 q ne))
        (subst (λ (l : Plan S.Phase). Tied S l (seat_of new p)) (sym plan)
        (subst (λ (st : WorldSeat). Tied S (Under g phase true) st) (sym a.own) (after_tied w t action stage' ok)))
        (silent Stepped told (λ t h. cc (h)))

    -- where the held bag was full and no place was found, nothing is deferred
    unkept : (w : Machine Deferral) → w.full ≡ true
        → WeakerNow (Some phase) (Some (after_by phase (S.deed g phase) (end_reply c (with_machine sd w))))
    unkept w full = subst (λ (b : Bool). WeakerNow (Some phase)
        (Some (after_by phase (S.deed g phase) (full_or_done b)))) (sym full)
        (some_now phase _ (obeys.refused g phase BagsFull))

    -- before its end the put of the deferral hasn't found the places full
    is_open : (s : Stage) → md.stage ≡ s → IsDeferring s md.full
    is_open s stage = subst (λ (s : Stage). IsDeferring s md.full) stage deferral.3

    put_at : (b : ℕ) (step : PutStep) (last : State) → md.stage ≡ Put b → x.reply ≡ Stepped → aside ≡ last
        → last.sizes ≡ old.sizes → last.seats ≡ (with_seat old p (with_machine sd (put_heard md step))).seats → Kept
    put_at b PutAgain last stage told e sizes seats =
        goes_on md (Put b) (Put b) last stage told e sizes seats refl stage (is_open (Put b) stage) (same_now _)
    put_at b PutDone last stage told e sizes seats =
        goes_on (put_heard md PutDone) (Put b) Keep last stage told e sizes seats refl
        (ap (λ (a : Action). after_put a false) deferral.2) refl (same_now _)
    put_at b PutFull last stage told e sizes seats =
        goes_on (put_heard md PutFull) (Put b) End last stage told e sizes seats refl
        (ap (λ (a : Action). after_put a true) deferral.2) tt (unkept (put_heard md PutFull) refl)

    keep_at : (w : Machine Deferral) (last : State) → md.stage ≡ Keep → x.reply ≡ Deferred old.tickets
        → w.action ≡ md.action → w.stage ≡ End → w.full ≡ md.full → aside ≡ last → last.sizes ≡ old.sizes
        → last.seats ≡ (with_seat old p (with_machine sd w)).seats → Kept
    keep_at w last stage told action stage' full e sizes seats =
        let a = alone old aside last p (with_machine sd w) (seat_there old p deferral.0) e sizes seats in
        let plan : plans' p ≡ Under g phase true = sets.0 ∙ ap (plan_gone g phase (S.deed g phase)) told in
        let before : now S old plans p ≡ Some phase = defer_before Keep stage in
        let stands : T.Stands past old.heap sound.ghost phase =
        subst (StandsNow S T past old.heap sound.ghost) before (sound.stands p) in
        let known = duty.known past old.heap sound.ghost sound.shape stands in
        let away : (m : Name) → Some n ≡ Some m → ¬ (IsReachable old.heap m) =
        λ m e. subst (λ (y : Name). ¬ (IsReachable old.heap y)) (let s : n ≡ m = cc (e) in s) known.0 in
        finish p (Some phase) (Some after) before
        (ap₂ (λ (l : Plan S.Phase) (st : WorldSeat). now_of S l st) plan a.own ∙ after_now w End stage'
        ∙ ap Some (ends_kept w (full ∙ is_open Keep stage)))
        (λ q ne. (a.others q ne, sets.1 q ne))
        (subst (λ (l : Plan S.Phase). Tied S l (seat_of new p)) (sym plan)
        (subst (λ (st : WorldSeat). Tied S (Under g phase true) st) (sym a.own) (after_tied w End action stage' tt)))
        (harmless_plain none_here)
        (record {
          ghost' = sound.ghost;
          gone = Some n;
          reach = λ m r. inl (fewer_reach old.heap new.heap (calm none_here).fewer m r);
          goes = λ m e. (
            subst (T.Owns phase) (let s : n ≡ m = cc (e) in s) duty.own,
            λ r. away m e (fewer_reach old.heap new.heap (calm none_here).fewer m r),
            λ o. known.2 m o (let s : m ≡ n = cc (e) in s),
          );
          owned = λ m o. inl (duty.fewer m o);
          given = (calm none_here).given;
          own = λ past' passed. (
            (calmly none_here (Some n) away past' passed).0,
            (calmly none_here (Some n) away past' passed).1 after
                (λ m o e. known.2 m o (let s : m ≡ n = cc (e) in s)) known.1,
          );
          other = λ past' passed other apart s.
              (calmly none_here (Some n) away past' passed).1 other
              (λ m o e. apart m o (subst (T.Owns phase) (let s : n ≡ m = cc (e) in s) duty.own)) s;
        })
        (λ k y d. ap Some (sym (who k y d)))

    defer_at : Deferring old aside x.reply p c md.stage → Kept
    defer_at (at_seal stage told e) =
        goes_on (with_stage md (Put old.epoch)) LoadSeal (Put old.epoch) _ stage told e refl refl refl refl
        (is_open LoadSeal stage) (same_now _)
    defer_at (at_put b step queued stage told e) = put_at b step _ stage told e refl refl
    defer_at (at_keep job stage told e) = keep_at _ _ stage told refl refl refl e refl refl
    defer_at (at_end stage told e) =
        let a = alone old aside _ p (ended_seat c sd) (seat_there old p deferral.0) e refl refl in
        let plan : plans' p ≡ Under g (after_by phase (S.deed g phase) (end_reply c sd)) false =
        sets.0 ∙ ap (plan_gone g phase (S.deed g phase)) told ∙ gone_end S g phase c sd in
        alone_kept p (Some (now_deferring S g phase sd c End)) (Some (now_deferring S g phase sd c End))
        (defer_before End stage) (ap (λ (l : Plan S.Phase). now_of S l (seat_of new p)) plan) (same_now _) none_here
        (λ q ne. (a.others q ne, sets.1 q ne))
        (subst (λ (l : Plan S.Phase). Tied S l (seat_of new p)) (sym plan)
        (ap (λ (st : WorldSeat). st.progress) a.own ∙ idle_ended sd c))
        (λ k y d. end_not_deferred c sd k (sym told ∙ d.reply))

    go_defer : Kept
    go_defer = defer_at (deferring old aside x.reply p c md.stage md.full deferral.3
        (subst (λ (progress : Progress). DoesGo old p sd progress x.reply aside) deferral.1
        (go_taken old aside x.reply p deferral.0 (goes_by p on))))

  -- a Go of a plan
  pub go_under : (p g : ℕ) (phase : S.Phase) → x.step ≡ WorldGo p → plans p ≡ Under g phase true
      → Replans plans p (plan_gone g phase (S.deed g phase) x.reply) plans' → Kept
  go_under p g phase on at sets = by_deed (S.deed g phase) refl
    where
      by_deed : (d : Deed S.Phase S.Answer) → S.deed g phase ≡ d → Kept
      by_deed (Flushes done failed) is = go_room p g phase done failed is on at sets
      by_deed (Touches a told failed) is = go_touch p g phase a told failed is on at sets
      by_deed (Defers n after failed) is = go_defer p g phase after failed n is on at sets
      by_deed (Answers a) is =
          absurd (subst (λ (d : Deed S.Phase S.Answer). IsBegun (call_by g d) (seat_of old p)) is
          (tied_as p (Under g phase true) at))

  -- a step that is no Go
  none_other : ((q : ℕ) → x.step ≢ WorldGo q) → NoAccess
  none_other never actor a k found on going = never actor on

  -- a step that is no Go defers no removal
  other_defers_not : ((q : ℕ) → x.step ≢ WorldGo q) → (k : ℕ) (n : Name) → ¬ (DefersRemoval old x k n)
  other_defers_not never k n d = never d.who d.step

  begins_by : (p : ℕ) (d : Call) → x.step ≡ WorldBegin p d
      → BeginsCall old p d (refusal d (seat_of old p) old.tickets old.heap) x.reply aside
  begins_by p d on = subst (λ s. Moves old s x.reply aside) on did.0

  -- a Begin of a phase's call
  pub begin_under : (p g : ℕ) (phase : S.Phase) → ¬ (IsOver (S.deed g phase))
      → x.step ≡ WorldBegin p (call_by g (S.deed g phase)) → plans p ≡ Under g phase false
      → Replans plans p (plan_begun g phase (S.deed g phase) x.reply) plans' → Kept
  begin_under p g phase call on at sets =
      by_refusal (refusal (call_by g (S.deed g phase)) (seat_of old p) old.tickets old.heap) refl
      (begins_by p (call_by g (S.deed g phase)) on)
    where
      never : (q : ℕ) → x.step ≢ WorldGo q
      never q e = cc (on, e)

      by_refusal : (f : Option Fault)
          → refusal (call_by g (S.deed g phase)) (seat_of old p) old.tickets old.heap ≡ f
          → BeginsCall old p (call_by g (S.deed g phase)) f x.reply aside → Kept
      by_refusal (Some f) why d =
          let step = begin_refused old aside x.reply p (call_by g (S.deed g phase)) f d in
          let plan : plans' p ≡ Under g (after_by phase (S.deed g phase) (Refused f)) false =
          sets.0 ∙ ap (plan_begun g phase (S.deed g phase)) step.0 in
          let seats = unmoved old aside old step.1 refl refl in
          alone_kept p (Some phase) (Some (after_by phase (S.deed g phase) (Refused f)))
          (now_as p (Under g phase false) at) (ap (λ (l : Plan S.Phase). now_of S l (seat_of new p)) plan)
          (some_now phase _ (obeys.refused g phase f))
          (none_other never) (λ q ne. (seats q, sets.1 q ne))
          (subst (λ (l : Plan S.Phase). Tied S l (seat_of new p)) (sym plan)
          (ap (λ (st : WorldSeat). st.progress) (seats p) ∙ tied_as p (Under g phase false) at))
          (other_defers_not never)
      by_refusal None why d =
          let step = begin_made old aside x.reply p (call_by g (S.deed g phase)) d in
          let seat : WorldSeat = seat_of old p in
          let taken = (begin_given (call_by g (S.deed g phase)) seat old.tickets old.heap why).taken in
          let a = alone old aside _ p (begun_seat (call_by g (S.deed g phase)) seat) (seat_there old p taken)
          step.1 refl refl in
          let plan : plans' p ≡ Under g phase true = sets.0 ∙ ap (plan_begun g phase (S.deed g phase)) step.0 in
          alone_kept p (Some phase) (Some phase) (now_as p (Under g phase false) at)
          (ap₂ (λ (l : Plan S.Phase) (st : WorldSeat). now_of S l st) plan a.own
          ∙ begun_now S g phase seat call (obeys.fits g phase))
          (same_now _) (none_other never) (λ q ne. (a.others q ne, sets.1 q ne))
          (subst (λ (l : Plan S.Phase). Tied S l (seat_of new p)) (sym plan)
          (subst (λ (st : WorldSeat). IsBegun (call_by g (S.deed g phase)) st) (sym a.own)
          (begun_tied S g (S.deed g phase) seat call (obeys.fits g phase) taken)))
          (other_defers_not never)

  -- a Begin of a plain call
  pub begin_plain : (p : ℕ) (call : Call) → x.step ≡ WorldBegin p call → IsPlain call → plans p ≡ NoPlan
      → KeepsPlans plans plans' → Kept
  begin_plain p call on plain none same =
      by_refusal (refusal call (seat_of old p) old.tickets old.heap) refl (begins_by p call on)
    where
      never : (q : ℕ) → x.step ≢ WorldGo q
      never q e = cc (on, e)

      by_refusal : (f : Option Fault) → refusal call (seat_of old p) old.tickets old.heap ≡ f
          → BeginsCall old p call f x.reply aside → Kept
      by_refusal (Some f) why d =
          nobody (none_other never)
          (unmoved old aside old (begin_refused old aside x.reply p call f d).1 refl refl) same (other_defers_not never)
      by_refusal None why d =
          let taken = (begin_given call (seat_of old p) old.tickets old.heap why).taken in
          let a = alone old aside _ p (begun_seat call (seat_of old p)) (seat_there old p taken)
          (begin_made old aside x.reply p call d).1 refl refl in
          alone_kept p None None (now_as p NoPlan none) (ap (λ (l : Plan S.Phase). now_of S l (seat_of new p))
          (same p ∙ none)) (same_now _) (none_other never) (λ q ne. (a.others q ne, same q))
          (subst (λ (l : Plan S.Phase). Tied S l (seat_of new p)) (sym (same p ∙ none))
          (subst (λ (st : WorldSeat). IsLoose st ⊎ IsUnguarded st) (sym a.own)
          (plain_begun call (seat_of old p) plain taken))) (other_defers_not never)

  -- what a registration finds of a free position's plan
  begun_free : (d : Call) (st : WorldSeat) → st.word ≡ Free → IsBegun d st → IsLoose (registered old)
      → (st.progress ≡ Idle) × IsBegun d (registered old)
  begun_free (Flush g) st free (inl idle) loose = (idle, loose)
  begun_free (Flush g) st free (inr plain) loose = absurd (plain.3 free)
  begun_free (AccessCall a) st free t loose = absurd (t.0 free)
  begun_free (DeferDestroy g ptr) st free t loose = absurd (t.0 free)
  begun_free _ st free t loose = absurd t

  -- a free position has no call under way, so a registration changes nothing for its plan
  free_shown : (plan : Plan S.Phase) (st : WorldSeat) → st.word ≡ Free → Tied S plan st
      → (now_of S plan (registered old) ≡ now_of S plan st) × Tied S plan (registered old)
  free_shown NoPlan st free t = (refl, inl (inl refl))
  free_shown (Under g phase false) st free t = (refl, refl)
  free_shown (Under g phase true) st free t =
      let shown = begun_free (call_by g (S.deed g phase)) st free t (inl refl) in
      (sym (ap (λ (s : Progress). Some (now_under S g phase st s)) shown.0), shown.1)

  -- Register, End and EndGo
  pub pass : (s : Step) → x.step ≡ s → IsOther s → KeepsPlans plans plans' → Kept
  pass s on other same = by_step s on other (subst (λ s. Moves old s x.reply aside) on did.0)
    where
      stays : ((q : ℕ) → seat_of new q ≡ seat_of old q) → ((p : ℕ) → x.step ≢ WorldGo p) → Kept
      stays seats never = nobody (none_other never) seats same (other_defers_not never)

      registers : ((p : ℕ) → x.step ≢ WorldGo p) → Registering old aside → Kept
      registers never (changes_none e) = stays (unmoved old aside old e refl refl) never
      registers never (takes_place p there free e) =
          let a = alone old aside _ p (registered old) there e refl refl in
          let shown = free_shown (plans p) (seat_of old p) free (sound.ties p) in
          alone_kept p (now S old plans p) (now S old plans p) refl
          (ap₂ (λ (l : Plan S.Phase) (st : WorldSeat). now_of S l st) (same p) a.own ∙ shown.0)
          (same_now _) (none_other never) (λ q ne. (a.others q ne, same q))
          (subst (λ (l : Plan S.Phase). Tied S l (seat_of new p)) (sym (same p))
          (subst (λ (st : WorldSeat). Tied S (plans p) st) (sym a.own) shown.1)) (other_defers_not never)

      by_step : (s : Step) → x.step ≡ s → IsOther s → Moves old s x.reply aside → Kept
      by_step WorldRegister on other d = registers (λ q e. cc (on, e)) (registering old aside x.reply d)
      by_step WorldEnd on other d = stays (end_unmoved old aside x.reply d) (λ q e. cc (on, e))
      by_step WorldEndGo on other d = stays (ending_unmoved old aside x.reply old.ending d) (λ q e. cc (on, e))
      by_step _ on other d = absurd other
