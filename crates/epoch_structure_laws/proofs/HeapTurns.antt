-- What a step does to the heap, whoever takes it: nothing that stands changes, or a phase's call on cells goes on.
use Rattle.std.proofs.Common.{◌≡◌, ℕ, Bool, true, false, Option, Some, None, ◌⊎◌, inl, inr, refl, ap, sym, subst, ◌∙◌}
use Rattle.epoch_laws.specs.declared.heap.access.Access.{Access}
use Rattle.epoch_laws.specs.declared.heap.access.AccessAnswer.{AccessAnswer}
use Rattle.epoch_laws.specs.declared.heap.access.Ptr.{Ptr}
use Rattle.epoch_laws.specs.Heap.{Touched}
use Rattle.epoch_cells.specs.declared.cells.name.Name.{Name}
use Rattle.epoch_laws.specs.declared.step.Entry.{Entry}
use Rattle.epoch_laws.specs.declared.step.Progress.{Progress}
use Rattle.epoch_laws.specs.declared.step.Progress.TheVariants.{Idle, Driven, CallsNow, Accesses, Ends}
use Rattle.epoch_laws.specs.declared.step.Step.{Step}
use Rattle.epoch_laws.specs.declared.step.Step.TheVariants.{Register, Begin, Go, End, EndGo}
use Rattle.epoch_laws.specs.declared.step.Word.TheVariants.{Free}
use Rattle.epoch_laws.specs.Run.{State, WorldSeat, seat_of, position_word, with_places, accessed_seat, DoesGo, Moves}
use Rattle.epoch_laws.specs.Run.{TakesStep}
use Rattle.epoch_laws.proofs.SeatLemmas.{seat_there}
use Rattle.epoch_laws.specs.Reach.{Past}
use Rattle.epoch_laws.proofs.HeapSteps.{heap_goes}
use Rattle.epoch_laws.proofs.JobsAsDeferred.{JobsGo, jobs_go}
use Rattle.epoch_structure_laws.specs.declared.plan.Plan.{Plan}
use Rattle.epoch_structure_laws.specs.declared.plan.Plan.TheVariants.{NoPlan, Under}
use Rattle.epoch_structure_laws.specs.Plans.{Deed, Flushes, Touches, Defers, Answers, Program, AllPlans}
use Rattle.epoch_structure_laws.specs.Plans.{call_by}
use Rattle.epoch_structure_laws.proofs.Custody.{IsLoose, IsUnguarded, IsAccessing, IsBegun, Tied, now_under, now_of}
use Rattle.epoch_structure_laws.proofs.Custody.{now, Calm}
use Rattle.epoch_structure_laws.proofs.Custody.{Structure, StandsNow, Sound}
use Rattle.epoch_structure_laws.proofs.Obligations.{TouchesBy}
use Rattle.epoch_structure_laws.proofs.CalmSteps.{calm_step}
use Rattle.epoch_structure_laws.proofs.Moved.{go_taken, Accessing, accessing, alone}
use Rattle.epoch_structure_laws.proofs.Steps.{tied_not_now}

module _ (S : Program) (T : Structure S) (past : Past) (old new : State) (plans : AllPlans S.Phase) (x : Entry)
    (sound : Sound S T past old plans) where
  -- one step of the call on cells and pointers that p's phase has begun
  pub record Touching : Type 1 where
    pub who : ℕ
    pub guard : ℕ
    pub phase : S.Phase
    pub access : Access
    pub made : ℕ
    pub found : Ptr
    pub did : Touched
    pub under : plans who ≡ Under guard phase true
    pub step : x.step ≡ Go who
    pub going : (seat_of old who).progress ≡ Accesses access made found
    pub touches : TouchesBy (S.deed guard phase) made found old.heap did
    pub heap : new.heap ≡ did.heap
    pub seat : seat_of new who ≡ accessed_seat access made did.told (seat_of old who)
    pub stands : T.Stands past old.heap sound.ghost phase

  module _ (did : TakesStep old x.step x.reply new) where
    -- the state after it, but for the places
    abbrev aside : State
    aside = with_places new old.places old.seen old.ahead old.room

    go : JobsGo old aside x.step x.reply
    go = jobs_go old aside x.step x.reply sound.linked x.step refl did.0

    abbrev NoAccess : Type 0
    NoAccess =
        (who : ℕ) (a : Access) (k : ℕ) (found : Ptr) → x.step ≡ Go who
        → (seat_of old who).progress ≡ Accesses a k found → ⊥

    calm : NoAccess → Calm past.left old.heap new.heap
    calm none = calm_step past.left old aside x.step x.reply sound.jobs go
        (λ who removes on. tied_not_now S (plans who) (seat_of old who) (sound.ties who) removes) none
        (heap_goes old aside x.step x.reply x.step refl did.0)

    abbrev Turns : Type 1
    Turns = Calm past.left old.heap new.heap ⊎ Touching

    loose_not : (seat : WorldSeat) (a : Access) (k : ℕ) (found : Ptr) → seat.progress ≡ Accesses a k found
        → ¬ (IsLoose seat)
    loose_not seat a k found now (inl idle) = cc (idle, now)
    loose_not seat a k found now (inr (c, driven, plain, taken)) = cc (driven, now)

    module _ (p : ℕ) (on : x.step ≡ Go p) (a : Access) (k : ℕ) (found : Ptr)
        (going : (seat_of old p).progress ≡ Accesses a k found) where
      touching : (g : ℕ) (phase : S.Phase) (told : AccessAnswer → S.Phase) (failed : S.Phase) (b : Access)
          → plans p ≡ Under g phase true → S.deed g phase ≡ Touches b told failed
          → (position_word old p ≡ Free → ⊥) → b ≡ a → Touching
      touching g phase told failed b at is taken same =
          let step = accessing old aside x.reply p a k found
          (subst (λ (progress : Progress). DoesGo old p (seat_of old p) progress x.reply aside) going
          (go_taken old aside x.reply p taken (subst (λ s. Moves old s x.reply aside) on did.0))) in
          let alike = alone old aside _ p (accessed_seat a k step.did.told (seat_of old p)) (seat_there old p taken)
          step.state refl refl in
          let before : now S old plans p ≡ Some phase =
          ap (λ (l : Plan S.Phase). now_of S l (seat_of old p)) at
          ∙ ap (λ (s : Progress). Some (now_under S g phase (seat_of old p) s)) going in
          record {
            who = p;
            guard = g;
            phase = phase;
            access = a;
            made = k;
            found = found;
            did = step.did;
            under = at;
            step = on;
            going = going;
            touches = subst (λ (d : Deed S.Phase S.Answer). TouchesBy d k found old.heap step.did)
                (ap (λ (c : Access). Touches c told failed) (sym same) ∙ sym is) step.touches;
            heap = ap (λ (s : State). s.heap) step.state;
            seat = alike.own;
            stands = subst (StandsNow S T past old.heap sound.ghost) before (sound.stands p);
          }

      by_plan : (plan : Plan S.Phase) → plans p ≡ plan → Tied S plan (seat_of old p) → Touching
      by_plan NoPlan at (inl loose) = absurd (loose_not (seat_of old p) a k found going loose)
      by_plan NoPlan at (inr (taken, inl calls)) = absurd (cc (calls, going))
      by_plan NoPlan at (inr (taken, inr ends)) = absurd (cc (ends, going))
      by_plan (Under g phase false) at idle = absurd (cc (idle, going))
      by_plan (Under g phase true) at tied = by_deed (S.deed g phase) refl tied
        where
          by_deed : (d : Deed S.Phase S.Answer) → S.deed g phase ≡ d → IsBegun (call_by g d) (seat_of old p) → Touching
          by_deed (Flushes done failed) is loose = absurd (loose_not (seat_of old p) a k found going loose)
          by_deed (Touches b told failed) is t =
              let same : a ≡ b = subst (IsAccessing b) going t.1 in
              touching g phase told failed b at is t.0 (sym same)
          by_deed (Defers n deferred failed) is t = absurd (cc (t.1, going))
          by_deed (Answers answer) is t = absurd t

    -- a step Go where such a call is under way
    pub touched : (p : ℕ) → x.step ≡ Go p → (a : Access) (k : ℕ) (found : Ptr)
        → (seat_of old p).progress ≡ Accesses a k found → Touching
    touched p on a k found going = by_plan p on a k found going (plans p) refl (sound.ties p)

    -- what a step does to the heap
    pub heap_turns : Turns
    heap_turns = by_step x.step refl
      where
        other : (p : ℕ) → x.step ≡ Go p → (progress : Progress) → (seat_of old p).progress ≡ progress
            → ((a : Access) (k : ℕ) (found : Ptr) → progress ≡ Accesses a k found → ⊥) → NoAccess
        other p on progress now none who a k found e going =
            let same : p ≡ who = cc (on, e) in
            none a k found (sym now ∙ ap (λ (i : ℕ). (seat_of old i).progress) same ∙ going)

        by_progress : (p : ℕ) → x.step ≡ Go p → (progress : Progress) → (seat_of old p).progress ≡ progress → Turns
        by_progress p on (Accesses a k found) going = inr (touched p on a k found going)
        by_progress p on Idle now = inl (calm (other p on Idle now (λ b j f e. cc (e))))
        by_progress p on (Driven c) now = inl (calm (other p on (Driven c) now (λ b j f e. cc (e))))
        by_progress p on (CallsNow r) now = inl (calm (other p on (CallsNow r) now (λ b j f e. cc (e))))
        by_progress p on (Ends r) now = inl (calm (other p on (Ends r) now (λ b j f e. cc (e))))

        by_step : (s : Step) → x.step ≡ s → Turns
        by_step (Go p) on = by_progress p on (seat_of old p).progress refl
        by_step Register on = inl (calm (λ who a k found e going. cc (on, e)))
        by_step (Begin p c) on = inl (calm (λ who a k found e going. cc (on, e)))
        by_step End on = inl (calm (λ who a k found e going. cc (on, e)))
        by_step EndGo on = inl (calm (λ who a k found e going. cc (on, e)))
