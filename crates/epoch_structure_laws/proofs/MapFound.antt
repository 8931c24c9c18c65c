-- In each run of a map a call that answers `NotFound` has found that there is no entry of its key.
use Rattle.std.proofs.Common.{◌≡◌, ◌≢◌, ℕ, Bool, true, false, [], ◌∷◌, Some, None, ◌⊎◌, inl, inr, refl, ap, sym, subst}
use Rattle.std.proofs.Common.{◌∙◌}
use Rattle.epoch_laws.specs.declared.heap.access.Access.{Access}
use Rattle.epoch_laws.specs.declared.heap.access.Accessed.{Accessed}
use Rattle.epoch_laws.specs.declared.heap.access.Accessed.TheVariants.{Again, Answers as Told, NoSlot}
use Rattle.epoch_laws.specs.declared.heap.access.AccessAnswer.{AccessAnswer}
use Rattle.epoch_laws.specs.declared.heap.access.Ptr.{Ptr}
use Rattle.epoch_laws.specs.Heap.{Heap, Touched}
use Rattle.epoch_laws.specs.declared.step.Entry.{Entry}
use Rattle.epoch_laws.specs.declared.step.Progress.{Progress}
use Rattle.epoch_laws.specs.declared.step.Progress.TheVariants.{Accesses, Ends}
use Rattle.epoch_laws.specs.declared.step.Reply.TheVariants.{Done}
use Rattle.epoch_laws.specs.declared.step.Step.TheVariants.{Go as WorldGo}
use Rattle.epoch_laws.specs.declared.step.Word.TheVariants.{Free}
use Rattle.epoch_laws.specs.Run.{State, WorldSeat, seat_of, with_places, accessed_seat, access_reply, progress_after}
use Rattle.epoch_laws.specs.Run.{DoesGo, Moves, TakesStep}
use Rattle.epoch_laws.specs.Reach.{Past, no_past, past_after}
use Rattle.epoch_laws.proofs.HeapSteps.{HeapGoes, heap_goes}
use Rattle.epoch_laws.proofs.SeatLemmas.{seat_there}
use Rattle.epoch_laws.proofs.TurnsGiven.{StaysGiven, touches_given}
use Rattle.epoch_structure_laws.specs.declared.plan.Plan.{Plan}
use Rattle.epoch_structure_laws.specs.declared.plan.Plan.TheVariants.{NoPlan, Under}
use Rattle.epoch_structure_laws.specs.Plans.{Deed, Flushes, Touches, Defers, Answers, IsFit, IsOther, AllPlans, Replans}
use Rattle.epoch_structure_laws.specs.Plans.{call_by}
use Rattle.epoch_structure_laws.specs.Plans.{PlanEvent, Asked, Declined, Answered, Makes, Follows, asks, declines}
use Rattle.epoch_structure_laws.specs.Plans.{answers}
use Rattle.epoch_structure_laws.specs.Plans.{passes, free_begins, free_goes, begins, goes, made_at, WorldThen}
use Rattle.epoch_structure_laws.specs.Plans.{plan_gone}
use Rattle.epoch_structure_laws.specs.Plans.{refused_by}
use Rattle.epoch_structure_laws.proofs.Accounts.{AllOwe, OwesAt, OwesBegun, Touching, account_set, accounts_turn}
use Rattle.epoch_structure_laws.proofs.Accounts.{updated}
use Rattle.epoch_structure_laws.proofs.Accounts.{updated_other, updated_same}
use Rattle.epoch_structure_laws.specs.Served.{ThenAlso}
use Rattle.epoch_structure_laws.proofs.Custody.{IsAccessing, IsBegun, IsLoose, Sound, StandsNow, Tied, now_of}
use Rattle.epoch_structure_laws.proofs.Custody.{now_under}
use Rattle.epoch_structure_laws.proofs.Custody.{same_number}
use Rattle.epoch_structure_laws.proofs.Moved.{Accessing, accessing, alone, go_taken}
use Rattle.epoch_structure_laws.proofs.Obligations.{Settled, TouchesBy, after_touch, phase_after}
use Rattle.epoch_structure_laws.proofs.Runs.{follows_none, follows_some}
use Rattle.epoch_structure_laws.specs.declared.map.plan.MapAnswer.{MapAnswer}
use Rattle.epoch_structure_laws.specs.declared.map.plan.MapAnswer.TheVariants.{NotFound}
use Rattle.epoch_structure_laws.specs.declared.map.plan.MapPhase.{MapPhase}
use Rattle.epoch_structure_laws.specs.declared.map.plan.MapPhase.TheVariants.{Answering}
use Rattle.epoch_structure_laws.specs.declared.map.plan.MapWork.{MapWork}
use Rattle.epoch_structure_laws.specs.MapProgram.{begin_map_work}
use Rattle.epoch_structure_laws.specs.MapProgram.{map, map_deed_of, MapStarts, MapLog, MapRuns, IsNewMap}
use Rattle.epoch_structure_laws.specs.MapEntries.{FindsNoEntry}
use Rattle.epoch_structure_laws.specs.MapAnswers.{AnswersNone, AnswersElse, FindsNoneNow, FindsNoneFirst}
use Rattle.epoch_structure_laws.specs.MapAnswers.{AnswersNoneAsFound, AskedFindsNoneFirst, bucket_asked, key_asked}
use Rattle.epoch_structure_laws.proofs.MapKept.{structure}
use Rattle.epoch_structure_laws.proofs.MapTouches.{map_obeys}
use Rattle.epoch_structure_laws.proofs.MapRuns.{new_sound}
use Rattle.epoch_structure_laws.proofs.MapValues.{NoOther, same_values, job_values, touch_values}
use Rattle.epoch_structure_laws.proofs.MapSearches.{Onward, Nowhere, Search, Unknown, Seeks, Due, Owes, IsOtherAnswer}
use Rattle.epoch_structure_laws.proofs.MapSearches.{IsUnknown, asked_due, duties}
use Rattle.epoch_structure_laws.proofs.MapLooks.{OnwardHolds, onward_kept, Looks, touch_looks}

abbrev Deeds : Type 0
Deeds = Deed MapPhase MapAnswer

-- WHAT IS KNOWN OF ONE PARTICIPANT'S CALL

abbrev KnownAt : Plan MapPhase → WorldSeat → Search → Type 0
KnownAt plan seat d = OwesAt map structure MapStarts map_obeys Search Owes IsUnknown plan seat d

-- of any plan it may be that nothing is known
none_known : (plan : Plan MapPhase) (seat : WorldSeat) → KnownAt plan seat Unknown
none_known NoPlan seat = tt
none_known (Under g phase false) seat = tt
none_known (Under g phase true) seat = by_deed (map_deed_of g phase) seat.progress
  where
    by_deed : (d : Deeds) (progress : Progress)
        → OwesBegun map structure MapStarts map_obeys Search Owes IsUnknown d phase progress Unknown
    by_deed (Touches a told failed) (Ends (Done answer)) = tt
    by_deed (Touches a told failed) progress = tt
    by_deed _ progress = tt

-- this is known of p's call, and nothing of the others'
abbrev only : ℕ → Search → ℕ → Search
only p d = updated (λ q. Unknown) p d

only_owes : (world : State) (plans : AllPlans MapPhase) (p : ℕ) (d : Search) → KnownAt (plans p) (seat_of world p) d
    → AllOwe map structure MapStarts map_obeys Search Owes IsUnknown world plans (only p d)
only_owes world plans p d known =
    account_set map structure MapStarts map_obeys Search Owes IsUnknown world plans plans (λ q. Unknown)
    (λ q. none_known (plans q) (seat_of world q)) p (plans p) d (refl, λ q ne. refl) known

-- A STEP OF THE WORLD

module _ (past : Past) (old new : State) (plans plans' : AllPlans MapPhase) (x : Entry)
    (sound : Sound map structure past old plans) (did : TakesStep old x.step x.reply new) (p i key : ℕ) (to : Onward)
    (known : KnownAt (plans p) (seat_of old p) (Seeks i key to)) (holds : OnwardHolds old.heap to)
    (follows : Follows map MapStarts old plans plans' (Makes x)) where
  abbrev FindsNow : Type 0
  FindsNow = (finds : FindsNoEntry old plans x new i key) × (finds.participant ≡ p)

  abbrev KnownThen : Type 0
  KnownThen = (next : Onward) × KnownAt (plans' p) (seat_of new p) (Seeks i key next) × OnwardHolds new.heap next

  -- the state after it, but for the places
  abbrev aside : State
  aside = with_places new old.places old.seen old.ahead old.room

  abbrev seat : WorldSeat
  seat = seat_of old p

  settled : Settled past old.heap
  settled = record {
    left_out = sound.left_out;
    left_given = sound.left_given;
    seen = sound.seen;
    reached_given = sound.reached_given;
  }

  abbrev TouchesAt : Type 1
  TouchesAt = Touching map structure MapStarts map_obeys Search Owes IsUnknown duties past old new plans plans' x sound
      did (only p (Seeks i key to)) (only_owes old plans p (Seeks i key to) known)

  -- where no call on cells goes on, no name shows another value
  quiet_values : ((who : ℕ) (a : Access) (k : ℕ) (found : Ptr) → x.step ≡ WorldGo who
      → (seat_of old who).progress ≢ Accesses a k found) → NoOther old.heap new.heap
  quiet_values none = by_heap (heap_goes old aside x.step x.reply x.step refl did.0)
    where
      by_heap : HeapGoes old aside x.step x.reply → NoOther old.heap new.heap
      by_heap (inl same) = same_values old.heap new.heap same
      by_heap (inr (inl calls)) = subst (NoOther old.heap) (sym calls.heap) (job_values old.heap calls.removes)
      by_heap (inr (inr (inl now))) = subst (NoOther old.heap) (sym now.heap) (job_values old.heap now.removes)
      by_heap (inr (inr (inr access))) =
          absurd (none access.who access.call access.steps access.found access.goes access.progress)

  -- and neither does one where a call goes on
  touched_values : (g : ℕ) (phase : MapPhase) (j : ℕ) (found : Ptr) (does : Touched)
      → TouchesBy (map_deed_of g phase) j found old.heap does → NoOther old.heap does.heap
  touched_values g phase j found does e = by_deed (map_deed_of g phase) (map_obeys.fits g phase) e
    where
      by_deed : (d : Deeds) → IsFit d → TouchesBy d j found old.heap does → NoOther old.heap does.heap
      by_deed (Touches a told failed) fit e = touch_values old.heap a j found does fit.0 e
      by_deed (Flushes done failed) fit e = absurd e
      by_deed (Defers n next failed) fit e = absurd e
      by_deed (Answers answer) fit e = absurd e

  -- what p's own step on cells shows
  module _ (t : TouchesAt) (who : t.who ≡ p) (g : ℕ) (phase : MapPhase) (under : plans p ≡ Under g phase true)
      (sets : Replans plans p (plan_gone g phase (map_deed_of g phase) x.reply) plans') where
    on : x.step ≡ WorldGo p
    on = t.step ∙ ap WorldGo who

    going : (seat_of old p).progress ≡ Accesses t.access t.made t.found
    going = ap (λ (q : ℕ). (seat_of old q).progress) (sym who) ∙ t.going

    begun : IsBegun (call_by g (map_deed_of g phase)) (seat_of old p)
    begun = subst (λ (l : Plan MapPhase). Tied map l (seat_of old p)) under (sound.ties p)

    due : OwesBegun map structure MapStarts map_obeys Search Owes IsUnknown (map_deed_of g phase) phase
        (Accesses t.access t.made t.found) (Seeks i key to)
    due = subst (λ (s : Progress). OwesBegun map structure MapStarts map_obeys Search Owes IsUnknown
        (map_deed_of g phase) phase s (Seeks i key to)) going
        (subst (λ (l : Plan MapPhase). KnownAt l (seat_of old p) (Seeks i key to)) under known)

    module _ (a : Access) (told : AccessAnswer → MapPhase) (failed : MapPhase)
        (is : map_deed_of g phase ≡ Touches a told failed) (taken : (seat_of old p).word ≢ Free)
        (same : t.access ≡ a) (due_now : Due phase i key to) where
      step : Accessing old aside x.reply p t.access t.made t.found
      step = accessing old aside x.reply p t.access t.made t.found
          (subst (λ (progress : Progress). DoesGo old p (seat_of old p) progress x.reply aside) going
          (go_taken old aside x.reply p taken (subst (λ s. Moves old s x.reply aside) on did.0)))

      touches : TouchesBy (map_deed_of g phase) t.made t.found old.heap step.did
      touches = subst (λ (d : Deeds). TouchesBy d t.made t.found old.heap step.did)
          (ap (λ (c : Access). Touches c told failed) same ∙ sym is) step.touches

      moved : seat_of new p ≡ accessed_seat t.access t.made step.did.told (seat_of old p)
      moved =
          let alike = alone old aside _ p (accessed_seat t.access t.made step.did.told (seat_of old p))
          (seat_there old p taken) step.state refl refl in
          alike.own

      heap : new.heap ≡ step.did.heap
      heap = ap (λ (s : State). s.heap) step.state

      looks : Looks past old.heap sound.ghost settled sound.shape i key g phase step.did
      looks = touch_looks past old.heap sound.ghost settled sound.shape i key g phase to t.made t.found step.did touches
          (subst (StandsNow map structure past old.heap sound.ghost)
          (ap (λ (l : Plan MapPhase). now_of map l (seat_of old p)) under
          ∙ ap (λ (s : Progress). Some (now_under map g phase (seat_of old p) s)) going) (sound.stands p))
          due_now holds
          (onward_kept old.heap step.did.heap (touches_given t.access t.made t.found old.heap step.did step.touches)
          (touched_values g phase t.made t.found step.did touches) to holds)

      -- the call goes on with what is due then
      known_then : (next : Onward) → Due (after_touch phase (map_deed_of g phase) step.did.told) i key next
          → KnownAt (plans' p) (seat_of new p) (Seeks i key next)
      known_then next owes =
          subst (λ (l : Plan MapPhase). KnownAt l (seat_of new p) (Seeks i key next))
          (sym (sets.0 ∙ ap (plan_gone g phase (map_deed_of g phase)) step.told))
          (subst (λ (st : WorldSeat). KnownAt (plan_gone g phase (map_deed_of g phase) (access_reply step.did.told)) st
          (Seeks i key next)) (sym moved)
          (by_told step.did.told (subst (λ (d : Deeds). Due (after_touch phase d step.did.told) i key next) is owes)))
        where
          begun_so : (progress : Progress)
              → OwesBegun map structure MapStarts map_obeys Search Owes IsUnknown (Touches a told failed) phase progress
              (Seeks i key next)
              → OwesBegun map structure MapStarts map_obeys Search Owes IsUnknown (map_deed_of g phase) phase progress
              (Seeks i key next)
          begun_so progress owes = subst (λ (d : Deeds). OwesBegun map structure MapStarts map_obeys Search Owes
              IsUnknown d phase progress (Seeks i key next)) (sym is) owes

          by_told : (r : Accessed) → Due (phase_after phase told failed r) i key next
              → KnownAt (plan_gone g phase (map_deed_of g phase) (access_reply r))
              (accessed_seat t.access t.made r (seat_of old p)) (Seeks i key next)
          by_told (Again found) owes = begun_so (progress_after t.access t.made (Again found)) owes
          by_told (Told answer) owes = begun_so (progress_after t.access t.made (Told answer)) owes
          by_told NoSlot owes = subst (λ (d : Deeds). Due (refused_by phase d) i key next) (sym is) owes

      result : FindsNow ⊎ KnownThen
      result = elim looks [
        | inr on ↦ inr (on.0, known_then on.0 on.1, subst (λ (h : Heap). OnwardHolds h on.0) (sym heap) on.2)
        | inl found ↦ inl (
          record {
            participant = p;
            guard = g;
            phase = phase;
            ptr = found.0;
            under = under;
            looks = found.2;
            brings = (
              on,
              (t.access, t.made, t.found, going),
              ap (λ (st : WorldSeat). st.progress) moved
                  ∙ ap (λ (r : Accessed). progress_after t.access t.made r) found.1,
            );
            past = found.3;
          },
          refl,
        )
      ]

    -- its phase's call is on cells, and has not ended before this step
    own_step : FindsNow ⊎ KnownThen
    own_step = by_deed (map_deed_of g phase) refl begun due
      where
        by_deed : (d : Deeds) → map_deed_of g phase ≡ d → IsBegun (call_by g d) (seat_of old p)
            → OwesBegun map structure MapStarts map_obeys Search Owes IsUnknown d phase
            (Accesses t.access t.made t.found) (Seeks i key to) → FindsNow ⊎ KnownThen
        by_deed (Touches a told failed) is tied owes =
            result a told failed is tied.0 (subst (IsAccessing a) going tied.1) owes
        by_deed (Flushes done failed) is tied owes = absurd (not_loose tied)
          where
            not_loose : ¬ (IsLoose (seat_of old p))
            not_loose (inl idle) = cc (idle, going)
            not_loose (inr (c, driven, plain, taken)) = cc (driven, going)
        by_deed (Defers n next failed) is tied owes = absurd (cc (tied.1, going))
        by_deed (Answers answer) is tied owes = absurd tied

  -- a step on cells, whoever takes it
  touched : TouchesAt → FindsNow ⊎ KnownThen
  touched t = elim (same_number t.who p) [ inl e ↦ by_plan e follows | inr ne ↦ inr (others ne) ]
    where
      others : t.who ≢ p → KnownThen
      others ne = (
        to,
        subst (KnownAt (plans' p) (seat_of new p))
            (updated_other (only p (Seeks i key to)) t.who Unknown p (λ e. ne (sym e))
            ∙ updated_same (λ q. Unknown) p (Seeks i key to)) (t.account Unknown tt p),
        onward_kept old.heap new.heap (subst (λ (h : Heap). StaysGiven old.heap h) (sym t.heap) t.given)
            (subst (NoOther old.heap) (sym t.heap)
            (touched_values t.guard t.phase t.made t.found t.does t.touches)) to holds,
      )

      made_is : (y : Entry) → ◌≡◌ {A = PlanEvent MapPhase MapAnswer} (Makes x) (Makes y) → y ≡ x
      made_is y is = cc (is)

      step_is : (y : Entry) → ◌≡◌ {A = PlanEvent MapPhase MapAnswer} (Makes x) (Makes y) → y.step ≡ WorldGo t.who
      step_is y is = ap (λ (z : Entry). z.step) (made_is y is) ∙ t.step

      own_of : (e : t.who ≡ p) (q g : ℕ) (phase : MapPhase) → q ≡ p → plans q ≡ Under g phase true
          → Replans plans q (plan_gone g phase (map_deed_of g phase) x.reply) plans' → FindsNow ⊎ KnownThen
      own_of e q g phase same under sets = own_step t e g phase
          (subst (λ (k : ℕ). plans k ≡ Under g phase true) same under)
          (subst (λ (k : ℕ). Replans plans k (plan_gone g phase (map_deed_of g phase) x.reply) plans') same sets)

      by_plan : t.who ≡ p → Follows map MapStarts old plans plans' (Makes x) → FindsNow ⊎ KnownThen
      by_plan e (goes y q g phase is on under sets) =
          let gone : WorldGo q ≡ WorldGo t.who = sym on ∙ step_is y is in
          let same : q ≡ t.who = cc (gone) in
          own_of e q g phase (same ∙ e) under
          (subst (λ (z : Entry). Replans plans q (plan_gone g phase (map_deed_of g phase) z.reply) plans')
          (made_is y is) sets)
      by_plan e (free_goes y q is on none same) =
          let gone : WorldGo q ≡ WorldGo t.who = sym on ∙ step_is y is in
          let who : q ≡ t.who = cc (gone) in
          absurd (subst (λ (l : Plan MapPhase). KnownAt l (seat_of old p) (Seeks i key to))
          (ap plans (sym (who ∙ e)) ∙ none) known)
      by_plan e (passes y is other same) = absurd (subst IsOther (step_is y is) other)
      by_plan e (free_begins y q c is on plain none same) = absurd (cc (on, step_is y is))
      by_plan e (begins y q g phase is on under call sets) = absurd (cc (on, step_is y is))
      by_plan e (declines q f is same) = absurd (cc (is))
      by_plan e (asks q g phase is none idle starts sets) = absurd (cc (is))
      by_plan e (answers q g phase answer is under over sets) = absurd (cc (is))

  -- by each step of the world p's call finds that there is no entry of its key, or goes on to look for it
  pub searched : FindsNow ⊎ KnownThen
  searched = elim (accounts_turn map structure MapStarts map_obeys Search Owes IsUnknown duties past old new plans
      plans' x sound did (only p (Seeks i key to)) (only_owes old plans p (Seeks i key to) known) follows) [
        | inl same ↦ inr (
          to,
          subst (KnownAt (plans' p) (seat_of new p)) (updated_same (λ q. Unknown) p (Seeks i key to)) (same.2 p),
          onward_kept old.heap new.heap same.1.given (quiet_values same.0) to holds,
        )
        | inr t ↦ touched t
      ]

-- A STEP THAT MAKES NONE OF THE WORLD

-- a call that is about to answer, and not `NotFound`, answers otherwise
other_answer : (p q : ℕ) (answer : MapAnswer) → q ≡ p → IsOtherAnswer answer
    → AnswersElse p (Answered q answer)
other_answer p q NotFound e other = absurd other
other_answer p q answer e other = e

-- another's answer is none of p's
not_answered : (p q : ℕ) (answer : MapAnswer) → q ≢ p → ¬ (AnswersNone p (Answered q answer))
not_answered p q NotFound ne e = ne e
not_answered p q answer ne e = e

answer_is : (g : ℕ) (phase : MapPhase) (answer : MapAnswer) (i key : ℕ) (to : Onward)
    → map_deed_of g phase ≡ Answers answer → Due phase i key to → IsOtherAnswer answer
answer_is g (Answering other) answer i key to is due =
    subst IsOtherAnswer (let same : other ≡ answer = cc (is) in same) due
answer_is g _ answer i key to is due = absurd (cc (is))

module _ (world : State) (plans plans' : AllPlans MapPhase) (p i key : ℕ) (to : Onward)
    (known : KnownAt (plans p) (seat_of world p) (Seeks i key to)) where
  abbrev GoesOn : PlanEvent MapPhase MapAnswer → Type 0
  GoesOn event = AnswersElse p event
      ⊎ ((¬ (AnswersNone p event)) × KnownAt (plans' p) (seat_of world p) (Seeks i key to))

  not_made : (event : PlanEvent MapPhase MapAnswer) (y : Entry) → event ≡ Makes y → made_at event ≡ None → ⊥
  not_made event y is none = cc (none, ap (λ (v : PlanEvent MapPhase MapAnswer). made_at v) is)

  same_known : plans' p ≡ plans p → KnownAt (plans' p) (seat_of world p) (Seeks i key to)
  same_known e = subst (λ (l : Plan MapPhase). KnownAt l (seat_of world p) (Seeks i key to)) (sym e) known

  was_under : (q : ℕ) (plan : Plan MapPhase) → q ≡ p → plans q ≡ plan → KnownAt plan (seat_of world p) (Seeks i key to)
  was_under q plan e under = subst (λ (l : Plan MapPhase). KnownAt l (seat_of world p) (Seeks i key to))
      (ap plans (sym e) ∙ under) known

  -- p's call answers otherwise, or goes on as it was
  pub goes_on : (event : PlanEvent MapPhase MapAnswer) → made_at event ≡ None
      → Follows map MapStarts world plans plans' event → GoesOn event
  goes_on event none (asks q g phase is no_plan idle starts sets) = elim (same_number q p) [
    | inl e ↦ absurd (was_under q NoPlan e no_plan)
    | inr ne ↦ subst GoesOn (sym is) (inr (λ h. h, same_known (sets.1 p (λ e. ne (sym e)))))
  ]
  goes_on event none (declines q f is same) = subst GoesOn (sym is) (inr (λ h. h, same_known (same p)))
  goes_on event none (answers q g phase answer is under over sets) = elim (same_number q p) [
    | inl e ↦ subst GoesOn (sym is)
        (inl (other_answer p q answer e
        (answer_is g phase answer i key to over (was_under q (Under g phase false) e under))))
    | inr ne ↦ subst GoesOn (sym is)
        (inr (not_answered p q answer ne, same_known (sets.1 p (λ e. ne (sym e)))))
  ]
  goes_on event none (passes y is other same) = absurd (not_made event y is none)
  goes_on event none (free_begins y q c is at plain no_plan same) = absurd (not_made event y is none)
  goes_on event none (free_goes y q is at no_plan same) = absurd (not_made event y is none)
  goes_on event none (begins y q g phase is at under call sets) = absurd (not_made event y is none)
  goes_on event none (goes y q g phase is at under sets) = absurd (not_made event y is none)

-- WHOLE RUNS

-- at each step of the run p's call finds that there is no entry of the key, or answers otherwise, or goes on
module _ (past : Past) (world : State) (plans mid : AllPlans MapPhase) (log : MapLog) (world' : State)
    (plans' : AllPlans MapPhase) (p i key : ℕ) (to : Onward) (sound : Sound map structure past world plans)
    (known : KnownAt (plans p) (seat_of world p) (Seeks i key to)) (holds : OnwardHolds world.heap to)
    (go_on : (past' : Past) (w : State) → Sound map structure past' w mid → (to' : Onward)
    → KnownAt (mid p) (seat_of w p) (Seeks i key to') → OnwardHolds w.heap to'
    → (rest : MapRuns w mid log world' plans')
    → FindsNoneFirst p i key w mid log world' plans' rest) where
  abbrev Rest : State → Type 0
  Rest w = MapRuns w mid log world' plans'

  abbrev FirstAt : PlanEvent MapPhase MapAnswer → (rest : MapRuns world mid log world' plans') → Type 0
  FirstAt event rest = AnswersElse p event
      ⊎ ((¬ (AnswersNone p event)) × FindsNoneFirst p i key world mid log world' plans' rest)

  calm_event : (event : PlanEvent MapPhase MapAnswer) → made_at event ≡ None
      → Follows map MapStarts world plans mid event → (rest : MapRuns world mid log world' plans') → FirstAt event rest
  calm_event event made follows rest = elim (goes_on world plans mid p i key to known event made follows) [
    | inl other ↦ inl other
    | inr next ↦ inr (
      next.0,
      go_on past world
          (follows_none map structure MapStarts map_obeys past world plans mid sound event made follows) to next.1 holds
          rest,
    )
  ]

  pub first_at : (event : PlanEvent MapPhase MapAnswer) → Follows map MapStarts world plans mid event
      → (rest : WorldThen (made_at event) world Rest)
      → FindsNoneNow p i key plans (made_at event) world Rest rest ⊎ AnswersElse p event
      ⊎ ((¬ (AnswersNone p event)) × ThenAlso map (made_at event) world Rest
      (λ w rest. FindsNoneFirst p i key w mid log world' plans' rest) rest)
  first_at (Makes x) follows rest =
      let along = follows_some map structure MapStarts map_obeys past world rest.0 plans mid x sound rest.1 follows in
      elim (searched past world rest.0 plans mid x sound rest.1 p i key to known holds follows) [
        | inl found ↦ inl found
        | inr next ↦ inr (inr
            (λ h. h, go_on (past_after past world x rest.0) rest.0 along.1 next.0 next.1 next.2 rest.2))
      ]
  first_at (Asked q g phase) follows rest = inr (calm_event (Asked q g phase) refl follows rest)
  first_at (Declined q f) follows rest = inr (calm_event (Declined q f) refl follows rest)
  first_at (Answered q answer) follows rest = inr (calm_event (Answered q answer) refl follows rest)

-- from where it is known to look for the key, p's call finds that there is none before it answers so
finds_first : (past : Past) (world : State) (plans : AllPlans MapPhase) (log : MapLog) (world' : State)
    (plans' : AllPlans MapPhase) (p i key : ℕ) (to : Onward) → Sound map structure past world plans
    → KnownAt (plans p) (seat_of world p) (Seeks i key to) → OnwardHolds world.heap to
    → (run : MapRuns world plans log world' plans') → FindsNoneFirst p i key world plans log world' plans' run
finds_first past world plans [] world' plans' p i key to sound known holds run = tt
finds_first past world plans (event ∷ log) world' plans' p i key to sound known holds run =
    first_at past world plans run.0 log world' plans' p i key to sound known holds
    (λ past' w next to' known' holds' rest.
    finds_first past' w run.0 log world' plans' p i key to' next known' holds' rest) event run.1 run.2

-- a call that begins is known to look for the key that it was asked for
first_known : (world : State) (plans mid : AllPlans MapPhase) (p g : ℕ) (phase : MapPhase) (work : MapWork)
    (has_room : Bool) → Follows map MapStarts world plans mid (Asked p g phase) → phase ≡ begin_map_work work has_room
    → KnownAt (mid p) (seat_of world p) (Seeks (bucket_asked work) (key_asked work) Nowhere)
first_known world plans mid p g phase work has_room (asks q h first is no_plan idle starts sets) begins_so =
    let who : q ≡ p = cc (is) in
    let which : first ≡ phase = cc (is) in
    subst (λ (l : Plan MapPhase). KnownAt l (seat_of world p) (Seeks (bucket_asked work) (key_asked work) Nowhere))
    (sym (ap mid (sym who) ∙ sets.0))
    (subst (λ (f : MapPhase). Due f (bucket_asked work) (key_asked work) Nowhere) (sym (which ∙ begins_so))
    (asked_due work has_room))
first_known world plans mid p g phase work has_room (declines q f is same) e = absurd (cc (is))
first_known world plans mid p g phase work has_room (answers q h f answer is under over sets) e = absurd (cc (is))
first_known world plans mid p g phase work has_room (passes y is other same) e = absurd (cc (is))
first_known world plans mid p g phase work has_room (free_begins y q c is on plain none same) e = absurd (cc (is))
first_known world plans mid p g phase work has_room (free_goes y q is on none same) e = absurd (cc (is))
first_known world plans mid p g phase work has_room (begins y q h f is on under call sets) e = absurd (cc (is))
first_known world plans mid p g phase work has_room (goes y q h f is on under sets) e = absurd (cc (is))

-- so does each call that is asked for in a run
each_finds_first : (past : Past) (world : State) (plans : AllPlans MapPhase) (log : MapLog) (world' : State)
    (plans' : AllPlans MapPhase) → Sound map structure past world plans
    → (run : MapRuns world plans log world' plans') → AnswersNoneAsFound world plans log world' plans' run
each_finds_first past world plans [] world' plans' sound run = tt
each_finds_first past world plans (event ∷ log) world' plans' sound run =
    by_event (λ past' w next rest. each_finds_first past' w run.0 log world' plans' next rest) event run.1 run.2
  where
    by_event : ((past' : Past) (w : State) → Sound map structure past' w run.0
        → (rest : MapRuns w run.0 log world' plans') → AnswersNoneAsFound w run.0 log world' plans' rest)
        → (event : PlanEvent MapPhase MapAnswer) → Follows map MapStarts world plans run.0 event
        → (rest : WorldThen (made_at event) world (λ w. MapRuns w run.0 log world' plans'))
        → ThenAlso map (made_at event) world (λ w. MapRuns w run.0 log world' plans')
        (λ w rest. AskedFindsNoneFirst event w run.0 log world' plans' rest
        × AnswersNoneAsFound w run.0 log world' plans' rest) rest
    by_event go_on (Makes x) follows rest =
        let along = follows_some map structure MapStarts map_obeys past world rest.0 plans run.0 x sound rest.1
        follows in
        (tt, go_on (past_after past world x rest.0) rest.0 along.1 rest.2)
    by_event go_on (Asked q g phase) follows rest =
        let next = follows_none map structure MapStarts map_obeys past world plans run.0 sound (Asked q g phase) refl
        follows in (
          λ work has_room is. finds_first past world run.0 log world' plans' q (bucket_asked work) (key_asked work)
              Nowhere next (first_known world plans run.0 q g phase work has_room follows is) tt rest,
          go_on past world next rest,
        )
    by_event go_on (Declined q f) follows rest = (
      tt,
      go_on past world
          (follows_none map structure MapStarts map_obeys past world plans run.0 sound (Declined q f) refl follows)
          rest,
    )
    by_event go_on (Answered q answer) follows rest = (
      tt,
      go_on past world (follows_none map structure MapStarts map_obeys past world plans run.0 sound (Answered q answer)
          refl follows) rest,
    )

-- in each run of a map
pub every_not_found_found_none : (world world' : State) (plans plans' : AllPlans MapPhase) (log : MapLog)
    → IsNewMap world plans → (run : MapRuns world plans log world' plans')
    → AnswersNoneAsFound world plans log world' plans' run
every_not_found_found_none world world' plans plans' log new run =
    each_finds_first no_past world plans log world' plans' (new_sound world plans new) run
