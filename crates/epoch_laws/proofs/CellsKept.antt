-- In every run a name that was given has its cell until it is destroyed.
use Rattle.std.proofs.Common.{◌≡◌, ℕ, List, [], ◌∷◌, Some, ◌⊎◌, inl, inr, refl, ap, sym, subst, ◌∙◌, slice_get}
use Rattle.epoch_cells.specs.declared.cells.name.Name.{Name}
use Rattle.epoch_bags.specs.declared.job.Called.TheVariants.{Destroyed}
use Rattle.epoch_laws.specs.declared.heap.access.Access.{Access}
use Rattle.epoch_laws.specs.declared.heap.access.Access.TheVariants.{Place, Take}
use Rattle.epoch_laws.specs.declared.heap.access.Accessed.{Accessed}
use Rattle.epoch_laws.specs.declared.heap.access.Accessed.TheVariants.{Again, Answers, NoSlot}
use Rattle.epoch_laws.specs.declared.heap.access.AccessAnswer.{AccessAnswer}
use Rattle.epoch_laws.specs.declared.heap.access.AccessAnswer.TheVariants.{Value}
use Rattle.epoch_laws.specs.declared.step.Entry.{Entry}
use Rattle.epoch_laws.specs.declared.step.Progress.TheVariants.{CallsNow, Accesses, Ends}
use Rattle.epoch_laws.specs.declared.heap.access.Ptr.{Ptr}
use Rattle.epoch_laws.specs.declared.step.Reply.TheVariants.{Called as CalledReply, CalledNow, Done, Refused}
use Rattle.epoch_cells.specs.declared.fault.Fault.TheVariants.{NotRegistered}
use Rattle.epoch_laws.specs.declared.step.Step.{Step}
use Rattle.epoch_laws.specs.declared.step.Step.TheVariants.{Go}
use Rattle.epoch_laws.specs.Given.{GivesName, given_after}
use Rattle.epoch_laws.specs.Heap.{Heap, outcome_of, heap_after_job}
use Rattle.epoch_laws.specs.Reach.{Past, CallsRemoval, TakesOut, RemovesNow, past_after, no_past, past_from}
use Rattle.epoch_laws.specs.Reach.{past_of}
use Rattle.epoch_laws.specs.Run.{State, seat_of, with_places, progress_after, Moves, TakesStep, Runs, IsFresh}
use Rattle.epoch_laws.specs.Standing.{IsInHeap, given_from, given_of, StandsOrDestroyed}
use Rattle.epoch_laws.proofs.SeatLinks.{AllLinked}
use Rattle.epoch_laws.proofs.Linked.{step_linked, fresh_linked}
use Rattle.epoch_laws.proofs.HeapSteps.{MakesAccess, HeapGoes, heap_goes, access_goes, now_goes}
use Rattle.epoch_laws.proofs.TurnsGiven.{IsGiven}
use Rattle.epoch_laws.proofs.NamesOnce.{stays_given, gives_new}
use Rattle.epoch_laws.proofs.CellsStand.{job_changes, TakesValue, Empties, touch_changes, place_stands}
use Rattle.epoch_laws.proofs.CellsStand.{stands_given}
use Rattle.epoch_laws.proofs.JobsAsDeferred.{JobsGo, CallsOne, JobsHold, jobs_push, fresh_jobs, step_jobs}

-- the value that a Take is told
value_told : (told : Accessed) → TakesValue told → (v : ℕ) × (told ≡ Answers (Value v))
value_told (Answers (Value v)) takes = (v, refl)
value_told _ takes = absurd takes

takes_told : (a : Access) (k v : ℕ) (told : Accessed)
    → progress_after a k told ≡ Ends (Done (Value v)) → TakesValue told
takes_told a k v (Again found) e = absurd (cc)
takes_told a k v NoSlot e = absurd (cc)
takes_told a k v (Answers answer) e =
    let same : answer ≡ Value v = cc in subst (λ (other : AccessAnswer). TakesValue (Answers other)) (sym same) tt

module _ (old new : State) (past : Past) (entry : Entry) (h : JobsHold old past)
    (go : JobsGo old new entry.step entry.reply)
    (took : TakesStep old entry.step entry.reply new) where
  abbrev aside : State
  aside = with_places new old.places old.seen old.ahead old.room

  -- the name is destroyed by this step
  abbrev DestroysNow : Name → Type 0
  DestroysNow x = CallsRemoval past entry x ⊎ TakesOut old entry new x ⊎ RemovesNow old entry x

  taken : (who : ℕ) (a : Access) (k : ℕ) (found : Ptr) (told : Accessed) → entry.step ≡ Go who
      → (seat_of old who).progress ≡ Accesses a k found → (seat_of new who).progress ≡ progress_after a k told
      → (x : Name) → Empties a told x → TakesOut old entry new x
  taken who (Take g ptr) k found told on now after x emptied = let value = value_told told emptied.0 in record {
    who = who;
    step = on;
    guard = g;
    pointer = ptr;
    name = emptied.1;
    steps = k;
    found = found;
    progress = now;
    value = value.0;
    answer = after ∙ ap (progress_after (Take g ptr) k) value.1;
  }
  taken who _ k found told on now after x emptied = absurd emptied

  -- what stood stands still, or is destroyed
  pub stood : HeapGoes old aside entry.step entry.reply
      → (x : Name) → IsInHeap old.heap x → IsInHeap new.heap x ⊎ DestroysNow x
  stood (inl same) x stands = inl (subst (λ (heap : Heap). IsInHeap heap x) (sym same) stands)
  stood (inr (inl calls)) x stands =
      let one : CallsOne old new calls.ticket calls.how = go.called calls.ticket calls.how calls.told in
      elim ((job_changes old.heap one.job.removes).kept x stands) [
        | inl still ↦ inl (subst (λ (heap : Heap). IsInHeap heap x) (sym one.heap) still)
        | inr emptied ↦ inr (inl (
          calls.ticket,
          subst (λ (t : ℕ). past.removes t x) one.ticket ((h.jobs one.job one.there).1.removed x emptied.0),
          calls.told ∙ ap (CalledReply calls.ticket) (one.outcome ∙ emptied.1),
        ))
      ]
  stood (inr (inr (inl calls))) x stands = elim ((job_changes old.heap calls.removes).kept x stands) [
    | inl still ↦ inl (subst (λ (heap : Heap). IsInHeap heap x) (sym calls.heap) still)
    | inr emptied ↦ inr (inr (inr (record {
      who = calls.who;
      step = calls.goes;
      reply = calls.told ∙ ap CalledNow emptied.1;
      progress = calls.progress ∙ ap CallsNow emptied.0;
    })))
  ]
  stood (inr (inr (inr access))) x stands =
      elim
      ((touch_changes access.call access.steps access.found old.heap access.makes.did access.makes.touches).kept x
      stands) [
        | inl still ↦ inl (subst (λ (heap : Heap). IsInHeap heap x) (sym access.makes.heap) still)
        | inr emptied ↦
            inr (inr (inl (taken access.who access.call access.steps access.found access.makes.did.told access.goes
            access.progress access.makes.after x emptied)))
      ]

  -- nothing that was given comes back
  came_back : HeapGoes old aside entry.step entry.reply
      → (x : Name) → IsGiven old.heap x → IsInHeap new.heap x → IsInHeap old.heap x
  came_back (inl same) x given stands = subst (λ (heap : Heap). IsInHeap heap x) same stands
  came_back (inr (inl calls)) x given stands = (job_changes old.heap calls.removes).back x given
      (subst (λ (heap : Heap). IsInHeap heap x) calls.heap stands)
  came_back (inr (inr (inl calls))) x given stands = (job_changes old.heap calls.removes).back x given
      (subst (λ (heap : Heap). IsInHeap heap x) calls.heap stands)
  came_back (inr (inr (inr access))) x given stands =
      (touch_changes access.call access.steps access.found old.heap access.makes.did access.makes.touches).back x given
      (subst (λ (heap : Heap). IsInHeap heap x) access.makes.heap stands)

  -- what is destroyed stood, and is gone
  abbrev Goes : Name → Type 0
  Goes x = IsInHeap old.heap x × (¬ (IsInHeap new.heap x))

  gone_along : (heap : Heap) (x : Name) → new.heap ≡ heap → IsInHeap old.heap x × (¬ (IsInHeap heap x)) → Goes x
  gone_along heap x e went = (went.0, λ stands. went.1 (subst (λ (h : Heap). IsInHeap h x) e stands))

  removed_gone : (x : Name) → CallsRemoval past entry x → Goes x
  removed_gone x (t, removes, reply) =
      let one : CallsOne old new t Destroyed = go.called t Destroyed reply in
      let named = (h.jobs one.job one.there).1.named x (subst (λ (u : ℕ). past.removes u x) (sym one.ticket) removes) in
      gone_along _ x one.heap ((job_changes old.heap one.job.removes).gone x (named, sym one.outcome))

  taken_gone : (x : Name) → TakesOut old entry new x → Goes x
  taken_gone x takes = by_access (access_goes old aside entry.step entry.reply takes.who call takes.steps takes.found
      takes.progress (subst (λ (s : Step). Moves old s entry.reply aside) takes.step took.0))
    where
      call : Access
      call = Take takes.guard takes.pointer

      by_access : (aside ≡ old)
          ⊎ MakesAccess old aside takes.who (Take takes.guard takes.pointer) takes.steps takes.found → Goes x
      by_access (inl same) = absurd (cc (takes.progress, takes.answer, same))
      by_access (inr makes) = gone_along _ x makes.heap
          ((touch_changes (Take takes.guard takes.pointer) takes.steps takes.found old.heap makes.did
          makes.touches).gone x (
            takes_told (Take takes.guard takes.pointer) takes.steps takes.value makes.did.told
                (sym makes.after ∙ takes.answer),
            takes.name,
          ))

  now_gone : (x : Name) → RemovesNow old entry x → Goes x
  now_gone x removes = by_call (now_goes old aside entry.step entry.reply removes.who (Some x) removes.progress
      (subst (λ (s : Step). Moves old s entry.reply aside) removes.step took.0))
    where
      by_call : (entry.reply ≡ Refused NotRegistered)
          ⊎ ((entry.reply ≡ CalledNow (outcome_of old.heap (Some x))) × (new.heap ≡ heap_after_job old.heap (Some x)))
          → Goes x
      by_call (inl refused) = absurd (cc (refused, removes.reply))
      by_call (inr calls) =
          let same : outcome_of old.heap (Some x) ≡ Destroyed = cc (calls.0, removes.reply) in
          gone_along _ x calls.1 ((job_changes old.heap (Some x)).gone x (refl, same))

  destroyed_gone : (x : Name) → DestroysNow x → Goes x
  destroyed_gone x (inl calls) = removed_gone x calls
  destroyed_gone x (inr (inl takes)) = taken_gone x takes
  destroyed_gone x (inr (inr now)) = now_gone x now

  -- what a Place gives stands
  gives_stands : (x : Name) → GivesName old entry new x → IsInHeap new.heap x
  gives_stands x gives =
      by_access (access_goes old aside entry.step entry.reply gives.who (Place gives.value) gives.steps gives.found
      gives.progress (subst (λ (s : Step). Moves old s entry.reply aside) gives.step took.0))
    where
      by_access : (aside ≡ old) ⊎ MakesAccess old aside gives.who (Place gives.value) gives.steps gives.found
          → IsInHeap new.heap x
      by_access (inl same) = absurd (cc (gives.progress, gives.answer, same))
      by_access (inr makes) = subst (λ (heap : Heap). IsInHeap heap x) (sym makes.heap)
          (place_stands gives.value gives.steps gives.found old.heap (slice_get old.heap.cells gives.steps) refl
          makes.did
          makes.touches x (sym makes.after ∙ gives.answer))

-- WHAT HOLDS BETWEEN ANY TWO STEPS

record CellsHold (s : State) (past : Past) (given : Name → Type 0) : Type 0 where
  are_given : (x : Name) → given x → IsGiven s.heap x
  stands : (x : Name) → given x → IsInHeap s.heap x ⊎ past.destroyed x
  were_given : (x : Name) → past.destroyed x → IsGiven s.heap x
  gone : (x : Name) → past.destroyed x → ¬ (IsInHeap s.heap x)

module _ (old new : State) (past : Past) (given : Name → Type 0) (entry : Entry) (c : CellsHold old past given)
    (h : JobsHold old past) (go : JobsGo old new entry.step entry.reply)
    (took : TakesStep old entry.step entry.reply new) where
  abbrev next : Past
  next = past_after past old entry new

  abbrev Later : Name → Type 0
  Later = given_after given old entry new

  goes : HeapGoes old (with_places new old.places old.seen old.ahead old.room) entry.step entry.reply
  goes =
      heap_goes old (with_places new old.places old.seen old.ahead old.room) entry.step entry.reply entry.step refl
      took.0

  given_later : (x : Name) → Later x → IsGiven new.heap x
  given_later x (inl was) = stays_given old new entry took x (c.are_given x was)
  given_later x (inr gives) = (gives_new old new entry took x gives).given

  stands_later : (x : Name) → Later x → IsInHeap new.heap x ⊎ next.destroyed x
  stands_later x (inr gives) = inl (gives_stands old new past entry h go took x gives)
  stands_later x (inl was) = elim (c.stands x was) [
    | inr destroyed ↦ inr (inl destroyed)
    | inl stands ↦ elim (stood old new past entry h go took goes x stands) [
      | inl still ↦ inl still
      | inr destroys ↦ inr (inr destroys)
    ]
  ]

  gone_later : (x : Name) → next.destroyed x → ¬ (IsInHeap new.heap x)
  gone_later x (inl was) stands =
      c.gone x was (came_back old new past entry h go took goes x (c.were_given x was) stands)
  gone_later x (inr destroys) stands = (destroyed_gone old new past entry h go took x destroys).1 stands

  were_later : (x : Name) → next.destroyed x → IsGiven new.heap x
  were_later x (inl was) = stays_given old new entry took x (c.were_given x was)
  were_later x (inr destroys) = stays_given old new entry took x
      (stands_given old.heap x (destroyed_gone old new past entry h go took x destroys).0)

  cells_push : CellsHold new next Later
  cells_push = record { are_given = given_later; stands = stands_later; were_given = were_later; gone = gone_later }

-- WHOLE RUNS

runs_stand : (old new : State) (log : List Entry) (past : Past) (given : Name → Type 0)
    → AllLinked old → JobsHold old past
    → CellsHold old past given → (run : Runs old log new)
    → StandsOrDestroyed (given_from given old log new run) (past_from past old log new run) new.heap
runs_stand old new [] past given linked h c run = record {
  stands = λ x was. elim (c.stands x was) [
    | inl stands ↦ inl (subst (λ (s : State). IsInHeap s.heap x) (sym run) stands)
    | inr destroyed ↦ inr destroyed
  ];
  gone = λ x destroyed stands. c.gone x destroyed (subst (λ (s : State). IsInHeap s.heap x) run stands);
}
runs_stand old new (entry ∷ log) past given linked h c (mid, took, run) =
    let go : JobsGo old mid entry.step entry.reply = step_jobs old mid entry linked took in
    runs_stand mid new log (past_after past old entry mid) (given_after given old entry mid)
    (step_linked old mid entry.step entry.reply linked took) (jobs_push old mid past entry h go)
    (cells_push old mid past given entry c h go took) run

-- In every run of a new world, each name that was given has its cell or is destroyed, and not both.
pub cells_stand : (s new : State) (log : List Entry) → IsFresh s → (run : Runs s log new)
    → StandsOrDestroyed (given_of s log new run) (past_of s log new run) new.heap
cells_stand s new log fresh run =
    runs_stand s new log no_past (λ x. ⊥) (fresh_linked s fresh) (fresh_jobs s fresh) (record {
      are_given = λ x none. absurd none;
      stands = λ x none. absurd none;
      were_given = λ x none. absurd none;
      gone = λ x none. absurd none;
    }) run
