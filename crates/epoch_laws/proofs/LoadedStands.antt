-- In every run whose cells leave rightly, a name that is loaded under a guard still held has its cell.
use Rattle.std.proofs.Common.{◌≡◌, ℕ, ◌-◌, ◌≤◌, List, [], ◌∷◌, Option, Some, None, ◌⊎◌, inl, inr, refl, ap, sym, subst}
use Rattle.std.proofs.Common.{arith, slice_get}
use Rattle.epoch_cells.specs.PlainCells.{if_has, empty}
use Rattle.epoch_cells.specs.declared.cells.name.Name.{Name}
use Rattle.epoch_laws.specs.declared.heap.access.Access.{Access}
use Rattle.epoch_laws.specs.declared.step.Entry.{Entry}
use Rattle.epoch_laws.specs.declared.step.Progress.{Progress}
use Rattle.epoch_laws.specs.declared.heap.access.Ptr.{Ptr}
use Rattle.epoch_laws.specs.declared.heap.access.Spot.{Spot}
use Rattle.epoch_laws.specs.declared.heap.access.Spot.TheVariants.{Root, Field}
use Rattle.epoch_laws.specs.Heap.{Cell, Heap, null}
use Rattle.epoch_laws.specs.Reach.{Leads, Meets, Past, past_after, no_past, past_from, past_of, LeavesOnce}
use Rattle.epoch_laws.specs.Run.{WorldSeat, State, seat_of, with_places, TakesStep, Runs, IsFresh}
use Rattle.epoch_laws.specs.Standing.{IsInHeap, LoadedStand}
use Rattle.epoch_laws.proofs.SeatLinks.{AllLinked}
use Rattle.epoch_laws.proofs.Linked.{step_linked, fresh_linked}
use Rattle.epoch_laws.proofs.HeapSteps.{HeapGoes, heap_goes}
use Rattle.epoch_laws.proofs.PointerSteps.{FieldLeads, none_lead}
use Rattle.epoch_laws.proofs.PointersChanged.{fewer_job}
use Rattle.epoch_laws.proofs.TurnsGiven.{IsGiven, GivenAt, next_turn}
use Rattle.epoch_laws.proofs.NamesOnce.{stays_given}
use Rattle.epoch_laws.proofs.CellsStand.{job_changes, touch_changes}
use Rattle.epoch_laws.proofs.CellsKept.{stood}
use Rattle.epoch_laws.proofs.JobsAsDeferred.{JobsGo, JobsHold, jobs_push, fresh_jobs, step_jobs}
use Rattle.epoch_laws.proofs.AccessesBegun.{IsAccess, access_begun}
use Rattle.epoch_laws.proofs.PointersGiven.{Written, WasGiven, touch_names, written_known}
use Rattle.epoch_laws.proofs.ReachRuns.{every_run_keeps_reach}

-- WHAT HOLDS BETWEEN ANY TWO STEPS

pub record NamesHold (s : State) (past : Past) : Type 0 where
  pub leads : (spot : Spot) (x : Name) → Leads s.heap spot x → WasGiven s.heap x
  pub writes : (q : ℕ) (a : Access) → IsAccess a (seat_of s q).progress → (x : Name) → Written a x → WasGiven s.heap x
  pub loaded : (p g : ℕ) (x : Name) → past.loaded p g x → WasGiven s.heap x
  pub stands : (x : Name) → WasGiven s.heap x → IsInHeap s.heap x ⊎ past.destroyed x

module _ (old new : State) (past : Past) (entry : Entry) (c : NamesHold old past) (h : JobsHold old past)
    (go : JobsGo old new entry.step entry.reply) (took : TakesStep old entry.step entry.reply new) where
  abbrev aside : State
  aside = with_places new old.places old.seen old.ahead old.room

  abbrev next : Past
  next = past_after past old entry new

  goes : HeapGoes old aside entry.step entry.reply
  goes = heap_goes old aside entry.step entry.reply entry.step refl took.0

  -- turns go up only by a value that comes in
  abbrev Rises : Heap → Type 0
  Rises heap =
      ((x : Name) → IsGiven heap x → IsGiven old.heap x ⊎ IsInHeap heap x) × (heap.start_turn ≡ old.heap.start_turn)

  rises : HeapGoes old aside entry.step entry.reply → Rises new.heap
  rises (inl same) = subst Rises (sym same) (λ x given. inl given, refl)
  rises (inr (inl calls)) = let changes = job_changes old.heap calls.removes in
      subst Rises (sym calls.heap) (changes.risen, changes.start)
  rises (inr (inr (inl calls))) = let changes = job_changes old.heap calls.removes in
      subst Rises (sym calls.heap) (changes.risen, changes.start)
  rises (inr (inr (inr access))) =
      let changes =
      touch_changes access.call access.steps access.found old.heap access.makes.did access.makes.touches in
      subst Rises (sym access.makes.heap) (changes.risen, changes.start)

  -- at the step a name that was given stays given
  pub still : (x : Name) → WasGiven old.heap x → WasGiven new.heap x
  still x was = (stays_given old new entry took x was.0, subst (λ (k : ℕ). k ≤ x.turn) (sym (rises goes).1) was.1)

  -- a pointer led somewhere before the step, or the step has written it
  led : HeapGoes old aside entry.step entry.reply
      → (spot : Spot) (x : Name) → Leads new.heap spot x → WasGiven old.heap x
  led (inl same) spot x leads = c.leads spot x (subst (λ (heap : Heap). Leads heap spot x) same leads)
  led (inr (inl calls)) spot x leads =
      c.leads spot x
      (fewer_job old.heap calls.removes spot x (subst (λ (heap : Heap). Leads heap spot x) calls.heap leads))
  led (inr (inr (inl calls))) spot x leads =
      c.leads spot x
      (fewer_job old.heap calls.removes spot x (subst (λ (heap : Heap). Leads heap spot x) calls.heap leads))
  led (inr (inr (inr access))) spot x leads =
      elim (touch_names access.call access.steps access.found old.heap access.makes.did
      access.makes.touches spot x (subst (λ (heap : Heap). Leads heap spot x) access.makes.heap leads)) [
        | inl other ↦ c.leads other.0 x other.1
        | inr written ↦ c.writes access.who access.call
            (subst (λ (progress : Progress). IsAccess access.call progress) (sym access.progress) refl) x written
      ]

  writes_later : (q : ℕ) (a : Access)
      → IsAccess a (seat_of new q).progress → (x : Name) → Written a x → WasGiven new.heap x
  writes_later q a is x written = elim (access_begun old aside entry.step entry.reply a took.0 q is) [
    | inl was ↦ still x (c.writes q a was x written)
    | inr begun ↦ still x (written_known a (seat_of old q) old.tickets old.heap x begun.1 written)
  ]

  met : (p g : ℕ) (x : Name) → Meets (past.loaded p g) old entry new p g x → WasGiven new.heap x
  met p g x meets = elim meets.named [
    | inl before ↦ still x (c.leads meets.spot x before)
    | inr after ↦ still x (led goes meets.spot x after)
  ]

  loaded_later : (p g : ℕ) (x : Name) → next.loaded p g x → WasGiven new.heap x
  loaded_later p g x (kept, inl was) = still x (c.loaded p g x was)
  loaded_later p g x (kept, inr meets) = met p g x meets

  stands_later : (x : Name) → WasGiven new.heap x → IsInHeap new.heap x ⊎ next.destroyed x
  stands_later x given = elim ((rises goes).0 x given.0) [
    | inr stands ↦ inl stands
    | inl was ↦ elim (c.stands x (was, subst (λ (k : ℕ). k ≤ x.turn) (rises goes).1 given.1)) [
      | inr destroyed ↦ inr (inl destroyed)
      | inl stands ↦ elim (stood old new past entry h go took goes x stands) [
        | inl yet ↦ inl yet
        | inr destroys ↦ inr (inr destroys)
      ]
    ]
  ]

  -- what holds of names and pointers holds after the step too
  pub names_push : NamesHold new next
  names_push = record {
    leads = λ spot x leads. still x (led goes spot x leads);
    writes = writes_later;
    loaded = loaded_later;
    stands = stands_later;
  }

-- WHOLE RUNS

names_along : (old new : State) (log : List Entry) (past : Past)
    → AllLinked old → JobsHold old past → NamesHold old past
    → (run : Runs old log new) → NamesHold new (past_from past old log new run)
names_along old new [] past linked h c run = subst (λ (s : State). NamesHold s past) (sym run) c
names_along old new (entry ∷ log) past linked h c (mid, took, run) =
    let go : JobsGo old mid entry.step entry.reply = step_jobs old mid entry linked took in
    names_along mid new log (past_after past old entry mid) (step_linked old mid entry.step entry.reply linked took)
    (jobs_push old mid past entry h go) (names_push old mid past entry c h go took) run

-- what holds of names and pointers holds of a new world, where no name was given and no pointer leads to one
pub fresh_names : (s : State) → IsFresh s → NamesHold s no_past
fresh_names s fresh = record {
  leads = leads;
  writes = λ q a is x written. absurd (subst (λ (seat : WorldSeat). IsAccess a seat.progress) (fresh.free q) is);
  loaded = λ p g x none. absurd none;
  stands = λ x given. absurd (none_given x given);
}
  where
    none_given : (x : Name) → ¬ (WasGiven s.heap x)
    none_given x (given, start) = at_cell (slice_get s.heap.cells (x.slot - 1)) refl given
      where
        at_cell : (cell : Option Cell) → slice_get s.heap.cells (x.slot - 1) ≡ cell → GivenAt x.turn cell → ⊥
        at_cell None there given = given
        at_cell (Some cell) there given =
            let one : cell ≡ empty s.heap.start_turn = fresh.empty_cells (x.slot - 1) cell there in
            absurd (omega (arith, given, start, ap next_turn one))

    leads : (spot : Spot) (x : Name) → Leads s.heap spot x → WasGiven s.heap x
    leads (Root i) x found =
        let none : found.0 ≡ null = fresh.null_roots i found.0 found.1 in
        absurd (cc (found.2, ap (λ (ptr : Ptr). ptr.name) none))
    leads (Field y f) x found = absurd (at_cell (slice_get s.heap.cells (y.slot - 1)) refl found)
      where
        at_cell : (cell : Option Cell)
            → slice_get s.heap.cells (y.slot - 1) ≡ cell → FieldLeads (if_has y.turn cell) f x → ⊥
        at_cell None there (ptr, entry, name) = cc (entry)
        at_cell (Some cell) there field =
            let one : cell ≡ empty s.heap.start_turn = fresh.empty_cells (y.slot - 1) cell there in
            none_lead s.heap.start_turn y.turn f x
            (subst (λ (d : Cell). FieldLeads (if_has y.turn (Some d)) f x) one field)

-- in every run of a new world whose cells leave rightly, each name loaded under a guard still held has its cell
pub loaded_stand : (s new : State) (log : List Entry) → IsFresh s → (run : Runs s log new) → LeavesOnce s log new run
    → LoadedStand (past_of s log new run) new.heap
loaded_stand s new log fresh run leaves p g x loaded =
    let names = names_along s new log no_past (fresh_linked s fresh) (fresh_jobs s fresh) (fresh_names s fresh) run in
    elim (names.stands x (names.loaded p g x loaded)) [
      | inl stands ↦ stands
      | inr destroyed ↦ absurd (every_run_keeps_reach s new log fresh run leaves p g x loaded destroyed)
    ]
