-- In every run the names in pointers were given, so that a name that is loaded has its cell.
use Rattle.std.proofs.Common.{◌≡◌, ℕ, zero, suc, ◌-◌, ◌<◌, ◌≤◌, ◌==◌, ◌&&◌, ◌||◌, nat_lt, nat_le, Bool, true, false}
use Rattle.std.proofs.Common.{List, Option, Some, None, is_some, ◌⊎◌, inl, inr, refl, ap, sym, subst, ◌∙◌, arith}
use Rattle.std.proofs.Common.{if◌then◌else◌, slice_get}
use Rattle.std.specs.Prelude.{option_map}
use Rattle.std.proofs.lemmas.Bool.Decides.{nat_tests}
use Rattle.epoch_cells.specs.PlainCells.{if_has}
use Rattle.epoch_cells.specs.declared.cells.name.Name.{Name}
use Rattle.epoch_cells.specs.declared.fault.Fault.{Fault}
use Rattle.epoch_laws.specs.declared.heap.access.Access.{Access}
use Rattle.epoch_laws.specs.declared.heap.access.Access.TheVariants.{Point}
use Rattle.epoch_laws.specs.declared.heap.access.Accessed.{Accessed}
use Rattle.epoch_laws.specs.declared.heap.access.Change.{Change}
use Rattle.epoch_laws.specs.declared.heap.access.Change.TheVariants.{Load, Store, Swap, CompareExchange, FetchAnd}
use Rattle.epoch_laws.specs.declared.heap.access.Change.TheVariants.{FetchOr}
use Rattle.epoch_laws.specs.declared.heap.access.Change.TheVariants.{FetchXor, FetchUpdate}
use Rattle.epoch_laws.specs.declared.step.Call.TheVariants.{Access as AccessCall}
use Rattle.epoch_laws.specs.declared.heap.access.Ptr.{Ptr}
use Rattle.epoch_laws.specs.declared.heap.access.Spot.{Spot}
use Rattle.epoch_laws.specs.declared.heap.access.Spot.TheVariants.{Root, Field}
use Rattle.epoch_laws.specs.declared.heap.access.Update.{Update}
use Rattle.epoch_laws.specs.declared.heap.access.Update.TheVariants.{Tag, To, Stop}
use Rattle.epoch_laws.specs.declared.heap.heap.Content.{Content}
use Rattle.epoch_laws.specs.Heap.{Cell, Heap, cell_at, field_in, pointer_at, with_field, with_field_in, with_pointer}
use Rattle.epoch_laws.specs.Heap.{updated_by, Touched, touched, Changes, ChangesAt, Touches, guard_of, has_place}
use Rattle.epoch_laws.specs.Heap.{knows_names, knows_spot, is_known, was_given, turn_given}
use Rattle.epoch_laws.specs.Reach.{Leads}
use Rattle.epoch_laws.specs.Run.{WorldSeat, is_out, under_guard, access_refusal, call_refusal}
use Rattle.epoch_laws.proofs.SeatLemmas.{guard_given}
use Rattle.epoch_laws.proofs.FoundCells.{found_cell}
use Rattle.epoch_laws.proofs.PointerSteps.{set_or_kept}
use Rattle.epoch_laws.proofs.PointersChanged.{touches_pointers}
use Rattle.epoch_cells.specs.declared.fault.Fault.TheVariants.{StrangerGuard}
use Rattle.epoch_laws.proofs.TurnsGiven.{IsGiven, GivenAt, next_at, next_turn}

-- THE POINTERS AFTER A WRITE

either_field : (cell : Cell) (f g t : ℕ) (ptr : Ptr) (b : Bool) (v : Option Content)
    → (field_in (if b && is_some (option_map (λ (c : Content). with_field c f ptr) v)
    then Some (record cell { value = option_map (λ (c : Content). with_field c f ptr) v }) else None) g
    ≡ field_in (if b && is_some v then Some (record cell { value = v }) else None) g)
    ⊎ (field_in (if b && is_some (option_map (λ (c : Content). with_field c f ptr) v)
    then Some (record cell { value = option_map (λ (c : Content). with_field c f ptr) v }) else None) g ≡ Some ptr)
either_field cell f g t ptr true (Some content) =
    elim (set_or_kept content.fields f ptr g) [ inl kept ↦ inl kept | inr new ↦ inr new.1 ]
either_field cell f g t ptr _ _ = inl refl

-- each is what it was, or the pointer written
pointer_either : (h : Heap) (spot : Spot) (ptr : Ptr) (other : Spot)
    → (pointer_at (with_pointer h spot ptr) other ≡ pointer_at h other)
    ⊎ (pointer_at (with_pointer h spot ptr) other ≡ Some ptr)
pointer_either h (Root i) ptr (Root j) =
    elim (set_or_kept h.roots i ptr j) [ inl kept ↦ inl kept | inr new ↦ inr new.1 ]
pointer_either h (Root i) ptr (Field n f) = inl refl
pointer_either h (Field n f) ptr other = at_cell (cell_at h n) refl other
  where
    at_cell : (cell : Option Cell) → cell_at h n ≡ cell → (other : Spot)
        → (pointer_at (with_field_in h n f ptr cell) other ≡ pointer_at h other)
        ⊎ (pointer_at (with_field_in h n f ptr cell) other ≡ Some ptr)
    at_cell None e other = inl refl
    at_cell (Some cell) e (Root j) = inl refl
    at_cell (Some cell) e (Field m g) = elim (set_or_kept h.cells (n.slot - 1) after (m.slot - 1)) [
      | inl kept ↦ inl (ap (λ (c : Option Cell). field_in (if_has m.turn c) g) kept)
      | inr new ↦ elim (either_field cell f g m.turn ptr (cell.turn == m.turn) cell.value) [
        | inl same ↦ inl (ap (λ (c : Option Cell). field_in (if_has m.turn c) g) new.1 ∙ same
            ∙ ap (λ (c : Option Cell). field_in (if_has m.turn c) g)
            (sym (ap (λ (k : ℕ). slice_get h.cells k) new.0 ∙ there)))
        | inr written ↦ inr (ap (λ (c : Option Cell). field_in (if_has m.turn c) g) new.1 ∙ written)
      ]
    ]
      where
        after : Cell
        after = record cell { value = option_map (λ content. with_field content f ptr) cell.value }

        there : slice_get h.cells (n.slot - 1) ≡ Some cell
        there = (found_cell n.turn (slice_get h.cells (n.slot - 1)) cell e).0

-- WHICH NAMES A CALL MAY WRITE

abbrev pub Written : Access → Name → Type 0
Written (Point g spot (Store q)) x = q.name ≡ Some x
Written (Point g spot (Swap q)) x = q.name ≡ Some x
Written (Point g spot (CompareExchange current q)) x = q.name ≡ Some x
Written (Point g spot (FetchUpdate tries (To q))) x = q.name ≡ Some x
Written _ x = ⊥

-- some pointer names it
abbrev pub Led : Heap → Name → Type 0
Led h x = (spot : Spot) × Leads h spot x

module _ (g : Option ℕ) (at : Spot) (h : Heap) (did : Touched) (spot : Spot) (x : Name)
    (leads : Leads did.heap spot x) where
  abbrev Goal : Change → Type 0
  Goal change = Led h x ⊎ Written (Point g at change) x

  kept : (change : Change) (told : Accessed) → did ≡ touched told h → Goal change
  kept change told e = inl (spot, subst (λ (d : Touched). Leads d.heap spot x) e leads)

  replaces : (change : Change) (told : Accessed) (ptr : Ptr) → did ≡ touched told (with_pointer h at ptr)
      → (ptr.name ≡ Some x → Goal change) → Goal change
  replaces change told ptr e named = elim (pointer_either h at ptr spot) [
    | inl same ↦ inl (spot, (leads.0, sym same ∙ there, leads.2))
    | inr new ↦ let one : ptr ≡ leads.0 = cc (new, there) in named (ap (λ (q : Ptr). q.name) one ∙ leads.2)
  ]
    where
      there : pointer_at (with_pointer h at ptr) spot ≡ Some leads.0
      there = ap (λ (d : Touched). pointer_at d.heap spot) (sym e) ∙ leads.1

  module _ (ptr : Ptr) (stands : pointer_at h at ≡ Some ptr) where
    standing : (change : Change) → ptr.name ≡ Some x → Goal change
    standing change name = inl (at, (ptr, stands, name))

    update_names : (tries : ℕ) (by : Update) → (updated_by by ptr).name ≡ Some x → Goal (FetchUpdate tries by)
    update_names tries (Tag k) name = standing (FetchUpdate tries (Tag k)) name
    update_names tries (To q) name = inr name
    update_names tries Stop name = standing (FetchUpdate tries Stop) name

    changed : (change : Change) (k : ℕ) (found : Ptr) → Changes change k found ptr at h did → Goal change
    changed Load k found e = kept Load _ e
    changed (Store q) k found e = replaces (Store q) _ _ e (λ name. inr name)
    changed (Swap q) k found e = replaces (Swap q) _ _ e (λ name. inr name)
    changed (CompareExchange c q) k found (inl e) = replaces (CompareExchange c q) _ _ e.1 (λ name. inr name)
    changed (CompareExchange c q) k found (inr e) = kept (CompareExchange c q) _ e.1
    changed (FetchAnd n) k found e = replaces (FetchAnd n) _ _ e (standing (FetchAnd n))
    changed (FetchOr n) k found e = replaces (FetchOr n) _ _ e (standing (FetchOr n))
    changed (FetchXor n) k found e = replaces (FetchXor n) _ _ e (standing (FetchXor n))
    changed (FetchUpdate tries by) zero found e = kept (FetchUpdate tries by) _ e
    changed (FetchUpdate tries by) (suc k) found (inl e) =
        replaces (FetchUpdate tries by) _ _ e.1 (update_names tries by)
    changed (FetchUpdate tries by) (suc k) found (inr e) = kept (FetchUpdate tries by) _ e.1

  changed_at : (change : Change) (k : ℕ) (found : Ptr) (ptr : Option Ptr) → pointer_at h at ≡ ptr
      → ChangesAt change k found at h ptr did → Goal change
  changed_at change k found None stands e = kept change _ e
  changed_at change k found (Some ptr) stands e = changed ptr stands change k found e

-- a pointer that leads somewhere after a step did so before it, or was written by it
pub touch_names : (a : Access) (k : ℕ) (found : Ptr) (h : Heap) (did : Touched) → Touches a k found h did
    → (spot : Spot) (x : Name) → Leads did.heap spot x → Led h x ⊎ Written a x
touch_names (Point g at change) k found h did e spot x leads =
    changed_at g at h did spot x leads change k found (pointer_at h at) refl e
touch_names a k found h did e spot x leads = elim (touches_pointers a k found h did e) [
  | inl fewer ↦ inl (spot, fewer spot x leads)
  | inr pointed ↦ absurd (cc (pointed.call))
]

-- NAMES THAT A CALL IS GIVEN

-- given, since the first turn of its slot
abbrev pub WasGiven : Heap → Name → Type 0
WasGiven h x = IsGiven h x × (h.start_turn ≤ x.turn)

both : (a b : Bool) → (a && b) ≡ true → (a ≡ true) × (b ≡ true)
both true b h = (refl, h)
both false b h = absurd (cc)

-- a name that passes the test was given, at the first turn of its slot or later
pub known_given : (h : Heap) (x : Name) → was_given h x ≡ true → WasGiven h x
known_given h x e = at_cell (slice_get h.cells (x.slot - 1)) refl e
  where
    later : (start turn : ℕ) → nat_le start turn ≡ true → start ≤ turn
    later start turn e = grind (arith, nat_tests)

    below : (turn at : ℕ) (v : Option Content)
        → (nat_lt turn at || ((turn == at) && is_some v)) ≡ true → turn < next_at at v
    below turn at (Some content) e = grind (arith, nat_tests)
    below turn at None e = grind (arith, nat_tests)

    at_cell : (cell : Option Cell)
        → slice_get h.cells (x.slot - 1) ≡ cell → turn_given h.start_turn x.turn cell ≡ true → WasGiven h x
    at_cell None there e = absurd (cc)
    at_cell (Some cell) there e =
        let parts = both (nat_le h.start_turn x.turn)
        (nat_lt x.turn cell.turn || ((x.turn == cell.turn) && is_some cell.value)) e in
        let lt : x.turn < next_turn cell = below x.turn cell.turn cell.value parts.1 in
        (subst (λ (c : Option Cell). GivenAt x.turn c) (sym there) lt, later h.start_turn x.turn parts.0)

-- where a call under a guard isn't refused, there is no other fault
pub under_given : (g : Option ℕ) (guards : List ℕ) (fault : Option Fault)
    → under_guard g guards fault ≡ None → fault ≡ None
under_given None guards fault e = e
under_given (Some g) guards fault e = at_test (is_out g guards) e
  where
    at_test : (b : Bool) → (if b then fault else Some StrangerGuard) ≡ None → fault ≡ None
    at_test true e = e
    at_test false e = absurd (cc)

-- where neither a test nor what follows it finds a fault, what follows finds none
pub inner : (b : Bool) (f : Fault) (o : Option Fault) → (if b then o else Some f) ≡ None → o ≡ None
inner true f o e = e
inner false f o e = absurd (cc)

-- what a call that isn't refused may write was given
pub written_known : (a : Access) (seat : WorldSeat) (tickets : ℕ) (h : Heap) (x : Name)
    → call_refusal (AccessCall a) seat tickets h ≡ None → Written a x → WasGiven h x
written_known a seat tickets h x ok written =
    let own = under_given (guard_of a) seat.guards (access_refusal a seat.readings h) ok in
    let known : knows_names h a ≡ true = guard_given (knows_names h a) _ _ (inner (has_place h a) _ _ own) in
    known_given h x (by_call a known written)
  where
    named : (q : Ptr) → is_known h q.name ≡ true → q.name ≡ Some x → was_given h x ≡ true
    named q known name = ap (is_known h) (sym name) ∙ known

    by_call : (b : Access) → knows_names h b ≡ true → Written b x → was_given h x ≡ true
    by_call (Point g spot (Store q)) known written = named q (both (knows_spot h spot) _ known).1 written
    by_call (Point g spot (Swap q)) known written = named q (both (knows_spot h spot) _ known).1 written
    by_call (Point g spot (CompareExchange c q)) known written =
        named q (both (is_known h c.name) _ (both (knows_spot h spot) _ known).1).1 written
    by_call (Point g spot (FetchUpdate tries (To q))) known written =
        named q (both (knows_spot h spot) _ known).1 written
    by_call _ known written = absurd written
