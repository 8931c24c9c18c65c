-- What the calls on a heap do, said by what the calls on its cells say.
use Rattle.std.proofs.Common.{◌≡◌, ◌≢◌, ◌↔◌, ℕ, zero, suc, ◌+◌, ◌-◌, ◌<◌, Bool, true, false, List, [], ◌∷◌, length}
use Rattle.std.proofs.Common.{Option, Some, None, IfSome, IsTrue, slice_get, slice_set, refl, ap, sym, subst, ◌∙◌, inl}
use Rattle.std.proofs.Common.{inr, arith}
use Rattle.epoch_cells.specs.PlainCells.{with_cell, filled, IsFree, HasReader, Lowers, Replaces}
use Rattle.epoch_cells.specs.declared.cells.name.Name.{Name}
use Rattle.epoch_laws.specs.declared.heap.heap.Content.{Content}
use Rattle.epoch_laws.specs.declared.heap.access.Accessed.TheVariants.{Again, Answers}
use Rattle.epoch_laws.specs.declared.heap.access.AccessAnswer.TheVariants.{Unit as UnitAnswer, Name as NameAnswer}
use Rattle.epoch_laws.specs.declared.heap.access.AccessAnswer.TheVariants.{Updated, Exchanged}
use Rattle.epoch_laws.specs.declared.heap.access.Change.{Change}
use Rattle.epoch_laws.specs.declared.heap.access.Change.TheVariants.{CompareExchange, FetchUpdate}
use Rattle.epoch_laws.specs.declared.heap.access.Ptr.{Ptr}
use Rattle.epoch_laws.specs.declared.heap.access.Spot.{Spot}
use Rattle.epoch_laws.specs.declared.heap.access.Update.{Update}
use Rattle.epoch_laws.specs.Heap.{Cell, Heap, aligned, cell_at, with_field, with_field_in, updated_by, nulls, touched}
use Rattle.epoch_laws.specs.Heap.{Touched, replaced, left_by, answers, Places, Changes, ChangesAt}
use Rattle.epoch_laws.proofs.FoundCells.{found_cell}

-- what stands there is written again
pub set_again : {X : Type 0} (xs : List X) (i : ℕ) (x : X) → slice_get xs i ≡ Some x → slice_set xs i x ≡ xs
set_again [] i x at = refl
set_again (y ∷ xs) zero x at = grind (arith, at)
set_again (y ∷ xs) (suc i) x at = ap (λ l. y ∷ l) (set_again xs i x at)

-- A LEAVE

left_beside : (h : Heap) (n : Name) (left : Bool) (new : List Cell) (there : Option Cell)
    → cell_at h n ≡ there
    → (IsTrue left ↔ HasReader there)
    → (IsTrue left → Lowers n.slot there h.cells new)
    → (left ≡ false → new ≡ h.cells)
    → answers UnitAnswer (record h { cells = new }) ≡ left_by h n there
left_beside h n true new (Some cell) e read lowers stays =
    ap (λ cells. answers UnitAnswer (record h { cells = cells })) (lowers refl)
left_beside h n true new None e read lowers stays = absurd (lowers refl)
left_beside h n false new None e read lowers stays =
    ap (λ cells. answers UnitAnswer (record h { cells = cells })) (stays refl)
left_beside h n false new (Some cell) e read lowers stays =
    let none : cell.readers ≡ 0 = none_read cell.readers (λ some. cc (read.1 some)) in
    let same : record cell { readers = cell.readers - 1 } ≡ cell = lowered cell none in
    let kept : with_cell h.cells n.slot (record cell { readers = cell.readers - 1 }) ≡ h.cells =
    ap (λ other. with_cell h.cells n.slot other) same
    ∙ set_again h.cells (n.slot - 1) cell (found_cell n.turn (slice_get h.cells (n.slot - 1)) cell e).0 in
    ap (λ cells. answers UnitAnswer (record h { cells = cells })) (stays refl ∙ sym kept)
  where
    none_read : (k : ℕ) → ¬ (0 < k) → k ≡ 0
    none_read k unread = omega (arith, unread)

    fewer : (k : ℕ) → k ≡ 0 → k - 1 ≡ k
    fewer k none = omega (arith, none)

    lowered : (it : Cell) → it.readers ≡ 0 → record it { readers = it.readers - 1 } ≡ it
    lowered it none = ap (λ k. record it { readers = k }) (fewer it.readers none)

-- where a cell that has readers gets one less, and else the cells stay, this is what a Leave does to the heap
pub left_so : (h : Heap) (n : Name) (left : Bool) (new : List Cell)
    → (IsTrue left ↔ HasReader (cell_at h n))
    → (IsTrue left → Lowers n.slot (cell_at h n) h.cells new)
    → (left ≡ false → new ≡ h.cells)
    → answers UnitAnswer (record h { cells = new }) ≡ left_by h n (cell_at h n)
left_so h n left new read lowers stays = left_beside h n left new (cell_at h n) refl read lowers stays

-- A POINTER WRITTEN

stored_beside : (h : Heap) (n : Name) (f readers : ℕ) (ptr : Ptr) (content : Content) (amended : Bool)
    (new : List Cell) (there : Option Cell)
    → there ≡ Some (filled n.turn readers content)
    → (IsTrue amended → Replaces n.slot (with_field content f ptr) there h.cells new)
    → (amended ≡ false → (there ≡ None) × (new ≡ h.cells))
    → record h { cells = new } ≡ with_field_in h n f ptr there
stored_beside h n f readers ptr content true new there e replaces stays =
    let new_is = subst (λ it. Replaces n.slot (with_field content f ptr) it h.cells new) e (replaces refl) in
    subst (λ it. record h { cells = new } ≡ with_field_in h n f ptr it) (sym e)
    (ap (λ cells. record h { cells = cells }) new_is)
stored_beside h n f readers ptr content false new there e replaces stays = absurd (cc (e, (stays refl).0))

-- a cell's content that is amended by a pointer in one field writes that field of the heap
pub stored : (h : Heap) (n : Name) (f readers : ℕ) (ptr : Ptr) (content after : Content)
    (amended : Bool) (new : List Cell)
    → cell_at h n ≡ Some (filled n.turn readers content)
    → after ≡ with_field content f ptr
    → (IsTrue amended → Replaces n.slot after (cell_at h n) h.cells new)
    → (amended ≡ false → (cell_at h n ≡ None) × (new ≡ h.cells))
    → record h { cells = new } ≡ with_field_in h n f ptr (cell_at h n)
stored h n f readers ptr content after amended new e is replaces stays =
    stored_beside h n f readers ptr content amended new (cell_at h n) e
    (subst (λ c. IsTrue amended → Replaces n.slot c (cell_at h n) h.cells new) is replaces) stays

-- AN UPDATE AND AN EXCHANGE

-- past its first step an update that finds the same pointer again replaces it by the updated one
pub update_won : (tries : ℕ) (by : Update) (k : ℕ) (found ptr : Ptr) (spot : Spot) (h : Heap) (did : Touched)
    → k ≢ 0 → ptr ≡ found → did ≡ replaced h spot (aligned h (updated_by by ptr)) (Updated ptr)
    → Changes (FetchUpdate tries by) k found ptr spot h did
update_won tries by zero found ptr spot h did some same is = absurd (some refl)
update_won tries by (suc k) found ptr spot h did some same is = inl (same, is)

-- A SLOT THAT A PLACE LOOKS AT

-- a Place that looks at a free slot fills it with its value, and answers the name of the slot's turn
pub placed : (v k : ℕ) (found : Ptr) (h : Heap) (there : Option Cell) (n : Name) (content : Content) (new : List Cell)
    → there ≢ None
    → n.slot ≡ k + 1
    → IfSome there (λ cell. IsFree cell)
    → IfSome there (λ cell. cell.turn ≡ n.turn)
    → content ≡ record { value = v; fields = nulls 16 }
    → new ≡ with_cell h.cells (k + 1) (filled n.turn 0 content)
    → Places v k found h there (touched (Answers (NameAnswer n)) (record h { cells = new }))
placed v k found h None n content new some slot free turn content_is new_is = absurd (some refl)
placed v k found h (Some cell) n content new some slot free turn content_is new_is =
    let cells_are : new ≡ with_cell h.cells n.slot (filled n.turn 0 (record { value = v; fields = nulls 16 })) =
    new_is ∙ ap (λ c. with_cell h.cells (k + 1) (filled n.turn 0 c)) content_is
    ∙ ap (λ s. with_cell h.cells s (filled n.turn 0 (record { value = v; fields = nulls 16 }))) (sym slot) in
    inl (free, n, slot, sym turn, ap (λ cells. answers (NameAnswer n) (record h { cells = cells })) cells_are)

-- a Place that looks at a slot that isn't free leaves the cells as they are, and goes on
pub not_placed : (v k : ℕ) (found : Ptr) (h : Heap) (there : Option Cell) (new : List Cell)
    → there ≢ None
    → IfSome there (λ cell. ¬ IsFree cell)
    → new ≡ h.cells
    → Places v k found h there (touched (Again found) (record h { cells = new }))
not_placed v k found h None new some taken same = absurd (some refl)
not_placed v k found h (Some cell) new some taken same =
    inr (taken, ap (λ cells. touched (Again found) (record h { cells = cells })) same)

-- at each index within a list something stands
pub some_there : {X : Type 0} (xs : List X) (i : ℕ) → i < length xs → slice_get xs i ≢ None
some_there [] i within = absurd (omega (arith, within))
some_there (x ∷ xs) zero within = λ e. cc e
some_there (x ∷ xs) (suc i) within = some_there xs i (omega (arith, within))

-- a CompareExchange that finds the pointer that it expects replaces it by the other one
pub exchanged : (change : Change) (current other : Ptr) (k : ℕ) (found ptr : Ptr) (spot : Spot) (h : Heap)
    (there : Option Ptr) (did : Touched)
    → change ≡ CompareExchange current other
    → there ≡ Some ptr
    → ptr ≡ aligned h current
    → did ≡ replaced h spot (aligned h other) (Exchanged (aligned h other))
    → ChangesAt change k found spot h there did
exchanged change current other k found ptr spot h there did is at same done = rw (is, at) (inl (same, done))

-- the slot with this number, at which a Place looks, is filled where it is free
pub placed_at : (v k s : ℕ) (found : Ptr) (h : Heap) (n : Name) (content : Content) (new : List Cell)
    → s ≡ k + 1
    → k < length h.cells
    → n.slot ≡ s
    → IfSome (slice_get h.cells (s - 1)) (λ cell. IsFree cell)
    → IfSome (slice_get h.cells (s - 1)) (λ cell. cell.turn ≡ n.turn)
    → content ≡ record { value = v; fields = nulls 16 }
    → new ≡ with_cell h.cells s (filled n.turn 0 content)
    → Places v k found h (slice_get h.cells k) (touched (Answers (NameAnswer n)) (record h { cells = new }))
placed_at v k s found h n content new is within slot free turn content_is new_is =
    let e : s - 1 ≡ k = omega (arith, is) in
    placed v k found h (slice_get h.cells k) n content new (some_there h.cells k within) (slot ∙ is)
    (subst (λ (i : ℕ). IfSome (slice_get h.cells i) (λ cell. IsFree cell)) e free)
    (subst (λ (i : ℕ). IfSome (slice_get h.cells i) (λ cell. cell.turn ≡ n.turn)) e turn)
    content_is (new_is ∙ ap (λ (it : ℕ). with_cell h.cells it (filled n.turn 0 content)) is)

-- the slot with this number, at which a Place looks, is left as it is where it isn't free
pub not_placed_at : (v k s : ℕ) (found : Ptr) (h : Heap) (new : List Cell)
    → s ≡ k + 1
    → k < length h.cells
    → IfSome (slice_get h.cells (s - 1)) (λ cell. ¬ IsFree cell)
    → new ≡ h.cells
    → Places v k found h (slice_get h.cells k) (touched (Again found) (record h { cells = new }))
not_placed_at v k s found h new is within taken same =
    let e : s - 1 ≡ k = omega (arith, is) in
    not_placed v k found h (slice_get h.cells k) new (some_there h.cells k within)
    (subst (λ (i : ℕ). IfSome (slice_get h.cells i) (λ cell. ¬ IsFree cell)) e taken) same
