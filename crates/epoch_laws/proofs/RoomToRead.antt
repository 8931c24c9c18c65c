-- Names that stand have slots of their own, so nobody reads more names than there are cells.
use Rattle.std.proofs.Common.{◌≡◌, ◌≢◌, ℕ, suc, ◌-◌, ◌<◌, ◌≤◌, ◌||◌, Bool, true, false, List, [], ◌∷◌, length, map}
use Rattle.std.proofs.Common.{Option, Some, None, is_some, ◌⊎◌, inl, inr, refl, ap, sym, subst, ◌∙◌, arith}
use Rattle.std.proofs.Common.{if◌then◌else◌, slice_get}
use Rattle.std.specs.Prelude.{nat_lt}
use Rattle.std.specs.List.{IsDistinct, list_any}
use Rattle.std.specs.List.{AllByRecursion}
use Rattle.std.proofs.Math.Dec.{eqb}
use Rattle.std.proofs.lemmas.Bool.Decides.{eqb_tells, nat_tests}
use Rattle.std.proofs.lemmas.Map.Steps.{length-le_from_distinct_below}
use Rattle.std.proofs.lemmas.Option.{slice_get_within}
use Rattle.epoch_cells.specs.declared.cells.name.Name.{Name}
use Rattle.epoch_laws.specs.Heap.{Cell, Heap, cell_at, is_name}
use Rattle.epoch_laws.specs.Run.{WorldSeat, State, seat_of, reads}
use Rattle.epoch_laws.specs.declared.step.Progress.{Progress}
use Rattle.epoch_laws.proofs.SeatLemmas.{seat_past}
use Rattle.epoch_laws.specs.Readings.{times_read, readers_in, ReadingFits, KeepsReadings, ReadsNext, HasCellsToRead}
use Rattle.epoch_laws.proofs.Names.{name_same}
use Rattle.epoch_laws.proofs.ReadersCounted.{name_self, one, times_cons, readers_at, FoundAt, found_at}
use Rattle.epoch_laws.proofs.ReadersCounted.{reads_counted}
use Rattle.epoch_laws.proofs.ReadingsKept.{reader_counted}

-- the slot of a name, counted from 0
abbrev index : Name → ℕ
index n = n.slot - 1

-- all of them have their cells
abbrev AllStand : Heap → List Name → Type 0
AllStand h [] = Unit {0}
AllStand h (n ∷ names) = ((cell : Cell) × (cell_at h n ≡ Some cell)) × AllStand h names

-- none is among those after it
abbrev AllOnce : List Name → Type 0
AllOnce [] = Unit {0}
AllOnce (n ∷ names) = (times_read n names ≡ 0) × AllOnce names

-- two names in one slot that both stand are one
same_slot : (h : Heap) (n m : Name) (cell other : Cell)
    → cell_at h n ≡ Some cell → cell_at h m ≡ Some other → index m ≡ index n → n ≡ m
same_slot h n m cell other e is same =
    let found : FoundAt h n cell = found_at h n cell e in
    let there : FoundAt h m other = found_at h m other is in
    let both : Some cell ≡ Some other = sym found.at ∙ ap (λ (i : ℕ). slice_get h.cells i) (sym same) ∙ there.at in
    let cells : cell ≡ other = cc in
    name_same n m (omega (arith, same, n.some, m.some)) (sym found.turn ∙ ap (λ (c : Cell). c.turn) cells ∙ there.turn)

-- a slot is no other's
apart : (h : Heap) (n : Name) (names : List Name)
    → (cell : Cell) → cell_at h n ≡ Some cell → AllStand h names → times_read n names ≡ 0
    → AllByRecursion (λ (y : ℕ). eqb (index n) y ≡ false) (map index names)
apart h n [] cell e stand none = tt
apart h n (m ∷ names) cell e stand none = (
  differs (is_name m n) refl (eqb_tells (index n) (index m)),
  apart h n names cell e stand.1 (omega (arith, none, times_cons n m names)),
)
  where
    differs : (b : Bool) → is_name m n ≡ b
        → ((eqb (index n) (index m) ≡ true) × (index n ≡ index m))
        ⊎ ((eqb (index n) (index m) ≡ false) × (index n ≢ index m))
        → eqb (index n) (index m) ≡ false
    differs b same (inr other) = other.0
    differs true same (inl one_slot) =
        let counted : one m n ≡ 1 = ap {B = ℕ} (λ (c : Bool). if c then 1 else 0) same in
        absurd (omega (arith, none, times_cons n m names, counted))
    differs false other (inl one_slot) =
        let same : n ≡ m = same_slot h n m cell stand.0.0 e stand.0.1 (sym one_slot.1) in
        absurd (cc (other, name_self n, ap (λ (k : Name). is_name k n) same))

distinct : (h : Heap) (names : List Name) → AllStand h names → AllOnce names → IsDistinct eqb (map index names)
unfolding IsDistinct
distinct h [] stand once = tt
distinct h (n ∷ names) stand once =
    (apart h n names stand.0.0 stand.0.1 stand.1 once.0, distinct h names stand.1 once.1)

below : (h : Heap) (names : List Name)
    → AllStand h names → (q : ℕ) → list_any (eqb q) (map index names) ≡ true → q < length h.cells
below h [] stand q any = absurd (cc (any))
below h (n ∷ names) stand q any = at_first (below h names stand.1 q) (eqb_tells q (index n)) any
  where
    within : index n < length h.cells
    within = slice_get_within h.cells (index n) stand.0.0 (found_at h n stand.0.0 stand.0.1).at

    at_first : (list_any (eqb q) (map index names) ≡ true → q < length h.cells)
        → ((eqb q (index n) ≡ true) × (q ≡ index n)) ⊎ ((eqb q (index n) ≡ false) × (q ≢ index n))
        → (eqb q (index n) || list_any (eqb q) (map index names)) ≡ true → q < length h.cells
    at_first rest (inl same) any = subst (λ (k : ℕ). k < length h.cells) (sym same.1) within
    at_first rest (inr other) any =
        rest (subst (λ (b : Bool). (b || list_any (eqb q) (map index names)) ≡ true) other.0 any)

many : (names : List Name) → length (map index names) ≡ length names
many [] = refl
many (n ∷ names) = ap suc (many names)

no_more : (h : Heap) (names : List Name) → AllStand h names → AllOnce names → length names ≤ length h.cells
no_more h names stand once = subst (λ (k : ℕ). k ≤ length h.cells) (many names)
    (length-le_from_distinct_below (map index names) (length h.cells)
    (distinct h names stand once) (below h names stand))

-- ONE PARTICIPANT

all_stand : (h : Heap) (readings : List Name)
    → ((n : Name) → 1 ≤ times_read n readings → 1 ≤ readers_at h n) → AllStand h readings
all_stand h [] counted = tt
all_stand h (n ∷ readings) counted = (
  there (cell_at h n) refl (counted n (omega (arith, times_cons n n readings, itself))),
  all_stand h readings (λ m some. counted m (omega (arith, some, times_cons m n readings))),
)
  where
    itself : one n n ≡ 1
    itself = ap {B = ℕ} (λ (c : Bool). if c then 1 else 0) (name_self n)

    there : (found : Option Cell) → cell_at h n ≡ found → 1 ≤ readers_at h n → (cell : Cell) × (cell_at h n ≡ Some cell)
    there None e some = absurd (omega (arith, some, ap readers_in e))
    there (Some cell) e some = (cell, e)

all_once : (readings : List Name) → ((n : Name) → times_read n readings ≤ 1) → AllOnce readings
all_once [] once = tt
all_once (n ∷ readings) once = (
  omega (arith, once n, times_cons n n readings, itself),
  all_once readings (λ m. omega (arith, once m, times_cons m n readings)),
)
  where
    itself : one n n ≡ 1
    itself = ap {B = ℕ} (λ (c : Bool). if c then 1 else 0) (name_self n)

-- a participant within the table that reads one more cell next reads fewer than there are
pub room_to_read : (s : State) (p : ℕ) (n : Name) → KeepsReadings s → p < length s.seats → ReadsNext s p n
    → length (seat_of s p).readings < length s.heap.cells
room_to_read s p n h there next = no_more s.heap (n ∷ (seat_of s p).readings) (
  stands (cell_at s.heap n) refl next.stands,
  all_stand s.heap (seat_of s p).readings (λ m some. omega (arith, some, reader_counted s p m h there)),
)
    (unread, all_once (seat_of s p).readings (h.seats p).once)
  where
    stands : (found : Option Cell)
        → cell_at s.heap n ≡ found → is_some (cell_at s.heap n) ≡ true → (cell : Cell) × (cell_at s.heap n ≡ Some cell)
    stands None e some = absurd (cc (some, ap is_some e))
    stands (Some cell) e some = (cell, e)

    fits : reads next.pointer.name (seat_of s p).readings ≡ false
    fits = subst (λ (progress : Progress). ReadingFits progress (seat_of s p).readings) next.progress (h.seats p).begun

    zero_of : (k : ℕ) → nat_lt 0 k ≡ false → k ≡ 0
    zero_of k e = grind (arith, nat_tests)

    unread : times_read n (seat_of s p).readings ≡ 0
    unread = zero_of (times_read n (seat_of s p).readings)
        (sym (reads_counted n (seat_of s p).readings)
        ∙ subst (λ (name : Option Name). reads name (seat_of s p).readings ≡ false) next.name fits)

-- whoever reads one more cell next, at whatever position, reads fewer than there are
pub has_cells_to_read : (s : State) → KeepsReadings s → HasCellsToRead s
has_cells_to_read s h p n next = elim (split (length s.seats) p) [
  | inl past ↦ absurd (cc (next.progress, ap (λ (seat : WorldSeat). seat.progress) (seat_past s p past)))
  | inr there ↦ room_to_read s p n h there next
]
  where
    split : (a b : ℕ) → (a ≤ b) ⊎ (b < a)
    split a b = grind arith
