-- How many readers each cell counts after a step: one more for a reading, and one less for the end of one.
use Rattle.std.proofs.Common.{◌≡◌, ℕ, ◌+◌, ◌-◌, ◌≤◌, ◌==◌, ◌&&◌, ◌||◌, Bool, true, false, List, [], ◌∷◌, ◌++◌, Option}
use Rattle.std.proofs.Common.{Some, None, is_some, inl, inr, refl, ap, sym, subst, ◌∙◌, arith, if◌then◌else◌, slice_get}
use Rattle.std.specs.Prelude.{option_map, nat_lt}
use Rattle.std.proofs.lemmas.Bool.Decides.{nat_tests}
use Rattle.std.proofs.lemmas.List.Sums.{sum_by-append, sum_by-cons}
use Rattle.std.proofs.lemmas.Option.{slice_get_within}
use Rattle.epoch_cells.proofs.PlainCellLists.{get_set_same, HasAtMost, set_keeps_others}
use Rattle.epoch_cells.specs.PlainCells.{filled, empty, has, if_has, unread, readable, removal_of, KeepsOthers}
use Rattle.epoch_cells.specs.declared.cells.name.Name.{Name}
use Rattle.epoch_cells.specs.declared.cells.Removal.TheVariants.{Destroyed, HeldElsewhere}
use Rattle.epoch_laws.specs.declared.heap.access.Access.{Access}
use Rattle.epoch_laws.specs.declared.heap.access.Access.TheVariants.{Place, Read, Leave, Write, Take, Point}
use Rattle.epoch_laws.specs.declared.heap.access.Accessed.{Accessed}
use Rattle.epoch_laws.specs.declared.heap.access.Accessed.TheVariants.{Answers}
use Rattle.epoch_laws.specs.declared.heap.access.AccessAnswer.TheVariants.{Value}
use Rattle.epoch_laws.specs.declared.heap.access.Change.{Change}
use Rattle.epoch_laws.specs.declared.heap.access.Ptr.{Ptr}
use Rattle.epoch_laws.specs.declared.heap.access.Spot.{Spot}
use Rattle.epoch_laws.specs.declared.heap.access.Spot.TheVariants.{Root, Field}
use Rattle.epoch_laws.specs.declared.heap.heap.Content.{Content}
use Rattle.epoch_laws.proofs.PointersWritten.{kept_or_written}
use Rattle.epoch_laws.specs.Heap.{Cell, Heap, cell_at, with_cell_at, with_field, with_field_in, with_pointer, is_name}
use Rattle.epoch_laws.specs.Heap.{without_cell, heap_after_job, Touched, raised, read_by, left_by, written_by, taken_by}
use Rattle.epoch_laws.specs.Heap.{at_name, pointer_at, Places, ChangesAt, Touches}
use Rattle.epoch_laws.proofs.FoundCells.{found_cell}
use Rattle.epoch_laws.specs.Run.{reads, with_reading, without_reading, readings_after}
use Rattle.epoch_laws.specs.Readings.{times_read, readers_in}
use Rattle.epoch_laws.proofs.Names.{name_same}

-- NAMES

pub name_is : (n m : Name) → is_name n m ≡ true → n ≡ m
name_is n m same =
    name_same n m (slots n.slot m.slot (n.turn == m.turn) same) (turns (n.slot == m.slot) n.turn m.turn same)
  where
    slots : (a b : ℕ) (v : Bool) → ((a == b) && v) ≡ true → a ≡ b
    slots a b true e = grind (arith, nat_tests)
    slots a b false e = grind (arith, nat_tests)

    turns : (u : Bool) (a b : ℕ) → (u && (a == b)) ≡ true → a ≡ b
    turns true a b e = grind (arith, nat_tests)
    turns false a b e = absurd (cc (e))

-- the test of two names holds of a name and itself
pub name_self : (n : Name) → is_name n n ≡ true
name_self n = same n.slot n.turn
  where
    same : (a b : ℕ) → ((a == a) && (b == b)) ≡ true
    same a b = grind (arith, nat_tests)

name_apart : (n m : Name) → is_name n m ≡ false → ¬ ((m.slot ≡ n.slot) × (m.turn ≡ n.turn))
name_apart n m other both =
    cc (other, name_self n, ap (is_name n) (name_same n m (sym both.0) (sym both.1)))

-- READINGS

-- one where the names are the same
abbrev pub one : Name → Name → ℕ
one n m = if is_name n m then 1 else 0

abbrev pub one_of : Option Name → Name → ℕ
one_of (Some n) m = one n m
one_of None m = 0

-- a reading in front adds one to the count of its own name, and nothing to that of another
pub times_cons : (m x : Name) (readings : List Name) → times_read m (x ∷ readings) ≡ one x m + times_read m readings
times_cons m x readings = sum_by-cons (λ (y : Name). if is_name y m then 1 else 0) x readings

-- a reading at the end adds one to the count of its own name, and nothing to that of another
pub times_push : (m x : Name) (readings : List Name)
    → times_read m (readings ++ x ∷ []) ≡ times_read m readings + one x m
times_push m x readings = sum_by-append (λ (y : Name). if is_name y m then 1 else 0) readings (x ∷ []) ∙ omega arith

-- a name is read where it is counted
pub reads_counted : (n : Name) (readings : List Name) → reads (Some n) readings ≡ nat_lt 0 (times_read n readings)
reads_counted n [] = grind (arith, nat_tests)
reads_counted n (x ∷ readings) = at_first (is_name x n) refl (reads_counted n readings)
  where
    at_first : (first : Bool) → is_name x n ≡ first → reads (Some n) readings ≡ nat_lt 0 (times_read n readings)
        → (first || reads (Some n) readings) ≡ nat_lt 0 (times_read n (x ∷ readings))
    at_first true same rest =
        grind (arith, nat_tests, times_cons n x readings, ap {B = ℕ} (λ (b : Bool). if b then 1 else 0) same)
    at_first false other rest =
        grind (arith, nat_tests, times_cons n x readings, ap {B = ℕ} (λ (b : Bool). if b then 1 else 0) other)

-- a reading that ends is counted no more
pub times_without : (n m : Name) (readings : List Name) → reads (Some n) readings ≡ true
    → times_read m (without_reading (Some n) readings) + one n m ≡ times_read m readings
times_without n m [] some = absurd (cc (some))
times_without n m (x ∷ readings) some = at_first (times_without n m readings) (is_name x n) refl some
  where
    at_first : (reads (Some n) readings ≡ true
        → times_read m (without_reading (Some n) readings) + one n m ≡ times_read m readings)
        → (first : Bool) → is_name x n ≡ first → (first || reads (Some n) readings) ≡ true
        → times_read m (if first then readings else x ∷ without_reading (Some n) readings) + one n m
        ≡ times_read m (x ∷ readings)
    at_first without true same some =
        let counted : times_read m (x ∷ readings) ≡ one x m + times_read m readings = times_cons m x readings in
        let here : one x m ≡ one n m = ap (λ (k : Name). one k m) (name_is x n same) in
        omega (arith, counted, here)
    at_first without false other some =
        let rest : times_read m (without_reading (Some n) readings) + one n m ≡ times_read m readings = without some in
        let before : times_read m (x ∷ readings) ≡ one x m + times_read m readings = times_cons m x readings in
        let after : times_read m (x ∷ without_reading (Some n) readings)
        ≡ one x m + times_read m (without_reading (Some n) readings)
        = times_cons m x (without_reading (Some n) readings) in
        omega (arith, rest, before, after)

-- which reading a step begins, and which it ends
abbrev pub began : Option Name → Accessed → Name → ℕ
began name (Answers (Value v)) m = one_of name m
began name _ m = 0

abbrev pub begins : Access → Accessed → Name → ℕ
begins (Read g ptr) told m = began ptr.name told m
begins _ told m = 0

abbrev pub ends : Access → Name → ℕ
ends (Leave ptr) m = one_of ptr.name m
ends _ m = 0

-- a leave is of a name that is read
abbrev pub Leaves : Access → List Name → Type 0
Leaves (Leave ptr) readings = reads ptr.name readings ≡ true
Leaves _ readings = Unit {0}

-- a step of a call adds the name that it begins to read to the readings, and takes out the one that it leaves
pub readings_told : (a : Access) (told : Accessed) (readings : List Name) (m : Name) → Leaves a readings
    → times_read m (readings_after a told readings) + ends a m ≡ times_read m readings + begins a told m
readings_told (Read g ptr) (Answers (Value v)) readings m fits = pushed ptr.name
  where
    pushed : (name : Option Name)
        → times_read m (with_reading name readings) + 0 ≡ times_read m readings + one_of name m
    pushed (Some n) = omega (arith, times_push m n readings)
    pushed None = refl
readings_told (Leave ptr) told readings m fits = without ptr.name fits
  where
    without : (name : Option Name) → reads name readings ≡ true
        → times_read m (without_reading name readings) + one_of name m ≡ times_read m readings + 0
    without (Some n) some = omega (arith, times_without n m readings some)
    without None some = absurd (cc (some))
readings_told (Read g ptr) _ readings m fits = refl
readings_told _ told readings m fits = refl

-- CELLS

abbrev pub readers_at : Heap → Name → ℕ
readers_at h n = readers_in (cell_at h n)

-- a cell that nobody reads counts no reader, whatever turn is looked for
pub none_there : (turn : ℕ) (cell : Cell) → cell.readers ≡ 0 → readers_in (if_has turn (Some cell)) ≡ 0
none_there turn cell none = at_test (has cell turn)
  where
    at_test : (b : Bool) → readers_in (if b then Some cell else None) ≡ 0
    at_test true = none
    at_test false = refl

free_there : (turn : ℕ) (cell : Cell) → cell.value ≡ None → readers_in (if_has turn (Some cell)) ≡ 0
free_there turn cell none = at_value cell.value none (cell.turn == turn)
  where
    at_value : (v : Option Content)
        → v ≡ None → (b : Bool) → readers_in (if b && is_some v then Some cell else None) ≡ 0
    at_value None e true = refl
    at_value None e false = refl
    at_value (Some content) e b = absurd (cc (e))

-- the cell that a slot has at a turn
there_of : (turn : ℕ) (cell : Cell) → has cell turn ≡ true → if_has turn (Some cell) ≡ Some cell
there_of turn cell test = ap (λ (b : Bool). if b then Some cell else None) test

-- a cell that is found at a turn has a value of that turn
pub test_of : (turn : ℕ) (there : Option Cell) (cell : Cell) → if_has turn there ≡ Some cell → has cell turn ≡ true
test_of turn None cell e = absurd (cc (e))
test_of turn (Some other) cell e = at_test (has other turn) refl e
  where
    at_test : (b : Bool) → has other turn ≡ b → (if b then Some other else None) ≡ Some cell → has cell turn ≡ true
    at_test true test h = let same : other ≡ cell = cc in subst (λ (c : Cell). has c turn ≡ true) same test
    at_test false test h = absurd (cc)

abbrev pub SameReaders : Heap → Heap → Type 0
SameReaders old new = (m : Name) → readers_at new m ≡ readers_at old m

same_heap : (old new : Heap) → new ≡ old → SameReaders old new
same_heap old new e m = ap (λ (h : Heap). readers_at h m) e

-- One name is written, and the cells of all others stay.
record WritesOne (h : Heap) (n : Name) (after : Cell) : Type 0 where
  others : KeepsOthers n.slot n.turn h.cells (with_cell_at h n after).cells
  here : cell_at (with_cell_at h n after) n ≡ if_has n.turn (Some after)

writes_one : (h : Heap) (n : Name) (before after : Cell) → slice_get h.cells (n.slot - 1) ≡ Some before
    → HasAtMost n.turn before → HasAtMost n.turn after → WritesOne h n after
writes_one h n before after at was is = record {
  others = set_keeps_others h.cells n.slot n.turn before after n.some at was is;
  here = ap (if_has n.turn) (get_set_same h.cells (n.slot - 1) after (slice_get_within h.cells (n.slot - 1) before at));
}

-- as many readers more and less at that name alone
recount : (h : Heap) (n : Name) (after : Cell) (less more : ℕ) → WritesOne h n after
    → readers_in (if_has n.turn (Some after)) + less ≡ readers_at h n + more
    → (m : Name)
    → readers_at (with_cell_at h n after) m + (if is_name n m then less else 0)
    ≡ readers_at h m + (if is_name n m then more else 0)
recount h n after less more w counts m = at_test (is_name n m) refl
  where
    at_test : (b : Bool) → is_name n m ≡ b
        → readers_at (with_cell_at h n after) m + (if b then less else 0) ≡ readers_at h m + (if b then more else 0)
    at_test true same = subst (λ (k : Name). readers_at (with_cell_at h n after) k + less ≡ readers_at h k + more)
        (name_is n m same) (ap (λ (c : Option Cell). readers_in c + less) w.here ∙ counts)
    at_test false other =
        ap (λ (c : Option Cell). readers_in c + 0) (w.others m.slot m.turn m.some (name_apart n m other))

same_count : (h : Heap) (n : Name) (after : Cell) → WritesOne h n after
    → readers_in (if_has n.turn (Some after)) ≡ readers_at h n → SameReaders h (with_cell_at h n after)
same_count h n after w counts m = at_test (is_name n m) (recount h n after 0 0 w (ap (λ (k : ℕ). k + 0) counts) m)
  where
    at_test : (b : Bool)
        → readers_at (with_cell_at h n after) m + (if b then 0 else 0) ≡ readers_at h m + (if b then 0 else 0)
        → readers_at (with_cell_at h n after) m ≡ readers_at h m
    at_test true e = omega (arith, e)
    at_test false e = omega (arith, e)

-- the cell of a name is replaced by one of its turn
pub record FoundAt (h : Heap) (n : Name) (cell : Cell) : Type 0 where
  pub at : slice_get h.cells (n.slot - 1) ≡ Some cell
  pub turn : cell.turn ≡ n.turn
  pub test : has cell n.turn ≡ true

-- the cell found under a name stands in the name's slot, with a value of the name's turn
pub found_at : (h : Heap) (n : Name) (cell : Cell) → cell_at h n ≡ Some cell → FoundAt h n cell
found_at h n cell e =
    let there = found_cell n.turn (slice_get h.cells (n.slot - 1)) cell e in
    record { at = there.0; turn = there.1; test = test_of n.turn (slice_get h.cells (n.slot - 1)) cell e }

-- nobody reads the cell, before or after
unread_count : (h : Heap) (n : Name) (cell after : Cell)
    → cell_at h n ≡ Some cell → cell.readers ≡ 0 → after.readers ≡ 0
    → HasAtMost n.turn after → SameReaders h (with_cell_at h n after)
unread_count h n cell after e none none_after is =
    let found = found_at h n cell e in
    same_count h n after (writes_one h n cell after found.at (inr found.turn) is)
    (none_there n.turn after none_after ∙ sym (ap readers_in e ∙ none))

-- JOBS

pub job_counts : (h : Heap) (removes : Option Name) → SameReaders h (heap_after_job h removes)
job_counts h None = same_heap h h refl
job_counts h (Some n) = at_cell (cell_at h n) refl
  where
    at_cell : (there : Option Cell) → cell_at h n ≡ there → SameReaders h (without_cell h n (removal_of there))
    at_cell None e = same_heap h h refl
    at_cell (Some cell) e = at_test (cell.readers == 0) refl
      where
        none : (k : ℕ) → (k == 0) ≡ true → k ≡ 0
        none k test = grind (arith, nat_tests)

        at_test : (b : Bool)
            → (cell.readers == 0) ≡ b → SameReaders h (without_cell h n (if b then Destroyed else HeldElsewhere))
        at_test true test = unread_count h n cell (empty (n.turn + 1)) e (none cell.readers test) refl (inl refl)
        at_test false test = same_heap h h refl

-- STEPS OF CALLS

abbrev pub Recounts : Access → Heap → Touched → Type 0
Recounts a h did = (m : Name) → readers_at did.heap m + ends a m ≡ readers_at h m + begins a did.told m

-- a reading of the cell
read_counts : (h : Heap) (n : Name) (m : Name)
    → readers_at (read_by h n (cell_at h n) (readable (cell_at h n))).heap m + 0
    ≡ readers_at h m + began (Some n) (read_by h n (cell_at h n) (readable (cell_at h n))).told m
read_counts h n m = at_cell (cell_at h n) refl (readable (cell_at h n))
  where
    at_cell : (there : Option Cell) → cell_at h n ≡ there → (content : Option Content)
        → readers_at (read_by h n there content).heap m + 0
        ≡ readers_at h m + began (Some n) (read_by h n there content).told m
    at_cell None e content = refl
    at_cell (Some cell) e None = refl
    at_cell (Some cell) e (Some content) =
        let found = found_at h n cell e in
        let after : Cell = raised cell in
        let raises : readers_in (if_has n.turn (Some after)) + 0 ≡ readers_at h n + 1 =
        ap (λ (c : Option Cell). readers_in c + 0) (there_of n.turn after found.test)
        ∙ omega (arith, ap readers_in e) in
        let counts =
        recount h n after 0 1 (writes_one h n cell after found.at (inr found.turn) (inr found.turn)) raises m in
        no_less (is_name n m) _ _ counts
      where
        no_less : (b : Bool) (x y : ℕ) → x + (if b then 0 else 0) ≡ y → x + 0 ≡ y
        no_less true x y e = e
        no_less false x y e = e

-- the end of a reading
left_counts : (h : Heap) (n : Name) → 1 ≤ readers_at h n → (m : Name)
    → readers_at (left_by h n (cell_at h n)).heap m + one n m ≡ readers_at h m + 0
left_counts h n some m = at_cell (cell_at h n) refl
  where
    at_cell : (there : Option Cell) → cell_at h n ≡ there
        → readers_at (left_by h n there).heap m + one n m ≡ readers_at h m + 0
    at_cell None e = absurd (omega (arith, some, ap readers_in e))
    at_cell (Some cell) e =
        let found = found_at h n cell e in
        let after : Cell = record cell { readers = cell.readers - 1 } in
        let lowers : readers_in (if_has n.turn (Some after)) + 1 ≡ readers_at h n + 0 =
        ap (λ (c : Option Cell). readers_in c + 1) (there_of n.turn after found.test)
        ∙ omega (arith, ap readers_in e, some) in
        let counts =
        recount h n after 1 0 (writes_one h n cell after found.at (inr found.turn) (inr found.turn)) lowers m in
        no_more (is_name n m) _ _ counts
      where
        no_more : (b : Bool) (x y : ℕ) → x ≡ y + (if b then 0 else 0) → x ≡ y + 0
        no_more true x y e = e
        no_more false x y e = e

-- nobody reads what is replaced or taken
unread_is : (there : Option Cell) (content : Content) → unread there ≡ Some content
    → (cell : Cell) × (there ≡ Some cell) × (cell.readers ≡ 0)
unread_is None content e = absurd (cc (e))
unread_is (Some cell) content e = at_test (cell.readers == 0) refl e
  where
    none : (k : ℕ) → (k == 0) ≡ true → k ≡ 0
    none k test = grind (arith, nat_tests)

    at_test : (b : Bool) → (cell.readers == 0) ≡ b → (if b then cell.value else None) ≡ Some content
        → (there : Cell) × (Some cell ≡ Some there) × (there.readers ≡ 0)
    at_test true test e = (cell, refl, none cell.readers test)
    at_test false test e = absurd (cc (e))

written_counts : (h : Heap) (n : Name) (v : ℕ) (content : Option Content) → unread (cell_at h n) ≡ content
    → SameReaders h (written_by h n v content).heap
written_counts h n v None e = same_heap h h refl
written_counts h n v (Some content) e =
    let is = unread_is (cell_at h n) content e in
    unread_count h n is.0 (filled n.turn 0 (record content { value = v })) is.1 is.2 refl (inr refl)

taken_counts : (h : Heap) (n : Name) (content : Option Content) → unread (cell_at h n) ≡ content
    → SameReaders h (taken_by h n content).heap
taken_counts h n None e = same_heap h h refl
taken_counts h n (Some content) e =
    let is = unread_is (cell_at h n) content e in
    unread_count h n is.0 (empty (n.turn + 1)) is.1 is.2 refl (inl refl)

placed_counts : (v k : ℕ) (found : Ptr) (h : Heap) (cell : Option Cell) (did : Touched) → slice_get h.cells k ≡ cell
    → Places v k found h cell did → SameReaders h did.heap
placed_counts v k found h None did at e = same_heap h did.heap (ap (λ (d : Touched). d.heap) e)
placed_counts v k found h (Some cell) did at (inr e) = same_heap h did.heap (ap (λ (d : Touched). d.heap) e.1)
placed_counts v k found h (Some cell) did at (inl (free, n, slot, turn, e)) =
    subst (λ (d : Touched). SameReaders h d.heap) (sym e)
    (same_count h n (filled n.turn 0 _) (writes_one h n cell (filled n.turn 0 _) here (inl free.0) (inr refl))
    (none_there n.turn (filled n.turn 0 _) refl
    ∙ sym (ap (λ (c : Option Cell). readers_in (if_has n.turn c)) here ∙ free_there n.turn cell free.0)))
  where
    index : n.slot - 1 ≡ k
    index = omega (arith, slot)

    here : slice_get h.cells (n.slot - 1) ≡ Some cell
    here = ap (λ (i : ℕ). slice_get h.cells i) index ∙ at

pointer_counts : (h : Heap) (spot : Spot) (ptr : Ptr) → SameReaders h (with_pointer h spot ptr)
pointer_counts h (Root i) ptr = λ m. refl
pointer_counts h (Field n f) ptr = at_cell (cell_at h n) refl
  where
    at_cell : (there : Option Cell) → cell_at h n ≡ there → SameReaders h (with_field_in h n f ptr there)
    at_cell None e = same_heap h h refl
    at_cell (Some cell) e =
        let found = found_at h n cell e in
        let after : Cell = record cell { value = option_map (λ content. with_field content f ptr) cell.value } in
        same_count h n after (writes_one h n cell after found.at (inr found.turn) (inr found.turn))
        (ap readers_in (there_of n.turn after (still cell.value (cell.turn == n.turn) found.test))
        ∙ sym (ap readers_in e))
      where
        still : (v : Option Content) (b : Bool) → (b && is_some v) ≡ true
            → (b && is_some (option_map (λ (content : Content). with_field content f ptr) v)) ≡ true
        still (Some content) b test = test
        still None b test = test

changed_counts : (change : Change) (k : ℕ) (found : Ptr) (spot : Spot) (h : Heap) (ptr : Option Ptr) (did : Touched)
    → ChangesAt change k found spot h ptr did → SameReaders h did.heap
changed_counts change k found spot h ptr did e = elim (kept_or_written change k found spot h ptr did e) [
  | inl same ↦ same_heap h did.heap same
  | inr wrote ↦ subst (SameReaders h) (sym wrote.1) (pointer_counts h spot wrote.0)
]

same_at : (step : Name → Touched) (h : Heap) (name : Option Name) → ((n : Name) → SameReaders h (step n).heap)
    → SameReaders h (at_name step h name).heap
same_at step h (Some n) same = same n
same_at step h None same = same_heap h h refl

same_along : (h : Heap) (did last : Touched) → did ≡ last → SameReaders h last.heap → SameReaders h did.heap
same_along h did last e same = subst (λ (d : Touched). SameReaders h d.heap) (sym e) same

-- a name that a leave is of has a reader
abbrev pub HasReader : Access → Heap → Type 0
HasReader (Leave ptr) h = (n : Name) → ptr.name ≡ Some n → 1 ≤ readers_at h n
HasReader _ h = Unit {0}

-- a step of a call adds a reader to the cell that it begins to read, takes one from the cell that it leaves, and
-- changes no other count
pub touch_counts : (a : Access) (k : ℕ) (found : Ptr) (h : Heap) (did : Touched)
    → HasReader a h → Touches a k found h did
    → Recounts a h did
touch_counts (Place v) k found h did some e m =
    ap (λ (k : ℕ). k + 0) (placed_counts v k found h (slice_get h.cells k) did refl e m)
touch_counts (Read g ptr) k found h did some e m =
    subst (λ (d : Touched). readers_at d.heap m + 0 ≡ readers_at h m + began ptr.name d.told m) (sym e)
    (by_name ptr.name)
  where
    by_name : (name : Option Name)
        → readers_at (at_name (λ n. read_by h n (cell_at h n) (readable (cell_at h n))) h name).heap m + 0
        ≡ readers_at h m + began name (at_name (λ n. read_by h n (cell_at h n) (readable (cell_at h n))) h name).told m
    by_name (Some n) = read_counts h n m
    by_name None = refl
touch_counts (Leave ptr) k found h did some e m =
    subst (λ (d : Touched). readers_at d.heap m + one_of ptr.name m ≡ readers_at h m + 0) (sym e)
    (by_name ptr.name some)
  where
    by_name : (name : Option Name) → ((n : Name) → name ≡ Some n → 1 ≤ readers_at h n)
        → readers_at (at_name (λ n. left_by h n (cell_at h n)) h name).heap m + one_of name m ≡ readers_at h m + 0
    by_name (Some n) some = left_counts h n (some n refl) m
    by_name None some = refl
touch_counts (Write g ptr v) k found h did some e m = ap (λ (k : ℕ). k + 0)
    (same_along h did _ e (same_at _ h ptr.name (λ n. written_counts h n v (unread (cell_at h n)) refl)) m)
touch_counts (Take g ptr) k found h did some e m = ap (λ (k : ℕ). k + 0)
    (same_along h did _ e (same_at _ h ptr.name (λ n. taken_counts h n (unread (cell_at h n)) refl)) m)
touch_counts (Point g spot change) k found h did some e m =
    ap (λ (k : ℕ). k + 0) (changed_counts change k found spot h (pointer_at h spot) did e m)
