-- An entry is the map's entry of its key: by induction over the steps of a run.
use Rattle.std.proofs.Common.{◌≡◌, ◌≢◌, inl, inr, ℕ, if◌then◌else◌}
use Rattle.std.proofs.Common.{true, false, List, [], ◌∷◌, Option, Some, None, refl, sym, subst, ap, ◌∙◌}
use Rattle.std.proofs.lemmas.Option.{same_Some}
use Rattle.epoch_structure_worlds.specs.MarkedLists.{ListPointer, ListStep, list_pointer, is_same_place, key_placed}
use Rattle.epoch_structure_worlds.specs.MarkedLists.{IsEntry, entry_of, IsBelow, IsShortOf}
use Rattle.epoch_structure_worlds.specs.MarkedLists.{IsListRun}
use Rattle.epoch_structure_worlds.specs.MarkedLists.{Places, Points, Links, Marks, Replaces, Unlinks, Loads}
use Rattle.epoch_structure_worlds.specs.MarkedLists.{EntriesAreAMap, StepsKeepMap}
use Rattle.epoch_structure_worlds.specs.MarkedLists.{UnmarkedLoadsFindEntries}
use Rattle.epoch_structure_worlds.proofs.MarkedListPlaces.{changed_here}
use Rattle.epoch_structure_worlds.proofs.MarkedListLinked.{linked_placed}
use Rattle.epoch_structure_worlds.proofs.MarkedListMembers.{marks_differ, unmarked_at, had_no_mark}
use Rattle.epoch_structure_worlds.proofs.MarkedListGaps.{none_passed, hint_stands}
use Rattle.epoch_structure_worlds.proofs.MarkedListTold.{key_kept, same_entry, new_entry, entry_told}

-- a node that a link brings has a key that no entry has
link_apart : (at : Option ℕ) (new : ℕ) (next : Option ℕ) (before : List ListStep) (node : ℕ)
    → IsListRun (Links at new next ∷ before) → IsEntry node before
    → key_placed node before ≢ key_placed new before
link_apart at new next before node is entry same =
    let unmarked = unmarked_at at next before is.0.finds in
    none_passed before at next false (key_placed new before) node is.1 (hint_stands before at is.1 is.0.hint unmarked)
    is.0.finds (short at is.0.below) is.0.above entry same
  where
    short : (place : Option ℕ) → IsBelow place (key_placed new before) before
        → IsShortOf place false (key_placed new before) before
    short None below = tt
    short (Some known) below = inl below

-- a node whose pointer has just got the mark is another one than an entry
marked_apart : (node other : ℕ) (new : ListPointer) (before : List ListStep) → new.1 ≡ true
    → (if is_same_place (Some node) (Some other) then new else list_pointer (Some node) before).1 ≡ false
    → node ≢ other
marked_apart node other new before marked unmarked same =
    let Clear : ℕ → Type 0 = λ n. (if is_same_place (Some n) (Some other) then new else list_pointer (Some n) before).1
    ≡ false in
    let clear : Clear other = subst Clear same unmarked in
    marks_differ new.1 marked
    (ap (λ (p : ListPointer). p.1) (sym (changed_here (Some other) new (list_pointer (Some other) before))) ∙ clear)

-- two entries of which each is the map's entry of its key have two keys
keys_apart : (before : List ListStep) (node other : ℕ) → node ≢ other
    → entry_of (key_placed node before) before ≡ Some node → entry_of (key_placed other before) before ≡ Some other
    → key_placed node before ≢ key_placed other before
keys_apart before node other differ of_node of_other same =
    differ (same_Some node other
    (sym of_node ∙ ap (λ (k : ℕ). entry_of k before) same ∙ of_other))

-- in every run an entry is the map's entry of its key
pub entry_found : (run : List ListStep) (node : ℕ) → IsListRun run → IsEntry node run
    → entry_of (key_placed node run) run ≡ Some node
entry_found [] node is entry = absurd entry.0
entry_found (Places new key next ∷ before) node is entry =
    let clear = had_no_mark before (Places new key next) node is entry.0 entry.1 in
    ap (λ (k : ℕ). entry_of k before) (key_kept node new key next before is (linked_placed before node is.1 entry.0))
    ∙ entry_found before node is.1 (entry.0, clear)
entry_found (Points own next ∷ before) node is entry =
    entry_found before node is.1 (entry.0, had_no_mark before (Points own next) node is entry.0 entry.1)
entry_found (Links at new next ∷ before) node is (inl same, unmarked) =
    new_entry (key_placed node before) (key_placed new before) (Some new) before
    (ap (λ (n : ℕ). key_placed n before) same) ∙ ap Some (sym same)
entry_found (Links at new next ∷ before) node is (inr earlier, unmarked) =
    let entry : IsEntry node before = (earlier, had_no_mark before (Links at new next) node is earlier unmarked) in
    same_entry (key_placed node before) (key_placed new before) (Some new) before
    (link_apart at new next before node is entry) ∙ entry_found before node is.1 entry
entry_found (Marks other next ∷ before) node is entry =
    let apart = marked_apart node other (next, true) before refl entry.1 in
    let was : IsEntry node before = (entry.0, had_no_mark before (Marks other next) node is entry.0 entry.1) in
    let found = entry_found before node is.1 was in
    same_entry (key_placed node before) (key_placed other before) None before
    (keys_apart before node other apart found
    (entry_found before other is.1 (is.0.0, unmarked_at (Some other) next before is.0.1))) ∙ found
entry_found (Replaces other heir next ∷ before) node is (inl same, unmarked) =
    new_entry (key_placed node before) (key_placed other before) (Some heir) before
    (ap (λ (n : ℕ). key_placed n before) same ∙ is.0.same_key) ∙ ap Some (sym same)
entry_found (Replaces other heir next ∷ before) node is (inr earlier, unmarked) =
    let apart = marked_apart node other (Some heir, true) before refl unmarked in
    let was : IsEntry node before = (earlier, had_no_mark before (Replaces other heir next) node is earlier unmarked) in
    let found = entry_found before node is.1 was in
    same_entry (key_placed node before) (key_placed other before) (Some heir) before
    (keys_apart before node other apart found
    (entry_found before other is.1 (is.0.linked, unmarked_at (Some other) next before is.0.finds))) ∙ found
entry_found (Unlinks at other next ∷ before) node is entry =
    entry_found before node is.1 (entry.0, had_no_mark before (Unlinks at other next) node is entry.0 entry.1)
entry_found (Loads at found marked ∷ before) node is entry = entry_found before node is.1 entry

-- in every run the entries are a map
pub are_a_map : EntriesAreAMap
are_a_map run key node is = (
  entry_told run key node is,
  λ entry. subst (λ (k : ℕ). entry_of k run ≡ Some node) entry.1
      (entry_found run node is entry.0),
)

-- none, or some node
pub none_or : (entry : Option ℕ) → ((node : ℕ) → entry ≡ Some node → ⊥) → entry ≡ None
none_or None not_some = refl
none_or (Some node) not_some = absurd (not_some node refl)

-- each step adds an entry where none was, or takes out or replaces its own node's
pub steps_keep : StepsKeepMap
steps_keep before (Places new key next) is = tt
steps_keep before (Points own next) is = tt
steps_keep before (Links at new next) is = none_or (entry_of (key_placed new before) before) (λ node now.
    let told = entry_told before (key_placed new before) node is.1 now in
    link_apart at new next before node is told.0 told.1)
steps_keep before (Marks other next) is =
    entry_found before other is.1 (is.0.0, unmarked_at (Some other) next before is.0.1)
steps_keep before (Replaces other heir next) is =
    (entry_found before other is.1 (is.0.linked, unmarked_at (Some other) next before is.0.finds), is.0.same_key)
steps_keep before (Unlinks at other next) is = tt
steps_keep before (Loads at found marked) is = tt

-- a load that finds a linked node's pointer without a mark finds the entry of its key
pub loads_find : UnmarkedLoadsFindEntries
loads_find before node found is linked =
    entry_found before node is.1 (linked, ap (λ (p : ListPointer). p.1) is.0.1)
