-- The map's entry of a key is an entry: by induction over the steps of a run.
use Rattle.std.proofs.Common.{◌≡◌, ◌≢◌, inl, inr, ℕ, eqb, eq-eqb, ne_eqb, if◌then◌else◌}
use Rattle.std.proofs.Common.{Bool, true, false, List, [], ◌∷◌, Option, Some, None, refl, sym, subst, ap, ◌∙◌}
use Rattle.std.proofs.lemmas.Option.{none-some, same_Some}
use native.Mathlib.Decide.{ℕ_discrete}
use mathlib.Core.Logic.{dite}
use Rattle.epoch_structure_worlds.specs.MarkedLists.{ListPointer, ListStep, list_pointer, is_same_place, key_placed}
use Rattle.epoch_structure_worlds.specs.MarkedLists.{WasPlaced, IsEntry, entry_of}
use Rattle.epoch_structure_worlds.specs.MarkedLists.{IsListRun}
use Rattle.epoch_structure_worlds.specs.MarkedLists.{Places, Points, Links, Marks, Replaces, Unlinks, Loads}
use Rattle.epoch_structure_worlds.proofs.MarkedListPlaces.{same_elsewhere, nodes_differ}
use Rattle.epoch_structure_worlds.proofs.MarkedListLinked.{linked_placed, not_hint}

-- one of two pointers without a mark
clear_either : (which : Bool) (new old : ListPointer) → new.1 ≡ false → old.1 ≡ false
    → (if which then new else old).1 ≡ false
clear_either true new old of_new of_old = of_new
clear_either false new old of_new of_old = of_old

-- the key of a node that was placed before
pub key_kept : (node new key : ℕ) (next : Option ℕ) (before : List ListStep) → IsListRun (Places new key next ∷ before)
    → WasPlaced node before → key_placed node (Places new key next ∷ before) ≡ key_placed node before
key_kept node new key next before is placed =
    let differ : node ≢ new = λ same. is.0 (subst (λ (n : ℕ). WasPlaced n before) same placed) in
    subst (λ (b : Bool). (if b then key else key_placed node before) ≡ key_placed node before)
    (sym (ne_eqb node new differ)) refl

-- this node is an entry, with this key
abbrev pub IsEntryOf : ℕ → ℕ → List ListStep → Type 0
IsEntryOf key node run = IsEntry node run × (key_placed node run ≡ key)

-- an entry that a step leaves as it is
pub same_entry : (key here : ℕ) (new : Option ℕ) (before : List ListStep) → key ≢ here
    → (if eqb key here then new else entry_of key before) ≡ entry_of key before
same_entry key here new before differ =
    subst (λ (b : Bool). (if b then new else entry_of key before) ≡ entry_of key before)
    (sym (ne_eqb key here differ)) refl

-- and one that a step changes
pub new_entry : (key here : ℕ) (new : Option ℕ) (before : List ListStep) → key ≡ here
    → (if eqb key here then new else entry_of key before) ≡ new
new_entry key here new before same =
    subst (λ (b : Bool). (if b then new else entry_of key before) ≡ new) (sym (eq-eqb key here same)) refl

-- the map's entry after a link is the new node, or one from before
link_told : (at : Option ℕ) (new : ℕ) (next : Option ℕ) (before : List ListStep) (key node : ℕ)
    → (entry_of key before ≡ Some node → IsEntryOf key node before) → IsListRun (Links at new next ∷ before)
    → entry_of key (Links at new next ∷ before) ≡ Some node → IsEntryOf key node (Links at new next ∷ before)
link_told at new next before key node told is now = dite (ℕ_discrete key (key_placed new before))
    (λ same.
    let is_new : new ≡ node =
    same_Some new node (sym (new_entry key (key_placed new before) (Some new) before same) ∙ now) in
    let kept : list_pointer (Some new) (Links at new next ∷ before) ≡ (next, false) =
    same_elsewhere (Some new) at (Some new, false) (list_pointer (Some new) before)
    (not_hint at new before is.0.hint is.0.own.1) ∙ is.0.leads in
    subst (λ (n : ℕ). IsEntryOf key n (Links at new next ∷ before)) is_new
    ((inl refl, ap (λ (p : ListPointer). p.1) kept), sym same))
    (λ differ.
    let was = told (sym (same_entry key (key_placed new before) (Some new) before differ) ∙ now) in (
      (
        inr was.0.0,
        clear_either (is_same_place (Some node) at) (Some new, false) (list_pointer (Some node) before)
            refl was.0.1,
      ),
      was.1,
    ))

-- another node's entry stays when one is marked
still_unmarked : (node other key : ℕ) (new : ListPointer) (before : List ListStep) → IsEntryOf key node before
    → key ≢ key_placed other before
    → (if is_same_place (Some node) (Some other) then new else list_pointer (Some node) before).1 ≡ false
still_unmarked node other key new before was differ =
    let apart : node ≢ other = λ same. differ (sym was.1 ∙ ap (λ (n : ℕ). key_placed n before) same) in
    ap (λ (p : ListPointer). p.1)
    (same_elsewhere (Some node) (Some other) new (list_pointer (Some node) before) (nodes_differ node other apart))
    ∙ was.0.1

-- the map's entry after a mark is one from before
mark_told : (other : ℕ) (next : Option ℕ) (before : List ListStep) (key node : ℕ)
    → (entry_of key before ≡ Some node → IsEntryOf key node before)
    → entry_of key (Marks other next ∷ before) ≡ Some node → IsEntryOf key node (Marks other next ∷ before)
mark_told other next before key node told now = dite (ℕ_discrete key (key_placed other before))
    (λ same. absurd (none-some node (sym (new_entry key (key_placed other before) None before same) ∙ now)))
    (λ differ.
    let was = told (sym (same_entry key (key_placed other before) None before differ) ∙ now) in
    ((was.0.0, still_unmarked node other key (next, true) before was differ), was.1))

-- the map's entry after a replacement is the heir, or one from before
replace_told : (other heir : ℕ) (next : Option ℕ) (before : List ListStep) (key node : ℕ)
    → (entry_of key before ≡ Some node → IsEntryOf key node before) → IsListRun (Replaces other heir next ∷ before)
    → entry_of key (Replaces other heir next ∷ before) ≡ Some node
    → IsEntryOf key node (Replaces other heir next ∷ before)
replace_told other heir next before key node told is now = dite (ℕ_discrete key (key_placed other before))
    (λ same.
    let is_heir : heir ≡ node =
    same_Some heir node (sym (new_entry key (key_placed other before) (Some heir) before same) ∙ now) in
    let kept : list_pointer (Some heir) (Replaces other heir next ∷ before) ≡ (next, false) =
    same_elsewhere (Some heir) (Some other) (Some heir, true) (list_pointer (Some heir) before)
    (not_hint (Some other) heir before is.0.linked is.0.own.1) ∙ is.0.leads in
    subst (λ (n : ℕ). IsEntryOf key n (Replaces other heir next ∷ before)) is_heir
    ((inl refl, ap (λ (p : ListPointer). p.1) kept), is.0.same_key ∙ sym same))
    (λ differ.
    let was = told (sym (same_entry key (key_placed other before) (Some heir) before differ) ∙ now) in
    ((inr was.0.0, still_unmarked node other key (Some heir, true) before was differ), was.1))

-- in every run the map's entry of a key is an entry with that key
pub entry_told : (run : List ListStep) (key node : ℕ) → IsListRun run → entry_of key run ≡ Some node
    → IsEntryOf key node run
entry_told [] key node is now = absurd (none-some node now)
entry_told (Places new other next ∷ before) key node is now =
    let was = entry_told before key node is.1 now in (
      (
        was.0.0,
        clear_either (is_same_place (Some node) (Some new)) (next, false) (list_pointer (Some node) before) refl
            was.0.1,
      ),
      key_kept node new other next before is (linked_placed before node is.1 was.0.0) ∙ was.1,
    )
entry_told (Points own next ∷ before) key node is now =
    let was = entry_told before key node is.1 now in (
      (
        was.0.0,
        clear_either (is_same_place (Some node) (Some own)) (next, false) (list_pointer (Some node) before) refl
            was.0.1,
      ),
      was.1,
    )
entry_told (Links at new next ∷ before) key node is now =
    link_told at new next before key node (entry_told before key node is.1) is now
entry_told (Marks other next ∷ before) key node is now =
    mark_told other next before key node (entry_told before key node is.1) now
entry_told (Replaces other heir next ∷ before) key node is now =
    replace_told other heir next before key node (entry_told before key node is.1) is now
entry_told (Unlinks at other next ∷ before) key node is now =
    let was = entry_told before key node is.1 now in (
      (
        was.0.0,
        clear_either (is_same_place (Some node) at) (next, false) (list_pointer (Some node) before) refl
            was.0.1,
      ),
      was.1,
    )
entry_told (Loads at found marked ∷ before) key node is now = entry_told before key node is.1 now
