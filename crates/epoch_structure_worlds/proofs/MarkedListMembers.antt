-- Each entry is one of the list's nodes. A pointer with a mark stays, and a node without one is there after a step.
use Rattle.std.proofs.Common.{◌≡◌, ◌≢◌, inl, inr, ℕ, Bool, true, false, List, [], ◌∷◌}
use Rattle.std.proofs.Common.{Option, Some, None, refl, sym, subst, ap, ◌∙◌}
use Rattle.std.proofs.lemmas.Option.{same_Some}
use Rattle.epoch_structure_laws.specs.MapEntries.{Has}
use Rattle.epoch_structure_worlds.specs.MarkedLists.{ListPointer, ListStep, list_pointer, WasPlaced}
use Rattle.epoch_structure_worlds.specs.MarkedLists.{WasLinked, IsEntry, IsListRun, IsHint}
use Rattle.epoch_structure_worlds.specs.MarkedLists.{Places, Points, Links, Marks, Replaces, Unlinks, Loads}
use Rattle.epoch_structure_worlds.proofs.MarkedListPlaces.{same_elsewhere, nodes_differ}
use Rattle.epoch_structure_worlds.proofs.MarkedListChains.{RunsAlong}
use Rattle.epoch_structure_worlds.proofs.MarkedListChanges.{changed_at, changed_has, brought}
use Rattle.epoch_structure_worlds.proofs.MarkedListExchanges.{behind_first}
use Rattle.epoch_structure_worlds.proofs.MarkedListLinked.{nodes_of, pointers, keys, linked_placed}
use Rattle.epoch_structure_worlds.proofs.MarkedListSorted.{sorted_run}

-- two marks differ
pub marks_differ : (mark : Bool) → mark ≡ true → mark ≡ false → ⊥
marks_differ true is other = true_is_not_false other
  where
    true_is_not_false : true ≡ false → ⊥
    true_is_not_false same = cc
marks_differ false is other = false_is_not_true is
  where
    false_is_not_true : false ≡ true → ⊥
    false_is_not_true same = cc

-- a place with a mark is none where a pointer without one was found
pub not_the_place : (place at : Option ℕ) (before : List ListStep) → (list_pointer place before).1 ≡ true
    → (list_pointer at before).1 ≡ false → place ≢ at
not_the_place place at before marked unmarked same =
    marks_differ (list_pointer at before).1 (subst (λ (p : Option ℕ). (list_pointer p before).1 ≡ true) same marked)
    unmarked

-- the pointer that an exchange finds has no mark
pub unmarked_at : (at next : Option ℕ) (before : List ListStep) → list_pointer at before ≡ (next, false)
    → (list_pointer at before).1 ≡ false
unmarked_at at next before found = ap (λ (p : ListPointer). p.1) found

-- a pointer with the mark never changes
pub marked_stays : (before : List ListStep) (step : ListStep) (node : ℕ) → IsListRun (step ∷ before)
    → WasLinked node before → (list_pointer (Some node) before).1 ≡ true
    → list_pointer (Some node) (step ∷ before) ≡ list_pointer (Some node) before
marked_stays before (Places new key next) node is linked marked =
    same_elsewhere (Some node) (Some new) (next, false) (list_pointer (Some node) before)
    (nodes_differ node new (λ same. is.0 (subst (λ (n : ℕ). WasPlaced n before) same
    (linked_placed before node is.1 linked))))
marked_stays before (Points own next) node is linked marked =
    same_elsewhere (Some node) (Some own) (next, false) (list_pointer (Some node) before)
    (nodes_differ node own (λ same. is.0.1 (subst (λ (n : ℕ). WasLinked n before) same linked)))
marked_stays before (Links at new next) node is linked marked =
    same_elsewhere (Some node) at (Some new, false) (list_pointer (Some node) before)
    (not_the_place (Some node) at before marked (unmarked_at at next before is.0.finds))
marked_stays before (Marks other next) node is linked marked =
    same_elsewhere (Some node) (Some other) (next, true) (list_pointer (Some node) before)
    (not_the_place (Some node) (Some other) before marked (unmarked_at (Some other) next before is.0.1))
marked_stays before (Replaces other heir next) node is linked marked =
    same_elsewhere (Some node) (Some other) (Some heir, true) (list_pointer (Some node) before)
    (not_the_place (Some node) (Some other) before marked (unmarked_at (Some other) next before is.0.finds))
marked_stays before (Unlinks at other next) node is linked marked =
    same_elsewhere (Some node) at (next, false) (list_pointer (Some node) before)
    (not_the_place (Some node) at before marked (unmarked_at at (Some other) before is.0.finds))
marked_stays before (Loads at found mark) node is linked marked = refl

-- so a pointer without a mark had none before
pub had_no_mark : (before : List ListStep) (step : ListStep) (node : ℕ) → IsListRun (step ∷ before)
    → WasLinked node before → (list_pointer (Some node) (step ∷ before)).1 ≡ false
    → (list_pointer (Some node) before).1 ≡ false
had_no_mark before step node is linked unmarked = by_mark (list_pointer (Some node) before).1 refl
  where
    by_mark : (mark : Bool) → (list_pointer (Some node) before).1 ≡ mark → (list_pointer (Some node) before).1 ≡ false
    by_mark false at = at
    by_mark true at = absurd (marks_differ (list_pointer (Some node) (step ∷ before)).1
        (ap (λ (p : ListPointer). p.1) (marked_stays before step node is linked at) ∙ at) unmarked)

-- the nodes behind the first are all but this one
not_first : (node other : ℕ) (pointer : Option ℕ → ListPointer) (key : ℕ → ℕ) (at : Option ℕ) (low : ℕ)
    (rest : List ℕ) → (pointer at).0 ≡ Some other → node ≢ other → RunsAlong pointer key at low rest → Has node rest
    → Has node (behind_first rest)
not_first node other pointer key at low [] leads differ along has = absurd has
not_first node other pointer key at low (first ∷ behind) leads differ along (inl same) =
    absurd (differ (same ∙ same_Some first other (sym along.0 ∙ leads)))
not_first node other pointer key at low (first ∷ behind) leads differ along (inr later) = later

-- a node of the list without a mark is one after the next step too, which at most marks it
pub unmarked_stays : (before : List ListStep) (step : ListStep) (node : ℕ) → IsListRun (step ∷ before)
    → (list_pointer (Some node) before).1 ≡ false → Has node (nodes_of before) → Has node (nodes_of (step ∷ before))
unmarked_stays before (Places new key next) node is unmarked has = has
unmarked_stays before (Points own next) node is unmarked has = has
unmarked_stays before (Links at new next) node is unmarked has =
    changed_has (pointers before) (keys before) at node (λ behind. new ∷ behind) (λ low rest along here. inr here)
    (nodes_of before) (sorted_run before is.1) has
unmarked_stays before (Marks other next) node is unmarked has =
    changed_has (pointers before) (keys before) (Some other) node (λ behind. behind) (λ low rest along here. here)
    (nodes_of before) (sorted_run before is.1) has
unmarked_stays before (Replaces other heir next) node is unmarked has =
    changed_has (pointers before) (keys before) (Some other) node (λ behind. heir ∷ behind)
    (λ low rest along here. inr here) (nodes_of before) (sorted_run before is.1) has
unmarked_stays before (Unlinks at other next) node is unmarked has =
    let marked : (list_pointer (Some other) before).1 ≡ true = ap (λ (p : ListPointer). p.1) is.0.leads in
    let differ : node ≢ other = λ same. not_the_place (Some other) (Some node) before marked unmarked
    (ap Some (sym same)) in
    changed_has (pointers before) (keys before) at node behind_first
    (λ low rest along here. not_first node other (pointers before) (keys before) at low rest
    (ap (λ (p : ListPointer). p.0) is.0.finds) differ along here)
    (nodes_of before) (sorted_run before is.1) has
unmarked_stays before (Loads at found marked) node is unmarked has = has

-- a node that a link brings is there, since its place is
linked_there : (at : Option ℕ) (node : ℕ) (nodes : List ℕ) → ((known : ℕ) → at ≡ Some known → Has known nodes)
    → Has node (changed_at at (λ behind. node ∷ behind) nodes)
linked_there None node nodes there = inl refl
linked_there (Some at) node nodes there =
    brought at node (λ behind. node ∷ behind) (λ rest. inl refl) nodes (there at refl)

-- the step keeps an entry from before
entry_kept : (before : List ListStep) (step : ListStep) (node : ℕ)
    → (IsListRun before → IsEntry node before → Has node (nodes_of before)) → IsListRun (step ∷ before)
    → WasLinked node before → (list_pointer (Some node) (step ∷ before)).1 ≡ false
    → Has node (nodes_of (step ∷ before))
entry_kept before step node has is linked unmarked =
    let was_unmarked = had_no_mark before step node is linked unmarked in
    unmarked_stays before step node is was_unmarked (has is.1 (linked, was_unmarked))

-- in every run the list has each entry: it came by this step, or it was there before
pub entry_has : (run : List ListStep) (node : ℕ) → IsListRun run → IsEntry node run → Has node (nodes_of run)
entry_has [] node is entry = absurd entry.0
entry_has (Places new key next ∷ before) node is entry =
    entry_kept before (Places new key next) node (entry_has before node) is entry.0 entry.1
entry_has (Points own next ∷ before) node is entry =
    entry_kept before (Points own next) node (entry_has before node) is entry.0 entry.1
entry_has (Links at new next ∷ before) node is (inl same, unmarked) =
    subst (λ (n : ℕ). Has n (nodes_of (Links at new next ∷ before))) (sym same)
    (linked_there at new (nodes_of before) (λ known at_it. entry_has before known is.1 (
      subst (λ (p : Option ℕ). IsHint p before) at_it is.0.hint,
      subst (λ (p : Option ℕ). (list_pointer p before).1 ≡ false) at_it (unmarked_at at next before is.0.finds),
    )))
entry_has (Links at new next ∷ before) node is (inr earlier, unmarked) =
    entry_kept before (Links at new next) node (entry_has before node) is earlier unmarked
entry_has (Marks other next ∷ before) node is entry =
    entry_kept before (Marks other next) node (entry_has before node) is entry.0 entry.1
entry_has (Replaces other heir next ∷ before) node is (inl same, unmarked) =
    subst (λ (n : ℕ). Has n (nodes_of (Replaces other heir next ∷ before))) (sym same)
    (brought other heir (λ behind. heir ∷ behind) (λ rest. inl refl) (nodes_of before)
    (entry_has before other is.1 (is.0.linked, unmarked_at (Some other) next before is.0.finds)))
entry_has (Replaces other heir next ∷ before) node is (inr earlier, unmarked) =
    entry_kept before (Replaces other heir next) node (entry_has before node) is earlier unmarked
entry_has (Unlinks at other next ∷ before) node is entry =
    entry_kept before (Unlinks at other next) node (entry_has before node) is entry.0 entry.1
entry_has (Loads at found marked ∷ before) node is entry =
    entry_kept before (Loads at found marked) node (entry_has before node) is entry.0 entry.1
