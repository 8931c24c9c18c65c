-- Along sorted nodes, the pointer of a place that is short of a key leads to a node that isn't past the key, if a node
-- without a mark has it.
use Rattle.std.proofs.Common.{◌≡◌, ◌⊎◌, inl, inr, ◌<◌, ◌≤◌, ℕ, suc, Bool, true, false, List, [], ◌∷◌}
use Rattle.std.proofs.Common.{Option, Some, None, sym, subst, ap, ◌∙◌}
use native.Mathlib.Omega.{arith}
use Rattle.epoch_structure_laws.specs.MapEntries.{Has}
use Rattle.epoch_structure_worlds.specs.MarkedLists.{ListPointer, ListStep, list_pointer, key_placed}
use Rattle.epoch_structure_worlds.specs.MarkedLists.{IsEntry, IsListRun, IsShortOf, IsAbove, IsHint}
use Rattle.epoch_structure_worlds.proofs.MarkedListChains.{least_behind, RunsAlong, least_above, all_from}
use Rattle.epoch_structure_worlds.proofs.MarkedListLinked.{nodes_of, pointers, keys}
use Rattle.epoch_structure_worlds.proofs.MarkedListSorted.{sorted_run}
use Rattle.epoch_structure_worlds.proofs.MarkedListMembers.{marks_differ, entry_has}

-- the first node has the least key
first_least : (pointer : Option ℕ → ListPointer) (key : ℕ → ℕ) (place : Option ℕ) (low : ℕ) (nodes : List ℕ) (node : ℕ)
    → RunsAlong pointer key place low nodes → Has node nodes
    → (next : ℕ) × ((pointer place).0 ≡ Some next) × (key next ≤ key node)
first_least pointer key place low [] node along has = absurd has
first_least pointer key place low (first ∷ behind) node along (inl same) =
    (first, along.0, subst (λ (n : ℕ). key first ≤ key n) (sym same) (omega arith))
first_least pointer key place low (first ∷ behind) node along (inr later) =
    let above = all_from pointer key (Some first) (least_behind (key first) (pointer (Some first)).1) behind along.2
    node later in
    (first, along.0, omega (arith, above, least_above (key first) (pointer (Some first)).1))

-- a node of the list is short of another one's key: it has a lesser one, or the same and the mark
abbrev pub FallsShort : (Option ℕ → ListPointer) → (ℕ → ℕ) → ℕ → ℕ → Type 0
FallsShort pointer key at node =
    (key at < key node) ⊎ ((key at ≡ key node) × ((pointer (Some at)).1 ≡ true))

short_within : (pointer : Option ℕ → ListPointer) (key : ℕ → ℕ) (at node : ℕ) → FallsShort pointer key at node
    → key at ≤ key node
short_within pointer key at node (inl less) = omega (arith, less)
short_within pointer key at node (inr same) = omega (arith, same.0)

-- no node without a mark is short of its own key
not_itself : (pointer : Option ℕ → ListPointer) (key : ℕ → ℕ) (at node : ℕ) → FallsShort pointer key at node
    → (pointer (Some node)).1 ≡ false → at ≡ node → ⊥
not_itself pointer key at node (inl less) unmarked same =
    let itself : key node < key node = subst (λ (n : ℕ). key n < key node) same less in omega (arith, itself)
not_itself pointer key at node (inr (key_same, marked)) unmarked same =
    marks_differ (pointer (Some node)).1 (subst (λ (n : ℕ). (pointer (Some n)).1 ≡ true) same marked) unmarked

-- a node that is short of another one's key stands before it, so its pointer leads to no node past that one
next_within : (pointer : Option ℕ → ListPointer) (key : ℕ → ℕ) (place : Option ℕ) (low : ℕ) (nodes : List ℕ)
    (at node : ℕ) → RunsAlong pointer key place low nodes → Has at nodes → Has node nodes
    → (pointer (Some node)).1 ≡ false → FallsShort pointer key at node
    → (next : ℕ) × ((pointer (Some at)).0 ≡ Some next) × (key next ≤ key node)
next_within pointer key place low [] at node along has_at has unmarked short = absurd has
next_within pointer key place low (first ∷ behind) at node along (inl at_first) (inl same) unmarked short =
    absurd (not_itself pointer key at node short unmarked (at_first ∙ sym same))
next_within pointer key place low (first ∷ behind) at node along (inl at_first) (inr later) unmarked short =
    subst (λ (n : ℕ). (next : ℕ) × ((pointer (Some n)).0 ≡ Some next) × (key next ≤ key node)) (sym at_first)
    (first_least pointer key (Some first) (least_behind (key first) (pointer (Some first)).1) behind node along.2 later)
next_within pointer key place low (first ∷ behind) at node along (inr at_later) (inl same) unmarked short =
    let Bounds : ℕ → Type 0 = λ n. least_behind (key n) (pointer (Some n)).1 ≤ key at in
    let above : Bounds node = subst Bounds (sym same)
    (all_from pointer key (Some first) (least_behind (key first) (pointer (Some first)).1) behind along.2 at at_later)
    in
    let past : suc (key node) ≤ key at = subst (λ (b : Bool). least_behind (key node) b ≤ key at) unmarked above in
    absurd (omega (arith, past, short_within pointer key at node short))
next_within pointer key place low (first ∷ behind) at node along (inr at_later) (inr later) unmarked short =
    next_within pointer key (Some first) (least_behind (key first) (pointer (Some first)).1) behind at node along.2
    at_later later unmarked short

-- the place is the first pointer, or a node of the list
abbrev pub Stands : Option ℕ → List ListStep → Type 0
Stands None run = Unit {0}
Stands (Some node) run = Has node (nodes_of run)

-- If a place of the list is short of an entry's key, its pointer leads to a node, which isn't past the key.
pub met_next : (run : List ListStep) (at found : Option ℕ) (marked : Bool) (key node : ℕ) → IsListRun run
    → Stands at run → list_pointer at run ≡ (found, marked) → IsShortOf at marked key run
    → IsEntry node run → key_placed node run ≡ key
    → (next : ℕ) × (found ≡ Some next) × (key_placed next run ≤ key)
met_next run None found marked key node is stands leads short entry has_key =
    let next = first_least (pointers run) (keys run) None 0 (nodes_of run) node (sorted_run run is)
    (entry_has run node is entry) in (
      next.0,
      sym (ap (λ (p : ListPointer). p.0) leads) ∙ next.1,
      subst (λ (k : ℕ). key_placed next.0 run ≤ k) has_key next.2,
    )
met_next run (Some at) found marked key node is stands leads short entry has_key =
    let falls : FallsShort (pointers run) (keys run) at node = elim short [
      | inl less ↦ inl (subst (λ (k : ℕ). key_placed at run < k) (sym has_key) less)
      | inr same ↦ inr (same.0 ∙ sym has_key, ap (λ (p : ListPointer). p.1) leads ∙ same.1)
    ] in
    let next = next_within (pointers run) (keys run) None 0 (nodes_of run) at node (sorted_run run is) stands
    (entry_has run node is entry) entry.1 falls in (
      next.0,
      sym (ap (λ (p : ListPointer). p.0) leads) ∙ next.1,
      subst (λ (k : ℕ). key_placed next.0 run ≤ k) has_key next.2,
    )

-- so it leads past no entry
pub none_passed : (run : List ListStep) (at found : Option ℕ) (marked : Bool) (key node : ℕ) → IsListRun run
    → Stands at run → list_pointer at run ≡ (found, marked) → IsShortOf at marked key run → IsAbove found key run
    → IsEntry node run → key_placed node run ≡ key → ⊥
none_passed run at found marked key node is stands leads short above entry has_key =
    let next = met_next run at found marked key node is stands leads short entry has_key in
    let past : key < key_placed next.0 run = subst (λ (p : Option ℕ). IsAbove p key run) next.1 above in
    omega (arith, past, next.2)

-- a hint without a mark stands in the list
pub hint_stands : (run : List ListStep) (at : Option ℕ) → IsListRun run → IsHint at run
    → (list_pointer at run).1 ≡ false → Stands at run
hint_stands run None is hint unmarked = tt
hint_stands run (Some node) is hint unmarked = entry_has run node is (hint, unmarked)
