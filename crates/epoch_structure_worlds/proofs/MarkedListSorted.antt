-- In every run the first pointer leads along sorted nodes: by induction over its steps.
use Rattle.std.proofs.Common.{◌≡◌, ◌≢◌, ◌≤◌, ℕ, suc, ne_eqb, if◌then◌else◌}
use Rattle.std.proofs.Common.{Bool, true, false, List, [], ◌∷◌, Option, Some, None, refl, sym, subst, ap, ◌∙◌}
use native.Mathlib.Omega.{arith}
use Rattle.epoch_structure_laws.specs.MapEntries.{Has}
use Rattle.epoch_structure_worlds.specs.MarkedLists.{ListPointer, ListStep, list_pointer, key_placed, WasPlaced}
use Rattle.epoch_structure_worlds.specs.MarkedLists.{WasLinked, IsBelow, IsAbove, MayComeNext, IsListRun}
use Rattle.epoch_structure_worlds.specs.MarkedLists.{Places, Points, Links, Marks, Replaces, Unlinks, Loads}
use Rattle.epoch_structure_worlds.proofs.MarkedListPlaces.{changed_here, same_elsewhere, nodes_differ}
use Rattle.epoch_structure_worlds.proofs.MarkedListChains.{RunsAlong, IsFrom, next_from, moved}
use Rattle.epoch_structure_worlds.proofs.MarkedListChanges.{least_at, ChangesAt}
use Rattle.epoch_structure_worlds.proofs.MarkedListChanges.{changed_along}
use Rattle.epoch_structure_worlds.proofs.MarkedListExchanges.{inserts, marks, unlinks, behind_first}
use Rattle.epoch_structure_worlds.proofs.MarkedListLinked.{nodes_of, pointers, keys, linked_placed, nodes_linked}
use Rattle.epoch_structure_worlds.proofs.MarkedListLinked.{not_hint}

-- what stands behind a place below this key may have it
below_bound : (at : Option ℕ) (key : ℕ) (before : List ListStep) → IsBelow at key before
    → least_at (keys before) at false ≤ key
below_bound None key before below = omega arith
below_bound (Some at) key before below = below

above_bound : (next : Option ℕ) (key : ℕ) (before : List ListStep) → IsAbove next key before
    → IsFrom (keys before) (suc key) next
above_bound None key before above = tt
above_bound (Some node) key before above = above

-- a link leads along sorted nodes behind its place
linked_along : (at : Option ℕ) (node : ℕ) (next : Option ℕ) (before : List ListStep)
    → MayComeNext before (Links at node next)
    → ChangesAt (pointers before) (pointers (Links at node next ∷ before)) (keys before) at (λ behind. node ∷ behind)
linked_along at node next before may =
    let new = changed_here at (Some node, false) (list_pointer at before) in
    let elsewhere = not_hint at node before may.hint may.own.1 in
    let kept : list_pointer (Some node) (Links at node next ∷ before) ≡ (next, false) =
    same_elsewhere (Some node) at (Some node, false) (list_pointer (Some node) before) elsewhere ∙ may.leads in
    let below : least_at (keys before) at (list_pointer at (Links at node next ∷ before)).1 ≤ key_placed node before =
    subst (λ (p : ListPointer). least_at (keys before) at p.1 ≤ key_placed node before) (sym new)
    (below_bound at (key_placed node before) before may.below) in
    inserts (pointers before) (pointers (Links at node next ∷ before)) (keys before) at node next may.finds
    (ap (λ (p : ListPointer). p.0) new) kept
    (λ place differ. same_elsewhere place at (Some node, false) (list_pointer place before) differ) below
    (λ rest along. above_bound next (key_placed node before) before may.above)

-- so does a replacement: its heir has the node's key, and what is behind has greater ones
replaced_along : (node heir : ℕ) (next : Option ℕ) (before : List ListStep)
    → MayComeNext before (Replaces node heir next)
    → ChangesAt (pointers before) (pointers (Replaces node heir next ∷ before)) (keys before) (Some node)
    (λ behind. heir ∷ behind)
replaced_along node heir next before may =
    let key : ℕ → ℕ = keys before in
    let new = changed_here (Some node) (Some heir, true) (list_pointer (Some node) before) in
    let elsewhere = not_hint (Some node) heir before may.linked may.own.1 in
    let kept : list_pointer (Some heir) (Replaces node heir next ∷ before) ≡ (next, false) =
    same_elsewhere (Some heir) (Some node) (Some heir, true) (list_pointer (Some heir) before) elsewhere ∙ may.leads in
    let below : least_at key (Some node) (list_pointer (Some node) (Replaces node heir next ∷ before)).1 ≤ key heir =
    subst (λ (p : ListPointer). least_at key (Some node) p.1 ≤ key heir) (sym new) (omega (arith, may.same_key)) in
    inserts (pointers before) (pointers (Replaces node heir next ∷ before)) key (Some node) heir next may.finds
    (ap (λ (p : ListPointer). p.0) new) kept
    (λ place differ. same_elsewhere place (Some node) (Some heir, true) (list_pointer place before) differ) below
    (λ rest along. subst (λ (n : ℕ). IsFrom key (suc n) next) (sym may.same_key)
    (subst (λ (p : ListPointer). IsFrom key (suc (key node)) p.0) may.finds
    (next_from (pointers before) key (Some node) (suc (key node)) rest along)))

-- the first pointer leads along the list's nodes, which are sorted
abbrev pub GoesSorted : List ListStep → Type 0
GoesSorted run = RunsAlong (pointers run) (keys run) None 0 (nodes_of run)

-- a node that comes to be is none of the list's
place_sorted : (new key : ℕ) (next : Option ℕ) (before : List ListStep) → IsListRun (Places new key next ∷ before)
    → GoesSorted before → GoesSorted (Places new key next ∷ before)
place_sorted new key next before is along =
    let differs : (node : ℕ) → Has node (nodes_of before) → node ≢ new = λ node has same.
    is.0 (subst (λ (n : ℕ). WasPlaced n before) same
    (linked_placed before node is.1 (nodes_linked before node has))) in
    moved (pointers before) (pointers (Places new key next ∷ before)) (keys before)
    (keys (Places new key next ∷ before)) None None 0 0 (nodes_of before) along refl
    (λ node has. same_elsewhere (Some node) (Some new) (next, false) (list_pointer (Some node) before)
    (nodes_differ node new (differs node has)))
    (λ node has. subst (λ (b : Bool). (if b then key else key_placed node before) ≡ key_placed node before)
    (sym (ne_eqb node new (differs node has))) refl)
    (next_from (pointers before) (keys before) None 0 (nodes_of before) along)

-- and neither is one whose pointer is set
point_sorted : (own : ℕ) (next : Option ℕ) (before : List ListStep) → IsListRun (Points own next ∷ before)
    → GoesSorted before → GoesSorted (Points own next ∷ before)
point_sorted own next before is along =
    let differs : (node : ℕ) → Has node (nodes_of before) → node ≢ own = λ node has same.
    is.0.1 (subst (λ (n : ℕ). WasLinked n before) same (nodes_linked before node has)) in
    moved (pointers before) (pointers (Points own next ∷ before)) (keys before) (keys before) None None 0 0
    (nodes_of before) along refl
    (λ node has. same_elsewhere (Some node) (Some own) (next, false) (list_pointer (Some node) before)
    (nodes_differ node own (differs node has)))
    (λ node has. refl) (next_from (pointers before) (keys before) None 0 (nodes_of before) along)

link_sorted : (at : Option ℕ) (node : ℕ) (next : Option ℕ) (before : List ListStep)
    → IsListRun (Links at node next ∷ before) → GoesSorted before → GoesSorted (Links at node next ∷ before)
link_sorted at node next before is along =
    changed_along (pointers before) (pointers (Links at node next ∷ before)) (keys before) at (λ behind. node ∷ behind)
    (λ place differ. same_elsewhere place at (Some node, false) (list_pointer place before) differ)
    (ap (λ (p : ListPointer). p.1) is.0.finds) (linked_along at node next before is.0) (nodes_of before) along

mark_sorted : (node : ℕ) (next : Option ℕ) (before : List ListStep) → IsListRun (Marks node next ∷ before)
    → GoesSorted before → GoesSorted (Marks node next ∷ before)
mark_sorted node next before is along =
    let same : (place : Option ℕ) → place ≢ Some node → list_pointer place (Marks node next ∷ before)
    ≡ list_pointer place before =
    λ place differ. same_elsewhere place (Some node) (next, true) (list_pointer place before) differ in
    changed_along (pointers before) (pointers (Marks node next ∷ before)) (keys before) (Some node) (λ behind. behind)
    same (ap (λ (p : ListPointer). p.1) is.0.1)
    (marks (pointers before) (pointers (Marks node next ∷ before)) (keys before) node next is.0.1
    (changed_here (Some node) (next, true) (list_pointer (Some node) before)) same)
    (nodes_of before) along

replace_sorted : (node heir : ℕ) (next : Option ℕ) (before : List ListStep)
    → IsListRun (Replaces node heir next ∷ before) → GoesSorted before → GoesSorted (Replaces node heir next ∷ before)
replace_sorted node heir next before is along =
    changed_along (pointers before) (pointers (Replaces node heir next ∷ before)) (keys before) (Some node)
    (λ behind. heir ∷ behind)
    (λ place differ. same_elsewhere place (Some node) (Some heir, true) (list_pointer place before) differ)
    (ap (λ (p : ListPointer). p.1) is.0.finds) (replaced_along node heir next before is.0) (nodes_of before) along

unlink_sorted : (at : Option ℕ) (node : ℕ) (next : Option ℕ) (before : List ListStep)
    → IsListRun (Unlinks at node next ∷ before) → GoesSorted before → GoesSorted (Unlinks at node next ∷ before)
unlink_sorted at node next before is along =
    let same : (place : Option ℕ) → place ≢ at → list_pointer place (Unlinks at node next ∷ before)
    ≡ list_pointer place before =
    λ place differ. same_elsewhere place at (next, false) (list_pointer place before) differ in
    changed_along (pointers before) (pointers (Unlinks at node next ∷ before)) (keys before) at behind_first same
    (ap (λ (p : ListPointer). p.1) is.0.finds)
    (unlinks (pointers before) (pointers (Unlinks at node next ∷ before)) (keys before) at node next is.0.finds
    is.0.leads
    (changed_here at (next, false) (list_pointer at before)) same)
    (nodes_of before) along

-- in every run the first pointer leads along sorted nodes
pub sorted_run : (run : List ListStep) → IsListRun run → GoesSorted run
sorted_run [] is = refl
sorted_run (Places new key next ∷ before) is = place_sorted new key next before is (sorted_run before is.1)
sorted_run (Points own next ∷ before) is = point_sorted own next before is (sorted_run before is.1)
sorted_run (Links at node next ∷ before) is = link_sorted at node next before is (sorted_run before is.1)
sorted_run (Marks node next ∷ before) is = mark_sorted node next before is (sorted_run before is.1)
sorted_run (Replaces node heir next ∷ before) is = replace_sorted node heir next before is (sorted_run before is.1)
sorted_run (Unlinks at node next ∷ before) is = unlink_sorted at node next before is (sorted_run before is.1)
sorted_run (Loads at found marked ∷ before) is = sorted_run before is.1
