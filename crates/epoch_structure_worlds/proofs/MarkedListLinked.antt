-- The nodes of a list of nodes with marks: each was linked, and placed before.
use Rattle.std.proofs.Common.{◌≡◌, ◌≢◌, ◌⊎◌, inl, inr, ℕ}
use Rattle.std.proofs.Common.{List, [], ◌∷◌, Option, Some, None, sym, subst}
use Rattle.std.proofs.lemmas.Option.{none-some, same_Some}
use Rattle.epoch_structure_worlds.specs.MarkedLists.{ListPointer, ListStep, list_pointer, key_placed, WasPlaced}
use Rattle.epoch_structure_worlds.specs.MarkedLists.{WasLinked, IsHint, IsListRun}
use Rattle.epoch_structure_worlds.specs.MarkedLists.{Places, Points, Links, Marks, Replaces, Unlinks, Loads}
use Rattle.epoch_structure_worlds.proofs.MarkedListChanges.{changed_at, OfEach, changed_each}
use Rattle.epoch_structure_worlds.proofs.MarkedListExchanges.{behind_first}

-- the list's nodes
abbrev pub nodes_of : List ListStep → List ℕ
nodes_of [] = []
nodes_of (Links at node next ∷ before) = changed_at at (λ behind. node ∷ behind) (nodes_of before)
nodes_of (Marks node next ∷ before) = changed_at (Some node) (λ behind. behind) (nodes_of before)
nodes_of (Replaces node heir next ∷ before) = changed_at (Some node) (λ behind. heir ∷ behind) (nodes_of before)
nodes_of (Unlinks at node next ∷ before) = changed_at at behind_first (nodes_of before)
nodes_of (step ∷ before) = nodes_of before

abbrev pub pointers : List ListStep → Option ℕ → ListPointer
pointers run place = list_pointer place run

abbrev pub keys : List ListStep → ℕ → ℕ
keys run node = key_placed node run

-- a node that was linked was placed before
pub linked_placed : (run : List ListStep) (node : ℕ) → IsListRun run → WasLinked node run → WasPlaced node run
linked_placed [] node is linked = absurd linked
linked_placed (Places other key next ∷ before) node is linked = inr (linked_placed before node is.1 linked)
linked_placed (Points other next ∷ before) node is linked = linked_placed before node is.1 linked
linked_placed (Links at other next ∷ before) node is (inl same) =
    subst (λ (n : ℕ). WasPlaced n before) (sym same) is.0.own.0
linked_placed (Links at other next ∷ before) node is (inr earlier) = linked_placed before node is.1 earlier
linked_placed (Marks other next ∷ before) node is linked = linked_placed before node is.1 linked
linked_placed (Replaces other heir next ∷ before) node is (inl same) =
    subst (λ (n : ℕ). WasPlaced n before) (sym same) is.0.own.0
linked_placed (Replaces other heir next ∷ before) node is (inr earlier) = linked_placed before node is.1 earlier
linked_placed (Unlinks at other next ∷ before) node is linked = linked_placed before node is.1 linked
linked_placed (Loads at found marked ∷ before) node is linked = linked_placed before node is.1 linked

-- with a new node in front, each is this one or was linked before
front_linked : (Linked : ℕ → Type 0) (new : ℕ) (rest : List ℕ)
    → OfEach (λ node. (node ≡ new) ⊎ Linked node) rest → OfEach (λ node. (node ≡ new) ⊎ Linked node) (new ∷ rest)
front_linked Linked new rest each node (inl same) = inl same
front_linked Linked new rest each node (inr later) = each node later

past_first_linked : (Linked : ℕ → Type 0) (rest : List ℕ) → OfEach Linked rest → OfEach Linked (behind_first rest)
past_first_linked Linked [] each = each
past_first_linked Linked (first ∷ behind) each = λ node has. each node (inr has)

-- each of the list's nodes was linked
pub nodes_linked : (run : List ListStep) → OfEach (λ node. WasLinked node run) (nodes_of run)
nodes_linked [] node has = absurd has
nodes_linked (Places other key next ∷ before) node has = nodes_linked before node has
nodes_linked (Points other next ∷ before) node has = nodes_linked before node has
nodes_linked (Links at other next ∷ before) node has =
    changed_each (λ n. (n ≡ other) ⊎ WasLinked n before) at (λ behind. other ∷ behind)
    (front_linked (λ n. WasLinked n before) other) (nodes_of before) (λ n here. inr (nodes_linked before n here)) node
    has
nodes_linked (Marks other next ∷ before) node has =
    changed_each (λ n. WasLinked n before) (Some other) (λ behind. behind) (λ rest each. each) (nodes_of before)
    (nodes_linked before) node has
nodes_linked (Replaces other heir next ∷ before) node has =
    changed_each (λ n. (n ≡ heir) ⊎ WasLinked n before) (Some other) (λ behind. heir ∷ behind)
    (front_linked (λ n. WasLinked n before) heir) (nodes_of before) (λ n here. inr (nodes_linked before n here)) node
    has
nodes_linked (Unlinks at other next ∷ before) node has =
    changed_each (λ n. WasLinked n before) at behind_first (past_first_linked (λ n. WasLinked n before))
    (nodes_of before) (nodes_linked before) node has
nodes_linked (Loads at found marked ∷ before) node has = nodes_linked before node has

-- a node that was never linked is no hint
pub not_hint : (at : Option ℕ) (node : ℕ) (before : List ListStep) → IsHint at before → (WasLinked node before → ⊥)
    → Some node ≢ at
not_hint None node before hint never same = none-some node (sym same)
not_hint (Some at) node before hint never same =
    never (subst (λ (n : ℕ). WasLinked n before) (sym (same_Some node at same)) hint)
