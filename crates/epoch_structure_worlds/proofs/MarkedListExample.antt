-- A run with a step of each kind, and a walk along a node that others remove meanwhile.
use Rattle.std.proofs.Common.{◌≡◌, ℕ, inl, inr, true, false, List, [], ◌∷◌}
use Rattle.std.proofs.Common.{Some, None, refl}
use native.Mathlib.Omega.{arith}
use Rattle.epoch_structure_worlds.specs.MarkedLists.{ListStep, WasPlaced, IsListRun, ListWalk, walk_begun, walk_on}
use Rattle.epoch_structure_worlds.specs.MarkedLists.{WasWalked, IsUnlinked, MayLink, list_pointer}
use Rattle.epoch_structure_worlds.specs.MarkedLists.{Places, Points, Links, Marks, Replaces, Unlinks, Loads}
use Rattle.epoch_structure_worlds.specs.MarkedLists.{WalksMayMissNewEntries}

-- a node with key 5 is the list's only one
abbrev one_node : List ListStep
one_node = Links None 1 None ∷ Places 1 5 None ∷ []

-- a walk finds it, and then it is removed
abbrev one_removed : List ListStep
one_removed = Unlinks None 1 None ∷ Marks 1 None ∷ Loads None (Some 1) false ∷ one_node

-- a node with key 7 is linked
abbrev one_linked : List ListStep
one_linked = Links None 2 None ∷ Points 2 None ∷ Places 2 7 (Some 1) ∷ one_removed

-- and another one takes its place
abbrev one_replaced : List ListStep
one_replaced = Replaces 2 3 None ∷ Places 3 7 None ∷ one_linked

-- the walk goes on from the node that was removed
abbrev walked_on : List ListStep
walked_on = Loads (Some 1) None true ∷ one_replaced

abbrev the_walk : ListWalk
the_walk = walk_on (walk_begun one_node None (Some 1) false) 1 None true

-- a link at the first pointer, in a list with no node
links_first : (node : ℕ) (before : List ListStep) → IsUnlinked node before → list_pointer None before ≡ (None, false)
    → list_pointer (Some node) before ≡ (None, false) → MayLink before None node None
links_first node before own finds leads = record {
  hint = tt;
  own = own;
  finds = finds;
  leads = leads;
  below = tt;
  above = tt;
}

one_node_is : IsListRun one_node
one_node_is =
    (links_first 1 (Places 1 5 None ∷ []) (inl refl, λ linked. linked) refl refl, ((λ placed. placed), tt))

one_removed_is : IsListRun one_removed
one_removed_is = (
  record {
    hint = tt;
    finds = refl;
    leads = refl;
  },
  ((inl refl, refl), ((tt, refl), one_node_is)),
)

-- each node is new when it is placed
two_is_new : WasPlaced 2 one_removed → ⊥
two_is_new other = grind (arith, other)

three_is_new : WasPlaced 3 one_linked → ⊥
three_is_new other = grind (arith, other)

one_linked_is : IsListRun one_linked
one_linked_is = (
  links_first 2 (Points 2 None ∷ Places 2 7 (Some 1) ∷ one_removed) (inl refl, two_is_new) refl refl,
  ((inl refl, two_is_new), (two_is_new, one_removed_is)),
)

one_replaced_is : IsListRun one_replaced
one_replaced_is = (
  record {
    linked = inl refl;
    own = (inl refl, three_is_new);
    finds = refl;
    leads = refl;
    same_key = refl;
  },
  (three_is_new, one_linked_is),
)

walked_on_is : IsListRun walked_on
walked_on_is = ((inr (inr (inl refl)), refl), one_replaced_is)

was_walked : WasWalked the_walk walked_on
was_walked = inr (inr (
  walk_begun one_node None (Some 1) false,
  1,
  inr (inl (one_node, inl refl, tt, refl)),
  refl,
  refl,
  refl,
))

-- the walk missed key 7, which has an entry now
pub may_miss : WalksMayMissNewEntries
may_miss = (walked_on, the_walk, 7, 3, walked_on_is, was_walked, inl (omega arith), tt, refl)
