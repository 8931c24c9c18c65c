-- What is left in places that no thread shares any more.
use Rattle.std.specs.Prelude.{◌≡◌, ℕ, ◌+◌, List, length, Option, None, sum_by, All}
use mathlib.Core.Option.{some}
use lib.ListN.{get_elem?}
use Rattle.atomic_table.specs.Table.{State}
use Rattle.epoch_bags.specs.Bags.{Sealed}
use Rattle.epoch_tables.specs.SharedPlaces.{PlacesAgree, bag_weight, left_weight, won_weight}
use Rattle.epoch_tables.specs.declared.shared_places.view.PlaceView.{PlaceView}

-- The contents of all places, the first place's first, are those of a last state, which meets the rule: what was at
-- home in it. Of a slot that a seat had in hand then, nothing is said.
pub record AreLast {J : Type 0} (places : ℕ) (contents : List (Option (Sealed J))) : Type 0 where
  pub state : State (Option (Sealed J)) (PlaceView J)
  pub agrees : PlacesAgree places state
  pub as_many : length contents ≡ places
  pub at_home : (place : ℕ) (content : Option (Sealed J)) → get_elem? state.homes place ≡ some (some content)
      → get_elem? contents place ≡ some content

-- Between two calls no seat has claimed a place. Then, however bags are weighed, what all seats have left in places is
-- what they have won there and what the places have at last.
abbrev pub LastHaveTheRest : Type 0 → Type 0
LastHaveTheRest J = (places : ℕ) (contents : List (Option (Sealed J))) (last : AreLast places contents)
    → All (λ view. view.claimed ≡ None) last.state.views
    → (weigh : Sealed J → ℕ) → left_weight weigh last.state.views
    ≡ won_weight weigh last.state.views + sum_by (bag_weight weigh) contents
