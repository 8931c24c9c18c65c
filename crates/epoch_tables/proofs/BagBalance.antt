-- No step loses a bag: what all seats have left in places is what they have won and what is at home.
use Rattle.std.proofs.Common.{◌≡◌, ℕ, zero, suc, ◌+◌, List, [], ◌∷◌, ◌++◌, replicate, map, set, sym, refl, ap}
use Rattle.std.proofs.Common.{Option, None, arith}
use Rattle.std.proofs.lemmas.List.Sums.{sum_by-cons, sum_by_push}
use Rattle.std.specs.Prelude.{sum_by}
use mathlib.Core.Option.{some, none, some-injective, some-ne-none}
use mathlib.Core.Option.{Option as InTable}
use lib.ListN.{get_elem?}
use Rattle.epoch_bags.specs.Bags.{Sealed}
use Rattle.epoch_tables.specs.declared.shared_places.view.PlaceView.{PlaceView}
use Rattle.epoch_tables.specs.SharedPlaces.{bag_weight, home_weight, IsBalanced}

-- SUMS

-- one element is replaced: its share leaves the sum, and the new one's comes in
pub sum_set : {A : Type 0} (f : A → ℕ) (l : List A) (i : ℕ) (a b : A) → get_elem? l i ≡ some a
    → sum_by f (set l i b) + f a ≡ sum_by f l + f b
sum_set f [] i a b at = absurd (some-ne-none a (sym at))
sum_set f (x ∷ xs) zero a b at =
    let same = ap f (some-injective x a at) in omega (arith, sum_by-cons f x xs, sum_by-cons f b xs)
sum_set f (x ∷ xs) (suc i) a b at =
    let more = sum_set f xs i a b at in omega (arith, sum_by-cons f x xs, sum_by-cons f x (set xs i b))

-- STEPS

module _ {J : Type 0} where
  -- new places hold no bag
  none_weighs : (weigh : Sealed J → ℕ) (places : ℕ)
      → sum_by (home_weight weigh) (map some (replicate places None)) ≡ 0
  none_weighs weigh zero = refl
  none_weighs weigh (suc places) = none_weighs weigh places

  -- in new places, where nobody has taken or put a bag, the balance holds
  pub new_balances : (places : ℕ) (v : PlaceView J) → v.left ≡ [] → v.won ≡ []
      → IsBalanced (v ∷ []) (map some (replicate places None))
  new_balances places v left won weigh =
      let none_left = ap (λ (l : List (Option (Sealed J))). sum_by (bag_weight weigh) l) left in
      let none_won = ap (λ (l : List (Option (Sealed J))). sum_by (bag_weight weigh) l) won in
      let none_home = none_weighs weigh places in
      omega arith

  -- a new seat has left nothing and won nothing
  pub enters_balances : (views : List (PlaceView J)) (homes : List (InTable (Option (Sealed J)))) (v : PlaceView J)
      → v.left ≡ [] → v.won ≡ [] → IsBalanced views homes → IsBalanced (views ++ v ∷ []) homes
  enters_balances views homes v left won balanced weigh =
      let none_left = ap (λ (l : List (Option (Sealed J))). sum_by (bag_weight weigh) l) left in
      let none_won = ap (λ (l : List (Option (Sealed J))). sum_by (bag_weight weigh) l) won in
      let before = balanced weigh in
      omega (
        arith,
        sum_by_push (λ (u : PlaceView J). sum_by (bag_weight weigh) u.left) views v,
        sum_by_push (λ (u : PlaceView J). sum_by (bag_weight weigh) u.won) views v,
      )

  -- a step that leaves no bag and wins none
  pub look_balances : (views : List (PlaceView J)) (homes : List (InTable (Option (Sealed J)))) (id : ℕ)
      (v w : PlaceView J) → get_elem? views id ≡ some v → w.left ≡ v.left → w.won ≡ v.won
      → IsBalanced views homes → IsBalanced (set views id w) homes
  look_balances views homes id v w here left won balanced weigh =
      let same_left = ap (λ (l : List (Option (Sealed J))). sum_by (bag_weight weigh) l) left in
      let same_won = ap (λ (l : List (Option (Sealed J))). sum_by (bag_weight weigh) l) won in
      let before = balanced weigh in
      omega (
        arith,
        sum_set (λ (u : PlaceView J). sum_by (bag_weight weigh) u.left) views id v w here,
        sum_set (λ (u : PlaceView J). sum_by (bag_weight weigh) u.won) views id v w here,
      )

  -- a claim: what was at home is won
  pub claim_balances : (views : List (PlaceView J)) (homes : List (InTable (Option (Sealed J)))) (id k : ℕ)
      (v w : PlaceView J) (bag : Option (Sealed J)) → get_elem? views id ≡ some v
      → get_elem? homes k ≡ some (some bag) → w.left ≡ v.left → w.won ≡ v.won ++ bag ∷ []
      → IsBalanced views homes → IsBalanced (set views id w) (set homes k none)
  claim_balances views homes id k v w bag here home left won balanced weigh =
      let same_left = ap (λ (l : List (Option (Sealed J))). sum_by (bag_weight weigh) l) left in
      let more_won = ap (λ (l : List (Option (Sealed J))). sum_by (bag_weight weigh) l) won in
      let before = balanced weigh in
      omega (
        arith,
        sum_by_push (bag_weight weigh) v.won bag,
        sum_set (λ (u : PlaceView J). sum_by (bag_weight weigh) u.left) views id v w here,
        sum_set (λ (u : PlaceView J). sum_by (bag_weight weigh) u.won) views id v w here,
        sum_set (home_weight weigh) homes k (some bag) none home,
      )

  -- a fill or an empty: what is left in the place is at home
  pub store_balances : (views : List (PlaceView J)) (homes : List (InTable (Option (Sealed J)))) (id k : ℕ)
      (v w : PlaceView J) (bag : Option (Sealed J)) → get_elem? views id ≡ some v
      → get_elem? homes k ≡ some none → w.left ≡ v.left ++ bag ∷ [] → w.won ≡ v.won
      → IsBalanced views homes → IsBalanced (set views id w) (set homes k (some bag))
  store_balances views homes id k v w bag here out left won balanced weigh =
      let more_left = ap (λ (l : List (Option (Sealed J))). sum_by (bag_weight weigh) l) left in
      let same_won = ap (λ (l : List (Option (Sealed J))). sum_by (bag_weight weigh) l) won in
      let before = balanced weigh in
      omega (
        arith,
        sum_by_push (bag_weight weigh) v.left bag,
        sum_set (λ (u : PlaceView J). sum_by (bag_weight weigh) u.left) views id v w here,
        sum_set (λ (u : PlaceView J). sum_by (bag_weight weigh) u.won) views id v w here,
        sum_set (home_weight weigh) homes k none (some bag) out,
      )
