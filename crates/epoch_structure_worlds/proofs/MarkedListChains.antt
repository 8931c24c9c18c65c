-- Pointers that lead along sorted nodes. Pointers and keys are any functions here.
use Rattle.std.proofs.Common.{◌≡◌, inl, inr, ◌≤◌, ℕ, suc}
use Rattle.std.proofs.Common.{Bool, true, false, List, [], ◌∷◌, Option, Some, None, refl, sym, subst, ap, ap₂, ◌∙◌}
use native.Mathlib.Omega.{arith}
use Rattle.epoch_structure_laws.specs.MapEntries.{Has}
use Rattle.epoch_structure_worlds.specs.MarkedLists.{ListPointer}

-- the least key that may stand behind a node with this key and this mark
abbrev pub least_behind : ℕ → Bool → ℕ
least_behind key true = key
least_behind key false = suc key

-- the pointers lead from this place along these nodes, whose keys are this one or more, and ascend
abbrev pub RunsAlong : (Option ℕ → ListPointer) → (ℕ → ℕ) → Option ℕ → ℕ → List ℕ → Type 0
RunsAlong pointer key place low [] = (pointer place).0 ≡ None
RunsAlong pointer key place low (node ∷ behind) =
    ((pointer place).0 ≡ Some node) × (low ≤ key node)
    × RunsAlong pointer key (Some node) (least_behind (key node) (pointer (Some node)).1) behind

-- the node there, if any, has this key or a greater one
abbrev pub IsFrom : (ℕ → ℕ) → ℕ → Option ℕ → Type 0
IsFrom key low None = Unit {0}
IsFrom key low (Some node) = low ≤ key node

-- a node's own key is below what may stand behind it, or the same
pub least_above : (key : ℕ) (marked : Bool) → key ≤ least_behind key marked
least_above key true = omega arith
least_above key false = omega arith

-- the pointer leads to no node with a lesser key
pub next_from : (pointer : Option ℕ → ListPointer) (key : ℕ → ℕ) (place : Option ℕ) (low : ℕ) (nodes : List ℕ)
    → RunsAlong pointer key place low nodes → IsFrom key low (pointer place).0
next_from pointer key place low [] along = subst (IsFrom key low) (sym along) tt
next_from pointer key place low (node ∷ behind) along = subst (IsFrom key low) (sym along.0) along.1

-- no node has a lesser key
pub all_from : (pointer : Option ℕ → ListPointer) (key : ℕ → ℕ) (place : Option ℕ) (low : ℕ) (nodes : List ℕ)
    → RunsAlong pointer key place low nodes → (node : ℕ) → Has node nodes → low ≤ key node
all_from pointer key place low [] along node has = absurd has
all_from pointer key place low (first ∷ behind) along node (inl same) =
    subst (λ (n : ℕ). low ≤ key n) (sym same) along.1
all_from pointer key place low (first ∷ behind) along node (inr later) =
    let above = all_from pointer key (Some first) (least_behind (key first) (pointer (Some first)).1) behind along.2
    node later in
    omega (arith, above, along.1, least_above (key first) (pointer (Some first)).1)

-- a lesser bound holds as well
pub lower : (key : ℕ → ℕ) (low less : ℕ) (next : Option ℕ) → less ≤ low → IsFrom key low next → IsFrom key less next
lower key low less None within from = tt
lower key low less (Some node) within from = omega (arith, within, from)

-- Other pointers that agree on these nodes lead along them as well, from any place that leads to the first one.
pub moved : (pointer pointer' : Option ℕ → ListPointer) (key key' : ℕ → ℕ) (place place' : Option ℕ) (low low' : ℕ)
    (nodes : List ℕ)
    → RunsAlong pointer key place low nodes
    → (pointer' place').0 ≡ (pointer place).0
    → ((node : ℕ) → Has node nodes → pointer' (Some node) ≡ pointer (Some node))
    → ((node : ℕ) → Has node nodes → key' node ≡ key node)
    → IsFrom key low' (pointer place).0
    → RunsAlong pointer' key' place' low' nodes
moved pointer pointer' key key' place place' low low' [] along leads agree keys from = leads ∙ along
moved pointer pointer' key key' place place' low low' (node ∷ behind) along leads agree keys from =
    let here : pointer' (Some node) ≡ pointer (Some node) = agree node (inl refl) in
    let same_key : key' node ≡ key node = keys node (inl refl) in
    let bound : least_behind (key' node) (pointer' (Some node)).1 ≡ least_behind (key node) (pointer (Some node)).1 =
    ap₂ least_behind same_key (ap (λ (p : ListPointer). p.1) here) in
    let first : low' ≤ key node = subst (IsFrom key low') along.0 from in
    let next = next_from pointer key (Some node) (least_behind (key node) (pointer (Some node)).1) behind along.2 in (
      leads ∙ along.0,
      subst (λ (n : ℕ). low' ≤ n) (sym same_key) first,
      moved pointer pointer' key key' (Some node) (Some node) (least_behind (key node) (pointer (Some node)).1)
          (least_behind (key' node) (pointer' (Some node)).1) behind along.2 (ap (λ (p : ListPointer). p.0) here)
          (λ other later. agree other (inr later)) (λ other later. keys other (inr later))
          (subst (λ (n : ℕ). IsFrom key n (pointer (Some node)).0) (sym bound) next),
    )
