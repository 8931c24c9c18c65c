-- What one step changes of a list's nodes: those behind one place. So nodes stay, and pointers lead along sorted ones.
use Rattle.std.proofs.Common.{◌≡◌, ◌≢◌, inl, inr, ℕ, eqb, eq-eqb, ne_eqb, if◌then◌else◌}
use Rattle.std.proofs.Common.{Bool, true, false, List, [], ◌∷◌, Option, Some, None, sym, subst, ap, ◌∙◌}
use Rattle.std.proofs.lemmas.Option.{none-some}
use native.Mathlib.Decide.{ℕ_discrete}
use mathlib.Core.Logic.{dite}
use Rattle.epoch_structure_laws.specs.MapEntries.{Has}
use Rattle.epoch_structure_worlds.specs.MarkedLists.{ListPointer}
use Rattle.epoch_structure_worlds.proofs.MarkedListPlaces.{nodes_differ}
use Rattle.epoch_structure_worlds.proofs.MarkedListChains.{least_behind, RunsAlong}

-- these nodes, with those behind this one changed
abbrev pub changed_behind : ℕ → (List ℕ → List ℕ) → List ℕ → List ℕ
changed_behind at change [] = []
changed_behind at change (node ∷ behind) =
    node ∷ (if eqb node at then change behind else changed_behind at change behind)

-- these nodes, with those behind this place changed
abbrev pub changed_at : Option ℕ → (List ℕ → List ℕ) → List ℕ → List ℕ
changed_at None change nodes = change nodes
changed_at (Some at) change nodes = changed_behind at change nodes

-- this holds of each of them
abbrev pub OfEach : (ℕ → Type 0) → List ℕ → Type 0
OfEach Holds nodes = (node : ℕ) → Has node nodes → Holds node

-- one of two lists of which something holds
one_of_each : (Holds : List ℕ → Type 0) (which : Bool) (xs ys : List ℕ) → Holds xs → Holds ys
    → Holds (if which then xs else ys)
one_of_each Holds true xs ys of_xs of_ys = of_xs
one_of_each Holds false xs ys of_xs of_ys = of_ys

-- what holds of each node holds of each after the change, if it does behind the place
behind_each : (Holds : ℕ → Type 0) (at : ℕ) (change : List ℕ → List ℕ)
    → ((rest : List ℕ) → OfEach Holds rest → OfEach Holds (change rest))
    → (nodes : List ℕ) → OfEach Holds nodes → OfEach Holds (changed_behind at change nodes)
behind_each Holds at change keeps [] each node has = absurd has
behind_each Holds at change keeps (first ∷ behind) each node (inl same) = each node (inl same)
behind_each Holds at change keeps (first ∷ behind) each node (inr later) =
    let rest : OfEach Holds behind = λ other has. each other (inr has) in
    one_of_each (OfEach Holds) (eqb first at) (change behind) (changed_behind at change behind)
    (keeps behind rest) (behind_each Holds at change keeps behind rest) node later

-- and so it does after a change at any place
pub changed_each : (Holds : ℕ → Type 0) (place : Option ℕ) (change : List ℕ → List ℕ)
    → ((rest : List ℕ) → OfEach Holds rest → OfEach Holds (change rest))
    → (nodes : List ℕ) → OfEach Holds nodes → OfEach Holds (changed_at place change nodes)
changed_each Holds None change keeps nodes each = keeps nodes each
changed_each Holds (Some at) change keeps nodes each = behind_each Holds at change keeps nodes each

-- a node that the change leaves where it is found is there afterwards
behind_has : (pointer : Option ℕ → ListPointer) (key : ℕ → ℕ) (at node : ℕ) (change : List ℕ → List ℕ)
    → ((low : ℕ) (rest : List ℕ) → RunsAlong pointer key (Some at) low rest → Has node rest → Has node (change rest))
    → (place : Option ℕ) (low : ℕ) (nodes : List ℕ) → RunsAlong pointer key place low nodes → Has node nodes
    → Has node (changed_behind at change nodes)
behind_has pointer key at node change keeps place low [] along has = absurd has
behind_has pointer key at node change keeps place low (first ∷ behind) along (inl same) = inl same
behind_has pointer key at node change keeps place low (first ∷ behind) along (inr later) =
    let bound : ℕ = least_behind (key first) (pointer (Some first)).1 in
    let Left : Bool → Type 0 = λ which. Has node (if which then change behind else changed_behind at change behind) in
    inr (dite (ℕ_discrete first at)
    (λ here. subst Left (sym (eq-eqb first at here))
    (keeps bound behind (subst (λ (n : ℕ). RunsAlong pointer key (Some n) bound behind) here along.2) later))
    (λ elsewhere. subst Left (sym (ne_eqb first at elsewhere))
    (behind_has pointer key at node change keeps (Some first) bound behind along.2 later)))

-- and so it is after a change at any place
pub changed_has : (pointer : Option ℕ → ListPointer) (key : ℕ → ℕ) (at : Option ℕ) (node : ℕ)
    (change : List ℕ → List ℕ)
    → ((low : ℕ) (rest : List ℕ) → RunsAlong pointer key at low rest → Has node rest → Has node (change rest))
    → (nodes : List ℕ) → RunsAlong pointer key None 0 nodes → Has node nodes → Has node (changed_at at change nodes)
changed_has pointer key None node change keeps nodes along has = keeps 0 nodes along has
changed_has pointer key (Some at) node change keeps nodes along has =
    behind_has pointer key at node change keeps None 0 nodes along has

-- a node that the change brings is there, if its place is
pub brought : (at node : ℕ) (change : List ℕ → List ℕ) → ((rest : List ℕ) → Has node (change rest))
    → (nodes : List ℕ) → Has at nodes → Has node (changed_behind at change nodes)
brought at node change brings [] has = absurd has
brought at node change brings (first ∷ behind) (inl same) =
    inr (subst (λ (which : Bool). Has node (if which then change behind else changed_behind at change behind))
    (sym (eq-eqb first at (sym same))) (brings behind))
brought at node change brings (first ∷ behind) (inr later) =
    inr (one_of_each (Has node) (eqb first at) (change behind) (changed_behind at change behind) (brings behind)
    (brought at node change brings behind later))

-- the least key behind this place
abbrev pub least_at : (ℕ → ℕ) → Option ℕ → Bool → ℕ
least_at key None marked = 0
least_at key (Some node) marked = least_behind (key node) marked

-- What a change has to do behind its place, whose pointer had no mark.
abbrev pub ChangesAt : (pointer pointer' : Option ℕ → ListPointer) → (ℕ → ℕ) → Option ℕ → (List ℕ → List ℕ) → Type 0
ChangesAt pointer pointer' key at change = (rest : List ℕ) → RunsAlong pointer key at (least_at key at false) rest
    → RunsAlong pointer' key at (least_at key at (pointer' at).1) (change rest)

-- behind the place, reached
at_place : (pointer pointer' : Option ℕ → ListPointer) (key : ℕ → ℕ) (at first : ℕ) (change : List ℕ → List ℕ)
    (rest : List ℕ)
    → ChangesAt pointer pointer' key (Some at) change → (pointer (Some at)).1 ≡ false → first ≡ at
    → RunsAlong pointer key (Some first) (least_behind (key first) (pointer (Some first)).1) rest
    → RunsAlong pointer' key (Some first) (least_behind (key first) (pointer' (Some first)).1) (change rest)
at_place pointer pointer' key at first change rest changes unmarked same along =
    let Before : ℕ → Type 0 = λ n. RunsAlong pointer key (Some n) (least_behind (key n) (pointer (Some n)).1) rest in
    let After : ℕ → Type 0 = λ n. RunsAlong pointer' key (Some n) (least_behind (key n) (pointer' (Some n)).1)
    (change rest) in
    let here : Before at = subst Before same along in
    subst After (sym same) (changes rest
    (subst (λ (b : Bool). RunsAlong pointer key (Some at) (least_behind (key at) b) rest) unmarked here))

behind_along : (pointer pointer' : Option ℕ → ListPointer) (key : ℕ → ℕ) (at : ℕ) (change : List ℕ → List ℕ)
    → ((place : Option ℕ) → place ≢ Some at → pointer' place ≡ pointer place)
    → (pointer (Some at)).1 ≡ false → ChangesAt pointer pointer' key (Some at) change
    → (place : Option ℕ) (low : ℕ) (nodes : List ℕ) → place ≢ Some at → RunsAlong pointer key place low nodes
    → RunsAlong pointer' key place low (changed_behind at change nodes)
behind_along pointer pointer' key at change same unmarked changes place low [] other along =
    ap (λ (p : ListPointer). p.0) (same place other) ∙ along
behind_along pointer pointer' key at change same unmarked changes place low (first ∷ behind) other along =
    let Along : Bool → Type 0 = λ which. RunsAlong pointer' key (Some first)
    (least_behind (key first) (pointer' (Some first)).1)
    (if which then change behind else changed_behind at change behind) in (
      ap (λ (p : ListPointer). p.0) (same place other) ∙ along.0,
      along.1,
      dite (ℕ_discrete first at)
          (λ here. subst Along (sym (eq-eqb first at here))
          (at_place pointer pointer' key at first change behind changes unmarked here along.2))
          (λ elsewhere. subst Along (sym (ne_eqb first at elsewhere))
          (subst (λ (p : ListPointer). RunsAlong pointer' key (Some first) (least_behind (key first) p.1)
          (changed_behind at change behind)) (sym (same (Some first) (nodes_differ first at elsewhere)))
          (behind_along pointer pointer' key at change same unmarked changes (Some first)
          (least_behind (key first) (pointer (Some first)).1) behind (nodes_differ first at elsewhere) along.2))),
    )

-- A change of one pointer without a mark leads along the changed nodes, if it does behind its place.
pub changed_along : (pointer pointer' : Option ℕ → ListPointer) (key : ℕ → ℕ) (at : Option ℕ)
    (change : List ℕ → List ℕ)
    → ((place : Option ℕ) → place ≢ at → pointer' place ≡ pointer place)
    → (pointer at).1 ≡ false → ChangesAt pointer pointer' key at change
    → (nodes : List ℕ) → RunsAlong pointer key None 0 nodes
    → RunsAlong pointer' key None 0 (changed_at at change nodes)
changed_along pointer pointer' key None change same unmarked changes nodes along = changes nodes along
changed_along pointer pointer' key (Some at) change same unmarked changes nodes along =
    behind_along pointer pointer' key at change same unmarked changes None 0 nodes (none-some at) along
