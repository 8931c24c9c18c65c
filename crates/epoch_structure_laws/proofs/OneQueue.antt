-- The cells of a world hold the values of one queue at most.
use Rattle.std.proofs.Common.{◌≡◌, ℕ, List, [], ◌∷◌, Option, Some, None, refl, ap, sym, subst, ◌∙◌}
use Rattle.epoch_cells.specs.declared.cells.name.Name.{Name}
use Rattle.epoch_laws.specs.declared.heap.access.Ptr.{Ptr}
use Rattle.epoch_laws.specs.Heap.{Heap}
use Rattle.epoch_structure_laws.specs.QueueValues.{HoldsValue, HoldsFrom, HoldsBehind, QueueHolds, untagged}
use Rattle.epoch_structure_laws.proofs.QueueForm.{Next, next_same}
use Rattle.epoch_structure_laws.proofs.QueueLists.{one_value}

-- from one node on there is one list
one_from : (h : Heap) (o : Option Name) (vs ws : List ℕ) → HoldsFrom h o vs → HoldsFrom h o ws → vs ≡ ws
one_from h o [] [] a b = refl
one_from h o [] (w ∷ ws) a (n, next, is, worth, leads, behind) = absurd (cc (a, is))
one_from h o (v ∷ vs) [] (n, next, is, worth, leads, behind) b = absurd (cc (b, is))
one_from h o (v ∷ vs) (w ∷ ws) (n, next, is, worth, leads, behind) (m, after, named, value, to, rest) =
    let same : n ≡ m = cc (is, named) in
    let one : next ≡ after = next_same h m next after (subst (λ k. Next h k next) same leads) to in
    let first : v ≡ w = one_value h m v w (subst (λ k. HoldsValue h k v) same worth) value in
    let others : vs ≡ ws = one_from h after vs ws (subst (λ (p : Option Name). HoldsFrom h p vs) one behind) rest in
    cc (first, others)

-- and so behind the node at the head
one_behind : (h : Heap) (o : Option Name) (vs ws : List ℕ) → HoldsBehind h o vs → HoldsBehind h o ws → vs ≡ ws
one_behind h None vs ws a b = a ∙ sym b
one_behind h (Some n) vs ws (next, leads, holds) (after, to, other) =
    let one : next ≡ after = next_same h n next after leads to in
    one_from h after vs ws (subst (λ (p : Option Name). HoldsFrom h p vs) one holds) other

-- the head's root leads to one node
pub every_heap_holds_one_queue : (h : Heap) (vs ws : List ℕ) → QueueHolds h vs → QueueHolds h ws → vs ≡ ws
every_heap_holds_one_queue h vs ws (head, at, a) (other, there, b) =
    let ptrs : untagged head ≡ untagged other = cc (at, there) in
    let same : head ≡ other = ap (λ (p : Ptr). p.name) ptrs in
    one_behind h other vs ws (subst (λ (p : Option Name). HoldsBehind h p vs) same a) b
