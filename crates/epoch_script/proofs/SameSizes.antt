-- A text says at most one shape.
use Rattle.std.proofs.Common.{◌≡◌, ℕ, List, Option, Some, None, MatchOption, subst}
use Rattle.epoch_script.specs.Words.{Behind, SpellsNumber, others}
use Rattle.epoch_script.specs.Lines.{Leading, SpellsShape, SpellsSizes, SpellsLastSizes}
use Rattle.epoch_laws.specs.Shapes.{IsValid}
use Rattle.epoch_laws.specs.declared.shape.Shape.{Shape}

behind_both : (rest : Option (List ℕ)) (P Q : List ℕ → Type 0)
    → Behind rest P → Behind rest Q → (back : List ℕ) × P back × Q back
behind_both None P Q p q = absurd p
behind_both (Some back) P Q p q = (back, p, q)

leading_both : (a b : ℕ) (text : List ℕ) (P Q : List ℕ → Type 0) → Leading a text P → Leading b text Q
    → (a ≡ b) × ((back : List ℕ) × P back × Q back)
leading_both a b text P Q p q = (cc, behind_both (others text) P Q p.1 q.1)

last_same : (a b c d e f : ℕ) (text : List ℕ)
    → SpellsLastSizes a b c text → SpellsLastSizes d e f text → (a ≡ d) × (b ≡ e) × (c ≡ f)
last_same a b c d e f text p q =
    let (jobs, bags) = tail (others text) p.1 q.1 in
    (cc, jobs, bags)
  where
    tail : (rest : Option (List ℕ)) → MatchOption rest ((b ≡ 64) × (c ≡ 8)) (λ t. Leading b t (SpellsNumber c))
        → MatchOption rest ((e ≡ 64) × (f ≡ 8)) (λ t. Leading e t (SpellsNumber f)) → (b ≡ e) × (c ≡ f)
    tail None p q = (cc, cc)
    tail (Some t) p q =
        let (same, (back, left, right)) = leading_both b e t (SpellsNumber c) (SpellsNumber f) p q in
        (same, cc)

-- the shape of these numbers
unfoldable shape_of : (participants cells roots fields bags align start_epoch start_turn bag_jobs collect_bags : ℕ)
    → Shape
shape_of participants cells roots fields bags align start_epoch start_turn bag_jobs collect_bags = record {
  participants = participants;
  cells = cells;
  roots = roots;
  fields = fields;
  bags = bags;
  align = align;
  start_epoch = start_epoch;
  start_turn = start_turn;
  bag_jobs = bag_jobs;
  collect_bags = collect_bags;
}

same_shape : (a b c d e f g h i j k l m n o p q r s t : ℕ)
    → a ≡ k → b ≡ l → c ≡ m → d ≡ n → e ≡ o → f ≡ p → g ≡ q → h ≡ r → i ≡ s → j ≡ t
    → shape_of a b c d e f g h i j ≡ shape_of k l m n o p q r s t
same_shape a b c d e f g h i j k l m n o p q r s t e0 e1 e2 e3 e4 e5 e6 e7 e8 e9 = cc

-- shapes with the same numbers are the same
alike : (a b : Shape) → a.participants ≡ b.participants → a.cells ≡ b.cells → a.roots ≡ b.roots → a.fields ≡ b.fields
    → a.bags ≡ b.bags → a.align ≡ b.align → a.start_epoch ≡ b.start_epoch → a.start_turn ≡ b.start_turn
    → a.bag_jobs ≡ b.bag_jobs → a.collect_bags ≡ b.collect_bags → a ≡ b
unfolding shape_of
alike a b participants cells roots fields bags align start_epoch start_turn bag_jobs collect_bags =
    same_shape _ _ _ _ _ _ _ _ _ _ _ _ _ _ _ _ _ _ _ _ participants cells roots fields bags align start_epoch
    start_turn bag_jobs collect_bags

same_sizes : (a b : Shape) (text : List ℕ) → SpellsSizes a text → SpellsSizes b text → a ≡ b
same_sizes a b text p q =
    let (participants, (t1, p1, q1)) = leading_both a.participants b.participants text _ _ p q in
    let (cells, (t2, p2, q2)) = leading_both a.cells b.cells t1 _ _ p1 q1 in
    let (roots, (t3, p3, q3)) = leading_both a.roots b.roots t2 _ _ p2 q2 in
    let (fields, (t4, p4, q4)) = leading_both a.fields b.fields t3 _ _ p3 q3 in
    let (bags, (t5, p5, q5)) = leading_both a.bags b.bags t4 _ _ p4 q4 in
    let (align, (t6, p6, q6)) = leading_both a.align b.align t5 _ _ p5 q5 in
    let (start_epoch, (t7, p7, q7)) = leading_both a.start_epoch b.start_epoch t6 _ _ p6 q6 in
    let (start_turn, bag_jobs, collect_bags) = last_same _ _ _ _ _ _ t7 p7 q7 in
    alike a b participants cells roots fields bags align start_epoch start_turn bag_jobs collect_bags

-- a line that says some shape says the one whose numbers were read from it
pub said_shape_is_valid : (line rest : List ℕ) (shape said : Shape) → others line ≡ Some rest → SpellsSizes shape rest
    → SpellsShape said line → IsValid shape
said_shape_is_valid line rest shape said cut read says =
    let P : Option (List ℕ) → Type 0 = λ o. Behind o (SpellsSizes said) in
    let sizes : SpellsSizes said rest = subst P cut says.0.1 in
    subst IsValid (same_sizes said shape rest sizes read) says.1
