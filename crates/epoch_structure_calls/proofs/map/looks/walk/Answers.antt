use Rattle.std.proofs.Common.{◌∙◌, ◌-◌, [], Some, None, refl, sym, arith}
use Rattle.epoch_laws.specs.declared.heap.access.Spot.TheVariants.{Root, Field}
use Rattle.epoch_structure_laws.specs.declared.map.plan.Aim.TheVariants.{ToGet}
use Rattle.epoch_structure_laws.specs.declared.map.plan.MapAnswer.TheVariants.{NotFound, MovesOut}
use Rattle.epoch_structure_laws.specs.declared.map.plan.MapPhase.TheVariants.{Reading, LoadingNext, Unlinking}
use Rattle.epoch_structure_laws.specs.declared.map.plan.MapPhase.TheVariants.{Answering}
use Rattle.epoch_structure_laws.specs.MapProgram.{again, at, to_look}
use Rattle.epoch_structure_calls.specs.MapCalls.{coded}
use Rattle.epoch_structure_calls.proofs.Strides.{reads_on, reads_so}
use Rattle.epoch_structure_calls.proofs.Passing.{node_lost, looks_at, goes_to_next, next_lost, ends_at_mark, leads_on}
use Rattle.epoch_structure_calls.proofs.Passing.{to_further, to_none}
use Rattle.epoch_structure_calls.proofs.map.looks.walk.Goals as goal

-- it begins at the first node
pub loop-order-init : goal.loop-order-init
loop-order-init g c = ((Root c.args.bucket, ([], (refl, refl))), omega arith)

-- the node can't be read
pub returns-in_default-clause-ends : goal.returns-in_default-clause-ends
returns-in_default-clause-ends g c =
    let does = g.L.Spots.does in
    let b = c.args.bucket in
    let start = Reading (ToGet b 1) (Root b) c.args.first c.args.moves in
    let inv = c.loop-order.invariant.0 in
    let here = Reading (ToGet b 1) inv.0 c.loop-order.node c.loop-order.left in
    let last = again (ToGet b 1) c.loop-order.left in (
      last,
      reads_on does start here last c.args.spots.now c.loop-order.spots c.entry.new.self inv.1
          (node_lost does b inv.0 c.loop-order.node c.loop-order.left c.loop-order.spots c.entry.new.self
          (c.in_default.ensures.none refl)),
      refl,
    )

-- its key is not lower: it ends there
pub returns-then-is_ge-clause-ends : goal.returns-then-is_ge-clause-ends
returns-then-is_ge-clause-ends g c =
    let does = g.L.Spots.does in
    let b = c.args.bucket in
    let start = Reading (ToGet b 1) (Root b) c.args.first c.args.moves in
    let inv = c.loop-order.invariant.0 in
    let here = Reading (ToGet b 1) inv.0 c.loop-order.node c.loop-order.left in
    let looks = to_look (ToGet b 1) inv.0 c.loop-order.node (coded c.in-Some.order) c.loop-order.left in
    let ends = c.end_at.ensures.ends b inv.0 in (
      ends.0,
      reads_on does start here ends.0 c.args.spots.now c.loop-order.spots c.end_at.new.spots inv.1
          (reads_on does here looks ends.0 c.loop-order.spots c.leave.new.self c.end_at.new.spots
          (looks_at does b inv.0 c.loop-order.node (coded c.in-Some.order) c.loop-order.left c.loop-order.spots
          c.entry.new.self c.leave.new.self c.in-Some.ensures.some c.leave.ensures) ends.1),
      ends.2,
    )

pub end_at-requires : goal.end_at-requires
end_at-requires g c = sym c.is_ge.ensures ∙ c.if-is_ge.true

pub returns-then-is_ge-clause-fewer : goal.returns-then-is_ge-clause-fewer
returns-then-is_ge-clause-fewer g c = omega (arith, c.end_at.ensures.fewer, c.loop-order.invariant.1)

-- its pointer can't be loaded
pub returns-in_default-next-clause-ends : goal.returns-in_default-next-clause-ends
returns-in_default-next-clause-ends g c =
    let does = g.L.Spots.does in
    let b = c.args.bucket in
    let start = Reading (ToGet b 1) (Root b) c.args.first c.args.moves in
    let inv = c.loop-order.invariant.0 in
    let here = Reading (ToGet b 1) inv.0 c.loop-order.node c.loop-order.left in
    let lower = sym c.is_ge.ensures ∙ c.if-is_ge.false in
    let loading = LoadingNext (ToGet b 1) inv.0 c.loop-order.node (coded c.in-Some.order) c.loop-order.left in
    let to_next =
    reads_on does start here loading c.args.spots.now c.loop-order.spots c.leave.new.self inv.1
    (goes_to_next does b inv.0 c.loop-order.node c.in-Some.order c.loop-order.left c.loop-order.spots c.entry.new.self
    c.leave.new.self lower c.in-Some.ensures.some c.leave.ensures) in
    let last = again (ToGet b 1) c.loop-order.left in (
      last,
      reads_on does start loading last c.args.spots.now c.leave.new.self c.next.new.self to_next
          (next_lost does b inv.0 c.loop-order.node (coded c.in-Some.order) c.loop-order.left c.leave.new.self
          c.next.new.self (c.in_default-next.ensures.none refl)),
      refl,
    )

-- the node is marked
pub returns-then-ptr-ne0-clause-ends : goal.returns-then-ptr-ne0-clause-ends
returns-then-ptr-ne0-clause-ends g c =
    let does = g.L.Spots.does in
    let b = c.args.bucket in
    let start = Reading (ToGet b 1) (Root b) c.args.first c.args.moves in
    let inv = c.loop-order.invariant.0 in
    let here = Reading (ToGet b 1) inv.0 c.loop-order.node c.loop-order.left in
    let lower = sym c.is_ge.ensures ∙ c.if-is_ge.false in
    let loading = LoadingNext (ToGet b 1) inv.0 c.loop-order.node (coded c.in-Some.order) c.loop-order.left in
    let to_next =
    reads_on does start here loading c.args.spots.now c.loop-order.spots c.leave.new.self inv.1
    (goes_to_next does b inv.0 c.loop-order.node c.in-Some.order c.loop-order.left c.loop-order.spots c.entry.new.self
    c.leave.new.self lower c.in-Some.ensures.some c.leave.ensures) in
    let ptr = c.in-Some-next.ptr in
    let last = Unlinking (ToGet b 1) inv.0 c.loop-order.node ptr.name c.loop-order.left in (
      last,
      reads_on does start loading last c.args.spots.now c.leave.new.self c.next.new.self to_next
          (ends_at_mark does b inv.0 c.loop-order.node c.in-Some.order c.loop-order.left ptr c.leave.new.self
          c.next.new.self c.in-Some-next.ensures.some (λ none. absurd (omega (arith, none, c.if-ptr-ne0.true)))),
      refl,
    )

-- the bucket ends behind a lower key
pub returns-in_default-name-clause-ends : goal.returns-in_default-name-clause-ends
returns-in_default-name-clause-ends g c =
    let does = g.L.Spots.does in
    let b = c.args.bucket in
    let start = Reading (ToGet b 1) (Root b) c.args.first c.args.moves in
    let inv = c.loop-order.invariant.0 in
    let here = Reading (ToGet b 1) inv.0 c.loop-order.node c.loop-order.left in
    let lower = sym c.is_ge.ensures ∙ c.if-is_ge.false in
    let loading = LoadingNext (ToGet b 1) inv.0 c.loop-order.node (coded c.in-Some.order) c.loop-order.left in
    let to_next =
    reads_on does start here loading c.args.spots.now c.loop-order.spots c.leave.new.self inv.1
    (goes_to_next does b inv.0 c.loop-order.node c.in-Some.order c.loop-order.left c.loop-order.spots c.entry.new.self
    c.leave.new.self lower c.in-Some.ensures.some c.leave.ensures) in
    let ptr = c.in-Some-next.ptr in
    let last = Answering NotFound in
    let leads =
    reads_on does start loading (at (ToGet b 1) (Field c.loop-order.node 0) None c.loop-order.left) c.args.spots.now
    c.leave.new.self c.next.new.self to_next
    (leads_on does b inv.0 c.loop-order.node c.in-Some.order c.loop-order.left ptr c.leave.new.self c.next.new.self
    c.in-Some-next.ensures.some None c.in_default-name.is (omega (arith, c.if-ptr-ne0.false)) lower) in
    (last, leads, refl)

-- another node follows, and no move is left
pub returns-then-left-eq0-clause-ends : goal.returns-then-left-eq0-clause-ends
returns-then-left-eq0-clause-ends g c =
    let does = g.L.Spots.does in
    let b = c.args.bucket in
    let start = Reading (ToGet b 1) (Root b) c.args.first c.args.moves in
    let inv = c.loop-order.invariant.0 in
    let here = Reading (ToGet b 1) inv.0 c.loop-order.node c.loop-order.left in
    let lower = sym c.is_ge.ensures ∙ c.if-is_ge.false in
    let loading = LoadingNext (ToGet b 1) inv.0 c.loop-order.node (coded c.in-Some.order) c.loop-order.left in
    let to_next =
    reads_on does start here loading c.args.spots.now c.loop-order.spots c.leave.new.self inv.1
    (goes_to_next does b inv.0 c.loop-order.node c.in-Some.order c.loop-order.left c.loop-order.spots c.entry.new.self
    c.leave.new.self lower c.in-Some.ensures.some c.leave.ensures) in
    let ptr = c.in-Some-next.ptr in
    let last = Answering MovesOut in
    let leads =
    reads_on does start loading (at (ToGet b 1) (Field c.loop-order.node 0) (Some c.in-Some-name.next)
    c.loop-order.left) c.args.spots.now
    c.leave.new.self c.next.new.self to_next
    (leads_on does b inv.0 c.loop-order.node c.in-Some.order c.loop-order.left ptr c.leave.new.self c.next.new.self
    c.in-Some-next.ensures.some (Some c.in-Some-name.next) c.in-Some-name.is (omega (arith, c.if-ptr-ne0.false)) lower)
    in
    let out =
    to_none b (Field c.loop-order.node 0) c.in-Some-name.next c.loop-order.left (omega (arith, c.if-left-eq0.true)) in (
      last,
      reads_so does start (at (ToGet b 1) (Field c.loop-order.node 0) (Some c.in-Some-name.next) c.loop-order.left) last
          c.args.spots.now c.next.new.self (sym out) leads,
      refl,
    )

-- the walk goes on there
pub loop-order-preserved : goal.loop-order-preserved
loop-order-preserved g c =
    let does = g.L.Spots.does in
    let b = c.args.bucket in
    let start = Reading (ToGet b 1) (Root b) c.args.first c.args.moves in
    let inv = c.loop-order.invariant.0 in
    let here = Reading (ToGet b 1) inv.0 c.loop-order.node c.loop-order.left in
    let lower = sym c.is_ge.ensures ∙ c.if-is_ge.false in
    let loading = LoadingNext (ToGet b 1) inv.0 c.loop-order.node (coded c.in-Some.order) c.loop-order.left in
    let to_next =
    reads_on does start here loading c.args.spots.now c.loop-order.spots c.leave.new.self inv.1
    (goes_to_next does b inv.0 c.loop-order.node c.in-Some.order c.loop-order.left c.loop-order.spots c.entry.new.self
    c.leave.new.self lower c.in-Some.ensures.some c.leave.ensures) in
    let ptr = c.in-Some-next.ptr in
    let last = Reading (ToGet b 1) (Field c.loop-order.node 0) c.in-Some-name.next (c.loop-order.left - 1) in
    let leads =
    reads_on does start loading (at (ToGet b 1) (Field c.loop-order.node 0) (Some c.in-Some-name.next)
    c.loop-order.left) c.args.spots.now
    c.leave.new.self c.next.new.self to_next
    (leads_on does b inv.0 c.loop-order.node c.in-Some.order c.loop-order.left ptr c.leave.new.self c.next.new.self
    c.in-Some-next.ensures.some (Some c.in-Some-name.next) c.in-Some-name.is (omega (arith, c.if-ptr-ne0.false)) lower)
    in
    let further =
    to_further b (Field c.loop-order.node 0) c.in-Some-name.next c.loop-order.left (c.loop-order.left - 1)
    (omega (arith, c.if-left-eq0.false)) in (
      (
        Field c.loop-order.node 0,
        reads_so does start (at (ToGet b 1) (Field c.loop-order.node 0) (Some c.in-Some-name.next) c.loop-order.left)
            last c.args.spots.now c.next.new.self (sym further) leads,
      ),
      omega (arith, c.loop-order.invariant.1),
    )
