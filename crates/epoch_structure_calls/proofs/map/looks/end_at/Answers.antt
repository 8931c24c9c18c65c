use Rattle.std.proofs.Common.{◌∙◌, refl, sym, arith}
use Rattle.epoch_structure_laws.specs.declared.map.plan.Aim.TheVariants.{ToGet}
use Rattle.epoch_structure_laws.specs.declared.map.plan.MapAnswer.TheVariants.{Found, NotFound}
use Rattle.epoch_structure_laws.specs.declared.map.plan.MapPhase.TheVariants.{Unlinking, Answering}
use Rattle.epoch_structure_laws.specs.MapProgram.{again}
use Rattle.epoch_structure_calls.specs.MapCalls.{coded}
use Rattle.epoch_structure_calls.proofs.Passing.{ends_past, ends_at_next, next_lost, ends_at_mark, ends_at_key}
use Rattle.epoch_structure_calls.proofs.map.looks.end_at.Goals as goal

-- its key is past the one that is sought
pub returns-then-is_gt-clause-ends : goal.returns-then-is_gt-clause-ends
returns-then-is_gt-clause-ends g c = λ b link. (
  Answering NotFound,
  ends_past g.L.Spots.does b link c.args.node c.args.order c.args.left c.args.spots.now
      (sym c.is_gt.ensures ∙ c.if-is_gt.true),
  refl,
)

-- its pointer can't be loaded
pub returns-in_default-clause-ends : goal.returns-in_default-clause-ends
returns-in_default-clause-ends g c = λ b link.
    let does = g.L.Spots.does in
    let last = again (ToGet b 1) c.args.left in (
      last,
      ends_at_next does b link c.args.node c.args.order c.args.left c.args.spots.now c.next.new.self last
          (sym c.is_gt.ensures ∙ c.if-is_gt.false)
          (next_lost does b link c.args.node (coded c.args.order) c.args.left c.args.spots.now c.next.new.self
          (c.in_default.ensures.none refl)),
      refl,
    )

-- it is marked
pub returns-then-ptr-ne0-clause-ends : goal.returns-then-ptr-ne0-clause-ends
returns-then-ptr-ne0-clause-ends g c = λ b link.
    let does = g.L.Spots.does in
    let ptr = c.in-Some.ptr in
    let last = Unlinking (ToGet b 1) link c.args.node ptr.name c.args.left in (
      last,
      ends_at_next does b link c.args.node c.args.order c.args.left c.args.spots.now c.next.new.self last
          (sym c.is_gt.ensures ∙ c.if-is_gt.false)
          (ends_at_mark does b link c.args.node c.args.order c.args.left ptr c.args.spots.now c.next.new.self
          c.in-Some.ensures.some (λ none. absurd (omega (arith, none, c.if-ptr-ne0.true)))),
      refl,
    )

-- it is that of the key
pub returns-clause-ends : goal.returns-clause-ends
returns-clause-ends g c = λ b link.
    let does = g.L.Spots.does in
    let ptr = c.in-Some.ptr in
    let upto = sym c.is_gt.ensures ∙ c.if-is_gt.false in
    let last = Answering (Found (coded c.args.order)) in (
      last,
      ends_at_next does b link c.args.node c.args.order c.args.left c.args.spots.now c.next.new.self last upto
          (ends_at_key does b link c.args.node c.args.order c.args.left ptr c.args.spots.now c.next.new.self
          c.in-Some.ensures.some (omega (arith, c.if-ptr-ne0.false)) c.requires upto),
      (coded c.args.order, refl),
    )
