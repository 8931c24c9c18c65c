use Rattle.std.proofs.Common.{◌-◌, Some, None, refl, sym, arith}
use Rattle.epoch_laws.specs.declared.heap.access.Spot.TheVariants.{Root}
use Rattle.epoch_structure_laws.specs.declared.map.plan.Aim.TheVariants.{ToGet}
use Rattle.epoch_structure_laws.specs.declared.map.plan.MapAnswer.TheVariants.{NotFound, MovesOut}
use Rattle.epoch_structure_laws.specs.declared.map.plan.MapPhase.TheVariants.{LoadingFirst, Reading}
use Rattle.epoch_structure_laws.specs.declared.map.plan.MapPhase.TheVariants.{Answering}
use Rattle.epoch_structure_laws.specs.MapProgram.{again, at}
use Rattle.epoch_structure_calls.proofs.Strides.{reads_on, reads_so}
use Rattle.epoch_structure_calls.proofs.Passing.{first_lost, root_leads, to_further, to_none}
use Rattle.epoch_structure_calls.proofs.map.looks.go_over.Goals as goal

-- there is no such bucket
pub returns-in_default-clause-ends : goal.returns-in_default-clause-ends
returns-in_default-clause-ends g c = (
  again (ToGet c.args.bucket 1) c.args.moves,
  first_lost g.L.Spots.does c.args.bucket c.args.moves c.args.spots.now c.first.new.self (c.in_default.ensures.none
      refl),
  refl,
)

-- it is empty
pub returns-in_default-name-clause-ends : goal.returns-in_default-name-clause-ends
returns-in_default-name-clause-ends g c = (
  Answering NotFound,
  root_leads g.L.Spots.does c.args.bucket c.args.moves c.in-Some.ptr None c.args.spots.now c.first.new.self
      c.in_default-name.is c.in-Some.ensures.some,
  refl,
)

-- no move is left to go on to its first node
pub returns-then-moves-eq0-clause-ends : goal.returns-then-moves-eq0-clause-ends
returns-then-moves-eq0-clause-ends g c =
    let does = g.L.Spots.does in
    let b = c.args.bucket in
    let start = LoadingFirst (ToGet b 1) c.args.moves in
    let first = c.in-Some-name.first in (
      Answering MovesOut,
      reads_so does start (at (ToGet b 1) (Root b) (Some first) c.args.moves) (Answering MovesOut) c.args.spots.now
          c.first.new.self (sym (to_none b (Root b) first c.args.moves (omega (arith, c.if-moves-eq0.true))))
          (root_leads does b c.args.moves c.in-Some.ptr (Some first) c.args.spots.now c.first.new.self
          c.in-Some-name.is c.in-Some.ensures.some),
      refl,
    )

-- the walk goes on from there
pub returns-clause-ends : goal.returns-clause-ends
returns-clause-ends g c =
    let does = g.L.Spots.does in
    let b = c.args.bucket in
    let start = LoadingFirst (ToGet b 1) c.args.moves in
    let first = c.in-Some-name.first in
    let here = Reading (ToGet b 1) (Root b) first (c.args.moves - 1) in
    let ends = c.walk.ensures.ends in
    let leads =
    reads_so does start (at (ToGet b 1) (Root b) (Some first) c.args.moves) here c.args.spots.now c.first.new.self
    (sym (to_further b (Root b) first c.args.moves (c.args.moves - 1) (omega (arith, c.if-moves-eq0.false))))
    (root_leads does b c.args.moves c.in-Some.ptr (Some first) c.args.spots.now c.first.new.self c.in-Some-name.is
    c.in-Some.ensures.some) in (
      ends.0,
      reads_on does start here ends.0 c.args.spots.now c.first.new.self c.walk.new.spots leads ends.1,
      ends.2,
    )
