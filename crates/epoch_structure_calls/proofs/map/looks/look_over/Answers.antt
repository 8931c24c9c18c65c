use Rattle.std.proofs.Common.{◌-◌, ◌≤◌, [], ◌∷◌, ◌++◌, refl, sym, subst, arith}
use Rattle.epoch_structure_laws.specs.declared.map.plan.Aim.TheVariants.{ToGet}
use Rattle.epoch_structure_laws.specs.declared.map.plan.MapAnswer.TheVariants.{Found, NotFound, MovesOut}
use Rattle.epoch_structure_laws.specs.declared.map.plan.MapPhase.TheVariants.{LoadingFirst}
use Rattle.epoch_structure_laws.specs.MapProgram.{again}
use Rattle.epoch_structure_calls.specs.MapCalls.{EndsAt, moves_after}
use Rattle.epoch_structure_calls.specs.declared.map.looks.Pass.{Pass}
use Rattle.epoch_structure_calls.proofs.Strides.{reads_so}
use Rattle.epoch_structure_calls.proofs.Looking.{passes_on, stops_at_mark, looks_so, looks_no_more}
use Rattle.epoch_structure_calls.proofs.map.looks.look_over.Goals as goal

-- it begins with all its moves
pub loop-left-init : goal.loop-left-init
loop-left-init g c = (([], c.args.moves, c.args.spots.now, (refl, refl), ([], (refl, refl))), omega arith)

-- a pass ends at the node of the key
pub returns-in-FoundIt-clause-looks : goal.returns-in-FoundIt-clause-looks
returns-in-FoundIt-clause-looks g c =
    let before = c.loop-left.invariant.0 in
    let ends = c.go_over.ensures.ends in
    let so = subst (λ (p : Pass). EndsAt c.args.bucket 1 p ends.0) c.in-FoundIt.is ends.2 in
    looks_so g.L.Spots.does c.args.bucket before.1 c.loop-left.left before.2 c.loop-left.spots before.4 before.0
    c.args.moves (c.loop-left.left - 1) (Found so.0) ends.0 c.args.spots.now c.go_over.new.spots before.3 (omega
    (arith, c.loop-left-test.true)) ends.1 so.1

-- or where the key is missing
pub returns-in-Missing-clause-looks : goal.returns-in-Missing-clause-looks
returns-in-Missing-clause-looks g c =
    let before = c.loop-left.invariant.0 in
    let ends = c.go_over.ensures.ends in
    let so = subst (λ (p : Pass). EndsAt c.args.bucket 1 p ends.0) c.in-Missing.is ends.2 in
    looks_so g.L.Spots.does c.args.bucket before.1 c.loop-left.left before.2 c.loop-left.spots before.4 before.0
    c.args.moves (c.loop-left.left - 1) NotFound ends.0 c.args.spots.now c.go_over.new.spots before.3 (omega (
      arith,
      c.loop-left-test.true,
    )) ends.1 so

-- or where no move is left
pub returns-in-Out-clause-looks : goal.returns-in-Out-clause-looks
returns-in-Out-clause-looks g c =
    let before = c.loop-left.invariant.0 in
    let ends = c.go_over.ensures.ends in
    let so = subst (λ (p : Pass). EndsAt c.args.bucket 1 p ends.0) c.in-Out.is ends.2 in
    looks_so g.L.Spots.does c.args.bucket before.1 c.loop-left.left before.2 c.loop-left.spots before.4 before.0
    c.args.moves (c.loop-left.left - 1) MovesOut ends.0 c.args.spots.now c.go_over.new.spots before.3 (omega (
      arith,
      c.loop-left-test.true,
    )) ends.1 so

-- a pass has stopped at a marked node
pub loop-left-preserved-in-AtMark : goal.loop-left-preserved-in-AtMark
loop-left-preserved-in-AtMark g c =
    let before = c.loop-left.invariant.0 in
    let ends = c.go_over.ensures.ends in
    let so = subst (λ (p : Pass). EndsAt c.args.bucket 1 p ends.0) c.in-AtMark.is ends.2 in (
      (
        before.0 ++ c.in-AtMark.rest ∷ [],
        c.in-AtMark.rest,
        c.go_over.new.spots,
        stops_at_mark g.L.Spots.does c.args.bucket before.1 c.loop-left.left before.2 c.loop-left.spots before.4
            before.0 c.args.moves (c.loop-left.left - 1) c.in-AtMark.rest ends.0 c.args.spots.now c.go_over.new.spots
            before.3 (omega (arith, c.loop-left-test.true)) ends.1 so,
        ([], (refl, refl)),
      ),
      omega (
        arith,
        subst (λ (p : Pass). moves_after p ≤ c.loop-left.left - 1) c.in-AtMark.is c.go_over.ensures.fewer,
        c.loop-left.invariant.1,
      ),
    )

-- or could not read something
pub loop-left-preserved : goal.loop-left-preserved
loop-left-preserved g c =
    let before = c.loop-left.invariant.0 in
    let ends = c.go_over.ensures.ends in
    let so = subst (λ (p : Pass). EndsAt c.args.bucket 1 p ends.0) c.in-Lost.is ends.2 in (
      (
        before.0,
        before.1,
        before.2,
        before.3,
        passes_on g.L.Spots.does c.args.bucket before.1 c.loop-left.left before.2 c.loop-left.spots before.4
            (c.loop-left.left - 1) (again (ToGet c.args.bucket 1) c.in-Lost.rest) c.go_over.new.spots (omega (
              arith,
              c.loop-left-test.true,
            ))
            (reads_so g.L.Spots.does (LoadingFirst (ToGet c.args.bucket 1) (c.loop-left.left - 1)) ends.0
            (again (ToGet c.args.bucket 1) c.in-Lost.rest) c.loop-left.spots c.go_over.new.spots (sym so) ends.1),
      ),
      omega (
        arith,
        subst (λ (p : Pass). moves_after p ≤ c.loop-left.left - 1) c.in-Lost.is c.go_over.ensures.fewer,
        c.loop-left.invariant.1,
      ),
    )

-- no move is left
pub returns-clause-looks : goal.returns-clause-looks
returns-clause-looks g c =
    let before = c.loop-left.invariant.0 in
    looks_no_more g.L.Spots.does c.args.bucket before.1 c.loop-left.left before.2 c.loop-left.spots before.4 before.0
    c.args.moves c.args.spots.now before.3 (omega (arith, c.loop-left-test.false))

-- each pass takes a move
pub loop-left-smaller-in-AtMark : goal.loop-left-smaller-in-AtMark
loop-left-smaller-in-AtMark g c =
    omega (
      arith,
      subst (λ (p : Pass). moves_after p ≤ c.loop-left.left - 1) c.in-AtMark.is c.go_over.ensures.fewer,
      c.loop-left-test.true,
    )

pub loop-left-smaller : goal.loop-left-smaller
loop-left-smaller g c =
    omega (
      arith,
      subst (λ (p : Pass). moves_after p ≤ c.loop-left.left - 1) c.in-Lost.is c.go_over.ensures.fewer,
      c.loop-left-test.true,
    )
