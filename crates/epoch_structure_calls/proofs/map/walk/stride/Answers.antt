use Rattle.std.proofs.Common.{◌∙◌, ◌-◌, ℕ, Some, refl, sym, subst, arith}
use Rattle.epoch_laws.specs.declared.heap.access.Access.TheVariants.{Read, Point}
use Rattle.epoch_laws.specs.declared.heap.access.AccessAnswer.TheVariants.{Unit as Nothing, Value, Pointer, Absent}
use Rattle.epoch_laws.specs.declared.heap.access.Change.TheVariants.{Load}
use Rattle.epoch_laws.specs.declared.heap.access.Ptr.{Ptr}
use Rattle.epoch_laws.specs.declared.heap.access.Spot.TheVariants.{Field}
use Rattle.epoch_laws.specs.declared.step.Reply.TheVariants.{Done}
use Rattle.epoch_structure_laws.specs.Plans.{ptr_to, after_by}
use Rattle.epoch_structure_laws.specs.declared.map.plan.MapPhase.TheVariants.{Reading, LoadingNext}
use Rattle.epoch_structure_laws.specs.MapProgram.{map_deed_of}
use Rattle.epoch_structure_calls.proofs.Strides.{reads_one, reads_so, reads_to_next, strides_on, lower_key}
use Rattle.epoch_structure_calls.proofs.map.walk.stride.Goals as goal

-- the node can't be read
pub returns-in_default-clause-over : goal.returns-in_default-clause-over
returns-in_default-clause-over g c =
    let reading = Reading c.args.aim c.args.link c.args.node c.args.left in
    reads_so g.L.Spots.does reading (after_by reading (map_deed_of 0 reading) (Done Absent)) c.hear.result
    c.args.spots.now
    c.entry.new.self (c.hear.ensures 0)
    (reads_one g.L.Spots.does reading c.args.spots.now c.entry.new.self (Done Absent)
    (refl, c.in_default.ensures.none refl, tt))

-- the key is not lower, or no move is left: the node was read
pub returns-then-left-eq0-clause-over : goal.returns-then-left-eq0-clause-over
returns-then-left-eq0-clause-over g c =
    let entry = c.coded-entry.result in
    let read = subst (λ (v : ℕ). g.L.Spots.does c.args.spots.now (Read (Some 0) (ptr_to c.args.node)) (Done (Value v))
    c.entry.new.self) (sym c.coded-entry.ensures) c.in-Some.ensures.some in
    reads_one g.L.Spots.does (Reading c.args.aim c.args.link c.args.node c.args.left) c.args.spots.now c.entry.new.self
    (Done (Value entry)) (refl, read, tt)

-- the walk goes on to the next node
pub returns-in-Some-node_at-clause-on : goal.returns-in-Some-node_at-clause-on
returns-in-Some-node_at-clause-on g c =
    let entry = c.coded-entry.result in
    let read = subst (λ (v : ℕ). g.L.Spots.does c.args.spots.now (Read (Some 0) (ptr_to c.args.node)) (Done (Value v))
    c.entry.new.self) (sym c.coded-entry.ensures) c.in-Some.ensures.some in
    let lower =
    lower_key c.args.aim c.in-Some.order entry c.coded-entry.ensures c.requires
    (sym c.is_ge.ensures ∙ c.if-is_ge.false) in
    let loads = subst (λ (p : Ptr). g.L.Spots.does c.leave.new.self
    (Point (Some 0) (Field c.args.node 0) Load) (Done (Pointer p)) c.next.new.self) c.in-Some-node_at.ensures
    c.in-Some-next.ensures.some in
    strides_on g.L.Spots.does c.args.aim c.args.link c.args.node c.in-Some-node_at.next entry c.args.left
    (c.args.left - 1) c.args.spots.now c.entry.new.self c.leave.new.self c.next.new.self (Done Nothing)
    (omega (arith, c.if-left-eq0.false)) (refl, read, tt) (refl, c.leave.ensures, tt) lower (refl, loads, tt)

-- or has come to the load of its pointer, which can't be loaded
pub returns-in_default-next-clause-over : goal.returns-in_default-next-clause-over
returns-in_default-next-clause-over g c =
    let entry = c.coded-entry.result in
    let read = subst (λ (v : ℕ). g.L.Spots.does c.args.spots.now (Read (Some 0) (ptr_to c.args.node)) (Done (Value v))
    c.entry.new.self) (sym c.coded-entry.ensures) c.in-Some.ensures.some in
    let lower =
    lower_key c.args.aim c.in-Some.order entry c.coded-entry.ensures c.requires
    (sym c.is_ge.ensures ∙ c.if-is_ge.false) in
    let loading = LoadingNext c.args.aim c.args.link c.args.node entry c.args.left in
    reads_to_next g.L.Spots.does c.args.aim c.args.link c.args.node entry c.args.left c.args.spots.now
    c.entry.new.self c.leave.new.self c.next.new.self (Done Nothing) c.hear-in_default-next.result (refl, read, tt)
    (refl, c.leave.ensures, tt) lower
    (reads_so g.L.Spots.does loading (after_by loading (map_deed_of 0 loading) (Done Absent))
    c.hear-in_default-next.result c.leave.new.self c.next.new.self (c.hear-in_default-next.ensures 0)
    (reads_one g.L.Spots.does loading c.leave.new.self c.next.new.self (Done Absent) (
      refl,
      c.in_default-next.ensures.none refl,
      tt,
    )))

-- or has loaded it, and ends there
pub returns-in-None-clause-over : goal.returns-in-None-clause-over
returns-in-None-clause-over g c =
    let entry = c.coded-entry.result in
    let read = subst (λ (v : ℕ). g.L.Spots.does c.args.spots.now (Read (Some 0) (ptr_to c.args.node)) (Done (Value v))
    c.entry.new.self) (sym c.coded-entry.ensures) c.in-Some.ensures.some in
    let lower =
    lower_key c.args.aim c.in-Some.order entry c.coded-entry.ensures c.requires
    (sym c.is_ge.ensures ∙ c.if-is_ge.false) in
    let loading = LoadingNext c.args.aim c.args.link c.args.node entry c.args.left in
    reads_to_next g.L.Spots.does c.args.aim c.args.link c.args.node entry c.args.left c.args.spots.now
    c.entry.new.self c.leave.new.self c.next.new.self (Done Nothing) c.hear-in-None.result (refl, read, tt)
    (refl, c.leave.ensures, tt) lower
    (reads_so g.L.Spots.does loading (after_by loading (map_deed_of 0 loading) (Done (Pointer c.in-Some-next.ptr)))
    c.hear-in-None.result c.leave.new.self c.next.new.self (c.hear-in-None.ensures 0)
    (reads_one g.L.Spots.does loading c.leave.new.self c.next.new.self (Done (Pointer c.in-Some-next.ptr)) (
      refl,
      c.in-Some-next.ensures.some,
      tt,
    )))
