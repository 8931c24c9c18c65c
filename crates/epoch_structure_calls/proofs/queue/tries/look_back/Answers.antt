use Rattle.std.proofs.Common.{◌∙◌, refl, sym}
use Rattle.epoch_laws.specs.declared.heap.access.Spot.TheVariants.{Root}
use Rattle.epoch_structure_calls.specs.Linking.{loaded}
use Rattle.epoch_structure_laws.specs.declared.queue.plan.QueuePhase.TheVariants.{LookingBack, Advancing, Removing}
use Rattle.epoch_structure_calls.proofs.QueueNextPhases.{goes_on_from, leaves_tail}
use Rattle.epoch_structure_calls.proofs.Touched.{touches_once}
use Rattle.epoch_structure_laws.specs.QueueProgram.{queue_deed_of}
use Rattle.epoch_structure_calls.proofs.QueueTries.{touches_next, exchanges_nodes}
use Rattle.epoch_structure_calls.proofs.queue.tries.look_back.Goals as goal

-- the tail may lead to the node that was taken off, and is moved on
pub returns-then-leads_on : goal.returns-then-leads_on
returns-then-leads_on g c =
    let head = c.args.head in
    let next = c.args.next in
    let value = c.args.value in
    let looked =
    touches_once g.L.Spots.does (queue_deed_of 0) (LookingBack head next value) (Advancing head next value)
    (loaded c.load_root.result)
    c.args.spots.now c.load_root.new.self c.load_root.ensures
    (goes_on_from head next value c.load_root.result (sym c.leads_on.ensures ∙ c.if-leads_on.true)) in
    let moved =
    exchanges_nodes g.L.Spots.does (Root 1) c.ptr_to.result c.ptr_to-then-leads_on.result head next
    c.exchange_root.result
    c.load_root.new.self c.exchange_root.new.self c.ptr_to.ensures c.ptr_to-then-leads_on.ensures
    c.exchange_root.ensures in
    touches_next g.L.Spots.does (LookingBack head next value) (Advancing head next value) (Removing head value) moved.0
    c.args.spots.now c.load_root.new.self c.exchange_root.new.self looked moved.2 refl

-- it leads elsewhere
pub returns-else-leads_on : goal.returns-else-leads_on
returns-else-leads_on g c =
    touches_once g.L.Spots.does (queue_deed_of 0) (LookingBack c.args.head c.args.next c.args.value)
    (Removing c.args.head c.args.value)
    (loaded c.load_root.result) c.args.spots.now c.load_root.new.self c.load_root.ensures
    (leaves_tail c.args.head c.args.next c.args.value c.load_root.result
    (sym c.leads_on.ensures ∙ c.if-leads_on.false))
