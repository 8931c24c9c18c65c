use Rattle.std.proofs.Common.{◌≡◌, ◌∙◌, false, true, ap, refl}
use Rattle.epoch_laws.specs.Heap.{null}
use Rattle.epoch_laws.specs.declared.heap.access.AccessAnswer.TheVariants.{Pointer, Absent}
use Rattle.epoch_laws.specs.declared.heap.access.Spot.TheVariants.{Root, Field}
use Rattle.epoch_structure_laws.specs.declared.queue.plan.QueuePhase.TheVariants.{LoadingTail, LoadingLast, Appending}
use Rattle.epoch_structure_laws.specs.declared.queue.plan.QueuePhase.TheVariants.{Swinging, Helping, Answering}
use Rattle.epoch_structure_laws.specs.declared.queue.plan.QueueAnswer.TheVariants.{Pushed}
use Rattle.epoch_structure_laws.specs.QueueProgram.{retry_push, to_last, to_append}
use Rattle.epoch_structure_calls.proofs.QueueNextPhases.{appends, loses_push}
use Rattle.epoch_structure_calls.proofs.Touched.{touches_once}
use Rattle.epoch_structure_laws.specs.QueueProgram.{queue_deed_of}
use Rattle.epoch_structure_calls.proofs.QueueTries.{touches_next, exchanges_for, exchanges_nodes, finds_last, finds_end}
use Rattle.epoch_structure_calls.proofs.queue.tries.appended_once.Goals as goal

-- the tail can't be loaded
pub returns-in_default-clause-lost : goal.returns-in_default-clause-lost
returns-in_default-clause-lost g c lost tries =
    touches_once g.L.Spots.does (queue_deed_of 0) (LoadingTail c.args.node tries) (retry_push c.args.node tries) Absent
    c.args.spots.now
    c.load_root.new.self c.in_default.ensures refl

-- it leads to no node
pub returns-in_default-name-clause-lost : goal.returns-in_default-name-clause-lost
returns-in_default-name-clause-lost g c lost tries =
    touches_once g.L.Spots.does (queue_deed_of 0) (LoadingTail c.args.node tries) (retry_push c.args.node tries)
    (Pointer c.in-Some.tail)
    c.args.spots.now c.load_root.new.self c.in-Some.ensures (ap (to_last c.args.node tries) c.in_default-name.is)

-- the pointer in the node that it leads to can't be loaded
pub returns-in_default-load_next-clause-lost : goal.returns-in_default-load_next-clause-lost
returns-in_default-load_next-clause-lost g c lost tries =
    let last = c.in-Some-name.last in
    let at_last =
    finds_last g.L.Spots.does c.args.node last tries c.in-Some.tail c.args.spots.now c.load_root.new.self
    c.in-Some.ensures c.in-Some-name.is in
    touches_next g.L.Spots.does (LoadingTail c.args.node tries) (LoadingLast c.args.node last tries)
    (retry_push c.args.node tries) Absent c.args.spots.now c.load_root.new.self c.load_next.new.self at_last
    c.in_default-load_next.ensures refl

-- another node is there already
pub returns-in-Some-name-2-clause-lost : goal.returns-in-Some-name-2-clause-lost
returns-in-Some-name-2-clause-lost g c lost tries =
    let last = c.in-Some-name.last in
    let next = c.in-Some-name-2.next in
    let at_last =
    finds_last g.L.Spots.does c.args.node last tries c.in-Some.tail c.args.spots.now c.load_root.new.self
    c.in-Some.ensures c.in-Some-name.is in
    let helps =
    touches_next g.L.Spots.does (LoadingTail c.args.node tries) (LoadingLast c.args.node last tries)
    (Helping c.args.node last next tries) (Pointer c.in-Some-load_next.behind) c.args.spots.now c.load_root.new.self
    c.load_next.new.self at_last c.in-Some-load_next.ensures
    (ap (to_append c.args.node last tries) c.in-Some-name-2.is) in
    let exchanged =
    exchanges_nodes g.L.Spots.does (Root 1) c.ptr_to.result c.ptr_to-in-Some-name-2.result last next
    c.exchange_root.result
    c.load_next.new.self c.exchange_root.new.self c.ptr_to.ensures c.ptr_to-in-Some-name-2.ensures
    c.exchange_root.ensures in
    touches_next g.L.Spots.does (LoadingTail c.args.node tries) (Helping c.args.node last next tries)
    (retry_push c.args.node tries) exchanged.0 c.args.spots.now c.load_next.new.self c.exchange_root.new.self helps
    exchanged.2 refl

-- another participant was faster
pub returns-then-not-exchange_next-clause-lost : goal.returns-then-not-exchange_next-clause-lost
returns-then-not-exchange_next-clause-lost g c lost tries =
    let last = c.in-Some-name.last in
    let at_last =
    finds_last g.L.Spots.does c.args.node last tries c.in-Some.tail c.args.spots.now c.load_root.new.self
    c.in-Some.ensures c.in-Some-name.is in
    let at_end =
    finds_end g.L.Spots.does c.args.node last tries c.in-Some-load_next.behind c.args.spots.now
    c.load_root.new.self c.load_next.new.self at_last c.in-Some-load_next.ensures c.in_default-name-2.is in
    let exchanged =
    exchanges_for g.L.Spots.does (Field last 0) null c.ptr_to-2.result c.args.node c.exchange_next.result
    c.load_next.new.self c.exchange_next.new.self c.ptr_to-2.ensures c.exchange_next.ensures in
    let told : c.exchange_next.result ≡ false = cc in
    touches_next g.L.Spots.does (LoadingTail c.args.node tries) (Appending c.args.node last tries)
    (retry_push c.args.node tries) exchanged.0 c.args.spots.now c.load_next.new.self c.exchange_next.new.self at_end
    exchanged.2 (loses_push c.args.node last tries exchanged.0 (exchanged.1 ∙ told))

-- the node was appended, and the tail is moved on
pub returns-clause-pushed : goal.returns-clause-pushed
returns-clause-pushed g c pushed tries =
    let last = c.in-Some-name.last in
    let at_last =
    finds_last g.L.Spots.does c.args.node last tries c.in-Some.tail c.args.spots.now c.load_root.new.self
    c.in-Some.ensures c.in-Some-name.is in
    let at_end =
    finds_end g.L.Spots.does c.args.node last tries c.in-Some-load_next.behind c.args.spots.now
    c.load_root.new.self c.load_next.new.self at_last c.in-Some-load_next.ensures c.in_default-name-2.is in
    let exchanged =
    exchanges_for g.L.Spots.does (Field last 0) null c.ptr_to-2.result c.args.node c.exchange_next.result
    c.load_next.new.self c.exchange_next.new.self c.ptr_to-2.ensures c.exchange_next.ensures in
    let told : c.exchange_next.result ≡ true = cc in
    let swings =
    touches_next g.L.Spots.does (LoadingTail c.args.node tries) (Appending c.args.node last tries)
    (Swinging last c.args.node) exchanged.0 c.args.spots.now c.load_next.new.self c.exchange_next.new.self at_end
    exchanged.2 (appends c.args.node last tries exchanged.0 (exchanged.1 ∙ told)) in
    let moved =
    exchanges_nodes g.L.Spots.does (Root 1) c.ptr_to-3.result c.ptr_to-4.result last c.args.node
    c.exchange_root-2.result
    c.exchange_next.new.self c.exchange_root-2.new.self c.ptr_to-3.ensures c.ptr_to-4.ensures c.exchange_root-2.ensures
    in
    touches_next g.L.Spots.does (LoadingTail c.args.node tries) (Swinging last c.args.node) (Answering Pushed) moved.0
    c.args.spots.now c.exchange_next.new.self c.exchange_root-2.new.self swings moved.2 refl
