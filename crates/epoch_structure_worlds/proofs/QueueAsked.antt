-- Each call of a queue that a world begins is asked for by a participant that is ready.
use Rattle.std.proofs.Common.{ℕ, List, false}
use Rattle.epoch_structure_worlds.specs.PlanWorlds.{events_of, plans_in}
use Rattle.epoch_structure_laws.specs.Plans.{IsFlush}
use Rattle.epoch_structure_laws.specs.declared.queue.plan.QueueWork.{QueueWork}
use Rattle.epoch_structure_laws.specs.QueueProgram.{begin_queue_work, queue_deed_of, QueueStarts}
use Rattle.epoch_structure_laws.specs.QueueReplies.{AllQueueAsksReady}
use Rattle.epoch_structure_worlds.specs.Queues.{GoesByQueue, QueueEntry, QueueState, queue_run}
use Rattle.epoch_structure_worlds.proofs.AskedReady.{asks_ready}

-- a call begins with a flush where the held bag has no room
flushes : (g : ℕ) (work : QueueWork) → IsFlush (queue_deed_of g (begin_queue_work work false))
flushes g work = tt

-- in each run of a queue in a world every call is asked for by a participant that is ready, and begins with a flush
-- or has room in the held bag
pub queue_asks_ready : (old : QueueState) (log : List QueueEntry) (new : QueueState) (run : GoesByQueue old log new)
    → AllQueueAsksReady old.world (plans_in old.plans) (events_of log) new.world (plans_in new.plans)
    (queue_run old log new run)
queue_asks_ready old log new run =
    asks_ready queue_deed_of QueueStarts begin_queue_work flushes old.world (plans_in old.plans) log
    new.world (plans_in new.plans) run
