-- A push or a pop with no step of others in its midst never loses each of its tries.
use Rattle.std.proofs.Common.{ℕ, Bool, true, false, [], ◌∷◌, refl}
use Rattle.epoch_laws.specs.Heap.{Heap}
use Rattle.epoch_laws.specs.Run.{State}
use Rattle.epoch_structure_laws.specs.Alone.{AllOwn as AllOwnOf, NeverOut as NeverOutOf}
use Rattle.epoch_structure_laws.proofs.AloneRuns.{asked_lone, runs_lone}
use Rattle.epoch_structure_laws.proofs.RunsServed.{keeps_none, runs_served}
use Rattle.epoch_structure_laws.specs.Plans.{AllPlans, Asked, Declined, Answered, Makes}
use Rattle.epoch_structure_laws.specs.declared.queue.plan.QueuePhase.{QueuePhase}
use Rattle.epoch_structure_laws.specs.declared.queue.plan.QueueWork.{QueueWork}
use Rattle.epoch_structure_laws.specs.QueueProgram.{begin_queue_work, queue, QueueStarts, QueueLog, QueueRuns}
use Rattle.epoch_structure_laws.proofs.QueueKept.{structure}
use Rattle.epoch_structure_laws.proofs.QueueTouches.{queue_obeys}
use Rattle.epoch_structure_laws.specs.QueueReplies.{IsUsualQueue, AllQueueAsksReady}
use Rattle.epoch_structure_laws.specs.QueueAlone.{AllOwn, HasTries, IsBuilt, IsQueueCallOut, NeverOut}
use Rattle.epoch_structure_laws.proofs.QueueLonePhases.{HasEnds, Lone, has_ends, lone_duties, lone_start}
use Rattle.epoch_structure_laws.proofs.QueueServes.{knowledge, new_keeps, queue_serves}
use Rattle.epoch_laws.specs.Reach.{no_past}

-- the phase in which a call begins
first_lone : (h : Heap) (work : QueueWork) (has_room : Bool) → HasEnds h → HasTries work
    → Lone h (begin_queue_work work has_room)
first_lone h work true ends tries = lone_start h work (ends, tries)
first_lone h work false ends tries = (ends, tries)

-- THE STEPS OF ONE PARTICIPANT, OF A QUEUE AND OF ANY PROGRAM

own_of : (p : ℕ) (steps : QueueLog) → AllOwn p steps → AllOwnOf p steps
own_of p [] own = tt
own_of p (Makes x ∷ steps) own = (own.0, own_of p steps own.1)
own_of p (Answered q answer ∷ steps) own = (own.0, own_of p steps own.1)
own_of p (Asked q g phase ∷ steps) own = absurd own.0
own_of p (Declined q fault ∷ steps) own = absurd own.0

never_out : (steps : QueueLog) → NeverOutOf IsQueueCallOut steps → NeverOut steps
never_out [] never = tt
never_out (Makes x ∷ steps) never = (never.0, never_out steps never.1)
never_out (Answered q answer ∷ steps) never = (never.0, never_out steps never.1)
never_out (Asked q g phase ∷ steps) never = (never.0, never_out steps never.1)
never_out (Declined q fault ∷ steps) never = (never.0, never_out steps never.1)

-- WHOLE RUNS

pub no_lone_queue_call_runs_out_of_tries : (world world' world'' : State) (plans plans' plans'' : AllPlans QueuePhase)
    (earlier steps : QueueLog) (p g : ℕ) (work : QueueWork) (has_room : Bool) → IsUsualQueue world plans
    → (run : QueueRuns world plans earlier world' plans') → AllQueueAsksReady world plans earlier world' plans' run
    → IsBuilt world' → HasTries work
    → (lone : QueueRuns world' plans' (Asked p g (begin_queue_work work has_room) ∷ steps) world'' plans'')
    → AllQueueAsksReady world' plans' (Asked p g (begin_queue_work work has_room) ∷ steps) world'' plans'' lone
    → AllOwn p steps
    → NeverOut steps
no_lone_queue_call_runs_out_of_tries world world' world'' plans plans' plans'' earlier steps p g work has_room usual run
    ready
    (t, tail) tries lone able own =
    let ends =
    (runs_served queue structure QueueStarts queue_obeys knowledge queue_serves no_past world plans earlier world'
    plans' [] (new_keeps world plans usual) run ready).1 in
    let known = first_lone world'.heap work has_room
    (has_ends world'.heap ends.keeps.sound.ghost ends.keeps.sound.shape.form t tail) tries in
    never_out steps
    (runs_lone queue structure QueueStarts queue_obeys knowledge queue_serves Lone IsQueueCallOut lone_duties p
    ends.past world'
    lone.0 steps world'' plans'' ends.log
    (keeps_none queue structure QueueStarts queue_obeys knowledge queue_serves ends.past world' plans' lone.0 ends.log
    ends.keeps (Asked p g (begin_queue_work work has_room)) refl able.0 lone.1) lone.2 able.1 (own_of p steps own)
    (asked_lone queue structure QueueStarts queue_obeys knowledge queue_serves Lone IsQueueCallOut lone_duties world'
    plans' lone.0 p
    g (begin_queue_work work has_room) known lone.1))
