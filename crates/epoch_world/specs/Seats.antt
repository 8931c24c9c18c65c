-- One participant's part of a step: what its seat is after it, and what participants have in common.
use Rattle.std.specs.Prelude.{◌≡◌, ℕ, ◌+◌, ◌^◌, ◌<◌, List, ◌∷◌, Some, Bool, true, false, is_some, length}
use Rattle.epoch_bags.specs.declared.queue.PutStep.{PutStep}
use Rattle.epoch_bags.specs.declared.queue.TakeStep.{TakeStep}
use Rattle.epoch_machine.specs.declared.machine.Sizes.{Sizes}
use Rattle.epoch_machine.specs.declared.machine.Stage.{Stage}
use Rattle.epoch_machine.specs.declared.machine.Ask.{Ask}
use Rattle.epoch_machine.specs.declared.machine.Ask.TheVariants.{LoadEpoch, LoadWord, StorePinned, StoreRepinned}
use Rattle.epoch_machine.specs.declared.machine.Ask.TheVariants.{StoreUnpinned, StoreFree, StoreEpoch, PutBag, TakeBag}
use Rattle.epoch_machine.specs.declared.machine.Ask.TheVariants.{KeepJob, CallJob}
use Rattle.epoch_machine.specs.declared.machine.Answer.TheVariants.{Epoch, Word as WordFound, Stored, Job}
use Rattle.epoch_machine.specs.Machine.{hears, put_heard, took_heard, gives, PutsHeld, TakesHand}
use Rattle.epoch_laws.specs.declared.step.Call.{Call}
use Rattle.epoch_laws.specs.declared.step.Call.TheVariants.{Pin, Resume}
use Rattle.epoch_laws.specs.declared.step.Reply.{Reply}
use Rattle.epoch_laws.specs.declared.step.Reply.TheVariants.{Stepped, Pinned as PinnedReply, Unpinned as UnpinnedReply}
use Rattle.epoch_laws.specs.declared.step.Reply.TheVariants.{Repinned, Deferred, Called as CalledReply, Done}
use Rattle.epoch_laws.specs.declared.step.Deferral.{Deferral}
use Rattle.epoch_laws.specs.declared.step.Word.{Word}
use Rattle.epoch_laws.specs.declared.step.Word.TheVariants.{Unpinned, Pinned}
use Rattle.epoch_world.specs.declared.world.common.Common.{Common}
use Rattle.epoch_laws.specs.Run.{Bag, WorldSeat, free_seat, with_machine, with_word, removed_by}
use Rattle.epoch_cells.specs.declared.cells.name.Name.{Name}
use Rattle.epoch_laws.specs.declared.heap.access.Access.{Access}
use Rattle.epoch_laws.specs.declared.heap.access.Access.TheVariants.{Read}
use Rattle.epoch_laws.specs.declared.heap.access.Accessed.{Accessed}
use Rattle.epoch_laws.specs.declared.heap.access.Accessed.TheVariants.{Answers}
use Rattle.epoch_laws.specs.declared.heap.access.AccessAnswer.TheVariants.{Released, Value}
use Rattle.epoch_laws.specs.declared.step.Progress.{Progress}
use Rattle.epoch_laws.specs.declared.step.Progress.TheVariants.{Accesses}
use Rattle.epoch_laws.specs.Heap.{Heap, cell_at, outcome_of, heap_after_job, AccessFits}

-- What comes of one ask of the participant p: the reply, its seat and what participants have in common after it. The
-- word is the one that a scan looks at.
abbrev pub SeatPerforms : Sizes → ℕ → ℕ → Common (List Bag) → WorldSeat → Stage → Ask → Reply → WorldSeat
    → Common (List Bag) → Type 0
SeatPerforms sizes p word old seat s LoadEpoch reply after new =
    (reply ≡ Stepped) × (after ≡ with_machine seat (hears seat.machine s (Epoch old.epoch))) × (new ≡ old)
SeatPerforms sizes p word old seat s (LoadWord k) reply after new =
    (reply ≡ Stepped) × (after ≡ with_machine seat (hears seat.machine s (WordFound word))) × (new ≡ old)
SeatPerforms sizes p word old seat s (StorePinned e) reply after new =
    (reply ≡ PinnedReply p) × (after ≡ with_word seat (Pinned e) (hears seat.machine s Stored)) × (new ≡ old)
SeatPerforms sizes p word old seat s (StoreRepinned e) reply after new =
    (reply ≡ Repinned p) × (after ≡ with_word seat (Pinned e) (hears seat.machine s Stored)) × (new ≡ old)
SeatPerforms sizes p word old seat s StoreUnpinned reply after new =
    (reply ≡ UnpinnedReply p) × (after ≡ with_word seat Unpinned (hears seat.machine s Stored)) × (new ≡ old)
SeatPerforms sizes p word old seat s StoreFree reply after new =
    (reply ≡ Done Released) × (after ≡ free_seat sizes) × (new ≡ old)
SeatPerforms sizes p word old seat s (StoreEpoch e) reply after new =
    (reply ≡ Stepped) × (after ≡ with_machine seat (hears seat.machine s Stored)) × (new ≡ record old { epoch = e })
SeatPerforms sizes p word old seat s (PutBag seal) reply after new =
    (step : PutStep) × (reply ≡ Stepped) × PutsHeld seal seat.machine old.store step new.store
    × (after ≡ with_machine seat (put_heard seat.machine step)) × (new ≡ record old { store = new.store })
SeatPerforms sizes p word old seat s (TakeBag x) reply after new =
    (step : TakeStep) × (reply ≡ Stepped) × TakesHand x old.store step new.store after.machine.hand
    × (after ≡ with_machine seat (took_heard seat.machine s step after.machine.hand))
    × (new ≡ record old { store = new.store })
SeatPerforms sizes p word old seat s KeepJob reply after new =
    (reply ≡ Deferred old.tickets) × (after ≡ with_machine seat
    (hears seat.machine s (Job (record { ticket = old.tickets; removes = removed_by seat.progress }))))
    × (new ≡ record old { tickets = old.tickets + 1 })
SeatPerforms sizes p word old seat s CallJob reply after new = (job : Deferral) × (jobs : List Deferral)
    × (seat.machine.hand ≡ job ∷ jobs) × (reply ≡ CalledReply job.ticket (outcome_of old.heap job.removes))
    × (after ≡ with_machine seat (gives seat.machine s jobs))
    × (new ≡ record old { heap = heap_after_job old.heap job.removes })

-- the number that a word stands for fits
abbrev pub WordFits : Word → Type 0
WordFits (Pinned e) = e < 2 ^ 63
WordFits _ = Unit {0}

-- at its end the call counts one guard more
abbrev pub adds_guard : Call → Bool
adds_guard Pin = true
adds_guard (Resume (Some g)) = true
adds_guard _ = false

abbrev pub ProgressFits : Progress → Type 0
ProgressFits (Accesses a k found) = AccessFits a k
ProgressFits _ = Unit {0}

-- the list of readings has room where a step reads a cell that is there
abbrev pub CanRead : Access → List Name → Heap → Type 0
CanRead (Read g ptr) readings h = (n : Name) → ptr.name ≡ Some n → is_some (cell_at h n) ≡ true → length readings < 4096
CanRead _ readings h = Unit {0}

-- and where it did so
abbrev pub HasRead : Access → Accessed → List Name → Type 0
HasRead (Read g ptr) (Answers (Value v)) readings = length readings < 4096
HasRead _ told readings = Unit {0}
