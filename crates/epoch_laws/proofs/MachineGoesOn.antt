-- A machine that is driven stays so until its call ends.
use Rattle.std.proofs.Common.{◌≡◌, ◌≢◌, ◌==◌, true, false, List, refl}
use Rattle.epoch_bags.specs.declared.queue.PutStep.{PutStep}
use Rattle.epoch_bags.specs.declared.queue.PutStep.TheVariants.{Again, Done as PutDone, Full}
use Rattle.epoch_bags.specs.declared.queue.TakeStep.{TakeStep}
use Rattle.epoch_bags.specs.declared.queue.TakeStep.TheVariants.{Empty, Got}
use Rattle.epoch_machine.specs.declared.machine.Answer.{Answer}
use Rattle.epoch_machine.specs.declared.machine.Answer.TheVariants.{Epoch, Word as WordFound, Stored, Job}
use Rattle.epoch_machine.specs.declared.machine.Stage.{Stage}
use Rattle.epoch_machine.specs.declared.machine.Stage.TheVariants.{LoadPin, StorePin, ReloadPin, LoadScan, Scan}
use Rattle.epoch_machine.specs.declared.machine.Stage.TheVariants.{Advance, Take, Calling, LoadSeal, Keep, LoadRepin}
use Rattle.epoch_machine.specs.declared.machine.Stage.TheVariants.{StoreRepin, ReloadRepin, StoreUnpinned, StoreFree}
use Rattle.epoch_machine.specs.declared.machine.Stage.TheVariants.{End}
use Rattle.epoch_machine.specs.Machine.{Machine, with_stage, hears, put_heard, took_heard, gives}
use Rattle.epoch_laws.specs.declared.step.Deferral.{Deferral}
use Rattle.epoch_machine.proofs.StagesAfter.{either_way}
use Rattle.epoch_machine.proofs.UnderWay.{IsOn, collect_on, pin_on, put_on, unpin_on, job_on, word_on}
use Rattle.epoch_laws.proofs.SeatChanges.{IsAnswered, Hears, HearsPut, HearsTake, GivesJob}
use Rattle.epoch_laws.proofs.SeatLinks.{rests}

-- what stays of a machine until its call ends
pub record GoesOn (m n : Machine Deferral) : Type 0 where
  pub sized : n.sizes ≡ m.sizes
  pub counted : n.guards ≡ m.guards
  pub action : n.action ≡ m.action
  pub under_way : rests n.stage ≡ false

going_on : (m : Machine Deferral) (t : Stage) → rests t ≡ false → GoesOn m (with_stage m t)
going_on m t on = record { sized = refl; counted = refl; action = refl; under_way = on }

put_goes_on : (m : Machine Deferral) (put : PutStep) → rests m.stage ≡ false → GoesOn m (put_heard m put)
put_goes_on m Again on = record { sized = refl; counted = refl; action = refl; under_way = on }
put_goes_on m PutDone on = record { sized = refl; counted = refl; action = refl; under_way = put_on m.action false }
put_goes_on m Full on = record { sized = refl; counted = refl; action = refl; under_way = put_on m.action true }

take_goes_on : (m : Machine Deferral) (s : Stage) (take : TakeStep) (jobs : List Deferral) → rests m.stage ≡ false
    → GoesOn m (took_heard m s take jobs)
take_goes_on m (Take x k) Empty jobs on = going_on m _ (collect_on m.action m.held)
take_goes_on m (Take x k) Got jobs on =
    record { sized = refl; counted = refl; action = refl; under_way = job_on m x k jobs }
take_goes_on m _ _ jobs on = record { sized = refl; counted = refl; action = refl; under_way = on }

give_goes_on : (m : Machine Deferral) (s : Stage) (jobs : List Deferral) → rests m.stage ≡ false
    → GoesOn m (gives m s jobs)
give_goes_on m (Calling x k) jobs on =
    record { sized = refl; counted = refl; action = refl; under_way = job_on m x k jobs }
give_goes_on m _ jobs on = record { sized = refl; counted = refl; action = refl; under_way = on }

hear_goes_on : (m : Machine Deferral) (s : Stage) (a : Answer Deferral) → rests m.stage ≡ false → s ≢ StoreFree
    → GoesOn m (hears m s a)
hear_goes_on m LoadPin (Epoch e) on kept = going_on m _ refl
hear_goes_on m ReloadPin (Epoch e) on kept = going_on m _ (pin_on m)
hear_goes_on m LoadScan (Epoch e) on kept = going_on m _ refl
hear_goes_on m LoadSeal (Epoch e) on kept = going_on m _ refl
hear_goes_on m LoadRepin (Epoch e) on kept =
    going_on m _ (either_way IsOn (m.published == e) End (StoreRepin e) refl refl)
hear_goes_on m ReloadRepin (Epoch e) on kept = going_on m _ refl
hear_goes_on m (Scan e k) (WordFound w) on kept = going_on m _ (word_on m.sizes.positions e k w)
hear_goes_on m (StorePin e) Stored on kept =
    record { sized = refl; counted = refl; action = refl; under_way = refl }
hear_goes_on m (StoreRepin e) Stored on kept =
    record { sized = refl; counted = refl; action = refl; under_way = refl }
hear_goes_on m (Advance e) Stored on kept = going_on m _ refl
hear_goes_on m StoreUnpinned Stored on kept = going_on m _ (unpin_on m.action m.full)
hear_goes_on m StoreFree Stored on kept = absurd (kept refl)
hear_goes_on m Keep (Job job) on kept = record { sized = refl; counted = refl; action = refl; under_way = refl }
hear_goes_on m _ _ on kept = record { sized = refl; counted = refl; action = refl; under_way = on }

-- whatever it is answered, unless it gives its position up
pub answer_goes_on : (m : Machine Deferral) (s : Stage) (n : Machine Deferral) → rests m.stage ≡ false → s ≢ StoreFree
    → IsAnswered m s n → GoesOn m n
answer_goes_on m s _ on kept (Hears a) = hear_goes_on m s a on kept
answer_goes_on m s _ on kept (HearsPut put) = put_goes_on m put on
answer_goes_on m s _ on kept (HearsTake take jobs) = take_goes_on m s take jobs on
answer_goes_on m s _ on kept (GivesJob jobs) = give_goes_on m s jobs on
