-- What a run has to be for the law of rounds to say that its rounds call every job in the store.
use Rattle.std.specs.Prelude.{◌≡◌, ℕ, suc, ◌+◌, ◌^◌, ◌≤◌, List, ◌++◌, length}
use Rattle.epoch_laws.specs.declared.heap.access.AccessAnswer.TheVariants.{Unit as UnitAnswer}
use Rattle.epoch_laws.specs.declared.step.Entry.{Entry}
use Rattle.epoch_laws.specs.declared.step.Reply.TheVariants.{Done}
use Rattle.epoch_laws.specs.Run.{State, Runs, IsFresh}
use Rattle.epoch_laws.specs.Tickets.{times_queued}
use Rattle.epoch_laws.specs.Rounds.{IsQuiet, IsRound, IsFirstRound, AreRounds, collections}

-- From a new world a run leads to a state s, in which p is registered, unpinned and without a call, nobody else is
-- pinned, and three more epochs are left. From there p makes a round whose Flush isn't refused, and that has put its
-- bag when the scan begins; then the job of ticket 0 is in a bag of the store. As many rounds follow as these bags
-- take.
pub record MeetsRounds (fresh s put new : State) (p : ℕ) (earlier before after others : List Entry) : Type 0 where
  pub is_fresh : IsFresh fresh
  pub leads : Runs fresh earlier s
  pub quiet : IsQuiet p s
  pub epochs : s.epoch + 4 ≤ 2 ^ 63
  pub round : IsRound p (before ++ after)
  pub done : round.flushed ≡ Done UnitAnswer
  pub first : IsFirstRound p before put after
  pub reaches : Runs s before put
  pub job : times_queued 0 put.queued ≡ 1
  pub rounds : AreRounds p (suc (collections (length put.queued) put.sizes.collect_bags)) others
  pub goes_on : Runs put (after ++ others) new
