use Rattle.std.proofs.Common.{sym, subst}
use Rattle.epoch_lend.specs.Loans.{AreShown}
use Rattle.epoch_lend.specs.Bags.{EachWatched}
use Rattle.epoch_lend.proofs.Bagged.{last_watched}
use Rattle.epoch_lend_pointers.proofs.store.batch.ClearBatch.next_with_room.Goals as goal

-- the loans of the last removal are watched, as those of each are
pub take-requires-clause-watched : goal.take-requires-clause-watched
take-requires-clause-watched g c =
    let bag = c.args.self.now in
    (last_watched (λ r. r.marked.loans) c.pop.new.self.items c.in-Some.removal bag.watch.loans
    (subst (λ xs. EachWatched (λ r. r.marked.loans) xs bag.watch.loans) c.in-Some.ensures.items bag.watched)).1

-- the others' still are, by a watch that stays as it was
pub invariant_of-self : goal.invariant_of-self
invariant_of-self g c =
    let bag = c.args.self.now in
    let rest = (last_watched (λ r. r.marked.loans) c.pop.new.self.items c.in-Some.removal bag.watch.loans
    (subst (λ xs. EachWatched (λ r. r.marked.loans) xs bag.watch.loans) c.in-Some.ensures.items bag.watched)).0 in
    record {
      watched = subst (λ watch. EachWatched (λ r. r.marked.loans) c.pop.new.self.items watch.loans)
          (sym c.take.ensures.same) rest;
      shown = subst (λ watch. AreShown watch.seen watch.loans) (sym c.take.ensures.same) bag.shown;
    }
