use Rattle.std.proofs.Common.{◌≡◌, List, ◌++◌, ap, sym, subst, ◌∙◌, true}
use Rattle.epoch_lend.specs.Posts.{logs_of}
use Rattle.epoch_lend.specs.Loans.{Loan, Within}
use Rattle.epoch_lend.specs.Bags.{EachWatched}
use Rattle.epoch_lend.proofs.Bagged.{either_way, within_more}
use Rattle.epoch_lend_pointers.proofs.store.batch.Batch.push.Goals as goal

-- the loans of the removal are watched, too
pub invariant_of-self : goal.invariant_of-self
invariant_of-self g c =
    let bag = c.args.self.now in
    let old : List Loan = bag.watch.loans in
    let pushed = c.watched-removal.result in
    let items = c.push_reserved.new.self.items in
    let grown : c.watched-removal.new.watch.loans ≡ pushed.marked.loans ++ old =
    c.watched-removal.ensures.watched.0 ∙ ap (λ m. m.loans ++ old) (sym c.watched-removal.ensures.same.0) in
    record {
      watched = subst (λ ls. EachWatched (λ r. r.marked.loans) items ls) (sym grown)
          (subst (λ xs. EachWatched (λ r. r.marked.loans) xs (pushed.marked.loans ++ old))
          (sym c.push_reserved.ensures.items)
          (either_way (λ r. r.marked.loans) true bag.removals.items pushed old bag.watched));
      lent = subst (Within (logs_of g.J.PostSet.posts)) (sym c.watched-removal.ensures.watched.0)
          (within_more (logs_of g.J.PostSet.posts) c.args.removal.marked.loans old c.args.removal.lent bag.lent);
      fresh = c.watched-removal.ensures.watched.1;
    }
