use Rattle.std.proofs.Common.{ℕ, List, sym, subst}
use Rattle.epoch_lend.specs.Posts.{PostNames, IsAmong, logs_of}
use Rattle.epoch_lend.proofs.Standing.{stands_among}
use Rattle.epoch_lend.proofs.readers.reader.Pinned.repin.Goals as goal

pub invariant_of-result : goal.invariant_of-result
invariant_of-result g c =
    let ds : List PostNames = g.J.PostSet.posts in
    let old = c.args.self in
    let post : PostNames = old.post.now in
    let made = c.repin-pin.ensures in
    let Among : ℕ → Type 0 = λ η. IsAmong η (logs_of ds) in
    record {
      of_epoch = made.guard.1;
      within = c.requires;
      of_post = (made.pin.0, made.pin.1);
      all_here = (sym made.pin.2, made.guard.2);
      stands = old.stands;
      among = subst Among (sym made.guard.0) (stands_among ds old.position post old.stands);
    }
