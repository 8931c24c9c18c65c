use Rattle.std.proofs.Common.{◌≡◌, ℕ, List, ap, sym, ◌∙◌, subst, get_or}
use Rattle.std.specs.Prelude.{Some}
use Rattle.std.specs.List.{slice_get}
use Rattle.epoch_lend.specs.Posts.{PostNames, IsAmong, logs_of}
use Rattle.epoch_lend.proofs.Standing.{stands_read, stands_among}
use Rattle.epoch_lend.proofs.readers.reader.Reader.pin.Goals as goal

pub invariant_of-result : goal.invariant_of-result
invariant_of-result g c =
    let ds : List PostNames = g.J.PostSet.posts in
    let position : ℕ = c.args.self.right.position in
    let post : PostNames = c.index-as_slice-right.result in
    let read : post ≡ get_or ds position post = c.index-as_slice-right.is ∙ ap (λ (xs : List PostNames). get_or xs
    position post) c.as_slice.ensures in
    let right = c.args.self.right in
    let at : slice_get ds position ≡ Some post = stands_read ds position right.unpinned.log right.unpinned.state post
    right.stands read in
    let Among : ℕ → Type 0 = λ η. IsAmong η (logs_of ds) in
    record {
      of_epoch = c.pin-pin.ensures.guard.1;
      within = c.requires;
      of_post = (c.pin-pin.ensures.pin.0, c.pin-pin.ensures.pin.1);
      all_here = (sym c.pin-pin.ensures.pin.2, c.pin-pin.ensures.guard.2);
      stands = at;
      among = subst Among (sym c.pin-pin.ensures.guard.0) (stands_among ds position post at);
    }
