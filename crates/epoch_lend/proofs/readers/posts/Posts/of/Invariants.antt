use Rattle.std.proofs.Common.{vec_len}
use Rattle.epoch_lend.specs.Sets.{AreFirst}
use Rattle.epoch_lend.proofs.readers.posts.Posts.of.Given as goal

-- the rights that are left are those of the first posts
abbrev pub invariant-loop-unpinned : goal.invariant-loop-unpinned
invariant-loop-unpinned g l = AreFirst g.J.PostSet.posts l.rest.items

abbrev pub decreases-loop-unpinned : goal.decreases-loop-unpinned
decreases-loop-unpinned g l = vec_len l.rest
