use Rattle.std.proofs.Common.{◌≡◌, map}
use Rattle.epoch_lend.specs.Sets.{names_of}
use Rattle.epoch_lend.proofs.readers.posts.Made.new.Given as goal

abbrev pub invariant-loop : goal.invariant-loop
invariant-loop l = map names_of l.rights.items ≡ l.posts.items
