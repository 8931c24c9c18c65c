use Rattle.std.proofs.Common.{length}
use Rattle.epoch_bags.proofs.queue.collection.drop_jobs.Given as goal

abbrev pub decreases-loop : goal.decreases-loop
decreases-loop g l = length l.bag.jobs
