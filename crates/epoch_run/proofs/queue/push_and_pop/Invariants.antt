use Rattle.epoch_run.proofs.queue.push_and_pop.Given as goal

-- the set has the posts that were made
abbrev pub ghosts-run_over : goal.ghosts-run_over
ghosts-run_over g a = record { posts = a.made.posts.items }
