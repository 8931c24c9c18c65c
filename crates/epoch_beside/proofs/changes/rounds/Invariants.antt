use Rattle.epoch_beside.proofs.changes.rounds.Given as goal

-- the set has the posts that were made
abbrev pub ghosts-pointer_rounds : goal.ghosts-pointer_rounds
ghosts-pointer_rounds g a = record { posts = a.made.posts.items }

abbrev pub ghosts-stack_rounds : goal.ghosts-stack_rounds
ghosts-stack_rounds g a = record { posts = a.made.posts.items }

abbrev pub ghosts-queue_rounds : goal.ghosts-queue_rounds
ghosts-queue_rounds g a = record { posts = a.made.posts.items }
