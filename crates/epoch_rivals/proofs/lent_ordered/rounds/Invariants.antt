use Rattle.epoch_rivals.proofs.lent_ordered.rounds.Given as goal

-- the set has the posts that were made
abbrev pub ghosts-rounds_over : goal.ghosts-rounds_over
ghosts-rounds_over g a = record { posts = a.made.posts.items }
