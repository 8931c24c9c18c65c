use Rattle.epoch_rivals.proofs.growth.grow.Given as goal

-- the set has the posts that were made
abbrev pub ghosts-grow_over : goal.ghosts-grow_over
ghosts-grow_over g a = record { posts = a.made.posts.items }
