use Rattle.epoch_beside.proofs.replacing.run.Given as goal

-- the set has the posts that were made
abbrev pub ghosts-shelf_rounds : goal.ghosts-shelf_rounds
ghosts-shelf_rounds g a = record { posts = a.made.posts.items }
