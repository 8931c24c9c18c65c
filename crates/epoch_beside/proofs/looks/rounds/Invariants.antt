use Rattle.epoch_beside.proofs.looks.rounds.Given as goal

-- the set has the posts that were made
abbrev pub ghosts-cell_rounds : goal.ghosts-cell_rounds
ghosts-cell_rounds g a = record { posts = a.made.posts.items }

abbrev pub ghosts-list_rounds : goal.ghosts-list_rounds
ghosts-list_rounds g a = record { posts = a.made.posts.items }

abbrev pub ghosts-map_rounds : goal.ghosts-map_rounds
ghosts-map_rounds g a = record { posts = a.made.posts.items }
