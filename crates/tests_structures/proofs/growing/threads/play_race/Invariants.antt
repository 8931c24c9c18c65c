use Rattle.tests_structures.proofs.growing.threads.play_race.Given as goal

-- the set has the posts that were made
abbrev pub ghosts-begin : goal.ghosts-begin
ghosts-begin g a = record { posts = a.made.posts.items }
