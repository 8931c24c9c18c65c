use Rattle.tests_lend.proofs.stores.threads.run.Given as goal

-- the set has the posts that were made
abbrev pub ghosts-start : goal.ghosts-start
ghosts-start g a = record { posts = a.made.posts.items }
