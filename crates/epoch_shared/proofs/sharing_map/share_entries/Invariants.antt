use Rattle.epoch_shared.proofs.sharing_map.share_entries.Given as goal

-- the domain has the posts that were made
abbrev pub ghosts-begin : goal.ghosts-begin
ghosts-begin g a = record { posts = a.made.posts.items }
