use Rattle.epoch_shared.proofs.sharing_stack.share_stack.Given as goal

-- the domain has the posts that were made
abbrev pub ghosts-begin : goal.ghosts-begin
ghosts-begin g a = record { posts = a.made.posts.items }
