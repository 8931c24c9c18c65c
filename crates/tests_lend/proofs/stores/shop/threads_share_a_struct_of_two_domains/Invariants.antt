use Rattle.tests_lend.proofs.stores.shop.threads_share_a_struct_of_two_domains.Given as goal

-- each set has the posts that were made for it
abbrev pub ghosts-open_in-J-PostSet : goal.ghosts-open_in-J-PostSet
ghosts-open_in-J-PostSet g a = record { posts = a.first.posts.items }

abbrev pub ghosts-open_in-K-PostSet : goal.ghosts-open_in-K-PostSet
ghosts-open_in-K-PostSet g a = record { posts = a.second.posts.items }
