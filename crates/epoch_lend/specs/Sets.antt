-- What is known of the posts of a set, and of the rights to pin at them.
use Rattle.std.specs.Prelude.{◌≡◌, ℕ, Some, List, ◌++◌, map}
use Rattle.std.specs.List.{slice_get}
use Rattle.epoch_lend.specs.Posts.{PostNames}
use Rattle.epoch_lend.specs.declared.post.Unpinned.{Unpinned}

-- the post of these names stands at this position of the set
abbrev pub StandsAt : List PostNames → ℕ → ℕ → ℕ → Type 0
StandsAt posts position log state = slice_get posts position ≡ Some (record { log = log; state = state })

-- the names of the post at which this is the right to pin
abbrev pub names_of : Unpinned → PostNames
names_of unpinned = record { log = unpinned.log; state = unpinned.state }

-- these are the rights to pin at the first posts of the set, in their order
abbrev pub AreFirst : List PostNames → List Unpinned → Type 0
AreFirst posts rights = (rest : List PostNames) × (map names_of rights ++ rest ≡ posts)
