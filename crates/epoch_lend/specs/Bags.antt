-- What is known of removals that go back together.
use Rattle.std.specs.Prelude.{◌≡◌, Bool, true, ◌&&◌, List, [], ◌∷◌}
use Rattle.epoch_lend.specs.Loans.{Loan}
use Rattle.epoch_lend.specs.Watching.{are_watched}

-- the loans of each of these removals are watched
abbrev pub each_watched : {X : Type 0} → (X → List Loan) → List X → List Loan → Bool
each_watched loans_of [] watched = true
each_watched loans_of (x ∷ xs) watched = are_watched (loans_of x) watched && each_watched loans_of xs watched

abbrev pub EachWatched : {X : Type 0} → (X → List Loan) → List X → List Loan → Type 0
EachWatched loans_of xs watched = each_watched loans_of xs watched ≡ true
