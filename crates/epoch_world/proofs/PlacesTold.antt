-- What the word of a place says of whether the place is occupied.
use Rattle.std.proofs.Common.{◌≡◌, ◌≤◌, ◌==◌, ℕ, zero, suc, List, [], ◌∷◌, Bool, not, length, Option, Some, None}
use Rattle.std.proofs.Common.{MatchOption, slice_get, refl, arith}
use Rattle.epoch_bags.specs.PlaceLists.{taken_places}

-- the word of this place tells whether it is occupied, and there is none past the last place
abbrev pub TellsPlace : List Bool → ℕ → Option ℕ → Type 0
TellsPlace places place found =
    MatchOption found (length places ≤ place) (λ word. slice_get places place ≡ Some (not (word == 0)))

-- a place further on is told of in the same way
pub one_further : (first : Bool) (places : List Bool) (place : ℕ) (found : Option ℕ)
    → TellsPlace places place found → TellsPlace (first ∷ places) (suc place) found
one_further first places place None past = omega arith
one_further first places place (Some word) at = at

-- the word of each place tells whether it is occupied
pub words_tell : (words : List ℕ) (place : ℕ) → TellsPlace (taken_places words) place (slice_get words place)
words_tell [] place = omega arith
words_tell (word ∷ words) zero = refl
words_tell (word ∷ words) (suc place) =
    one_further (not (word == 0)) (taken_places words) place (slice_get words place) (words_tell words place)
