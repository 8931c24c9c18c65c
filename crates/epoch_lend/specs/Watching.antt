-- What a watch over many loans owns: that each loan's guard is entered at its post, and what looks at posts told.
use Rattle.std.specs.Prelude.{◌≡◌, Bool, true, false, ◌&&◌, ◌||◌, eqb, List, [], ◌∷◌}
use base.Fml.{Fml, ftrue, fsep}
use Rattle.epoch_lend.specs.Posts.{entered}
use Rattle.epoch_lend.specs.Loans.{Loan, SeenPost, all_shown}

-- the pin of each loan's guard is one of its post's
abbrev pub entries : List Loan → Fml
entries [] = ftrue
entries (l ∷ ls) = fsep (entered (l.atom, l.epoch) l.log) (entries ls)

-- the guard of this loan has one of these
abbrev pub is_watched : Loan → List Loan → Bool
is_watched l [] = false
is_watched l (m ∷ ms) = eqb l.atom m.atom || is_watched l ms

-- the guard of each of these loans has one of those
abbrev pub are_watched : List Loan → List Loan → Bool
are_watched [] all = true
are_watched (l ∷ ls) all = is_watched l all && are_watched ls all

abbrev pub AreWatched : List Loan → List Loan → Type 0
AreWatched ls all = are_watched ls all ≡ true

abbrev pub watch_owns : List Loan → List SeenPost → Fml
watch_owns ls ss = fsep (entries ls) (all_shown ss ls)
