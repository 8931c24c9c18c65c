-- What follows for removals that go back together, and for names of values by their slots.
use Rattle.std.proofs.Common.{ℕ, Bool, true, false, if◌then◌else◌, List, [], ◌∷◌, ◌++◌, refl}
use Rattle.std.proofs.lemmas.Bool.{and_parts, and_from}
use Rattle.epoch_lend.specs.Posts.{is_among}
use Rattle.epoch_lend.specs.Loans.{Loan, are_within, Within}
use Rattle.epoch_lend.specs.Watching.{are_watched, AreWatched}
use Rattle.epoch_lend.proofs.Watching.{watched_more, watched_these}
use Rattle.epoch_lend.specs.Bags.{each_watched, EachWatched}

-- where more loans are watched, those that were still are
pub each_more : {X : Type 0} (loans_of : X → List Loan) (xs : List X) (more watched : List Loan)
    → EachWatched loans_of xs watched → EachWatched loans_of xs (more ++ watched)
each_more loans_of [] more watched each = refl
each_more loans_of (x ∷ xs) more watched each =
    let parts = and_parts (are_watched (loans_of x) watched) (each_watched loans_of xs watched) each in
    and_from (are_watched (loans_of x) (more ++ watched)) (each_watched loans_of xs (more ++ watched))
    (watched_more (loans_of x) more watched parts.0) (each_more loans_of xs more watched parts.1)

each_snoc : {X : Type 0} (loans_of : X → List Loan) (xs : List X) (x : X) (watched : List Loan)
    → EachWatched loans_of xs watched → AreWatched (loans_of x) watched → EachWatched loans_of (xs ++ x ∷ []) watched
each_snoc loans_of [] x watched each last = and_from (are_watched (loans_of x) watched) true last refl
each_snoc loans_of (y ∷ ys) x watched each last =
    let parts = and_parts (are_watched (loans_of y) watched) (each_watched loans_of ys watched) each in
    and_from (are_watched (loans_of y) watched) (each_watched loans_of (ys ++ x ∷ []) watched) parts.0
    (each_snoc loans_of ys x watched parts.1 last)

-- a removal more, whose loans are watched, too
pub one_more : {X : Type 0} (loans_of : X → List Loan) (xs : List X) (x : X) (watched : List Loan)
    → EachWatched loans_of xs watched → EachWatched loans_of (xs ++ x ∷ []) (loans_of x ++ watched)
one_more loans_of xs x watched each = each_snoc loans_of xs x (loans_of x ++ watched)
    (each_more loans_of xs (loans_of x) watched each) (watched_these (loans_of x) watched)

-- its loans are watched, whether it goes in or not
pub either_way : {X : Type 0} (loans_of : X → List Loan) (b : Bool) (xs : List X) (x : X) (watched : List Loan)
    → EachWatched loans_of xs watched
    → EachWatched loans_of (if b then xs ++ x ∷ [] else xs) (loans_of x ++ watched)
either_way loans_of true xs x watched each = one_more loans_of xs x watched each
either_way loans_of false xs x watched each = each_more loans_of xs (loans_of x) watched each

-- the last removal's loans are watched, and those of the others
pub last_watched : {X : Type 0} (loans_of : X → List Loan) (xs : List X) (x : X) (watched : List Loan)
    → EachWatched loans_of (xs ++ x ∷ []) watched
    → EachWatched loans_of xs watched × AreWatched (loans_of x) watched
last_watched loans_of [] x watched each = (refl, (and_parts (are_watched (loans_of x) watched) true each).0)
last_watched loans_of (y ∷ ys) x watched each =
    let parts = and_parts (are_watched (loans_of y) watched) (each_watched loans_of (ys ++ x ∷ []) watched) each in
    let rest = last_watched loans_of ys x watched parts.1 in (
      and_from (are_watched (loans_of y) watched) (each_watched loans_of ys watched) parts.0 rest.0,
      rest.1,
    )

-- loans of guards of these posts, and more of them
pub within_more : (ηs : List ℕ) (ls ms : List Loan) → Within ηs ls → Within ηs ms → Within ηs (ls ++ ms)
within_more ηs [] ms one other = other
within_more ηs (l ∷ ls) ms one other =
    let parts = and_parts (is_among l.log ηs) (are_within ηs ls) one in
    and_from (is_among l.log ηs) (are_within ηs (ls ++ ms)) parts.0 (within_more ηs ls ms parts.1 other)
