-- Each reply of a log fits where, at each place, it fits what the entries before it tell.
use Rattle.std.proofs.Common.{◌≡◌, ℕ, ◌<◌, List, length, take, get_or, slice_get, Some, subst}
use Rattle.std.proofs.lemmas.Option.{slice_get-get_or, get_or_from_slice_get, slice_get_within}
use Rattle.epoch_laws.specs.declared.step.Entry.{Entry}
use Rattle.epoch_laws.specs.Fits.{Fits, EachFits}

-- the entry fits after the first k
abbrev pub FitsBefore : List Entry → ℕ → Entry → Type 0
FitsBefore log k entry = Fits (take k log) entry.step entry.reply

-- the entry at place k fits
abbrev pub FitsAt : List Entry → ℕ → Type 0
FitsAt log k = (entry : Entry) → slice_get log k ≡ Some entry → FitsBefore log k entry

-- each reply of a log fits where the entry at each of its places does
pub all_fit : (log : List Entry) → ((k : ℕ) → k < length log → FitsAt log k) → EachFits log
all_fit log each k entry at = each k (slice_get_within log k entry at) entry at

-- of the entry read at place k
pub fits_read : (log : List Entry) (k : ℕ) (default : Entry) → k < length log → EachFits log
    → FitsBefore log k (get_or log k default)
fits_read log k default within all = all k (get_or log k default) (slice_get-get_or log k default within)

-- the entry at a place fits where the one read there does
pub read_fits : (log : List Entry) (k : ℕ) (default : Entry) → FitsBefore log k (get_or log k default) → FitsAt log k
read_fits log k default fits entry at =
    subst (FitsBefore log k) (get_or_from_slice_get log k entry default at) fits
