-- How many lanes the steps of a run tell of, one step further.
use Rattle.std.proofs.Common.{◌≡◌, ℕ, zero, suc, ◌+◌, ◌<◌, List, [], ◌∷◌, length, take, get_or, refl, add-one, arith}
use Rattle.epoch_layouts.specs.declared.moment.Moment.{Moment}
use Rattle.epoch_layouts.specs.Told.{lanes_from, lanes_told, lanes_with}

lanes_further : (lanes : ℕ) (moments : List Moment) (i : ℕ) (d : Moment) → i < length moments → lanes_from lanes
    (take (suc i) moments) ≡ lanes_with (lanes_from lanes (take i moments)) (get_or moments i d).reply
lanes_further lanes [] i d within = absurd (omega arith)
lanes_further lanes (moment ∷ moments) zero d within = refl
lanes_further lanes (moment ∷ moments) (suc i) d within =
    lanes_further (lanes_with lanes moment.reply) moments i d (omega arith)

-- the lanes told up to the next moment are those told before it, with those that its reply needs
pub lanes_more : (moments : List Moment) (i : ℕ) (d : Moment) → i < length moments
    → lanes_told (take (i + 1) moments) ≡ lanes_with (lanes_told (take i moments)) (get_or moments i d).reply
lanes_more moments i d within = rw add-one (lanes_further 0 moments i d within)
