-- A list that lost its last element is shorter.
use Rattle.std.proofs.Common.{◌≡◌, ◌<◌, List, [], ◌∷◌, ◌++◌, length, map, ap, arith, length-append}
use Rattle.std.proofs.lemmas.List.{length-map}

-- one with as many elements as are left after the last one
pub shorter : {X Y : Type 0} (name_of : X → Y) (old new : List X) (y : Y) → map name_of old ≡ map name_of new ++ y ∷ []
    → length new < length old
shorter name_of old new y same =
    let lengths = simp (length-append, length-map) at (ap length same) in omega arith
