use Rattle.std.proofs.Common.{◌≡◌, ℕ, ◌+◌, ◌<◌, max, sym, ap, ◌∙◌, arith, subst}
use lib.Dec.{T, ltb, ltb→lt}
use prog.Memory.{capped, up}
use prog.Capped.{capped_small}
use Rattle.std.specs.Bool.{IsTrue}
use Rattle.epoch_tables.proofs.shared_places.places.fits_in_memory.Goals as goal

small : (size told : ℕ) → told ≡ capped size → IsTrue (ltb told 9223372036854775808) → size < 9223372036854775808
small size told is below = capped_small size (ltb→lt (capped size) 9223372036854775808
    (subst T (sym (ap (λ (n : ℕ). ltb n 9223372036854775808) (sym is) ∙ below)) tt))

-- an `Option` is at least as large as what it may hold
some_is_less : (align before size : ℕ)
    → up align (max 1 (max (before + size) 1)) < 9223372036854775808 → size < 9223372036854775808
some_is_less align before size whole = omega (arith, whole)

pub returns : goal.returns
returns g c = λ fits. some_is_less _ _ _ (small _ _ c.size_of_val.ensures fits)
