-- A pointer in whose number a name stands leads to its value.
use Rattle.std.proofs.Common.{◌≡◌, ℕ, ◌%◌, ◌^◌, ◌<◌, Some, refl, sym, subst}
use Rattle.std.proofs.Math.Nat.{mod-lt}
use Rattle.std.proofs.lemmas.Nat.{pow_pos}
use Rattle.epoch_cells.specs.declared.cells.name.Name.{Name}
use Rattle.epoch_atomic.specs.Pointers.{tag_in, HasName}
use Rattle.epoch_atomic.specs.WordSteps.{WordStep, LoadsPointer, LoadsNumber}

-- where a number was loaded in which this name stands, a pointer with the name and some tag was loaded
pub loads_named : (align log : ℕ) (did : WordStep → Type 0) (number : ℕ) (name : Name) → align ≡ 2 ^ log
    → LoadsNumber did number → HasName number (Some name)
    → (tag : ℕ) × LoadsPointer align did (Some name) tag
loads_named align log did number name is_power loaded named =
    let below : tag_in number % align < align =
    mod-lt (tag_in number) (subst (λ n. 0 < n) (sym is_power) (pow_pos log)) in
    (tag_in number % align, (number, (loaded.0, named, refl, below), loaded.1))
