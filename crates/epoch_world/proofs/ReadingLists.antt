-- A list of readings without the first one of a name.
use Rattle.std.proofs.Common.{◌≡◌, ℕ, zero, suc, ◌<◌, Bool, true, List, [], ◌∷◌, ◌++◌, length, take, drop, remove}
use Rattle.std.proofs.Common.{slice_index_or, Some, if◌then◌else◌, ap, sym, ◌∙◌, arith}
use Rattle.epoch_cells.specs.declared.cells.name.Name.{Name}
use Rattle.epoch_laws.specs.Heap.{is_name}
use Rattle.epoch_laws.specs.Run.{without_reading}

-- where the list has the name at a place, leaving it out from there on takes away that place alone
pub without_at : (n : Name) (xs : List Name) (i : ℕ) (m : Name)
    → m ≡ slice_index_or xs i m → i < length xs → is_name m n ≡ true
    → take i xs ++ without_reading (Some n) (drop i xs) ≡ remove xs i
without_at n [] i m at within same = absurd (omega (arith, within))
without_at n (x ∷ xs) zero m at within same =
    let is : is_name x n ≡ true = ap (λ (k : Name). is_name k n) (sym at) ∙ same in
    ap (λ (b : Bool). if b then xs else x ∷ without_reading (Some n) xs) is
without_at n (x ∷ xs) (suc i) m at within same =
    ap (λ (l : List Name). x ∷ l) (without_at n xs i m at (omega (arith, within)) same)
