-- What a cell that may be read has.
use Rattle.std.proofs.Common.{◌≡◌, ◌≢◌, ◌==◌, Bool, true, false, Option, Some, None, refl, ap, ◌∙◌, arith}
use Rattle.std.proofs.Common.{if◌then◌else◌, slice_get}
use Rattle.std.proofs.lemmas.Bool.Decides.{nat_tests}
use Rattle.epoch_cells.specs.PlainCells.{readable}
use Rattle.epoch_cells.specs.declared.cells.name.Name.{Name}
use Rattle.epoch_laws.specs.declared.heap.access.Ptr.{Ptr}
use Rattle.epoch_laws.specs.declared.heap.access.Spot.TheVariants.{Field}
use Rattle.epoch_laws.specs.declared.heap.heap.Content.{Content}
use Rattle.epoch_laws.specs.Heap.{Cell, Heap, cell_at, field_of, field_in, pointer_at}

-- a cell that may be read has a value, and room for a reader
pub record IsReadable (h : Heap) (n : Name) : Type 0 where
  pub cell : Cell
  pub there : cell_at h n ≡ Some cell
  pub content : Content
  pub value : cell.value ≡ Some content
  pub room : cell.readers ≢ 1073741823
  pub field : Ptr
  pub entry : slice_get content.fields 0 ≡ Some field

-- a reading of such a cell is lent its value
pub readable_is : (h : Heap) (n : Name) (is : IsReadable h n) → readable (cell_at h n) ≡ Some is.content
readable_is h n is = ap (λ (o : Option Cell). readable o) is.there ∙ at_test (is.cell.readers == 1073741823) refl
  where
    at_test : (b : Bool) → (is.cell.readers == 1073741823) ≡ b → (if b then None else is.cell.value) ≡ Some is.content
    at_test true test = absurd (is.room (let same : is.cell.readers ≡ 1073741823 = grind (arith, nat_tests) in same))
    at_test false test = is.value

-- the pointer in its first field is the one that its value has there
pub field_is : (h : Heap) (n : Name) (is : IsReadable h n) → pointer_at h (Field n 0) ≡ Some is.field
field_is h n is =
    ap (λ (o : Option Cell). field_in o 0) is.there ∙ ap (λ (o : Option Content). field_of o 0) is.value ∙ is.entry
