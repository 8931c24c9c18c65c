-- Where a step reads a cell, the list of readings has room: no more cells are read than there are.
use Rattle.std.proofs.Common.{◌≡◌, ℕ, ◌<◌, true, List, length, Option, Some, None, is_some, refl, ap, sym, subst, ◌∙◌}
use Rattle.std.proofs.Common.{arith}
use Rattle.epoch_cells.specs.PlainCells.{readable}
use Rattle.epoch_cells.specs.declared.cells.name.Name.{Name}
use Rattle.epoch_laws.specs.declared.heap.access.Access.{Access}
use Rattle.epoch_laws.specs.declared.heap.access.Access.TheVariants.{Read}
use Rattle.epoch_laws.specs.declared.heap.access.Ptr.{Ptr}
use Rattle.epoch_laws.specs.declared.heap.heap.Content.{Content}
use Rattle.epoch_laws.specs.Heap.{Cell, Heap, cell_at, at_name, read_by, Touched, Touches}
use Rattle.epoch_laws.specs.declared.step.Progress.TheVariants.{Accesses}
use Rattle.epoch_laws.specs.Kept.{IsSound}
use Rattle.epoch_laws.specs.Readings.{ReadsNext}
use Rattle.epoch_laws.specs.Run.{WorldSeat, State, seat_of}
use Rattle.epoch_laws.proofs.RoomToRead.{room_to_read}
use Rattle.epoch_world.specs.Seats.{CanRead, HasRead}

-- a read that is about to come finds room in the list
pub can_read : (s : State) (p : ℕ) (seat : WorldSeat) (a : Access) (k : ℕ) (found : Ptr)
    → IsSound s → p < length s.seats → seat ≡ seat_of s p
    → seat.progress ≡ Accesses a k found → CanRead a seat.readings s.heap
can_read s p seat (Read g ptr) k found h there is now = λ n name stands.
    let next : ReadsNext s p n = record {
      guard = g;
      pointer = ptr;
      name = name;
      steps = k;
      found = found;
      progress = ap (λ (q : WorldSeat). q.progress) (sym is) ∙ now;
      stands = stands;
    } in
    omega (arith, room_to_read s p n h.readings there next, h.cells, ap (λ (q : WorldSeat). length q.readings) is)
can_read s p seat _ k found h there is now = tt

-- so the list has room for what it has read
pub has_read : (a : Access) (k : ℕ) (found : Ptr) (h : Heap) (did : Touched) (readings : List Name)
    → Touches a k found h did
    → CanRead a readings h → HasRead a did.told readings
has_read (Read g ptr) k found h did readings e can =
    subst (λ (d : Touched). HasRead (Read g ptr) d.told readings) (sym e) (by_name ptr.name can)
  where
    by_cell : (n : Name) (there : Option Cell) (content : Option Content)
        → (is_some there ≡ true → length readings < 4096)
        → HasRead (Read g ptr) (read_by h n there content).told readings
    by_cell n None content room = tt
    by_cell n (Some cell) None room = tt
    by_cell n (Some cell) (Some content) room = room refl

    by_name : (name : Option Name)
        → ((n : Name) → name ≡ Some n → is_some (cell_at h n) ≡ true → length readings < 4096)
        → HasRead (Read g ptr) (at_name (λ n. read_by h n (cell_at h n) (readable (cell_at h n))) h name).told readings
    by_name None can = tt
    by_name (Some n) can = by_cell n (cell_at h n) (readable (cell_at h n)) (can n refl)
has_read _ k found h did readings e can = tt
