use Rattle.std.proofs.Common.{◌≡◌, ◌∙◌, ℕ, ◌-◌, length, drop, ap, arith}
use Rattle.std.proofs.Common.{length-drop}
use Rattle.std.specs.Slots.{slots_items, slots_counts}
use Rattle.epoch_tables.proofs.shared_places.closed.ClosedPlaces.free.Goals as goal

-- nothing is left, so that each place was taken out of
pub free-requires : goal.free-requires
free-requires g c = λ k less.
    let slots = c.self.inside.closed.slots in
    let at : ℕ = c.self.inside.next in
    let counts = slots_counts slots in
    let cut : length (drop at (slots_items slots)) ≡ length (slots_items slots) - at =
    length-drop at (slots_items slots) in
    let none = ap length c.self.view_is ∙ c.requires in
    c.self.invariant.taken k (omega (arith, less, cut, none, counts.0))
