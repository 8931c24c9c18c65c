-- Which shapes a world may have, and the sizes of its machines.
use Rattle.std.specs.Prelude.{◌≡◌, ℕ, ◌^◌, ◌<◌, ◌≤◌, Bool, true, ◌||◌, ◌==◌}
use Rattle.epoch_machine.specs.declared.machine.Sizes.{Sizes}
use Rattle.epoch_laws.specs.declared.shape.Shape.{Shape}

-- a power of two up to 256
abbrev pub is_align : ℕ → Bool
is_align a =
    (a == 1) || (a == 2) || (a == 4) || (a == 8) || (a == 16) || (a == 32) || (a == 64) || (a == 128) || (a == 256)

pub record IsValid (shape : Shape) : Type 0 where
  pub participants : (0 < shape.participants) × (shape.participants ≤ 64)
  pub cells : shape.cells ≤ 4096
  pub roots : shape.roots ≤ 4096
  pub fields : shape.fields ≤ 16
  pub bags : (0 < shape.bags) × (shape.bags ≤ 4096)
  pub align : is_align shape.align ≡ true
  pub start_epoch : shape.start_epoch < 2 ^ 63
  pub start_turn : shape.start_turn < 2 ^ 32
  pub bag_jobs : (0 < shape.bag_jobs) × (shape.bag_jobs ≤ 64)
  pub collect_bags : (0 < shape.collect_bags) × (shape.collect_bags ≤ 64)

-- the sizes that a world of this shape gives its machines
abbrev pub sizes_of : Shape → Sizes
sizes_of shape = record { positions = shape.participants; bag_jobs = shape.bag_jobs; collect_bags = shape.collect_bags }
