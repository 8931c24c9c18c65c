-- What a collector is made with.
use Rattle.std.specs.Prelude.{◌<◌, ◌≤◌}
use Rattle.epoch_machine.specs.declared.machine.Sizes.{Sizes}
use Rattle.epoch_handles.specs.declared.collector.Capacities.{Capacities}

-- each number is in its range
pub record AreValid (c : Capacities) : Type 0 where
  pub participants : (0 < c.participants) × (c.participants ≤ 4096)
  pub cells : c.cells ≤ 16777215
  pub bags : (0 < c.bags) × (c.bags ≤ 4096)
  pub bag_jobs : (0 < c.bag_jobs) × (c.bag_jobs ≤ 64)
  pub collect_bags : (0 < c.collect_bags) × (c.collect_bags ≤ 64)

abbrev pub sizes_for : Capacities → Sizes
sizes_for c = record { positions = c.participants; bag_jobs = c.bag_jobs; collect_bags = c.collect_bags }
