use Rattle.std.proofs.Common.{◌∙◌, sym, ap, refl, arith}
use Rattle.epoch_cells.specs.PlainCells.{empty}
use Rattle.epoch_world.proofs.WorldKept.{fresh_kept}
use Rattle.epoch_world.proofs.world.World.new.Goals as goal

pub invariant_of-result : goal.invariant_of-result
invariant_of-result g c = record {
  sized = record {
    positions = c.requires.participants.0;
    bag_jobs = c.requires.bag_jobs;
    collect_bags = c.requires.collect_bags;
  };
  epoch = c.requires.start_epoch;
  putting = c.in_ok-putting.ensures.ok ∙ sym c.in_ok-seats.ensures.count;
  taking = c.in_ok-taking.ensures.ok ∙ sym c.in_ok-seats.ensures.count;
  kept = fresh_kept _ (record {
    sized = sym c.in_ok-seats.ensures.count;
    in_range = record {
      positions = c.requires.participants.0;
      bag_jobs = c.requires.bag_jobs;
      collect_bags = c.requires.collect_bags;
    };
    free = c.in_ok-seats.ensures.free;
    none_queued = c.in_ok-store.ensures.empty;
    no_tickets = refl;
    open_end = refl;
    null_roots = c.in_ok-heap.ensures.null_roots;
    empty_cells = λ k cell at. c.in_ok-heap.ensures.empty_cells k cell at
        ∙ ap (λ turn. empty turn) (sym c.in_ok-heap.ensures.start_turn);
  }) (omega (arith, c.in_ok-seats.ensures.count, c.requires.participants.1))
      (omega (arith, c.in_ok-heap.ensures.cells, c.requires.cells));
  claimed = λ place none claimed. c.in_ok-store.ensures.unclaimed place claimed;
  reserved = λ place none_puts none_takes reserved. c.in_ok-store.ensures.unreserved place reserved;
}
