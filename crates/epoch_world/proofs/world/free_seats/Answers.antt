use Rattle.std.proofs.Common.{ap, ◌∙◌, arith, length, length-append, slice_index_or}
use Rattle.epoch_laws.specs.Run.{free_seat}
use Rattle.epoch_world.proofs.WorldSteps.{get_push}
use Rattle.epoch_world.proofs.world.free_seats.Goals as goal

pub loop-preserved : goal.loop-preserved
loop-preserved c = record {
  room = omega arith;
  count = ap length c.push_reserved.ensures.items ∙ simp length-append (omega arith);
  free = λ p. ap (λ xs. slice_index_or xs p (free_seat c.args.sizes))
      (rw c.in_ok-seat.ensures.seat at c.push_reserved.ensures.items)
      ∙ get_push c.loop.seats.items (free_seat c.args.sizes) p ∙ c.loop.invariant.free p;
}
