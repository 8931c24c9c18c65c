use Rattle.std.proofs.Common.{sym, subst, refl, arith}
use Rattle.epoch_laws.specs.Run.{State}
use Rattle.epoch_world.specs.Worlds.{state_of, with_bags, ending_of, IsEmptying}
use Rattle.epoch_world.proofs.WorldKept.{one_more_counts, called_kept}
use Rattle.epoch_world.proofs.world.World.empty.Goals as goal

pub overflow_add-self : goal.overflow_add-self
overflow_add-self g c =
    let old : State =
    state_of c.self.inside.sizes (with_bags g.S.BagStore.queued c.self.inside.common) c.self.inside.seats.items
    (ending_of c.self.inside.end c.self.inside.hand.jobs c.self.inside.count) in
    let emptying : IsEmptying old.ending = subst (λ (s : State). IsEmptying s.ending) (sym c.self.view_is) c.requires in
    omega (
      arith,
      one_more_counts old c.self.inside.end c.in-Some.job c.self.inside.hand.jobs c.take_next.new.self.jobs
          c.self.inside.count c.self.invariant.kept refl emptying c.in-Some.ensures.job,
    )

pub invariant_of-self : goal.invariant_of-self
invariant_of-self g c =
    let old : State =
    state_of c.self.inside.sizes (with_bags g.S.BagStore.queued c.self.inside.common) c.self.inside.seats.items
    (ending_of c.self.inside.end c.self.inside.hand.jobs c.self.inside.count) in
    let emptying : IsEmptying old.ending = subst (λ (s : State). IsEmptying s.ending) (sym c.self.view_is) c.requires in
    record {
      sized = c.self.invariant.sized;
      epoch = c.self.invariant.epoch;
      putting = c.self.invariant.putting;
      taking = c.self.invariant.taking;
      kept = called_kept c.self.inside.sizes (with_bags g.S.BagStore.queued c.self.inside.common)
          c.self.inside.seats.items
          c.self.inside.end c.self.inside.hand.jobs c.take_next.new.self.jobs c.self.inside.count
          c.call_job.new.self c.in-Some.job c.self.invariant.kept emptying c.in-Some.ensures.job
          c.call_job.ensures.after;
      claimed = c.self.invariant.claimed;
      reserved = c.self.invariant.reserved;
    }
