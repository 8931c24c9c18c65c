use Rattle.std.proofs.Common.{◌≡◌, ◌∙◌, sym, ap, refl, subst, slice_set, slice_index_or, get_or-set_other}
use Rattle.epoch_world.proofs.CollectionSteps.{claims_quiet}
use Rattle.std.proofs.lemmas.List.{length-set}
use Rattle.epoch_world.specs.declared.world.EndStage.{EndStage}
use Rattle.epoch_laws.specs.declared.step.Reply.TheVariants.{Registered}
use Rattle.epoch_laws.specs.declared.step.Step.TheVariants.{Register}
use Rattle.epoch_laws.specs.Collections.{expiry_of}
use Rattle.epoch_laws.specs.Run.{WorldSeat, State, TakesStep, free_seat}
use Rattle.epoch_world.specs.Worlds.{state_of, state_over, with_bags, ending_of, aheads}
use Rattle.epoch_world.proofs.AheadsStay.{same_aheads, none_for, not_taking, not_putting}
use Rattle.epoch_world.proofs.RoomSteps.{reserves_quiet}
use Rattle.epoch_world.proofs.WorldKept.{kept_moves}
use Rattle.epoch_world.proofs.WorldSteps.{register_moves}
use Rattle.epoch_world.proofs.world.World.register.Goals as goal

pub invariant_of-self : goal.invariant_of-self
invariant_of-self g c =
    let old : State =
    state_of c.self.inside.sizes (with_bags g.S.BagStore.queued c.self.inside.common) c.self.inside.seats.items
    (ending_of c.self.inside.end c.self.inside.hand.jobs c.self.inside.count) in
    record {
      sized = c.self.invariant.sized;
      epoch = c.self.invariant.epoch;
      putting = c.self.invariant.putting ∙ sym (length-set c.self.inside.seats.items c.in-Some.index _);
      taking = c.self.invariant.taking ∙ sym (length-set c.self.inside.seats.items c.in-Some.index _);
      kept = kept_moves old _ Register (Registered c.in-Some.index) c.self.invariant.kept
          (length-set c.self.inside.seats.items c.in-Some.index _)
          (register_moves old _ c.in-Some.index c.register.new.self
          (ap (λ (e : EndStage). ending_of e c.self.inside.hand.jobs c.self.inside.count) c.in-Open.is)
          c.in-Some.ensures.some.0 c.in-Some.ensures.some.1 c.in-Some.ensures.least c.register.ensures refl);
      claimed = claims_quiet g.S.BagStore.Claims c.self.inside.sizes _ c.self.inside.seats.items _
          c.self.inside.taking.items c.in-Some.index
          (not_taking _ (c.self.invariant.kept.free c.in-Some.index (c.in-Some.ensures.some.1 _))) (λ q other.
          get_or-set_other c.self.inside.seats.items c.in-Some.index q c.register.new.self _ other)
          c.self.invariant.claimed;
      reserved = reserves_quiet g.S.BagStore.Reserves g.S.BagStore.Claims c.self.inside.sizes _
          c.self.inside.seats.items _ c.self.inside.putting.items c.self.inside.taking.items c.in-Some.index
          (not_putting _ (c.self.invariant.kept.free c.in-Some.index (c.in-Some.ensures.some.1 _))) (not_taking _
          (c.self.invariant.kept.free c.in-Some.index (c.in-Some.ensures.some.1 _)))
          (λ q other. get_or-set_other c.self.inside.seats.items c.in-Some.index q c.register.new.self _
          other) c.self.invariant.reserved;
    }

pub returns : goal.returns
returns g c =
    let old : State =
    state_over g.S.BagStore.queued g.S.BagStore.occupied g.S.BagStore.passed g.S.BagStore.ahead g.S.BagStore.has_room
    c.self.inside.sizes c.self.inside.common c.self.inside.seats.items
    (ending_of c.self.inside.end c.self.inside.hand.jobs c.self.inside.count) c.self.inside.putting.items
    c.self.inside.taking.items in
    let all = slice_set c.self.inside.seats.items c.in-Some.index c.register.new.self in
    let new : State = record old {
      seats = all;
      ahead = aheads (λ x cursor. g.S.BagStore.ahead x c.self.inside.common.store cursor) all
          c.self.inside.taking.items;
    } in
    let before_rests : expiry_of (slice_index_or c.self.inside.seats.items c.in-Some.index
    (free_seat c.self.inside.sizes)).machine.stage ≡ 0 =
    none_for _ (c.self.invariant.kept.free c.in-Some.index (c.in-Some.ensures.some.1 _)) in
    let after_rests : expiry_of c.register.new.self.machine.stage ≡ 0 =
    ap (λ (seat : WorldSeat). expiry_of seat.machine.stage) c.register.ensures in
    subst (λ (s : State). TakesStep s Register (Registered c.in-Some.index) new) c.self.view_is (
      register_moves old _ c.in-Some.index c.register.new.self
          (ap (λ (e : EndStage). ending_of e c.self.inside.hand.jobs c.self.inside.count) c.in-Open.is)
          c.in-Some.ensures.some.0 c.in-Some.ensures.some.1 c.in-Some.ensures.least c.register.ensures refl,
      (
        refl,
        refl,
        same_aheads (λ x cursor. g.S.BagStore.ahead x c.self.inside.common.store cursor) c.self.inside.seats.items
            c.self.inside.taking.items c.in-Some.index
            c.register.new.self (free_seat c.self.inside.sizes) (after_rests ∙ sym before_rests),
        refl,
      ),
    )
