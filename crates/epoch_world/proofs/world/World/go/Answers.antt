use Rattle.std.proofs.Common.{ℕ, ◌∙◌, refl, sym, subst, subst₂, List, [], map, arith, slice_set}
use Rattle.std.proofs.lemmas.List.{length-set}
use Rattle.epoch_laws.specs.declared.step.Step.TheVariants.{Go}
use Rattle.epoch_laws.specs.Run.{State, Ending, TakesStep, with_places}
use Rattle.epoch_world.specs.StoreSteps.{StoreState, MakesOneStep}
use Rattle.epoch_world.specs.Worlds.{state_of, state_over, with_bags, ending_of, aheads, ClaimsKnown, ReservesKnown}
use Rattle.epoch_world.proofs.CollectionSteps.{claims_known, none_claimed, set_back}
use Rattle.epoch_world.proofs.RoomSteps.{free_where, reserves_known}
use Rattle.epoch_world.proofs.PlacesSeen.{go_takes_all}
use Rattle.epoch_world.proofs.SteppedOnce.{moves_in_lists, past_once, stands_there}
use Rattle.epoch_world.proofs.TurnsTaken.{kept_open}
use Rattle.epoch_world.proofs.WorldKept.{kept_moves}
use Rattle.epoch_world.proofs.world.World.go.Goals as goal

pub go_on-requires-clause-kept : goal.go_on-requires-clause-kept
go_on-requires-clause-kept g c =
    kept_open c.self.inside.sizes (with_bags g.S.BagStore.queued c.self.inside.common) c.self.inside.seats.items
    (ending_of c.self.inside.end c.self.inside.hand.jobs c.self.inside.count) c.self.invariant.kept

pub invariant_of-self : goal.invariant_of-self
invariant_of-self g c =
    let old : State =
    state_of c.self.inside.sizes (with_bags g.S.BagStore.queued c.self.inside.common) c.self.inside.seats.items
    (ending_of c.self.inside.end c.self.inside.hand.jobs c.self.inside.count) in
    record {
      sized = c.self.invariant.sized;
      epoch = c.go_on.ensures.epoch;
      putting = length-set c.self.inside.putting.items c.args.position _ ∙ c.self.invariant.putting
          ∙ sym c.go_on.ensures.positions;
      taking = length-set c.self.inside.taking.items c.args.position _ ∙ c.self.invariant.taking
          ∙ sym c.go_on.ensures.positions;
      kept = kept_moves old _ (Go c.args.position) c.go_on.result c.self.invariant.kept c.go_on.ensures.positions
          (c.go_on.ensures.step old.ending [] [] [] []);
      claimed = claims_known g.S.BagStore.Claims c.self.inside.sizes _ _ c.self.inside.seats.items
          c.go_on.new.seats.items c.self.inside.taking.items c.args.position c.index_mut-2.result.now c.go_on.new.taking
          (omega (arith, c.self.invariant.taking)) c.go_on.ensures.others c.go_on.ensures.claims
          (subst (λ (all : List _). ClaimsKnown (g.S.BagStore.Claimed c.self.inside.common.store) g.S.BagStore.Claims
          c.self.inside.sizes c.self.inside.seats.items all)
          (sym (set_back c.self.inside.taking.items c.args.position c.index_mut-2.result.now
          c.index_mut-2.ensures.value)) c.self.invariant.claimed);
      reserved =
          reserves_known g.S.BagStore.Reserves g.S.BagStore.Claims c.self.inside.sizes _ _ c.self.inside.seats.items
          c.go_on.new.seats.items c.self.inside.putting.items c.self.inside.taking.items c.args.position
          c.index_mut.result.now c.go_on.new.putting c.index_mut-2.result.now c.go_on.new.taking
          (omega (arith, c.self.invariant.putting)) (omega (arith, c.self.invariant.taking))
          c.go_on.ensures.others c.go_on.ensures.reserves
          (subst₂ (λ (puts : List _) (takes : List _). ReservesKnown (g.S.BagStore.Reserved c.self.inside.common.store)
          g.S.BagStore.Reserves g.S.BagStore.Claims c.self.inside.sizes c.self.inside.seats.items puts takes)
          (sym (set_back c.self.inside.putting.items c.args.position c.index_mut.result.now c.index_mut.ensures.value))
          (sym (set_back c.self.inside.taking.items c.args.position c.index_mut-2.result.now
          c.index_mut-2.ensures.value)) c.self.invariant.reserved);
    }

pub returns-clause-takes : goal.returns-clause-takes
returns-clause-takes g c =
    let ending : Ending = ending_of c.self.inside.end c.self.inside.hand.jobs c.self.inside.count in
    let old : State =
    state_of c.self.inside.sizes (with_bags g.S.BagStore.queued c.self.inside.common) c.self.inside.seats.items ending
    in
    let new : State =
    state_of c.self.inside.sizes (with_bags g.S.BagStore.queued c.go_on.new.common) c.go_on.new.seats.items ending in
    let puts = slice_set c.self.inside.putting.items c.args.position c.go_on.new.putting in
    let ahead : List ℕ = aheads (λ x cursor. g.S.BagStore.ahead x c.go_on.new.common.store cursor)
    c.go_on.new.seats.items
    (slice_set c.self.inside.taking.items c.args.position c.go_on.new.taking) in
    subst (λ (s : State). TakesStep s (Go c.args.position) c.go_on.result
    (with_places new (g.S.BagStore.occupied c.go_on.new.common.store) (map g.S.BagStore.passed puts) ahead
    (map (λ cursor. g.S.BagStore.has_room c.go_on.new.common.store cursor) puts))) c.self.view_is
    (go_takes_all g.S.BagStore.passed (λ cursor. g.S.BagStore.has_room c.self.inside.common.store cursor)
    (λ cursor. g.S.BagStore.has_room c.go_on.new.common.store cursor)
    c.self.inside.putting.items c.index_mut.result.now c.go_on.new.putting
    (λ x cursor. g.S.BagStore.ahead x c.self.inside.common.store cursor)
    (λ x cursor. g.S.BagStore.ahead x c.go_on.new.common.store
    cursor) c.self.inside.taking.items c.index_mut-2.result.now c.go_on.new.taking
    old new c.args.position c.go_on.result _ _ _ _
    c.index_mut.ensures.value c.index_mut-2.ensures.value (omega (arith, c.self.invariant.putting))
    (omega (arith, c.self.invariant.taking)) (omega arith) c.go_on.ensures.positions
    (none_claimed g.S.BagStore.Claims c.self.inside.sizes
    (g.S.BagStore.Claimed c.self.inside.common.store) old c.self.inside.taking.items refl c.self.invariant.claimed)
    (free_where g.S.BagStore.Reserves g.S.BagStore.Claims c.self.inside.sizes
    (g.S.BagStore.Reserved c.self.inside.common.store) old _ c.self.inside.putting.items c.self.inside.taking.items
    c.args.position refl c.self.invariant.reserved)
    (c.go_on.ensures.step ending) c.go_on.ensures.looks c.go_on.ensures.finds c.go_on.ensures.room)

-- past the table nothing is done
pub returns-then-index-len-clause-one_step : goal.returns-then-index-len-clause-one_step
returns-then-index-len-clause-one_step g c =
    let inside : StoreState _ _ _ = record {
      store = c.self.inside.common.store;
      putting = c.self.inside.putting.items;
      taking = c.self.inside.taking.items;
    } in
    let old : State =
    state_over g.S.BagStore.queued g.S.BagStore.occupied g.S.BagStore.passed g.S.BagStore.ahead g.S.BagStore.has_room
    c.self.inside.sizes c.self.inside.common c.self.inside.seats.items
    (ending_of c.self.inside.end c.self.inside.hand.jobs c.self.inside.count) c.self.inside.putting.items
    c.self.inside.taking.items in
    subst (λ (s : State). MakesOneStep g.S.BagStore.queued g.S.BagStore.occupied g.S.BagStore.passed
    g.S.BagStore.ahead g.S.BagStore.has_room g.S.BagStore.PutMoves g.S.BagStore.TakeMoves s (Go c.args.position) s)
    c.self.view_is (
      inside,
      inside,
      refl,
      refl,
      past_once g.S.BagStore.PutMoves g.S.BagStore.TakeMoves old c.args.position _ _ inside (omega arith),
    )

-- the store's step is that of the participant's own cursors
pub returns-clause-one_step : goal.returns-clause-one_step
returns-clause-one_step g c =
    let ending : Ending = ending_of c.self.inside.end c.self.inside.hand.jobs c.self.inside.count in
    let puts = slice_set c.self.inside.putting.items c.args.position c.go_on.new.putting in
    let takes = slice_set c.self.inside.taking.items c.args.position c.go_on.new.taking in
    let new : State =
    state_over g.S.BagStore.queued g.S.BagStore.occupied g.S.BagStore.passed g.S.BagStore.ahead g.S.BagStore.has_room
    c.self.inside.sizes c.go_on.new.common c.go_on.new.seats.items ending puts takes in
    subst (λ (s : State). MakesOneStep g.S.BagStore.queued g.S.BagStore.occupied g.S.BagStore.passed
    g.S.BagStore.ahead g.S.BagStore.has_room g.S.BagStore.PutMoves g.S.BagStore.TakeMoves s (Go c.args.position) new)
    c.self.view_is (
      record {
        store = c.self.inside.common.store;
        putting = c.self.inside.putting.items;
        taking = c.self.inside.taking.items;
      },
      record { store = c.go_on.new.common.store; putting = puts; taking = takes },
      refl,
      refl,
      moves_in_lists g.S.BagStore.PutMoves g.S.BagStore.TakeMoves _ _ _ c.self.inside.common.store
          c.index_mut.result.now c.index_mut-2.result.now c.go_on.new.common.store c.go_on.new.putting
          c.go_on.new.taking c.self.inside.putting.items c.self.inside.taking.items c.args.position
          (stands_there c.self.inside.putting.items c.args.position c.index_mut.result.now
          (omega (arith, c.self.invariant.putting)) c.index_mut.ensures.value)
          (stands_there c.self.inside.taking.items c.args.position c.index_mut-2.result.now
          (omega (arith, c.self.invariant.taking)) c.index_mut-2.ensures.value) c.go_on.ensures.once,
    )
