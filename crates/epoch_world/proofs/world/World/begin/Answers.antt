use Rattle.std.proofs.Common.{ℕ, Bool, List, [], ◌∙◌, sym, refl, subst, map, slice_set, get_or-set_other}
use Rattle.std.proofs.lemmas.List.{length-set}
use Rattle.epoch_laws.specs.declared.step.Step.TheVariants.{Begin}
use Rattle.epoch_laws.specs.declared.step.Reply.TheVariants.{Began}
use Rattle.epoch_laws.specs.Run.{State, TakesStep, with_places}
use Rattle.epoch_world.specs.Worlds.{state_of, with_bags, ending_of, aheads}
use Rattle.epoch_world.proofs.AcceptedCalls.{IsGiven, given_by, given_rests, given_quiet, given_away, given_aheads}
use Rattle.epoch_world.proofs.AcceptedCalls.{given_moves}
use Rattle.epoch_world.proofs.AcceptedCalls.{refused_takes}
use Rattle.epoch_world.proofs.CollectionSteps.{claims_quiet}
use Rattle.epoch_world.proofs.RoomSteps.{reserves_quiet}
use Rattle.epoch_world.proofs.WorldKept.{kept_moves}
use Rattle.epoch_world.proofs.world.World.begin.Goals as goal

pub returns-in-Some : goal.returns-in-Some
returns-in-Some g c =
    refused_takes c.args.self.now c.args.position c.args.call c.refusal.result c.in-Some.fault
    c.refusal.ensures c.in-Some.is

pub begin-requires : goal.begin-requires
begin-requires g c =
    let old : State =
    state_of c.self.inside.sizes (with_bags g.S.BagStore.queued c.self.inside.common) c.self.inside.seats.items
    (ending_of c.self.inside.end c.self.inside.hand.jobs c.self.inside.count) in
    let given : IsGiven old c.args.self.now c.args.position c.args.call c.refusal.result c.index_mut.result.now =
    given_by _ _ _ _ c.self.view_is c.refusal.ensures c.in_default.is c.index_mut.ensures.value in
    given_rests _ _ _ _ _ _ given c.self.invariant.kept

pub invariant_of-self : goal.invariant_of-self
invariant_of-self g c =
    let old : State =
    state_of c.self.inside.sizes (with_bags g.S.BagStore.queued c.self.inside.common) c.self.inside.seats.items
    (ending_of c.self.inside.end c.self.inside.hand.jobs c.self.inside.count) in
    let given : IsGiven old c.args.self.now c.args.position c.args.call c.refusal.result c.index_mut.result.now =
    given_by _ _ _ _ c.self.view_is c.refusal.ensures c.in_default.is c.index_mut.ensures.value in
    let same = sym (length-set c.self.inside.seats.items c.args.position c.begin.new.self) in
    record {
      sized = c.self.invariant.sized;
      epoch = c.self.invariant.epoch;
      putting = c.self.invariant.putting ∙ same;
      taking = c.self.invariant.taking ∙ same;
      kept = kept_moves old _ (Begin c.args.position c.args.call) Began c.self.invariant.kept
          (length-set c.self.inside.seats.items c.args.position c.begin.new.self)
          (given_moves _ _ _ _ _ _ given c.begin.new.self [] [] [] [] c.begin.ensures);
      claimed = claims_quiet g.S.BagStore.Claims c.self.inside.sizes _ c.self.inside.seats.items _
          c.self.inside.taking.items c.args.position
          (given_quiet _ _ _ _ _ _ given c.self.invariant.kept) (λ q other. get_or-set_other c.self.inside.seats.items
          c.args.position q c.begin.new.self _ other) c.self.invariant.claimed;
      reserved = reserves_quiet g.S.BagStore.Reserves g.S.BagStore.Claims c.self.inside.sizes _
          c.self.inside.seats.items _ c.self.inside.putting.items c.self.inside.taking.items c.args.position
          (given_away _ _ _ _ _ _ given c.self.invariant.kept) (given_quiet _ _ _ _ _ _ given c.self.invariant.kept)
          (λ q other. get_or-set_other c.self.inside.seats.items c.args.position q c.begin.new.self _
          other) c.self.invariant.reserved;
    }

pub returns : goal.returns
returns g c =
    let old : State =
    state_of c.self.inside.sizes (with_bags g.S.BagStore.queued c.self.inside.common) c.self.inside.seats.items
    (ending_of c.self.inside.end c.self.inside.hand.jobs c.self.inside.count) in
    let given : IsGiven old c.args.self.now c.args.position c.args.call c.refusal.result c.index_mut.result.now =
    given_by _ _ _ _ c.self.view_is c.refusal.ensures c.in_default.is c.index_mut.ensures.value in
    let seen : List ℕ = map g.S.BagStore.passed c.self.inside.putting.items in
    let room : List Bool =
    map (λ cursor. g.S.BagStore.has_room c.self.inside.common.store cursor) c.self.inside.putting.items in
    let all = slice_set c.self.inside.seats.items c.args.position c.begin.new.self in
    let was : List ℕ = aheads (λ x cursor. g.S.BagStore.ahead x c.self.inside.common.store cursor)
    c.self.inside.seats.items
    c.self.inside.taking.items in
    let is : List ℕ =
    aheads (λ x cursor. g.S.BagStore.ahead x c.self.inside.common.store cursor) all c.self.inside.taking.items in
    subst (λ (s : State). TakesStep s (Begin c.args.position c.args.call) Began (with_places
    (record old { seats = all }) (g.S.BagStore.occupied c.self.inside.common.store) seen is room)) c.self.view_is (
      given_moves _ _ _ _ _ _ given c.begin.new.self
          (g.S.BagStore.occupied c.self.inside.common.store) seen was room c.begin.ensures,
      (
        refl,
        refl,
        given_aheads _ _ _ _ _ _ given (λ x cursor. g.S.BagStore.ahead x c.self.inside.common.store cursor)
            c.self.inside.taking.items c.begin.new.self c.self.invariant.kept c.begin.ensures,
        refl,
      ),
    )
