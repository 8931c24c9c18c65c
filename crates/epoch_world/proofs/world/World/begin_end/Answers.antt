use Rattle.std.proofs.Common.{◌≡◌, ◌∙◌, List, [], ap, refl, subst}
use Rattle.epoch_cells.specs.declared.fault.Fault.TheVariants.{ParticipantsLeft}
use Rattle.epoch_world.specs.declared.world.EndStage.{EndStage}
use Rattle.epoch_laws.specs.declared.step.Deferral.{Deferral}
use Rattle.epoch_laws.specs.declared.step.Reply.TheVariants.{Began, Refused}
use Rattle.epoch_laws.specs.declared.step.Step.TheVariants.{End as EndStep}
use Rattle.epoch_laws.specs.Run.{State, Open, Emptying, TakesStep}
use Rattle.epoch_world.specs.Worlds.{state_of, state_over, with_bags, ending_of}
use Rattle.epoch_world.proofs.WorldKept.{kept_moves}
use Rattle.epoch_world.proofs.WorldSteps.{end_moves, end_refused}
use Rattle.epoch_world.proofs.world.World.begin_end.Goals as goal

pub returns-then-not-all_free : goal.returns-then-not-all_free
returns-then-not-all_free g c =
    let old : State =
    state_over g.S.BagStore.queued g.S.BagStore.occupied g.S.BagStore.passed g.S.BagStore.ahead g.S.BagStore.has_room
    c.self.inside.sizes c.self.inside.common c.self.inside.seats.items
    (ending_of c.self.inside.end c.self.inside.hand.jobs c.self.inside.count) c.self.inside.putting.items
    c.self.inside.taking.items in
    let opened : old.ending ≡ Open =
    ap (λ (e : EndStage). ending_of e c.self.inside.hand.jobs c.self.inside.count) c.in-Open.is in
    subst (λ (s : State). TakesStep s EndStep (Refused ParticipantsLeft) s) c.self.view_is
    (end_refused old opened (c.all_free.ensures.no c.if-not-all_free.true))

pub invariant_of-self : goal.invariant_of-self
invariant_of-self g c =
    let old : State =
    state_of c.self.inside.sizes (with_bags g.S.BagStore.queued c.self.inside.common) c.self.inside.seats.items
    (ending_of c.self.inside.end c.self.inside.hand.jobs c.self.inside.count) in
    let opened : old.ending ≡ Open =
    ap (λ (e : EndStage). ending_of e c.self.inside.hand.jobs c.self.inside.count) c.in-Open.is in
    let new : State = record old { ending = Emptying c.seal-self-inside.result.jobs 0 } in
    let emptying : new ≡ record old { ending = Emptying [] 0 } = ap (λ (hand : List Deferral).
    record old { ending = Emptying hand 0 }) (c.seal-self-inside.ensures.jobs ∙ c.new.ensures.empty) in
    record {
      sized = c.self.invariant.sized;
      epoch = c.self.invariant.epoch;
      putting = c.self.invariant.putting;
      taking = c.self.invariant.taking;
      kept = kept_moves old new EndStep Began c.self.invariant.kept refl
          (end_moves old new opened (c.all_free.ensures.yes c.if-not-all_free.false) emptying);
      claimed = c.self.invariant.claimed;
      reserved = c.self.invariant.reserved;
    }

pub returns : goal.returns
returns g c =
    let old : State =
    state_over g.S.BagStore.queued g.S.BagStore.occupied g.S.BagStore.passed g.S.BagStore.ahead g.S.BagStore.has_room
    c.self.inside.sizes c.self.inside.common c.self.inside.seats.items
    (ending_of c.self.inside.end c.self.inside.hand.jobs c.self.inside.count) c.self.inside.putting.items
    c.self.inside.taking.items in
    let opened : old.ending ≡ Open =
    ap (λ (e : EndStage). ending_of e c.self.inside.hand.jobs c.self.inside.count) c.in-Open.is in
    let new : State = record old { ending = Emptying c.seal-self-inside.result.jobs 0 } in
    let emptying : new ≡ record old { ending = Emptying [] 0 } = ap (λ (hand : List Deferral).
    record old { ending = Emptying hand 0 }) (c.seal-self-inside.ensures.jobs ∙ c.new.ensures.empty) in
    subst (λ (s : State). TakesStep s EndStep Began new) c.self.view_is
    (end_moves old new opened (c.all_free.ensures.yes c.if-not-all_free.false) emptying, (refl, refl, refl, refl))
