use Rattle.std.proofs.Common.{◌≡◌, ◌∙◌, ℕ, sym, ap, subst, arith}
use Rattle.epoch_bags.specs.declared.job.Job.{Job}
use Rattle.epoch_bags.specs.declared.queue.TakeStep.{TakeStep}
use Rattle.epoch_tables.specs.SharedPlaces.{IsPlaceSeatOf as IsAt}
use Rattle.epoch_tables.specs.SharedSteps.{TakesAt, TakeMoves}
use Rattle.epoch_machine.specs.Machine.{Machine, ask_at, took_heard}
use Rattle.epoch_handles.proofs.Collecting.{take_again, take_ends, hand_called, next_bag, last_bag, one_bag_asked}
use Rattle.epoch_handles.proofs.local.Local.take_bags.Goals as goal

pub bags-init : goal.bags-init
bags-init g c = (c.args.expiry, c.in-Some.ensures.some)

-- the machine asks for a step of the collection, and the seat is where its cursor says
pub take_shared-step-requires : goal.take_shared-step-requires
take_shared-step-requires g c =
    let n = c.bags.self in let x = c.bags.invariant.0 in let taken = c.bags.invariant.1 in
    let asked = ap (λ (z : Machine (Job g.row.W.Denot)). ask_at z.stage) taken.machine in (
      omega arith,
      (
        omega arith,
        (
          (x, asked),
          (
            subst (λ z. IsAt z.now.places n.claimer) (sym taken.same.collector) taken.claimer,
            λ y is. subst (λ z. TakesAt z.now.places.capacity y c.bags.cursor n.claimer.me) (sym taken.same.collector)
                (subst (λ (z : ℕ). TakesAt c.args.self.now.collector.now.places.capacity z c.bags.cursor n.claimer.me)
                (one_bag_asked x y (sym asked ∙ is)) taken.at),
          ),
        ),
      ),
    )

pub bags-preserved-in-Again : goal.bags-preserved-in-Again
bags-preserved-in-Again g c =
    let h = c.args.self.now in let n = c.bags.self in let x = c.bags.invariant.0 in let taken = c.bags.invariant.1 in
    let told = c.take_shared-step.ensures in let places = taken.same.collector in
    let asked = ap (λ (z : Machine (Job g.row.W.Denot)). ask_at z.stage) taken.machine in
    let moved = told.moves x asked in (
      x,
      take_again _ _ h n x c.bags.cursor c.take_shared-step.new.cursor c.take_shared-step.new.self
          c.take_shared-step.new.seat moved.0 taken
          (subst (λ (step : TakeStep). c.take_shared-step.new.self
          ≡ took_heard n.machine n.machine.stage step c.take_shared-step.new.self.hand) c.in-Again.is told.after)
          (told.kept.0 ∙ taken.claimer)
          (subst (λ z. TakesAt z.now.places.capacity x c.take_shared-step.new.cursor c.take_shared-step.new.seat.me)
          places (told.at x asked))
          (subst (λ (step : TakeStep). TakeMoves h.collector.now.places.capacity x c.bags.cursor n.claimer.me step
          c.take_shared-step.new.cursor c.take_shared-step.new.seat.me moved.0) c.in-Again.is
          (subst (λ z. TakeMoves z.now.places.capacity x c.bags.cursor n.claimer.me c.take_shared-step.result
          c.take_shared-step.new.cursor c.take_shared-step.new.seat.me moved.0) places moved.2)),
    )

pub returns-in-Empty : goal.returns-in-Empty
returns-in-Empty g c =
    let h = c.args.self.now in let n = c.bags.self in let x = c.bags.invariant.0 in let taken = c.bags.invariant.1 in
    let told = c.take_shared-step.ensures in let places = taken.same.collector in
    let asked = ap (λ (z : Machine (Job g.row.W.Denot)). ask_at z.stage) taken.machine in
    let moved = told.moves x asked in
    take_ends _ _ h n x c.bags.cursor c.take_shared-step.new.cursor c.take_shared-step.new.self
    c.take_shared-step.new.seat moved.0 taken
    (subst (λ (step : TakeStep). c.take_shared-step.new.self
    ≡ took_heard n.machine n.machine.stage step c.take_shared-step.new.self.hand) c.in-Empty.is told.after)
    (told.kept.0 ∙ taken.claimer)
    (told.rests (λ again. absurd (cc (c.in-Empty.is, again))))
    (subst (λ (step : TakeStep). TakeMoves h.collector.now.places.capacity x c.bags.cursor n.claimer.me step
    c.take_shared-step.new.cursor c.take_shared-step.new.seat.me moved.0) c.in-Empty.is
    (subst (λ z. TakeMoves z.now.places.capacity x c.bags.cursor n.claimer.me c.take_shared-step.result
    c.take_shared-step.new.cursor c.take_shared-step.new.seat.me moved.0) places moved.2))

pub is_taking-requires : goal.is_taking-requires
is_taking-requires g c = omega arith

-- the bag got, whose jobs were called: it was the last one, or a further one is looked for
pub returns-then-not-is_taking : goal.returns-then-not-is_taking
returns-then-not-is_taking g c =
    let h = c.args.self.now in
    let n = c.bags.self in
    let w = c.call_hand.new.self in
    let told = c.take_shared-step.ensures in
    let next = c.take_shared-step.new.cursor in
    last_bag _ _ h w c.bags.invariant.0 c.bags.invariant.1.taken next
    (hand_called _ _ h n w c.bags.invariant.0 c.bags.cursor next c.take_shared-step.result
    c.take_shared-step.new.self c.take_shared-step.new.seat c.bags.invariant.1
    c.in-Got.is told.after told.kept told.at told.rests told.moves c.call_hand.ensures.only c.call_hand.ensures.calls)
    (sym c.is_taking.ensures ∙ c.if-not-is_taking.true)

pub bags-preserved : goal.bags-preserved
bags-preserved g c =
    let h = c.args.self.now in
    let n = c.bags.self in
    let w = c.call_hand.new.self in
    let told = c.take_shared-step.ensures in
    let next = c.take_shared-step.new.cursor in (
      c.bags.invariant.0,
      next_bag _ _ h w c.bags.invariant.0 c.bags.invariant.1.taken next
          (hand_called _ _ h n w c.bags.invariant.0 c.bags.cursor next c.take_shared-step.result
          c.take_shared-step.new.self c.take_shared-step.new.seat c.bags.invariant.1
          c.in-Got.is told.after told.kept told.at told.rests told.moves c.call_hand.ensures.only
          c.call_hand.ensures.calls) (sym c.is_taking.ensures ∙ c.if-not-is_taking.false),
    )
