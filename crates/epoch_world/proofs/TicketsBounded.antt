-- Every step keeps the tickets below their limit, with those that the deferrals under way may still take.
use Rattle.std.proofs.Common.{◌≡◌, ℕ, ◌+◌, ◌^◌, ◌<◌, ◌≤◌, length, refl, ap}
use Rattle.std.proofs.Common.{sym, subst, ◌∙◌, arith}
use Rattle.std.proofs.lemmas.List.Sums.{get_or-le-sum_by}
use Rattle.epoch_machine.specs.declared.machine.Action.{Action}
use Rattle.epoch_machine.specs.declared.machine.Action.TheVariants.{Defer}
use Rattle.epoch_machine.specs.declared.machine.Stage.TheVariants.{Keep}
use Rattle.epoch_machine.specs.Machine.{Machine}
use Rattle.epoch_laws.specs.declared.step.Step.{Step}
use Rattle.epoch_laws.specs.declared.step.Reply.{Reply}
use Rattle.epoch_laws.specs.declared.step.Deferral.{Deferral}
use Rattle.epoch_laws.specs.Run.{State, seat_of, free_seat}
use Rattle.epoch_laws.specs.Run.{Moves, IsFresh}
use Rattle.epoch_laws.proofs.StepKinds.{StepKind, Refusal, Registration, CallBegins, MachineStep, JobStep, CellsStep}
use Rattle.epoch_laws.proofs.StepKinds.{LastReply, EndBegins, EndCalls, EndTakes, EndIsOver, step_kind}
use Rattle.epoch_laws.proofs.TicketSums.{sum_zero}
use Rattle.epoch_world.proofs.PendingDeferrals.{pending_at, pending, KeepsAt, KeepsAsDeferral}
pub use Rattle.epoch_world.proofs.PendingDeferrals.{TicketsBounded}
use Rattle.epoch_world.proofs.DeferralsBounded.{registers, begins, drives_on, goes_by_itself}

kind_bounded : (old : State) → TicketsBounded old → (step : Step) (reply : Reply) (new : State)
    → StepKind old step reply new → TicketsBounded new
kind_bounded old h _ _ _ (Refusal step fault) = h
kind_bounded old h _ _ _ (Registration p opened there free) = registers old _ h p there refl
kind_bounded old h _ _ _ (CallBegins p c given) = begins old _ h p given.taken c given.own refl
kind_bounded old h _ _ _ (MachineStep p c reply new taken drive did) = drives_on old new h p taken c reply did
kind_bounded old h _ _ _ (JobStep p removes taken now) = goes_by_itself old _ h p taken _ _ _ refl
kind_bounded old h _ _ _ (CellsStep p a k found did taken now touches) = goes_by_itself old _ h p taken _ _ _ refl
kind_bounded old h _ _ _ (LastReply p reply taken now) = goes_by_itself old _ h p taken _ _ _ refl
-- a step of the end leaves participants and tickets alone
kind_bounded old h _ _ _ (EndBegins opened free) = record { tickets = h.tickets; keeps = h.keeps }
kind_bounded old h _ _ _ (EndCalls job jobs n at) = record { tickets = h.tickets; keeps = h.keeps }
kind_bounded old h _ _ _ (EndTakes bag queued n at out) = record { tickets = h.tickets; keeps = h.keeps }
kind_bounded old h _ _ _ (EndIsOver n at none) = record { tickets = h.tickets; keeps = h.keeps }

-- each kind of step keeps that
pub tickets_bounded : (old new : State) (step : Step) (reply : Reply)
    → Moves old step reply new
    → TicketsBounded old
    → TicketsBounded new
tickets_bounded old new step reply did h = kind_bounded old h step reply new (step_kind old new step reply did)

-- and it holds of a new world
pub fresh_bounded : (s : State) → IsFresh s → TicketsBounded s
fresh_bounded s fresh = record {
  tickets =
      let none_pending = sum_zero pending s.seats (free_seat s.sizes) (λ p. ap pending (fresh.free p)) in
      omega (arith, fresh.no_tickets, none_pending);
  keeps = λ p. subst KeepsAsDeferral (sym (fresh.free p)) tt;
}

-- where a job is kept, its ticket is in range
pub keep_fits : (s : State) (p : ℕ)
    → TicketsBounded s
    → p < length s.seats
    → (seat_of s p).machine.stage ≡ Keep
    → length s.seats ≤ 64
    → s.tickets + 1 < 2 ^ 64
keep_fits s p h there at few =
    let m : Machine Deferral = (seat_of s p).machine in
    let defers : m.action ≡ Defer = subst (KeepsAt m.action) at (h.keeps p) in
    let at_stage = λ (a : Action). pending_at a m.stage in
    let one : pending_at m.action m.stage ≡ 1 = ap at_stage defers ∙ ap (pending_at Defer) at in
    omega (arith, h.tickets, one, get_or-le-sum_by pending s.seats p (free_seat s.sizes) there)
