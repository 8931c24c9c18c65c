-- What a step Go finds of the places: only one of a put finds any, and only for its own participant.
use Rattle.std.proofs.Common.{◌≢◌, ℕ, inl, inr, refl}
use Rattle.epoch_bags.specs.declared.queue.PutStep.{PutStep}
use Rattle.epoch_machine.specs.Machine.{Machine, PutsHeld}
use Rattle.epoch_laws.specs.declared.step.Deferral.{Deferral}
use Rattle.epoch_laws.specs.declared.step.Reply.{Reply}
use Rattle.epoch_laws.specs.declared.step.Step.TheVariants.{Go}
use Rattle.epoch_laws.specs.Full.{IsOfPut, found_after}
use Rattle.epoch_laws.specs.Places.{PutSees}
use Rattle.epoch_laws.specs.Run.{State, seat_of, turn_of, occupancy_of}
use Rattle.epoch_laws.proofs.SeatsFind.{SameFound}
use Rattle.epoch_laws.proofs.PutSteps.{FindsMore, bags_stay, not_done}

module _ (found : ℕ → ℕ → Type 0) (old new : State) (reply : Reply) (p : ℕ) where
  abbrev later : ℕ → ℕ → Type 0
  later = found_after found old (Go p) reply new

  pub others_same : (q : ℕ) → q ≢ p → SameFound (found q) (later q)
  others_same q other = record {
    more = λ k at. inl at;
    back = λ k at. elim at [ inl earlier ↦ earlier | inr own ↦ absurd (other own.0) ];
  }

  pub own_same : ¬ (IsOfPut (turn_of (seat_of old p))) → SameFound (found p) (later p)
  own_same off = record {
    more = λ k at. inl at;
    back = λ k at. elim at [ inl earlier ↦ earlier | inr own ↦ absurd (off own.1.puts) ];
  }

  pub put_more : (seal : ℕ) (m : Machine Deferral) (step : PutStep) → IsOfPut (turn_of (seat_of old p))
      → PutsHeld seal m old.queued step new.queued → PutSees step (occupancy_of old p) (occupancy_of new p)
      → FindsMore (found p) (later p) step (occupancy_of old p) (occupancy_of new p)
  put_more seal m step puts put sees = record {
    more = λ k at. inl at;
    passed = λ on k from below. inr (
      refl,
      record {
        puts = puts;
        looked = (from, below);
        occupied = sees.occupied on k from below;
        not_put = bags_stay seal m old.queued new.queued step put on;
      },
    );
    only = λ k at. elim at [
      | inl earlier ↦ inl earlier
      | inr own ↦ inr (not_done seal m old.queued new.queued step put own.1.not_put, own.1.looked.1)
    ];
  }
