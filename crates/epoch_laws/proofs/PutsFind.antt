-- What the puts of all participants have found of the places, between any two steps.
use Rattle.std.proofs.Common.{◌≡◌, ◌≢◌, ℕ, ◌<◌, length, Option, Some, inl, inr, refl, ap, sym, subst, subst₂, ◌∙◌}
use Rattle.epoch_machine.specs.declared.machine.Ask.{Ask}
use Rattle.epoch_machine.specs.declared.machine.Ask.TheVariants.{LoadEpoch, PutBag, TakeBag}
use Rattle.epoch_machine.specs.declared.machine.Stage.{Stage}
use Rattle.epoch_machine.specs.Machine.{Machine}
use Rattle.epoch_laws.specs.declared.step.Deferral.{Deferral}
use Rattle.epoch_laws.specs.declared.step.Progress.{Progress}
use Rattle.epoch_laws.specs.declared.step.Progress.TheVariants.{Idle, Driven, CallsNow, Ends, Accesses}
use Rattle.epoch_laws.specs.declared.step.Step.{Step}
use Rattle.epoch_laws.specs.declared.step.Step.TheVariants.{Go, EndGo}
use Rattle.epoch_laws.specs.declared.step.Word.{Word}
use Rattle.epoch_laws.specs.declared.step.Word.TheVariants.{Free, Unpinned, Pinned}
use Rattle.epoch_laws.specs.Places.{Occupancy, SeesOccupied}
use Rattle.epoch_laws.specs.Run.{WorldSeat, State, seat_of, with_seat, seen_by, occupancy_of, turn_at, SeesPlaces}
use Rattle.epoch_laws.proofs.SeatLemmas.{seat_written, seat_other, same_or_other}
use Rattle.epoch_laws.proofs.SeatsFind.{PutFinds, SameFound, finds_still}

abbrev pub AllFind : (ℕ → ℕ → Type 0) → State → Type 0
AllFind found s = (p : ℕ) → PutFinds (found p) (length s.places) (seen_by s p) (seat_of s p)

-- WHAT A STEP LOOKS AT

looks_count : (o : Option Ask) (m n : Machine Deferral) (old new : Occupancy) → SeesOccupied o m n old new
    → length new.places ≡ length old.places
looks_count (Some LoadEpoch) m n old new did = ap length did.0
looks_count (Some (PutBag seal)) m n old new (step, heard, sees) = sees.places
looks_count (Some (TakeBag x)) m n old new did = did.0
looks_count _ m n old new did = ap length did.0

-- no step makes more places, or fewer
pub same_count : (old new : State) (step : Step) → SeesPlaces old step new → length new.places ≡ length old.places
same_count old new (Go p) did =
    looks_count _ (seat_of old p).machine (seat_of new p).machine (occupancy_of old p) (occupancy_of new p) did.0
same_count old new EndGo did = did.0
same_count old new _ did = ap length did.0

-- what a participant's word is plays no part but that it isn't free
pub turn_taken : (w : Word) (progress : Progress) (s : Stage)
    → w ≢ Free → turn_at w progress s ≡ turn_at Unpinned progress s
turn_taken Free progress s taken = absurd (taken refl)
turn_taken Unpinned progress s taken = refl
turn_taken (Pinned e) Idle s taken = refl
turn_taken (Pinned e) (Driven c) s taken = refl
turn_taken (Pinned e) (CallsNow removes) s taken = refl
turn_taken (Pinned e) (Accesses a k found) s taken = refl
turn_taken (Pinned e) (Ends r) s taken = refl

-- ALL SEATS

module _ (old new : State) (found later : ℕ → ℕ → Type 0) (h : AllFind found old)
    (count : length new.places ≡ length old.places) where
  keeps_finding : (q : ℕ) → SameFound (found q) (later q) → seen_by new q ≡ seen_by old q
      → seat_of new q ≡ seat_of old q → PutFinds (later q) (length new.places) (seen_by new q) (seat_of new q)
  keeps_finding q still seen same = subst (PutFinds (later q) (length new.places) (seen_by new q)) (sym same)
      (subst₂ (λ (n m : ℕ). PutFinds (later q) n m (seat_of old q)) (sym count) (sym seen)
      (finds_still (found q) (later q) still (length old.places) (seen_by old q) (seat_of old q) (h q)))

  -- no seat is written
  pub find_along : ((q : ℕ) → SameFound (found q) (later q)) → ((q : ℕ) → seen_by new q ≡ seen_by old q)
      → ((q : ℕ) → seat_of new q ≡ seat_of old q) → AllFind later new
  find_along still seen same q = keeps_finding q (still q) (seen q) (same q)

  -- one seat is written
  pub find_written : (p : ℕ) (after : WorldSeat)
      → p < length old.seats → ((q : ℕ) → q ≢ p → SameFound (found q) (later q))
      → ((q : ℕ) → q ≢ p → seen_by new q ≡ seen_by old q)
      → ((q : ℕ) → seat_of new q ≡ seat_of (with_seat old p after) q)
      → PutFinds (later p) (length new.places) (seen_by new p) after → AllFind later new
  find_written p after there still seen wrote own q = elim (same_or_other q p) [
    | inl same ↦ subst (λ (k : ℕ). PutFinds (later k) (length new.places) (seen_by new k) (seat_of new k)) (sym same)
        (subst (PutFinds (later p) (length new.places) (seen_by new p))
        (sym (wrote p ∙ seat_written old p after there)) own)
    | inr other ↦ keeps_finding q (still q other) (seen q other) (wrote q ∙ seat_other old p q after other)
  ]
