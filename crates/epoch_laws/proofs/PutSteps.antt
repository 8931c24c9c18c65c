-- What one step of a put finds of the places.
use Rattle.std.proofs.Common.{◌≡◌, ◌≢◌, ℕ, ◌<◌, ◌≤◌, Bool, true, false, List, length, ◌⊎◌, inl, inr, refl, ap, sym}
use Rattle.std.proofs.Common.{subst, ◌∙◌, arith}
use Rattle.epoch_bags.specs.declared.queue.PutStep.{PutStep}
use Rattle.epoch_bags.specs.declared.queue.PutStep.TheVariants.{Again, Done, Full}
use Rattle.epoch_machine.specs.declared.machine.Stage.TheVariants.{Put}
use Rattle.epoch_machine.specs.Machine.{Machine, put_heard, PutsHeld}
use Rattle.epoch_laws.specs.declared.step.Call.{Call}
use Rattle.epoch_laws.specs.declared.step.Deferral.{Deferral}
use Rattle.epoch_laws.specs.declared.step.Progress.TheVariants.{Driven}
use Rattle.epoch_laws.specs.Places.{Occupancy, PutSees}
use Rattle.epoch_laws.specs.Run.{Bag, WorldSeat, with_machine}
use Rattle.epoch_laws.proofs.PutStages.{FoundSeen, FoundWhere, seen_missed, FoundAt, found_put, put_ends}
use Rattle.epoch_laws.proofs.SeatsFind.{FoundIn, PutFinds}
use Rattle.epoch_laws.proofs.StoredBags.{one_less}

-- WHICH STEP IT WAS

-- the bags stay exactly where the put isn't done
pub bags_stay : (seal : ℕ) (m : Machine Deferral) (old new : List Bag) (step : PutStep) → PutsHeld seal m old step new
    → step ≢ Done → new ≡ old
bags_stay seal m old new Again put on = put
bags_stay seal m old new Done put on = absurd (on refl)
bags_stay seal m old new Full put on = put

-- a step of a put that leaves the bags as they were hasn't put one
pub not_done : (seal : ℕ) (m : Machine Deferral) (old new : List Bag) (step : PutStep) → PutsHeld seal m old step new
    → new ≡ old → step ≢ Done
not_done seal m old new Again put same = λ done. cc
not_done seal m old new Done put same = λ done. omega (arith, one_less new old _ put, ap length same)
not_done seal m old new Full put same = λ done. cc

-- the machine after a step tells which step it was
pub same_step : (seal : ℕ) (m : Machine Deferral) → m.stage ≡ Put seal → (step told : PutStep)
    → put_heard m step ≡ put_heard m told → step ≡ told
same_step seal m at step told same = by_step step told
    (ap (λ (n : Machine Deferral). n.stage) same) (ap (λ (n : Machine Deferral). n.full) same)
  where
    by_step : (step told : PutStep) → (put_heard m step).stage ≡ (put_heard m told).stage
        → (put_heard m step).full ≡ (put_heard m told).full → step ≡ told
    by_step Again Again stage full = refl
    by_step Again Done stage full = absurd (put_ends m.action false seal (sym stage ∙ at))
    by_step Again Full stage full = absurd (put_ends m.action true seal (sym stage ∙ at))
    by_step Done Again stage full = absurd (put_ends m.action false seal (stage ∙ at))
    by_step Done Done stage full = refl
    by_step Done Full stage full = absurd (cc (full))
    by_step Full Again stage full = absurd (put_ends m.action true seal (stage ∙ at))
    by_step Full Done stage full = absurd (cc (full))
    by_step Full Full stage full = refl

-- WHAT IS FOUND

-- what a step finds beside the places found before it
pub record FindsMore (was found : ℕ → Type 0) (step : PutStep) (old new : Occupancy) : Type 0 where
  pub more : (k : ℕ) → was k → found k
  pub passed : step ≢ Done → (k : ℕ) → old.seen ≤ k → k < new.seen → found k
  pub only : (k : ℕ) → found k → was k ⊎ ((step ≢ Done) × (k < new.seen))

module _ (was found : ℕ → Type 0) (old new : Occupancy) (step : PutStep) (sees : PutSees step old new)
    (finds : FindsMore was found step old new) (before : FoundSeen was (length old.places) old.seen) where
  found_upto : step ≢ Done → (k : ℕ) → k < new.seen → found k
  found_upto on k lt = elim (split k old.seen) [
    | inl below ↦ finds.more k (before.so_far k below)
    | inr past ↦ finds.passed on k past lt
  ]
    where
      split : (a b : ℕ) → (a < b) ⊎ (b ≤ a)
      split a b = grind arith

  found_only : step ≢ Done → (k : ℕ) → found k → k < new.seen
  found_only on k at = elim (finds.only k at) [
    | inl earlier ↦ omega (arith, before.only k earlier, sees.onward on)
    | inr now ↦ now.1
  ]

  -- the put goes on
  again_seen : step ≡ Again → FoundSeen found (length new.places) new.seen
  again_seen again =
      let on : step ≢ Done = λ done. absurd (cc (again, done)) in
      let short : new.seen < length new.places = omega (arith, sees.places, sees.again again) in
      record { so_far = found_upto on; only = found_only on; short = λ some. short }

  again_where : step ≡ Again → (full : Bool) → FoundWhere was (length old.places) full
      → FoundWhere found (length new.places) full
  again_where again true each = λ k lt. finds.more k (each k (omega (arith, lt, sees.places)))
  again_where again false missed = seen_missed found (length new.places) new.seen (again_seen again)

  -- it isn't put after the last place
  full_each : step ≡ Full → FoundWhere found (length new.places) true
  full_each full k lt = found_upto (λ done. absurd (cc (full, done))) k (omega (arith, lt, sees.places, sees.full full))

  -- it is put at a place that wasn't found
  done_missed : step ≡ Done → FoundWhere found (length new.places) false
  done_missed done some each = seen_missed was (length old.places) old.seen before (omega (arith, some, sees.places))
      (λ k lt. elim (finds.only k (each k (omega (arith, lt, sees.places)))) [
        | inl earlier ↦ earlier
        | inr now ↦ absurd (now.0 done)
      ])

-- the step of a put that is driven by a call
pub put_finds : (was found : ℕ → Type 0) (old new : Occupancy) (seat : WorldSeat) (c : Call) (seal : ℕ) (step : PutStep)
    → PutFinds was (length old.places) old.seen seat → seat.progress ≡ Driven c → seat.machine.stage ≡ Put seal
    → PutSees step old new → FindsMore was found step old new
    → PutFinds found (length new.places) new.seen (with_machine seat (put_heard seat.machine step))
put_finds was found old new seat c seal step h drive at sees finds = by_step step sees finds
  where
    here : FoundAt was (length old.places) old.seen seat.machine.action seat.machine.full (Put seal)
    here = subst (FoundAt was (length old.places) old.seen seat.machine.action seat.machine.full) at h.by_stage

    told : FoundWhere was (length old.places) seat.machine.full
    told = subst (FoundIn was (length old.places) seat.machine.full) drive h.by_progress

    driven : (full : Bool) → FoundWhere found (length new.places) full
        → FoundIn found (length new.places) full seat.progress
    driven full is = subst (FoundIn found (length new.places) full) (sym drive) is

    by_step : (step : PutStep) → PutSees step old new → FindsMore was found step old new
        → PutFinds found (length new.places) new.seen (with_machine seat (put_heard seat.machine step))
    by_step Again sees finds = record {
      by_stage = subst (FoundAt found (length new.places) new.seen seat.machine.action seat.machine.full) (sym at)
          (here.0, again_seen was found old new Again sees finds here.1 refl);
      by_progress = driven seat.machine.full
          (again_where was found old new Again sees finds here.1 refl seat.machine.full told);
      by_action = h.by_action;
    }
    by_step Done sees finds = record {
      by_stage = found_put found (length new.places) new.seen seat.machine.action false;
      by_progress = driven false (done_missed was found old new Done sees finds here.1 refl);
      by_action = λ plain. refl;
    }
    by_step Full sees finds = record {
      by_stage = found_put found (length new.places) new.seen seat.machine.action true;
      by_progress = driven true (full_each was found old new Full sees finds here.1 refl);
      by_action = λ plain. absurd (cc (here.0, plain));
    }
