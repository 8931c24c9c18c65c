-- The stage after a part of an action: what holds of each that may come holds of the one that does.
use Rattle.std.proofs.Common.{◌≡◌, ℕ, ◌+◌, ◌-◌, ◌^◌, ◌==◌, Bool, true, false, List, refl, if◌then◌else◌}
use Rattle.epoch_machine.specs.declared.machine.Stage.{Stage}
use Rattle.epoch_machine.specs.declared.machine.Stage.TheVariants.{LoadScan, Scan, Advance, Take, Calling}
use Rattle.epoch_machine.specs.Machine.{Machine, is_empty, after_collect, after_pin, after_job, holds_up, scanned}
use Rattle.epoch_machine.specs.Machine.{past_word}

-- where each way may use what the test found
pub by_test : (At : Stage → Type 0) (b : Bool) (s t : Stage) → (b ≡ true → At s) → (b ≡ false → At t)
    → At (if b then s else t)
by_test At true s t one other = one refl
by_test At false s t one other = other refl

module _ (At : Stage → Type 0) where
  pub either_way : (b : Bool) (s t : Stage) → At s → At t → At (if b then s else t)
  either_way b s t one other = by_test At b s t (λ yes. one) (λ no. other)

  pub after_pin_at : {J : Type 0} (m : Machine J) → At LoadScan → At (after_collect m.action m.held) → At (after_pin m)
  after_pin_at m scans collected = either_way (m.pins == 1) LoadScan (after_collect m.action m.held) scans collected

  pub scanned_at : (e : ℕ) → At (Take e 0) → At (Advance e) → At (scanned e)
  scanned_at e takes advances = either_way (e == 2 ^ 63 - 1) (Take e 0) (Advance e) takes advances

  pub past_word_at : (positions e k w : ℕ) → At (Take e 0) → At (Advance e) → At (Scan e (k + 1))
      → At (past_word positions e k w)
  past_word_at positions e k w takes advances scans = either_way (holds_up e w) (Take e 0) _ takes
      (either_way (k + 1 == positions) (scanned e) (Scan e (k + 1)) (scanned_at e takes advances) scans)

  pub after_job_at : {J : Type 0} (m : Machine J) (x k : ℕ) (jobs : List J)
      → At (Calling x k) → At (Take x (k + 1)) → At (after_collect m.action m.held) → At (after_job m x k jobs)
  after_job_at m x k jobs calls takes collected = either_way (is_empty jobs) _ (Calling x k)
      (either_way (k + 1 == m.sizes.collect_bags) (after_collect m.action m.held)
      (Take x (k + 1)) collected takes) calls
