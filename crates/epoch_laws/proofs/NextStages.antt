-- The stages after a collection, a pin, a put, an unpin and a job are fine.
use Rattle.std.proofs.Common.{◌≡◌, ℕ, ◌≤◌, Bool, true, false, not, List, [], ◌∷◌, refl, ap, subst}
use Rattle.epoch_machine.specs.declared.machine.Action.{Action}
use Rattle.epoch_machine.specs.declared.machine.Action.TheVariants.{Pin, Unpin, Repin, Defer, Flush, Release}
use Rattle.epoch_machine.specs.declared.machine.Stage.TheVariants.{End}
use Rattle.epoch_machine.specs.Machine.{Machine, after_collect, after_pin, after_put, after_unpin, after_job}
use Rattle.epoch_machine.proofs.StagesAfter.{after_pin_at, after_job_at}
use Rattle.epoch_laws.specs.declared.step.Deferral.{Deferral}
use Rattle.epoch_laws.proofs.SeatsFine.{View, is_release, ends_unguarded, IsNext, HandExpired}

-- a machine may go on to its action's end with its word pinned where a guard is counted then, and else unpinned
pub next_end : (v : View) (p : ℕ) (m : Machine Deferral) (b : Bool) → ends_unguarded m ≡ b → IsNext v p (not b) m End
next_end v p m b h = record { publishes = ap not h; aims = tt; knows = tt }

-- AFTER A COLLECTION, A PIN, A PUT AND AN UNPIN

collected : (v : View) (p : ℕ) (m : Machine Deferral) (a : Action) (jobs : List Deferral)
    → ends_unguarded m ≡ is_release a → ends_unguarded m ≡ is_release m.action
    → IsNext v p true m (after_collect a jobs)
collected v p m Release [] h aim = record { publishes = refl; aims = h; knows = tt }
collected v p m Release (job ∷ jobs) h aim = record { publishes = refl; aims = aim; knows = tt }
collected v p m Pin jobs h aim = next_end v p m false h
collected v p m Unpin jobs h aim = next_end v p m false h
collected v p m Repin jobs h aim = next_end v p m false h
collected v p m Defer jobs h aim = next_end v p m false h
collected v p m Flush jobs h aim = next_end v p m false h

-- a collection may go on to the stage after it, where the action ends without a guard exactly if it is a release
pub next_collected : (v : View) (p : ℕ) (m : Machine Deferral) (jobs : List Deferral)
    → ends_unguarded m ≡ is_release m.action → IsNext v p true m (after_collect m.action jobs)
next_collected v p m jobs aim = collected v p m m.action jobs aim aim

-- the same of the stage after a pin
pub next_pinned : (v : View) (p : ℕ) (m : Machine Deferral) → ends_unguarded m ≡ is_release m.action
    → IsNext v p true m (after_pin m)
next_pinned v p m aim = after_pin_at (IsNext v p true m) m
    (record { publishes = refl; aims = aim; knows = tt })
    (next_collected v p m m.held aim)

put_next : (v : View) (p : ℕ) (m : Machine Deferral) (a : Action) (full : Bool)
    → ends_unguarded m ≡ is_release a → ends_unguarded m ≡ is_release m.action → IsNext v p true m (after_put a full)
put_next v p m Flush full h aim = record { publishes = refl; aims = aim; knows = tt }
put_next v p m Defer false h aim = record { publishes = refl; aims = h; knows = tt }
put_next v p m Defer true h aim = next_end v p m false h
put_next v p m Release full h aim = record { publishes = refl; aims = h; knows = tt }
put_next v p m Pin full h aim = next_end v p m false h
put_next v p m Unpin full h aim = next_end v p m false h
put_next v p m Repin full h aim = next_end v p m false h

-- the same of the stage after a put
pub next_put : (v : View) (p : ℕ) (m : Machine Deferral) (full : Bool) → ends_unguarded m ≡ is_release m.action
    → IsNext v p true m (after_put m.action full)
next_put v p m full aim = put_next v p m m.action full aim aim

-- an unpin may go on to the stage after it, where the action ends without a guard
pub next_unpinned : (v : View) (p : ℕ) (m : Machine Deferral) (a : Action) (full : Bool) → ends_unguarded m ≡ true
    → IsNext v p false m (after_unpin a full)
next_unpinned v p m Release false aim = record { publishes = refl; aims = tt; knows = tt }
next_unpinned v p m Release true aim = next_end v p m true aim
next_unpinned v p m Pin full aim = next_end v p m true aim
next_unpinned v p m Unpin full aim = next_end v p m true aim
next_unpinned v p m Repin full aim = next_end v p m true aim
next_unpinned v p m Defer full aim = next_end v p m true aim
next_unpinned v p m Flush full aim = next_end v p m true aim

-- after a bag was taken, or one of its jobs called; the jobs that are left are in the hand of n
pub next_job : (v : View) (p : ℕ) (m n : Machine Deferral) (x k : ℕ) (jobs : List Deferral) → n.action ≡ m.action
    → ends_unguarded n ≡ is_release n.action → x ≤ v.epoch → HandExpired v n.hand
    → IsNext v p true n (after_job m x k jobs)
next_job v p m n x k jobs same aim seen expired = after_job_at (IsNext v p true n) m x k jobs
    (record { publishes = refl; aims = aim; knows = (seen, expired) })
    (record { publishes = refl; aims = aim; knows = seen })
    (subst (λ (a : Action). IsNext v p true n (after_collect a m.held)) same (next_collected v p n m.held aim))
