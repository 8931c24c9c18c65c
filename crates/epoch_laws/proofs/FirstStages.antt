-- The stage at which an action begins is fine.
use Rattle.std.proofs.Common.{◌≡◌, ℕ, ◌+◌, ◌-◌, ◌<◌, ◌==◌, true, false, not, length, refl, ap, sym, ◌∙◌, arith}
use Rattle.std.proofs.lemmas.Bool.Decides.{nat_tests}
use Rattle.epoch_machine.specs.declared.machine.Action.{Action}
use Rattle.epoch_machine.specs.declared.machine.Action.TheVariants.{Pin, Unpin, Repin, Defer, Flush, Release}
use Rattle.epoch_machine.specs.declared.machine.Stage.TheVariants.{LoadPin, LoadScan, LoadSeal, Keep, LoadRepin}
use Rattle.epoch_machine.specs.declared.machine.Stage.TheVariants.{StoreUnpinned, End}
use Rattle.epoch_machine.specs.Machine.{Machine, is_empty, first_stage, begun}
use Rattle.epoch_machine.proofs.StagesAfter.{by_test, either_way}
use Rattle.epoch_laws.specs.declared.step.Deferral.{Deferral}
use Rattle.epoch_laws.proofs.SeatsFine.{View, IsNext}

-- what an action that begins knows of the guards counted
abbrev pub Allows : Action → ℕ → Type 0
Allows Pin n = Unit {0}
Allows Release n = n ≡ 0
Allows _ n = 0 < n

none_of_none : (n : ℕ) → n ≡ 0 → (n == 0) ≡ true
none_of_none n none = grind (arith, nat_tests)

some_of_some : (n : ℕ) → 0 < n → (n == 0) ≡ false
some_of_some n some = grind (arith, nat_tests)

some_of_more : (n : ℕ) → (n + 1 == 0) ≡ false
some_of_more n = grind (arith, nat_tests)

none_of_last : (n : ℕ) → (n == 1) ≡ true → (n - 1 == 0) ≡ true
none_of_last n last = grind (arith, nat_tests)

some_of_rest : (n : ℕ) → 0 < n → (n == 1) ≡ false → (n - 1 == 0) ≡ false
some_of_rest n some more = grind (arith, nat_tests)

-- from rest a machine may go on to the first stage of an action that its guards allow
pub next_begun : (v : View) (p : ℕ) (m : Machine Deferral) (a : Action) → Allows a m.guards
    → IsNext v p (not (m.guards == 0)) (begun a m) (first_stage a m)
next_begun v p m Pin given = by_test (IsNext v p _ (begun Pin m)) (m.guards == 0) LoadPin End
    (λ none. record { publishes = ap not (sym none); aims = some_of_more m.guards; knows = tt })
    (λ more. record { publishes = ap not (some_of_more m.guards ∙ sym more); aims = tt; knows = tt })
next_begun v p m Unpin given = let some = some_of_some m.guards given in
    by_test (IsNext v p _ (begun Unpin m)) (m.guards == 1) StoreUnpinned End
    (λ last. record { publishes = ap not (sym some); aims = none_of_last m.guards last; knows = tt })
    (λ more. record { publishes = ap not (some_of_rest m.guards given more ∙ sym some); aims = tt; knows = tt })
next_begun v p m Repin given = let some = some_of_some m.guards given in
    either_way (IsNext v p _ (begun Repin m)) (m.guards == 1) LoadRepin End
    (record { publishes = ap not (sym some); aims = some; knows = tt })
    (record { publishes = refl; aims = tt; knows = tt })
next_begun v p m Defer given = let some = some_of_some m.guards given in
    either_way (IsNext v p _ (begun Defer m)) (length m.held == m.sizes.bag_jobs) LoadSeal Keep
    (record { publishes = ap not (sym some); aims = some; knows = tt })
    (record { publishes = ap not (sym some); aims = some; knows = tt })
next_begun v p m Flush given = let some = some_of_some m.guards given in
    either_way (IsNext v p _ (begun Flush m)) (is_empty m.held) LoadScan LoadSeal
    (record { publishes = ap not (sym some); aims = some; knows = tt })
    (record { publishes = ap not (sym some); aims = some; knows = tt })
next_begun v p m Release given = let none = none_of_none m.guards given in
    record { publishes = ap not (sym none); aims = none; knows = tt }
