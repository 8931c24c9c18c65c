-- A scan goes on after a word that isn't pinned in another epoch, and stops at one that is.
use Rattle.std.proofs.Common.{◌≡◌, ℕ, ◌+◌, ◌-◌, ◌*◌, ◌^◌, ◌<◌, ◌≤◌, ◌==◌, ◌&&◌, Bool, true, false, not, length, ◌⊎◌}
use Rattle.std.proofs.Common.{inl, inr, refl, ap, sym, subst, arith, if◌then◌else◌}
use Rattle.std.proofs.lemmas.Bool.Decides.{nat_tests}
use Rattle.std.proofs.Math.Nat.{mul-add-mod_self_left}
use Rattle.epoch_machine.specs.declared.machine.Stage.TheVariants.{Scan, Advance, Take}
use Rattle.epoch_machine.specs.Machine.{Machine, holds_up, scanned, past_word}
use Rattle.epoch_machine.proofs.StagesAfter.{by_test, either_way}
use Rattle.epoch_laws.specs.declared.step.Deferral.{Deferral}
use Rattle.epoch_laws.specs.declared.step.Word.{Word}
use Rattle.epoch_laws.specs.declared.step.Word.TheVariants.{Free, Unpinned, Pinned}
use Rattle.epoch_laws.specs.Run.{WorldSeat, State, position_word, word_number}
use Rattle.epoch_laws.proofs.SeatLemmas.{seat_past}
use Rattle.epoch_laws.proofs.SeatsFine.{View, is_pinned, is_release, ends_unguarded, IsNext, HasScanned}

-- a word that is pinned and doesn't hold the scan up is pinned in its epoch
pub same_epoch : (e n : ℕ) → holds_up e (2 * n + 1) ≡ false → n ≡ e
same_epoch e n h = same (unless_both _ _ h (ap (λ (r : ℕ). r == 1) (mul-add-mod_self_left 2 n 1)))
  where
    unless_both : (a b : Bool) → (a && not b) ≡ false → a ≡ true → b ≡ true
    unless_both true true neither one = refl
    unless_both true false neither one = absurd (cc)
    unless_both false b neither one = absurd (cc)

    same : (2 * n + 1 == 2 * e + 1) ≡ true → n ≡ e
    same equal = grind (arith, nat_tests)

-- no position past the table is pinned
pub past_seats : (s : State) (j : ℕ) → length s.seats ≤ j → is_pinned (position_word s j) ≡ false
past_seats s j le = ap (λ (seat : WorldSeat). is_pinned seat.word) (seat_past s j le)

module _ (v : View) (p : ℕ) (m : Machine Deferral) (aim : ends_unguarded m ≡ is_release m.action) where
  stops : (e : ℕ) (P : ℕ → Type 0) → HasScanned v p e P → IsNext v p true m (Take e 0)
  stops e P h = record { publishes = refl; aims = aim; knows = h.seen }

  -- after the last word: every pinned one has been looked at
  advances : (e k n : ℕ) → HasScanned v p e (λ j. j < k) → ((j : ℕ) → n ≤ j → is_pinned (v.word j) ≡ false)
      → (is_pinned (v.word k) ≡ true → e ≤ v.since k) → (k + 1 == n) ≡ true → IsNext v p true m (scanned e)
  advances e k n h past here last =
      either_way (IsNext v p true m) (e == 2 ^ 63 - 1) (Take e 0) (Advance e) (stops e _ h)
      (record {
        publishes = refl;
        aims = aim;
        knows = record { own = h.own; seen = h.seen; others = λ j _ pinned. at_any j (three j) pinned };
      })
    where
      three : (j : ℕ) → (j < k) ⊎ (j ≡ k) ⊎ (n ≤ j)
      three j = grind (arith, nat_tests)

      at_any : (j : ℕ) → (j < k) ⊎ (j ≡ k) ⊎ (n ≤ j) → is_pinned (v.word j) ≡ true → e ≤ v.since j
      at_any j (inl lt) pinned = h.others j lt pinned
      at_any j (inr (inl same)) pinned =
          subst (λ (i : ℕ). is_pinned (v.word i) ≡ true → e ≤ v.since i) (sym same) here pinned
      at_any j (inr (inr le)) pinned = absurd (cc (pinned, past j le))

  goes_on : (e k : ℕ) → HasScanned v p e (λ j. j < k) → (is_pinned (v.word k) ≡ true → e ≤ v.since k)
      → IsNext v p true m (Scan e (k + 1))
  goes_on e k h here = record {
    publishes = refl;
    aims = aim;
    knows = record { own = h.own; seen = h.seen; others = λ j lt pinned. at_below j (two j lt) pinned };
  }
    where
      two : (j : ℕ) → j < k + 1 → (j < k) ⊎ (j ≡ k)
      two j lt = grind arith

      at_below : (j : ℕ) → (j < k) ⊎ (j ≡ k) → is_pinned (v.word j) ≡ true → e ≤ v.since j
      at_below j (inl lt) pinned = h.others j lt pinned
      at_below j (inr same) pinned =
          subst (λ (i : ℕ). is_pinned (v.word i) ≡ true → e ≤ v.since i) (sym same) here pinned

  -- a scan goes on after a word that isn't pinned in another epoch, and stops at one that is
  pub next_looked : (e k n : ℕ) → HasScanned v p e (λ j. j < k)
      → ((j : ℕ) → n ≤ j → is_pinned (v.word j) ≡ false) → ((i : ℕ) → v.word k ≡ Pinned i → i ≤ v.since k)
      → IsNext v p true m (past_word n e k (word_number (v.word k)))
  next_looked e k n h past bound = by_test (IsNext v p true m) (holds_up e (word_number (v.word k))) (Take e 0)
      (if k + 1 == n then scanned e else Scan e (k + 1)) (λ up. stops e _ h)
      (λ free. by_test (IsNext v p true m) (k + 1 == n) (scanned e) (Scan e (k + 1))
      (advances e k n h past (λ pinned. here (v.word k) refl pinned free))
      (λ more. goes_on e k h (λ pinned. here (v.word k) refl pinned free)))
    where
      here : (w : Word) → v.word k ≡ w → is_pinned w ≡ true → holds_up e (word_number w) ≡ false → e ≤ v.since k
      here Free found pinned free = absurd (cc)
      here Unpinned found pinned free = absurd (cc)
      here (Pinned i) found pinned free = omega (arith, bound i found, same_epoch e i free)
