-- Bags that stand somewhere in a list.
use Rattle.std.proofs.Common.{◌≡◌, ◌≢◌, ℕ, zero, suc, ◌+◌, ◌-◌, ◌<◌, ◌≤◌, nat_lt, ◌&&◌, if◌then◌else◌, ◌⊎◌, inl, inr}
use Rattle.std.proofs.Common.{◌∙◌, Bool, false, List, [], ◌∷◌, ◌++◌, Option, None, Some, IsSome, length, option_to_list}
use Rattle.std.proofs.Common.{slice_get, slice_index_or, true, refl, sym, ap, subst, min, arith, append-nil}
use Rattle.std.proofs.lemmas.Bool.{false≢true}
use Rattle.std.proofs.lemmas.Bool.Decides.{nat_tests}
use Rattle.std.proofs.Math.Nat.{min-zero, min-le_left, min-eq_left, min-eq_right}
use Rattle.epoch_bags.specs.Bags.{Sealed, Unsealed, IsExpired}
use Rattle.epoch_bags.specs.Stores.{IsInserted, AllExpired, PutsJobs, TakesAny}
use Rattle.epoch_bags.specs.Queues.{first_occupied, first_expired}
use Rattle.epoch_bags.proofs.NumberTests.{at_most, not_most}

-- after all others
pub inserted_last : {J : Type 0} (bag : Sealed J) (old : List (Sealed J)) → IsInserted bag old (old ++ bag ∷ [])
inserted_last bag old = record { front = old; back = []; without = sym (append-nil old); with = refl }

-- in front of all others
pub inserted_first : {J : Type 0} (bag : Sealed J) (old new : List (Sealed J))
    → old ≡ bag ∷ new → IsInserted bag new old
inserted_first bag old new is = record { front = []; back = new; without = refl; with = is }

-- out of the front, if there is one
pub taken_front : {J : Type 0} (old new : List (Sealed J)) (front : Option (Sealed J))
    → old ≡ option_to_list front ++ new → (0 < length old → IsSome front) → TakesAny old front new
taken_front [] new None is some = (refl, sym is)
taken_front (bag ∷ old) new None is some = absurd (false≢true (some (omega arith)))
taken_front old new (Some bag) is some = inserted_first bag old new is

-- where as many are taken as there are places, each place is occupied
pub all_occupied : (places taken place : ℕ)
    → places ≤ taken → place < places → slice_get (first_occupied places taken) place ≡ Some true
all_occupied zero taken place full within = absurd (omega arith)
all_occupied (suc places) zero place full within = absurd (omega arith)
all_occupied (suc places) (suc taken) zero full within = refl
all_occupied (suc places) (suc taken) (suc place) full within =
    all_occupied places taken place (omega arith) (omega arith)

-- the step that passes all places at once is the last one
pub passes_all : (capacity before after : ℕ)
    → after ≡ capacity → 0 < min 1 (capacity - before) → min 1 (capacity - after) < min 1 (capacity - before)
passes_all capacity before after all some =
    let passed : capacity - after ≡ 0 = omega (arith, all) in
    let none : min 1 (capacity - after) ≡ 0 = ap (min 1) passed in
    subst (λ n. n < min 1 (capacity - before)) (sym none) some

-- before all places are passed there is a step to come
pub has_step : (capacity before : ℕ) → before < capacity → min 1 (capacity - before) ≢ 0
has_step capacity before within none = absurd (omega (arith, within, none))

-- what was held is sealed and stands after all others
pub puts_last : {J : Type 0} (seal number : ℕ) (old items new : List (Sealed J))
    (held taken left : Unsealed J) (jobs : List J)
    → items ≡ old
    → number ≡ seal
    → jobs ≡ taken.jobs
    → taken ≡ held
    → new ≡ items ++ (record { seal = number; jobs = jobs }) ∷ []
    → left.jobs ≡ []
    → left.limit ≡ held.limit
    → PutsJobs seal old held new left
puts_last seal number old items new held taken left jobs same_list same_seal same_jobs same_bag is empty limit =
    record {
      inserted =
          rw (is, same_list, same_seal, same_jobs, same_bag)
          (inserted_last (record { seal = seal; jobs = held.jobs }) old);
      empty = empty;
      limit = limit;
    }

-- where all are expired, all from the front on are
pub expired_all : {J : Type 0} (x : ℕ) (bags : List (Sealed J)) → AllExpired x bags → first_expired x bags ≡ length bags
expired_all x [] all = refl
expired_all x (bag ∷ bags) all =
    ap (λ (t : Bool). if t then first_expired x bags + 1 else 0) (at_most (bag.seal + 2) x all.0)
    ∙ omega (arith, expired_all x bags all.1)

-- nothing is there
pub not_some : {A : Type 0} (o : Option A) → o ≡ None → ¬ (IsSome o)
not_some o none some = cc (none, some)

-- an empty queue has none
pub none_there : {J : Type 0} (x : ℕ) (bags : List (Sealed J)) → ¬ (0 < length bags) → first_expired x bags ≡ 0
none_there x [] none = refl
none_there x (bag ∷ bags) none = absurd (none (omega arith))

-- nor has one whose front is not expired
pub front_late : {J : Type 0} (x : ℕ) (bags : List (Sealed J)) (front : Sealed J)
    → front ≡ slice_index_or bags 0 front → ¬ (IsExpired x front) → first_expired x bags ≡ 0
front_late x [] front is late = refl
front_late {J} x (bag ∷ bags) front is late = ap (λ (t : Bool). if t then first_expired x bags + 1 else 0)
    (not_most (bag.seal + 2) x (λ le. late (omega (arith, le, ap (λ (b : Sealed J). b.seal) is))))

-- one with an expired front has one more than without it
pub front_first : {J : Type 0} (x : ℕ) (old new : List (Sealed J)) (front hand : Sealed J)
    → front ≡ slice_index_or old 0 front → old ≡ hand ∷ new → IsExpired x front
    → first_expired x old ≡ first_expired x new + 1
front_first {J} x old new front hand at is expired =
    let same : front ≡ hand = at ∙ ap (λ (bags : List (Sealed J)). slice_index_or bags 0 front) is in
    ap (first_expired x) is ∙ ap (λ (t : Bool). if t then first_expired x new + 1 else 0)
    (at_most (hand.seal + 2) x (omega (arith, expired, ap (λ (b : Sealed J). b.seal) same)))

-- the least of none and any number
pub least_none : (m n : ℕ) → n ≡ 0 → min m n ≡ 0
least_none m n none = ap (min m) none ∙ min-zero m

-- where two numbers are both one less, the least of them is one less
pub least_more : (m n : ℕ) → 0 < m → min m (n + 1) ≡ min (m - 1) n + 1
least_more m n some = elim (split m n) [
  | inl le ↦ let one : min m (n + 1) ≡ m = min-eq_left (omega arith) in
      let other : min (m - 1) n ≡ m - 1 = min-eq_left (omega arith) in
      omega arith
  | inr lt ↦ let one : min m (n + 1) ≡ n + 1 = min-eq_right (omega arith) in
      let other : min (m - 1) n ≡ n = min-eq_right (omega arith) in
      omega arith
]
  where
    split : (a b : ℕ) → (a ≤ b) ⊎ (b < a)
    split a b = grind arith

-- to bound a number by another one twice is the same as once
pub least_twice : (m n : ℕ) → min m (min m n) ≡ min m n
least_twice m n = min-eq_right (min-le_left m n)

-- where a place is free, there are fewer bags than places
pub room_first : (places taken place : ℕ)
    → slice_get (first_occupied places taken) place ≡ Some false → (nat_lt 0 places && nat_lt taken places) ≡ true
room_first places taken place free = both (less places taken place free)
  where
    less : (places taken place : ℕ) → slice_get (first_occupied places taken) place ≡ Some false → taken < places
    less zero taken place free = absurd (cc (free))
    less (suc places) zero place free = omega arith
    less (suc places) (suc taken) zero free = absurd (cc (free))
    less (suc places) (suc taken) (suc place) free = omega (arith, less places taken place free)

    is_less : (m n : ℕ) → m < n → nat_lt m n ≡ true
    is_less m n lt = grind (arith, nat_tests)

    both : taken < places → (nat_lt 0 places && nat_lt taken places) ≡ true
    both lt = ap (λ (b : Bool). b && nat_lt taken places) (is_less 0 places (omega arith)) ∙ is_less taken places lt
