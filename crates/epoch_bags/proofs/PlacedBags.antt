-- Bags that move into and out of places.
use Rattle.std.proofs.Common.{◌≡◌, ℕ, zero, suc, ◌+◌, ◌<◌, ◌≤◌, List, [], ◌∷◌, ◌++◌, Option, Some, None, drop, length}
use Rattle.std.proofs.Common.{slice_index_or, slice_set, refl, sym, ap, subst, ◌∙◌, arith, append_assoc, drop-cons}
use Rattle.std.proofs.Common.{add-one}
use Rattle.std.specs.Option.{option_to_list}
use Rattle.epoch_bags.specs.Bags.{Sealed, IsExpired}
use Rattle.epoch_bags.specs.Stores.{IsInserted, AllExpired}
use Rattle.epoch_bags.specs.PlaceLists.{bags_in}

-- the bag at a place, and then those after it
pub bags_at : {J : Type 0} (homes : List (Option (Sealed J))) (i : ℕ) → i < length homes
    → bags_in (drop i homes) ≡ option_to_list (slice_index_or homes i None) ++ bags_in (drop (i + 1) homes)
bags_at homes i within = rw add-one (ap bags_in (drop-cons homes i None within))

-- a bag after others
behind : {J : Type 0} (front : List (Sealed J)) (bag : Sealed J) (old new : List (Sealed J))
    → IsInserted bag old new → IsInserted bag (front ++ old) (front ++ new)
behind front bag old new at = record {
  front = front ++ at.front;
  back = at.back;
  without = ap (λ l. front ++ l) at.without ∙ sym (append_assoc front at.front at.back);
  with = ap (λ l. front ++ l) at.with ∙ sym (append_assoc front at.front (bag ∷ at.back));
}

-- a bag comes home to a place without one
pub put_in : {J : Type 0} (homes : List (Option (Sealed J))) (i : ℕ) (bag : Sealed J)
    → i < length homes → slice_index_or homes i None ≡ None
    → IsInserted bag (bags_in homes) (bags_in (slice_set homes i (Some bag)))
put_in [] i bag within none = absurd (omega arith)
put_in (home ∷ homes) zero bag within none =
    record { front = []; back = bags_in homes; without = ap (λ o. option_to_list o ++ bags_in homes) none; with = refl }
put_in (home ∷ homes) (suc i) bag within none =
    behind (option_to_list home) bag _ _ (put_in homes i bag (omega arith) none)

-- the bag at home leaves its place
pub take_out : {J : Type 0} (homes : List (Option (Sealed J))) (i : ℕ) (bag : Sealed J)
    → slice_index_or homes i None ≡ Some bag
    → IsInserted bag (bags_in (slice_set homes i None)) (bags_in homes)
take_out [] i bag there = absurd (cc (there))
take_out (home ∷ homes) zero bag there = record {
  front = [];
  back = bags_in homes;
  without = refl;
  with = ap (λ o. option_to_list o ++ bags_in homes) there;
}
take_out (home ∷ homes) (suc i) bag there = behind (option_to_list home) bag _ _ (take_out homes i bag there)

-- a write changes nothing after its place
pub drop_set : {A : Type 0} (xs : List A) (i : ℕ) (v : A) → drop (suc i) (slice_set xs i v) ≡ drop (suc i) xs
drop_set [] i v = refl
drop_set (x ∷ xs) zero v = refl
drop_set (x ∷ xs) (suc i) v = drop_set xs i v

-- where all bags are expired, the one at this place is
pub expired_at : {J : Type 0} (x : ℕ) (homes : List (Option (Sealed J))) (i : ℕ) (bag : Sealed J)
    → slice_index_or homes i None ≡ Some bag → AllExpired x (bags_in homes) → IsExpired x bag
expired_at x [] i bag there all = absurd (cc (there))
expired_at {J} x (Some home ∷ homes) zero bag there all =
    let same : home ≡ bag = cc (there) in
    let seal : home.seal ≡ bag.seal = ap (λ (b : Sealed J). b.seal) same in
    omega arith
expired_at x (None ∷ homes) zero bag there all = absurd (cc (there))
expired_at x (Some home ∷ homes) (suc i) bag there all = expired_at x homes i bag there all.1
expired_at x (None ∷ homes) (suc i) bag there all = expired_at x homes i bag there all

without_one : {J : Type 0} (x : ℕ) (front back : List (Sealed J)) (bag : Sealed J)
    → AllExpired x (front ++ bag ∷ back) → AllExpired x (front ++ back)
without_one x [] back bag all = all.1
without_one x (first ∷ front) back bag all = (all.0, without_one x front back bag all.1)

-- where all bags are expired, all but one are
pub expired_less : {J : Type 0} (x : ℕ) (bag : Sealed J) (old new : List (Sealed J))
    → IsInserted bag new old → AllExpired x old → AllExpired x new
expired_less x bag old new at all =
    subst (AllExpired x) (sym at.without) (without_one x at.front at.back bag (subst (AllExpired x) at.with all))

-- after the last place is no bag
pub past_end : {J : Type 0} (homes : List (Option (Sealed J))) (i : ℕ) → length homes ≤ i → bags_in (drop i homes) ≡ []
past_end [] zero past = refl
past_end [] (suc i) past = refl
past_end (home ∷ homes) zero past = absurd (omega arith)
past_end (home ∷ homes) (suc i) past = past_end homes i (omega arith)

-- where no place has a bag at home, there is none
pub none_in : {J : Type 0} (homes : List (Option (Sealed J)))
    → ((k : ℕ) → k < length homes → slice_index_or homes k None ≡ None) → bags_in homes ≡ []
none_in [] none = refl
none_in (home ∷ homes) none = ap (λ o. option_to_list o ++ bags_in homes) (none 0 (omega arith))
    ∙ none_in homes (λ k within. none (suc k) (omega arith))
