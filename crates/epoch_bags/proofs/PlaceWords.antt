-- Words that match what is at home at their places.
use Rattle.std.proofs.Common.{◌≡◌, ◌≢◌, ℕ, zero, suc, ◌+◌, ◌*◌, ◌<◌, ◌≤◌, List, [], ◌∷◌, ◌++◌, Option, Some, None}
use Rattle.std.proofs.Common.{IsSome, length, slice_index_or, slice_set, slice_get, ◌⊎◌, inl, inr, refl, sym, ap, subst}
use Rattle.std.proofs.Common.{◌∙◌, arith, Bool, true, false, not, ◌==◌, ◌||◌, get_or-set_same, get_or-set_other}
use Rattle.std.proofs.Common.{length-set}
use Rattle.std.proofs.lemmas.Bool.Decides.{nat_tests}
use Rattle.epoch_bags.specs.Bags.{Sealed}
use Rattle.epoch_bags.specs.PlaceLists.{is_place, ArePlaces, taken_places}

-- within a list the default does not matter
pub get_any : {A : Type 0} (xs : List A) (i : ℕ) (d e : A)
    → i < length xs → slice_index_or xs i d ≡ slice_index_or xs i e
get_any [] i d e within = absurd (omega arith)
get_any (x ∷ xs) zero d e within = refl
get_any (x ∷ xs) (suc i) d e within = get_any xs i d e (omega arith)

-- two numbers are equal or not
pub same_or_not : (k i : ℕ) → (k ≡ i) ⊎ (k ≢ i)
same_or_not k i = grind arith

-- a test that is true
pub eq_true : (x y : ℕ) → (x == y) ≡ true → x ≡ y
eq_true x y e = grind (arith, nat_tests)

-- no test is both
pub not_both : (t : Bool) → t ≡ true → t ≡ false → ⊥
not_both t holds fails = cc (holds, fails)

-- the word that tells a bag's seal is that of its place
pub sealed_matches : {J : Type 0} (word : ℕ) (bag : Sealed J)
    → word ≡ 2 * bag.seal + 1 → is_place word (Some bag) ≡ true
sealed_matches word bag is = grind (arith, nat_tests)

-- an empty place with the word of one
pub empty_matches : {J : Type 0} (home : Option (Sealed J)) → home ≡ None → is_place 0 home ≡ true
empty_matches home is = subst (λ o. is_place 0 o ≡ true) (sym is) refl

-- a place with a bag at home has another word than an empty one
pub bag_seen : {J : Type 0} (word : ℕ) (home : Option (Sealed J)) → is_place word home ≡ true → IsSome home → word ≢ 0
bag_seen word None matches there = absurd (cc (there))
bag_seen word (Some bag) matches there = λ zero_word.
    let test : ((0 == 2) || (0 == 2 * bag.seal + 1)) ≡ true =
    subst (λ v. ((v == 2) || (v == 2 * bag.seal + 1)) ≡ true) zero_word matches in
    let odd : 0 ≡ 2 * bag.seal + 1 = eq_true 0 (2 * bag.seal + 1) test in
    absurd (omega arith)

-- a word and its home are written together
pub sets_place : {J : Type 0} (words : List ℕ) (bags : List (Option (Sealed J))) (place word : ℕ)
    (home : Option (Sealed J)) → place < length words → is_place word home ≡ true
    → ArePlaces words bags → ArePlaces (slice_set words place word) (slice_set bags place home)
sets_place words bags place word home within matches are = record {
  some = omega (arith, are.some, length-set words place word);
  most = omega (arith, are.most, length-set words place word);
  beside = length-set words place word ∙ are.beside ∙ sym (length-set bags place home);
  words_match = λ other. elim (same_or_not other place) [
    | inl is ↦ subst (λ k. is_place (slice_index_or (slice_set words place word) k 0)
        (slice_index_or (slice_set bags place home) k None) ≡ true) (sym is)
        (subst (λ w. is_place w (slice_index_or (slice_set bags place home) place None) ≡ true)
        (sym (get_or-set_same words place word 0 within))
        (subst (λ o. is_place word o ≡ true)
        (sym (get_or-set_same bags place home None (omega (arith, are.beside)))) matches))
    | inr differs ↦ subst (λ w. is_place w (slice_index_or (slice_set bags place home) other None) ≡ true)
        (sym (get_or-set_other words place other word 0 differs))
        (subst (λ o. is_place (slice_index_or words other 0) o ≡ true)
        (sym (get_or-set_other bags place other home None differs)) (are.words_match other))
  ];
}

-- a list is itself where what stands there is written again
pub set_same : {A : Type 0} (xs : List A) (i : ℕ) (d : A) → i < length xs → slice_set xs i (slice_index_or xs i d) ≡ xs
set_same [] i d within = refl
set_same (x ∷ xs) zero d within = refl
set_same (x ∷ xs) (suc i) d within = ap (λ l. x ∷ l) (set_same xs i d (omega arith))

-- a word alone is written
pub sets_word : {J : Type 0} (words : List ℕ) (bags : List (Option (Sealed J))) (place word : ℕ)
    → place < length words → is_place word (slice_index_or bags place None) ≡ true
    → ArePlaces words bags → ArePlaces (slice_set words place word) bags
sets_word words bags place word within matches are =
    subst (λ homes. ArePlaces (slice_set words place word) homes) (set_same bags place None (omega (arith, are.beside)))
    (sets_place words bags place word (slice_index_or bags place None) within matches are)

-- one more at the end, which is what stands past the end
pub get_push : {A : Type 0} (xs : List A) (d : A) (k : ℕ) → slice_index_or (xs ++ d ∷ []) k d ≡ slice_index_or xs k d
get_push [] d zero = refl
get_push [] d (suc k) = refl
get_push (x ∷ xs) d zero = refl
get_push (x ∷ xs) d (suc k) = get_push xs d k

-- an occupied place is told as such
pub seen_taken : (words : List ℕ) (place : ℕ)
    → place < length words → slice_index_or words place 0 ≢ 0 → slice_get (taken_places words) place ≡ Some true
seen_taken [] place within seen = absurd (omega arith)
seen_taken (word ∷ words) zero within seen = ap Some (not_zero word seen)
  where
    not_zero : (w : ℕ) → w ≢ 0 → not (w == 0) ≡ true
    not_zero w seen = grind (arith, nat_tests)
seen_taken (word ∷ words) (suc place) within seen = seen_taken words place (omega arith) seen

-- places that are all empty
pub all_empty : {J : Type 0} (words : List ℕ) (bags : List (Option (Sealed J)))
    → 0 < length words → length words ≤ 4096 → length words ≡ length bags
    → ((k : ℕ) → slice_index_or words k 0 ≡ 0) → ((k : ℕ) → slice_index_or bags k None ≡ None) → ArePlaces words bags
all_empty words bags some most beside empty none = record {
  some = some;
  most = most;
  beside = beside;
  words_match = λ k. subst (λ w. is_place w (slice_index_or bags k None) ≡ true) (sym (empty k))
      (empty_matches (slice_index_or bags k None) (none k));
}
