-- What is ahead of a collection over numbered places.
use Rattle.std.proofs.Common.{◌≡◌, ◌≢◌, ℕ, zero, suc, ◌+◌, ◌*◌, ◌<◌, ◌≤◌, ◌%◌, ◌/◌, nat_le, ◌&&◌, List, [], ◌∷◌, ◌++◌}
use Rattle.std.proofs.Common.{Option, Some, None, IsSome, drop, length, slice_index_or, slice_set, refl, sym, ap, subst}
use Rattle.std.proofs.Common.{◌∙◌, arith, Bool, true, false, not, ◌==◌, ◌||◌, if◌then◌else◌, add-one, ap₂, drop-cons}
use Rattle.std.proofs.Common.{length-append}
use Rattle.std.proofs.lemmas.List.{get_or_past}
use Rattle.std.specs.Option.{option_to_list}
use Rattle.epoch_bags.specs.Bags.{Sealed, IsExpired}
use Rattle.epoch_bags.specs.Stores.{AllExpired, FindsBag}
use Rattle.epoch_bags.specs.PlaceLists.{PlaceList, ArePlaces, is_place, bags_in, IsClaimedAt, Empties, LeavesPlace}
use Rattle.epoch_bags.specs.Places.{take_place, tells_expired, one_if, words_expired, home_expired, bags_ahead}
use Rattle.epoch_bags.specs.declared.queue.TakeStep.{TakeStep}
use Rattle.epoch_bags.specs.declared.queue.TakeStep.TheVariants.{Again as TakeAgain, Empty}
use Rattle.epoch_bags.specs.declared.queue.places.TakeCursor.{TakeCursor}
use Rattle.epoch_bags.specs.declared.queue.places.TakeCursor.TheVariants.{Look as TakeLook, Claim as TakeClaim}
use Rattle.epoch_bags.specs.declared.queue.places.TakeCursor.TheVariants.{Empty as TakeEmpty}
use Rattle.epoch_bags.proofs.PlaceWords.{eq_true}
use Rattle.epoch_bags.proofs.PlacedBags.{drop_set}
use Rattle.epoch_bags.proofs.NumberTests.{at_most, most_of, not_most, is_same}

-- a word without a bag at home tells of none
tells_none : (x word : ℕ) → ((word == 0) || (word == 2)) ≡ true → one_if (tells_expired x word) ≡ 0
tells_none x word matches = by_test (word == 0) refl
  where
    even : (k : ℕ) → word ≡ k → (tells_expired x k ≡ false) → one_if (tells_expired x word) ≡ 0
    even k is off = ap (λ (w : ℕ). one_if (tells_expired x w)) is ∙ ap one_if off

    by_test : (t : Bool) → (word == 0) ≡ t → one_if (tells_expired x word) ≡ 0
    by_test true e = even 0 (eq_true word 0 e) refl
    by_test false e = even 2 (eq_true word 2 (subst (λ t. (t || (word == 2)) ≡ true) e matches)) refl

-- a bag at home under a word that is not claimed is told by it
told_home : {J : Type 0} (x word : ℕ) (home : Option (Sealed J))
    → is_place word home ≡ true → word ≢ 2 → home_expired x home ≡ one_if (tells_expired x word)
told_home x word None matches free = sym (tells_none x word matches)
told_home x word (Some bag) matches free =
    let one : word ≡ 2 * bag.seal + 1 = by_test (word == 2) refl in
    let odd : word % 2 ≡ 1 = omega arith in
    let half : word / 2 ≡ bag.seal = omega arith in
    subst (λ (b : Bool). one_if (nat_le (bag.seal + 2) x) ≡ one_if (b && nat_le (word / 2 + 2) x))
    (sym (is_same (word % 2) 1 odd))
    (ap (λ (k : ℕ). one_if (nat_le (k + 2) x)) (sym half))
  where
    by_test : (t : Bool) → (word == 2) ≡ t → word ≡ 2 * bag.seal + 1
    by_test true e = absurd (free (eq_true word 2 e))
    by_test false e = eq_true word (2 * bag.seal + 1) (subst (λ t. (t || (word == 2 * bag.seal + 1)) ≡ true) e matches)

-- what the word at a place, and those after it, tell of
words_at : (x : ℕ) (words : List ℕ) (at : ℕ) → at < length words
    → words_expired x (drop at words) ≡ one_if (tells_expired x (slice_index_or words at 0)) + words_expired x
    (drop (at + 1) words)
words_at x words at within = rw add-one (ap (words_expired x) (drop-cons words at 0 within))

-- after the last place none is told of
words_past : (x : ℕ) (words : List ℕ) (at : ℕ) → length words ≤ at → words_expired x (drop at words) ≡ 0
words_past x [] zero past = refl
words_past x [] (suc at) past = refl
words_past x (word ∷ words) zero past = absurd (omega arith)
words_past x (word ∷ words) (suc at) past = words_past x words at (omega arith)

-- words that are the same after a place tell of as many
words_same : (x : ℕ) (old new : List ℕ) (at : ℕ)
    → length new ≡ length old → ((k : ℕ) → at ≤ k → slice_index_or new k 0 ≡ slice_index_or old k 0)
    → words_expired x (drop at new) ≡ words_expired x (drop at old)
words_same x [] [] zero count same = refl
words_same x [] [] (suc at) count same = refl
words_same x [] (word ∷ new) at count same = absurd (omega arith)
words_same x (word ∷ old) [] at count same = absurd (omega arith)
words_same x (was ∷ old) (is ∷ new) zero count same =
    ap₂ (λ (k : ℕ) (n : ℕ). one_if (tells_expired x k) + n) (same 0 (omega arith))
    (words_same x old new 0 (omega arith) (λ k le. same (suc k) (omega arith)))
words_same x (was ∷ old) (is ∷ new) (suc at) count same =
    words_same x old new at (omega arith) (λ k le. same (suc k) (omega arith))

home_past : {J : Type 0} (x : ℕ) (homes : List (Option (Sealed J))) (at : ℕ)
    → length homes ≤ at → home_expired x (slice_index_or homes at None) ≡ 0
home_past x homes at past = ap (home_expired x) (get_or_past homes at None past)

-- past the last place no bag is ahead
pub past_all : {J : Type 0} (x : ℕ) (store : PlaceList J) (cursor : TakeCursor)
    → ArePlaces store.words store.bags → length store.words ≤ take_place cursor → bags_ahead x store cursor ≡ 0
past_all x store (TakeLook at) agree past = words_past x store.words at past
past_all x store (TakeClaim at word) agree past = by_test (slice_index_or store.words at 0 == word)
  where
    by_test : (t : Bool) → (if t then home_expired x (slice_index_or store.bags at None) else 0) + words_expired x
        (drop (at + 1) store.words) ≡ 0
    by_test true = omega (
      arith,
      home_past x store.bags at (omega (arith, agree.beside)),
      words_past x store.words (at + 1) (omega arith),
    )
    by_test false = omega (arith, words_past x store.words (at + 1) (omega arith))
past_all x store (TakeEmpty at) agree past = omega (
  arith,
  home_past x store.bags at (omega (arith, agree.beside)),
  words_past x store.words (at + 1) (omega arith),
)

-- nothing is found
pub finds_none : {J : Type 0} (x : ℕ) (store : PlaceList J) (cursor : TakeCursor) → ArePlaces store.words store.bags
    → length store.words ≤ take_place cursor → FindsBag (bags_ahead x store cursor) Empty (bags_ahead x store cursor)
finds_none x store cursor agree past = (past_all x store cursor agree past, past_all x store cursor agree past)

test_false : (x word : ℕ) → ¬ ((word % 2 ≡ 1) × (word / 2 + 2 ≤ x)) → tells_expired x word ≡ false
test_false x word not = by_tests (word % 2 == 1) (nat_le (word / 2 + 2) x) refl refl
  where
    by_tests : (a b : Bool) → (word % 2 == 1) ≡ a → nat_le (word / 2 + 2) x ≡ b → (a && b) ≡ false
    by_tests true true odd le = absurd (not (eq_true (word % 2) 1 odd, most_of (word / 2 + 2) x le))
    by_tests true false odd le = refl
    by_tests false b odd le = refl

test_true : (x word : ℕ) → word % 2 ≡ 1 → word / 2 + 2 ≤ x → tells_expired x word ≡ true
test_true x word odd le =
    both (word % 2 == 1) (nat_le (word / 2 + 2) x) (is_same (word % 2) 1 odd) (at_most (word / 2 + 2) x le)
  where
    both : (a b : Bool) → a ≡ true → b ≡ true → (a && b) ≡ true
    both true true one other = refl
    both true false one other = absurd (cc)
    both false b one other = absurd (cc)

-- a word that tells of none is passed
pub look_passes : {J : Type 0} (x : ℕ) (store : PlaceList J) (at : ℕ) → at < length store.words
    → ¬ ((slice_index_or store.words at 0 % 2 ≡ 1) × (slice_index_or store.words at 0 / 2 + 2 ≤ x))
    → bags_ahead x store (TakeLook (at + 1)) ≡ bags_ahead x store (TakeLook at)
look_passes x store at within test =
    let none : one_if (tells_expired x (slice_index_or store.words at 0)) ≡ 0 = ap one_if
    (test_false x (slice_index_or store.words at 0) test) in
    omega (arith, words_at x store.words at within, none)

-- a write at a place changes no word after it
behind_set : (x : ℕ) (old new : List ℕ) (at word : ℕ)
    → new ≡ slice_set old at word → words_expired x (drop (at + 1) new) ≡ words_expired x (drop (at + 1) old)
behind_set x old new at word is =
    rw add-one (ap (λ (l : List ℕ). words_expired x (drop (suc at) l)) is ∙ ap (words_expired x) (drop_set old at word))

-- an expired bag at home counts
counts_one : {J : Type 0} (x : ℕ) (bag : Sealed J) → IsExpired x bag → home_expired x (Some bag) ≡ 1
counts_one x bag le = ap one_if (at_most (bag.seal + 2) x le)

-- a collection that took a bag has one less ahead
pub ahead_got : {J : Type 0} (x : ℕ) (old new : PlaceList J) (at : ℕ) (bag : Sealed J)
    → Empties old at bag new → IsExpired x bag
    → bags_ahead x old (TakeEmpty at) ≡ bags_ahead x new (TakeLook (at + 1)) + 1
ahead_got {J} x old new at bag emptied expired =
    let one : home_expired x (slice_index_or old.bags at None) ≡ 1 = ap (home_expired x) emptied.was_there
    ∙ counts_one x bag expired in
    omega (arith, one, behind_set x old.words new.words at 0 emptied.words)

-- a collection goes on after a place that it let go
pub ahead_left : {J : Type 0} (x : ℕ) (old new : PlaceList J) (at : ℕ)
    → LeavesPlace x old at new → bags_ahead x new (TakeLook (at + 1)) ≡ bags_ahead x old (TakeEmpty at)
ahead_left {J} x old new at left =
    omega (
      arith,
      none (slice_index_or old.bags at None) refl,
      words_same x old.words new.words (at + 1) left.as_many (λ k le. left.others k (λ same. absurd (omega arith))),
    )
  where
    none : (home : Option (Sealed J))
        → slice_index_or old.bags at None ≡ home → home_expired x (slice_index_or old.bags at None) ≡ 0
    none None e = ap (home_expired x) e
    none (Some bag) e = ap (home_expired x) e ∙ ap one_if (not_most (bag.seal + 2) x (left.not_expired bag e))

-- the answer of a step that goes on after its place
pub goes_on : {J : Type 0} (x : ℕ) (store : PlaceList J) (cursor : TakeCursor) (result : TakeStep)
    (at places before : ℕ) → places ≡ length store.words → cursor ≡ TakeLook (at + 1)
    → result ≡ (if at + 1 == places then Empty else TakeAgain) → bags_ahead x store (TakeLook (at + 1)) ≡ before
    → FindsBag before result (bags_ahead x store cursor)
goes_on x store cursor result at places before count is answers same =
    subst (λ u. FindsBag before result (bags_ahead x store u)) (sym is) (subst (λ r. FindsBag before r
    (bags_ahead x store (TakeLook (at + 1)))) (sym answers) (by_test (at + 1 == places) refl))
  where
    by_test : (t : Bool) → (at + 1 == places) ≡ t
        → FindsBag before (if t then Empty else TakeAgain) (bags_ahead x store (TakeLook (at + 1)))
    by_test true e =
        let last : at + 1 ≡ places = eq_true (at + 1) places e in
        let none : bags_ahead x store (TakeLook (at + 1)) ≡ 0 = words_past x store.words (at + 1) (omega arith) in
        (omega arith, none)
    by_test false e = same

-- where no bag is claimed and all are expired, the words tell of all
pub all_told : {J : Type 0} (x : ℕ) (store : PlaceList J)
    → ArePlaces store.words store.bags → ((place : ℕ) → ¬ (IsClaimedAt store place)) → AllExpired x (bags_in store.bags)
    → bags_ahead x store (TakeLook 0) ≡ length (bags_in store.bags)
all_told {J} x store agree free all =
    along store.words store.bags agree.beside agree.words_match (λ k two some. free k (two, some)) all
  where
    at_one : (word : ℕ) (home : Option (Sealed J)) → is_place word home ≡ true → (word ≡ 2 → ¬ (IsSome home))
        → AllExpired x (option_to_list home) → one_if (tells_expired x word) ≡ length (option_to_list home)
    at_one word None matches free all = tells_none x word matches
    at_one word (Some bag) matches free all =
        omega (arith, told_home x word (Some bag) matches (λ two. free two refl), counts_one x bag all.0)

    parts : (front back : List (Sealed J)) → AllExpired x (front ++ back) → AllExpired x front × AllExpired x back
    parts [] back all = (tt, all)
    parts (bag ∷ front) back all = let rest = parts front back all.1 in ((all.0, rest.0), rest.1)

    along : (words : List ℕ) (homes : List (Option (Sealed J))) → length words ≡ length homes
        → ((place : ℕ) → is_place (slice_index_or words place 0) (slice_index_or homes place None) ≡ true)
        → ((place : ℕ) → slice_index_or words place 0 ≡ 2 → ¬ (IsSome (slice_index_or homes place None)))
        → AllExpired x (bags_in homes) → words_expired x words ≡ length (bags_in homes)
    along [] [] beside matches free all = refl
    along [] (home ∷ homes) beside matches free all = absurd (omega arith)
    along (word ∷ words) [] beside matches free all = absurd (omega arith)
    along (word ∷ words) (home ∷ homes) beside matches free all =
        let both = parts (option_to_list home) (bags_in homes) all in
        omega (
          arith,
          at_one word home (matches 0) (free 0) both.0,
          along words homes (omega arith) (λ k. matches (suc k)) (λ k. free (suc k)) both.1,
          length-append (option_to_list home) (bags_in homes),
        )
