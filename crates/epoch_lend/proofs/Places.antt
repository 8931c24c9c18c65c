-- Where the places of a block are.
use Rattle.std.proofs.Common.{◌≡◌, ℕ, zero, suc, ◌<◌, ◌≤◌, List, [], ◌∷◌, ◌++◌, length, sym, refl, ap, ◌∙◌}
use Rattle.std.proofs.Common.{subst, arith, ⊎_elim, eq-or-lt_of_le, not-suc-le-zero}
use Rattle.std.proofs.lemmas.List.{length-append, same_from_push, map-append}
use Rattle.std.specs.Prelude.{Some, map}
use Rattle.std.specs.List.{slice_get}
use denote.RawPtr.{Ptr}
use Rattle.epoch_lend.specs.Blocks.{place_in, places_in}

-- what is in the first list is where it was
stays : {X : Type 0} (xs ys : List X) (i : ℕ) → i < length xs → slice_get (xs ++ ys) i ≡ slice_get xs i
stays [] ys i less = absurd (not-suc-le-zero less)
stays (x ∷ xs) ys zero less = refl
stays (x ∷ xs) ys (suc i) less = stays xs ys i (omega arith)

-- what stands behind it comes next
next : {X : Type 0} (xs : List X) (y : X) → slice_get (xs ++ y ∷ []) (length xs) ≡ Some y
next [] y = refl
next (x ∷ xs) y = next xs y

-- so many places are so many
count : (p : Ptr) (z n : ℕ) → length (places_in p z n) ≡ n
count p z zero = refl
count p z (suc n) = length-append (places_in p z n) (place_in p z n ∷ []) ∙ (let e = count p z n in omega arith)

-- each place is where its number says
pub place_is : (p : Ptr) (z n i : ℕ) → i < n → slice_get (places_in p z n) i ≡ Some (place_in p z i)
place_is p z zero i less = absurd (not-suc-le-zero less)
place_is p z (suc n) i less = ⊎_elim
    (λ (e : i ≡ n). subst (λ (k : ℕ). slice_get (places_in p z (suc n)) k ≡ Some (place_in p z k)) (sym e) (subst (λ (k
    : ℕ). slice_get (places_in p z (suc n)) k ≡ Some (place_in p z n)) (count p z n) (next (places_in p z n) (place_in p
    z n))))
    (λ (lt : i < n). stays (places_in p z n) (place_in p z n ∷ []) i (subst (λ (k : ℕ). i < k) (sym (count p z n)) lt) ∙
    place_is p z n i lt) (eq-or-lt_of_le (let le : i ≤ n = omega arith in le))

module _ {X : Type 0} (at : X → Ptr) (p : Ptr) (z : ℕ) where
  -- each of these is at the place with its number
  abbrev Laid : List X → Type 0
  Laid xs = map at xs ≡ places_in p z (length xs)

  -- one more at the next place
  pub one_more : (xs : List X) (x : X) → Laid xs → at x ≡ place_in p z (length xs) → Laid (xs ++ x ∷ [])
  one_more xs x laid is = map-append at xs (x ∷ []) ∙ (λ i. laid i ++ is i ∷ []) ∙ ap (λ (n : ℕ). places_in p z n) (let
      e = length-append xs (x ∷ []) in let r : suc (length xs) ≡ length (xs ++ x ∷ []) = omega arith in r)

  -- one less
  pub one_less : (xs : List X) (x : X) → Laid (xs ++ x ∷ []) → Laid xs × (at x ≡ place_in p z (length xs))
  one_less xs x laid = same_from_push (map at xs) (places_in p z (length xs)) (at x) (place_in p z (length xs)) (sym
      (map-append at xs (x ∷ [])) ∙ laid ∙ ap (λ (n : ℕ). places_in p z n) (let e = length-append xs (x ∷ []) in let r :
      length (xs ++ x ∷ []) ≡ suc (length xs) = omega arith in r))

  -- the place of the one with this number
  pub found : (xs : List X) (i : ℕ) → Laid xs → i < length xs → slice_get (map at xs) i ≡ Some (place_in p z i)
  found xs i laid less = ap (λ (ps : List Ptr). slice_get ps i) laid ∙ place_is p z (length xs) i less
