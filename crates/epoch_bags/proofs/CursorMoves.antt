-- What each step of a put and of a collection does over a plain list of places.
use Rattle.std.proofs.Common.{◌≡◌, ◌≢◌, ℕ, ◌+◌, ◌<◌, ◌≤◌, ◌%◌, ◌/◌, List, Option, length, slice_index_or, slice_set}
use Rattle.std.proofs.Common.{refl, ap₂, arith}
use Rattle.epoch_bags.specs.Bags.{Sealed}
use Rattle.epoch_bags.specs.PlaceLists.{PlaceList}
use Rattle.epoch_bags.specs.CursorSteps.{IsExpiredWord, PutPasses, TakePasses, PutsInList, TakesFromList}
use Rattle.epoch_bags.specs.declared.queue.PutStep.{PutStep}
use Rattle.epoch_bags.specs.declared.queue.PutStep.TheVariants.{Again as PutAgain}
use Rattle.epoch_bags.specs.declared.queue.TakeStep.{TakeStep}
use Rattle.epoch_bags.specs.declared.queue.TakeStep.TheVariants.{Again as TakeAgain, Empty as TakeEnds}
use Rattle.epoch_bags.specs.declared.queue.places.PutCursor.{PutCursor}
use Rattle.epoch_bags.specs.declared.queue.places.PutCursor.TheVariants.{Look as PutLook, Claim as PutClaim, Fill}
use Rattle.epoch_bags.specs.declared.queue.places.TakeCursor.{TakeCursor}
use Rattle.epoch_bags.specs.declared.queue.places.TakeCursor.TheVariants.{Look as TakeLook, Claim as TakeClaim, Empty}

-- a list of places with the same words and bags is the same
pub same_places : {J : Type 0} (old new : PlaceList J) → new.words ≡ old.words → new.bags ≡ old.bags → new ≡ old
same_places {J} old new words bags =
    ap₂ (λ (w : List ℕ) (b : List (Option (Sealed J))). record { words = w; bags = b }) words bags

-- A PUT

module _ {J : Type 0} (old new : PlaceList J) (bag : Sealed J) (at : ℕ) where
  pub put_finds : slice_index_or old.words at 0 ≡ 0 → new ≡ old
      → PutsInList old new bag (PutLook at) PutAgain (PutClaim at)
  put_finds zero_word same = (0, (zero_word, same), (λ is. (refl, refl)), (λ not. absurd (not refl)))

  pub put_passes : (step : PutStep) (next : PutCursor) → slice_index_or old.words at 0 ≢ 0 → new ≡ old
      → PutPasses (length old.words) at step next → PutsInList old new bag (PutLook at) step next
  put_passes step next other same passes =
      (slice_index_or old.words at 0, (refl, same), (λ is. absurd (other is)), (λ not. passes))

  pub put_wins : slice_index_or old.words at 0 ≡ 0 → new.words ≡ slice_set old.words at 2 → new.bags ≡ old.bags
      → PutsInList old new bag (PutClaim at) PutAgain (Fill at)
  put_wins zero_word words bags = (0, (λ is. ((zero_word, words, bags), refl, refl)), (λ not. absurd (not refl)))

  pub put_loses : (step : PutStep) (next : PutCursor) → slice_index_or old.words at 0 ≢ 0 → new ≡ old
      → PutPasses (length old.words) at step next → PutsInList old new bag (PutClaim at) step next
  put_loses step next other same passes =
      (slice_index_or old.words at 0, (λ is. absurd (other is)), (λ not. ((refl, same), passes)))

-- A COLLECTION

-- the word that the test finds expired is so
pub expired_word : (x word : ℕ) → word % 2 ≡ 1 → word / 2 + 2 ≤ x → IsExpiredWord x word
expired_word x word odd small = (word / 2, omega (arith, odd), small)

-- and a word that is expired is found so by the test
pub test_word : (x word : ℕ) → IsExpiredWord x word → (word % 2 ≡ 1) × (word / 2 + 2 ≤ x)
test_word x word (seal, is, small) = (omega (arith, is), omega (arith, is, small))

module _ {J : Type 0} (old new : PlaceList J) (hand : Sealed J) (x at : ℕ) where
  pub take_ends : at ≡ length old.words → new ≡ old → (next : TakeCursor)
      → TakesFromList old new hand x (TakeLook at) TakeEnds next
  take_ends last same next = ((λ is. (refl, same)), (λ not. absurd (not last)))

  pub take_finds : (word : ℕ) → at < length old.words → slice_index_or old.words at 0 ≡ word → new ≡ old
      → IsExpiredWord x word → TakesFromList old new hand x (TakeLook at) TakeAgain (TakeClaim at word)
  take_finds word within there same expired = (
    (λ is. absurd (omega (arith, is, within))),
    (λ not. (word, (there, same), (λ is. (refl, refl)), (λ late. absurd (late expired)))),
  )

  pub take_passes : (word : ℕ) (step : TakeStep) (next : TakeCursor)
      → at < length old.words → slice_index_or old.words at 0 ≡ word → new ≡ old → ¬ (IsExpiredWord x word)
      → TakePasses (length old.words) at step next → TakesFromList old new hand x (TakeLook at) step next
  take_passes word step next within there same late passes = (
    (λ is. absurd (omega (arith, is, within))),
    (λ not. (word, (there, same), (λ is. absurd (late is)), (λ is. passes))),
  )

  pub take_wins : (word : ℕ) → slice_index_or old.words at 0 ≡ word → new.words ≡ slice_set old.words at 2
      → new.bags ≡ old.bags → TakesFromList old new hand x (TakeClaim at word) TakeAgain (Empty at)
  take_wins word there words bags = (word, (λ is. ((there, words, bags), refl, refl)), (λ not. absurd (not refl)))

  pub take_loses : (word : ℕ) (step : TakeStep) (next : TakeCursor)
      → slice_index_or old.words at 0 ≢ word → new ≡ old → TakePasses (length old.words) at step next
      → TakesFromList old new hand x (TakeClaim at word) step next
  take_loses word step next other same passes =
      (slice_index_or old.words at 0, (λ is. absurd (other is)), (λ not. ((refl, same), passes)))
