-- Positions that are tried one after the other, and lost.
use Rattle.std.proofs.Common.{◌≡◌, ◌≢◌, ℕ, ◌+◌, List, [], ◌∷◌, ◌++◌, sym, ap, ◌∙◌, arith, Option, Some, None}
use Rattle.std.proofs.lemmas.Grind.{elements}
use Rattle.std.proofs.lemmas.List.Elements.{All-push}
use Rattle.std.proofs.lemmas.List.FromFn.{map-range_with_len_more}
use Rattle.epoch_handles.specs.Handles.{FindsEachTaken, each_before}

-- the next position comes after those before it
one_more : (position : ℕ) → each_before (position + 1) ≡ each_before position ++ Some position ∷ []
one_more position = ap (λ (positions : List (Option ℕ)). None ∷ positions)
    (map-range_with_len_more (λ (earlier : ℕ). Some earlier) 0 position position (omega arith))

-- a participant that has found one more position taken goes on to the next one
pub loses_one_more : (position : ℕ) (looked : List (Option ℕ)) (found : List ℕ) (word : ℕ)
    → FindsEachTaken position looked found
    → word ≢ 0
    → FindsEachTaken (position + 1) (looked ++ Some position ∷ []) (found ++ word ∷ [])
loses_one_more position looked found word (places, (epoch, taken, words, as_many, lost)) other =
    let in_order = ap (λ (positions : List (Option ℕ)). positions ++ Some position ∷ []) places
    ∙ sym (one_more position) in
    let more = ap (λ (all : List ℕ). all ++ word ∷ []) words in (
      in_order,
      (
        epoch,
        taken ++ word ∷ [],
        more,
        grind (arith, elements, as_many),
        All-push (λ (x : ℕ). x ≢ 0) taken word lost other,
      ),
    )
