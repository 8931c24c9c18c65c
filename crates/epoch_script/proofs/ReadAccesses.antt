-- A pointer call is told by its first word.
use Rattle.std.proofs.Common.{◌≡◌, ◌≢◌, ℕ, List, Option, Some, None, MatchOption, inl, inr, ◌⊎◌, ap, sym, subst, ◌∙◌}
use Rattle.std.proofs.Common.{arith, codes, get_or}
use Rattle.epoch_laws.specs.declared.heap.access.Change.{Change}
use Rattle.epoch_laws.specs.declared.heap.access.Change.TheVariants.{Load, Store, Swap, CompareExchange, FetchAnd}
use Rattle.epoch_laws.specs.declared.heap.access.Change.TheVariants.{FetchOr}
use Rattle.epoch_laws.specs.declared.heap.access.Change.TheVariants.{FetchXor, FetchUpdate}
use Rattle.epoch_laws.specs.declared.heap.access.Spot.{Spot}
use Rattle.epoch_script.specs.Words.{Behind, others}
use Rattle.epoch_script.specs.Accesses.{IsWordOf, SpellsLoad, SpellsPointed, SpellsSpotted, SpellsStore, SpellsUnder}

-- the word of a change under a guard begins with another letter than load
load_apart : (change : Change) → IsWordOf change (codes "load") → ⊥
load_apart change is = by_change change is
  where
    first : (v w : List ℕ) → v ≡ w → get_or v 0 0 ≡ get_or w 0 0
    first v w e = ap (λ (word : List ℕ). get_or word 0 0) e

    by_change : (change : Change) → IsWordOf change (codes "load") → ⊥
    by_change (Swap ptr) is = let apart : 108 ≡ 115 = first _ _ is in absurd (omega (arith, apart))
    by_change (CompareExchange current new) (inl is) =
        let apart : 108 ≡ 99 = first _ _ is in
        absurd (omega (arith, apart))
    by_change (CompareExchange current new) (inr is) =
        let apart : 108 ≡ 99 = first _ _ is in
        absurd (omega (arith, apart))
    by_change (FetchAnd bits) is = let apart : 108 ≡ 97 = first _ _ is in absurd (omega (arith, apart))
    by_change (FetchOr bits) is = let apart : 108 ≡ 111 = first _ _ is in absurd (omega (arith, apart))
    by_change (FetchXor bits) is = let apart : 108 ≡ 120 = first _ _ is in absurd (omega (arith, apart))
    by_change (FetchUpdate tries update) is = let apart : 108 ≡ 117 = first _ _ is in absurd (omega (arith, apart))
    by_change _ is = is

-- after the word load nothing but a load is said
pub load_only : (word text : List ℕ) → word ≡ codes "load" → ((g : Option ℕ) (s : Spot) → ¬ (SpellsLoad g s text))
    → (g : Option ℕ) (s : Spot) (change : Change) → ¬ (SpellsPointed word g s change text)
load_only word text is none g s change says = by_change g change says
  where
    store_apart : codes "load" ≡ codes "store" → ⊥
    store_apart e = let apart : 111 ≡ 116 = ap (λ (w : List ℕ). get_or w 1 0) e in absurd (omega (arith, apart))

    other : (change : Change) → IsWordOf change word → ⊥
    other change its = load_apart change (subst (λ (w : List ℕ). IsWordOf change w) is its)

    by_change : (g : Option ℕ) (change : Change) → SpellsPointed word g s change text → ⊥
    by_change g Load says = none g s says.1
    by_change None (Store ptr) says = store_apart (sym is ∙ says.0)
    by_change (Some g) (Store ptr) says = says
    by_change g (Swap ptr) says = other (Swap ptr) says.0
    by_change g (CompareExchange current new) says = other (CompareExchange current new) says.0
    by_change g (FetchAnd bits) says = other (FetchAnd bits) says.0
    by_change g (FetchOr bits) says = other (FetchOr bits) says.0
    by_change g (FetchXor bits) says = other (FetchXor bits) says.0
    by_change g (FetchUpdate tries update) says = other (FetchUpdate tries update) says.0

-- after any other word but store a change under a guard is
pub change_only : (word text : List ℕ)
    → word ≢ codes "load" → word ≢ codes "store" → (read : Option (Option ℕ × Spot × Change))
    → MatchOption read ((g : Option ℕ) (s : Spot) (change : Change) → IsWordOf change word
    → ¬ (SpellsUnder g s change text)) (λ all. IsWordOf all.2 word × SpellsUnder all.0 all.1 all.2 text)
    → MatchOption read ((g : Option ℕ) (s : Spot) (change : Change) → ¬ (SpellsPointed word g s change text))
    (λ all. SpellsPointed word all.0 all.1 all.2 text)
change_only word text not_load not_store (Some (g, s, change)) says = by_change change says.0 says.1
  where
    by_change : (change : Change)
        → IsWordOf change word → SpellsUnder g s change text → SpellsPointed word g s change text
    by_change (Swap ptr) is says = (is, says)
    by_change (CompareExchange current new) is says = (is, says)
    by_change (FetchAnd bits) is says = (is, says)
    by_change (FetchOr bits) is says = (is, says)
    by_change (FetchXor bits) is says = (is, says)
    by_change (FetchUpdate tries update) is says = (is, says)
    by_change _ is says = absurd is
change_only word text not_load not_store None none = λ g s change. by_change g s change
  where
    by_change : (g : Option ℕ) (s : Spot) (change : Change) → SpellsPointed word g s change text → ⊥
    by_change g s Load says = not_load says.0
    by_change None s (Store ptr) says = not_store says.0
    by_change (Some g) s (Store ptr) says = says
    by_change g s (Swap ptr) says = none g s (Swap ptr) says.0 says.1
    by_change g s (CompareExchange current new) says = none g s (CompareExchange current new) says.0 says.1
    by_change g s (FetchAnd bits) says = none g s (FetchAnd bits) says.0 says.1
    by_change g s (FetchOr bits) says = none g s (FetchOr bits) says.0 says.1
    by_change g s (FetchXor bits) says = none g s (FetchXor bits) says.0 says.1
    by_change g s (FetchUpdate tries update) says = none g s (FetchUpdate tries update) says.0 says.1

-- nothing is said under a guard where nothing is said after it
pub under_none : (word text rest : List ℕ) → others text ≡ Some rest
    → ((s : Spot) (change : Change) → IsWordOf change word → ¬ (SpellsSpotted s change rest))
    → (g : Option ℕ) (s : Spot) (change : Change) → IsWordOf change word → ¬ (SpellsUnder g s change text)
under_none word text rest cut none g s change is says =
    none s change is (subst (λ (o : Option (List ℕ)). Behind o (SpellsSpotted s change)) cut says.1)
