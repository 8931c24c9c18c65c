-- What a step does to the bags of a store, of any jobs.
use Rattle.std.specs.Prelude.{◌≡◌, ℕ, ◌+◌, Bool, true, false, List, [], ◌∷◌, ◌++◌, Option, Some, None}
use Rattle.epoch_bags.specs.Bags.{Unsealed, Sealed, IsExpired}
use Rattle.epoch_bags.specs.declared.queue.PutStep.{PutStep}
use Rattle.epoch_bags.specs.declared.queue.PutStep.TheVariants.{Again, Done, Full}
use Rattle.epoch_bags.specs.declared.queue.TakeStep.{TakeStep}
use Rattle.epoch_bags.specs.declared.queue.TakeStep.TheVariants.{Again as TakeAgain, Empty, Got}

-- the bag stands somewhere among the new ones, which are else the old ones
pub record IsInserted {J : Type 0} (bag : Sealed J) (old new : List (Sealed J)) : Type 0 where
  pub front : List (Sealed J)
  pub back : List (Sealed J)
  pub without : old ≡ front ++ back
  pub with : new ≡ front ++ bag ∷ back

-- each bag is expired for the epoch x
abbrev pub AllExpired : {J : Type 0} → ℕ → List (Sealed J) → Type 0
AllExpired x [] = Unit {0}
AllExpired x (bag ∷ bags) = IsExpired x bag × AllExpired x bags

-- how many of these are true
abbrev pub how_many : List Bool → ℕ
how_many [] = 0
how_many (true ∷ all) = how_many all + 1
how_many (false ∷ all) = how_many all

-- the jobs held go into the store, in a bag sealed with this epoch; what was held is left empty, of the same limit
pub record PutsJobs {J : Type 0} (seal : ℕ) (old : List (Sealed J)) (held : Unsealed J) (new : List (Sealed J))
    (left : Unsealed J) : Type 0 where
  pub inserted : IsInserted (record { seal = seal; jobs = held.jobs }) old new
  pub empty : left.jobs ≡ []
  pub limit : left.limit ≡ held.limit

-- what one step of a put does to the bags in the store and to the bag held
abbrev pub PutsBag : {J : Type 0} → ℕ → List (Sealed J) → Unsealed J → PutStep → List (Sealed J) → Unsealed J → Type 0
PutsBag seal old held Done new left = PutsJobs seal old held new left
PutsBag seal old held Again new left = (left ≡ held) × (new ≡ old)
PutsBag seal old held Full new left = (left ≡ held) × (new ≡ old)

-- what the put would have come to is told before its last step as at it
abbrev pub FindsRoom : Bool → PutStep → Bool → Type 0
FindsRoom before Again after = after ≡ before
FindsRoom before Done after = before ≡ true
FindsRoom before Full after = before ≡ false

-- one bag that is expired is taken out into the hand
pub record TakesExpired {J : Type 0} (x : ℕ) (old new : List (Sealed J)) (hand : Sealed J) : Type 0 where
  pub expired : IsExpired x hand
  pub inserted : IsInserted hand new old

-- what one step of a collection does to the bags in the store and to the hand
abbrev pub TakesBag : {J : Type 0} → ℕ → List (Sealed J) → Sealed J → TakeStep → List (Sealed J) → Sealed J → Type 0
TakesBag x old hand Got new after = TakesExpired x old new after
TakesBag x old hand TakeAgain new after = (after ≡ hand) × (new ≡ old)
TakesBag x old hand Empty new after = (after ≡ hand) × (new ≡ old)

-- as many bags are ahead after the step as before it, but for one that is got; where none is found, none was ahead
abbrev pub FindsBag : ℕ → TakeStep → ℕ → Type 0
FindsBag before TakeAgain after = after ≡ before
FindsBag before Got after = before ≡ after + 1
FindsBag before Empty after = (before ≡ 0) × (after ≡ 0)

-- some bag is taken out, or there is none
abbrev pub TakesAny : {J : Type 0} → List (Sealed J) → Option (Sealed J) → List (Sealed J) → Type 0
TakesAny old None new = (old ≡ []) × (new ≡ [])
TakesAny old (Some bag) new = IsInserted bag new old
