-- How many jobs are left in bags, and that each was called.
use Rattle.std.specs.Prelude.{◌≡◌, ℕ, ◌+◌, ◌≤◌, List, [], ◌∷◌, length, Option, Some, None, All}
use Rattle.epoch_bags.specs.Bags.{Sealed}
use Rattle.epoch_cells.specs.declared.cells.name.Name.{Name}
use Rattle.epoch_bags.specs.Jobs.{IsCalled}
use Rattle.epoch_bags.specs.declared.job.Job.{Job}
use Rattle.epoch_tables.specs.SharedPlaces.{PlaceBoard}

module _ {J : Type 0} where
  abbrev pub jobs_of : Option (Sealed J) → ℕ
  jobs_of None = 0
  jobs_of (Some bag) = length bag.jobs

  abbrev pub jobs_in : List (Option (Sealed J)) → ℕ
  jobs_in [] = 0
  jobs_in (bag ∷ bags) = jobs_of bag + jobs_in bags

  -- each job of the bag, if there is one, was called
  abbrev pub IsBagCalled : (J → Type 0) → Option (Sealed J) → Type 0
  IsBagCalled IsCalled None = Unit {0}
  IsBagCalled IsCalled (Some bag) = All IsCalled bag.jobs

-- The jobs of the first bag were called, and these are so many. The others are left.
pub record EndsNext {J : Type 0} (IsCalled : J → Type 0) (left : List (Option (Sealed J))) (jobs : ℕ)
    (others : List (Option (Sealed J))) : Type 0 where
  pub bag : Option (Sealed J)
  pub first : left ≡ bag ∷ others
  pub calls : IsBagCalled IsCalled bag
  pub counts : jobs ≡ jobs_of bag
  pub few : jobs ≤ 64

-- The places were closed. Each job of each bag that they had then was called, and these are so many jobs.
pub record CallsAllLeft {W : Type 0} (closed : PlaceBoard → List (Option (Sealed (Job W))) → Type 0)
    (done : W → Type 0) (tried : Name → Type 0) (places : PlaceBoard) (jobs : ℕ) : Type 0 where
  pub left : List (Option (Sealed (Job W)))
  pub closed_with : closed places left
  pub calls : All (IsBagCalled (IsCalled done tried)) left
  pub counts : jobs ≡ jobs_in left
