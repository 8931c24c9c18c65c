-- Bounds on the epochs at which jobs were deferred.
use Rattle.std.proofs.Common.{◌≡◌, ℕ, ◌<◌, ◌≤◌, List, [], ◌∷◌, ◌++◌, arith, subst, sym}
use Rattle.epoch_bags.specs.Stores.{IsInserted}
use Rattle.epoch_laws.specs.declared.step.Deferral.{Deferral}
use Rattle.epoch_laws.specs.Run.{Bag}

-- each job has a ticket that was given, and was deferred at or before the epoch bound;
-- when is the epoch at the deferral of each ticket
abbrev pub DeferredBy : (ℕ → ℕ) → ℕ → ℕ → List Deferral → Type 0
DeferredBy when tickets bound [] = Unit {0}
DeferredBy when tickets bound (job ∷ jobs) =
    (job.ticket < tickets) × (when job.ticket ≤ bound) × DeferredBy when tickets bound jobs

-- what was deferred at or before an epoch was so at or before a later one, also when more tickets are given
pub deferred_more : (when when' : ℕ → ℕ) (n n' bound bound' : ℕ) (jobs : List Deferral) → n ≤ n' → bound ≤ bound'
    → ((t : ℕ) → t < n → when' t ≡ when t) → DeferredBy when n bound jobs → DeferredBy when' n' bound' jobs
deferred_more when when' n n' b b' [] more later same h = tt
deferred_more when when' n n' b b' (job ∷ jobs) more later same h =
    (omega arith, omega (arith, same job.ticket h.0), deferred_more when when' n n' b b' jobs more later same h.2)

-- one more job may be added that has a ticket and was deferred at or before the epoch
pub deferred_push : (when : ℕ → ℕ) (n bound : ℕ) (jobs : List Deferral) (job : Deferral)
    → DeferredBy when n bound jobs → job.ticket < n → when job.ticket ≤ bound
    → DeferredBy when n bound (jobs ++ job ∷ [])
deferred_push when n bound [] job h given before = (given, before, tt)
deferred_push when n bound (first ∷ jobs) job h given before =
    (h.0, h.1, deferred_push when n bound jobs job h.2 given before)

-- each bag's seal was an epoch, and its jobs were deferred at or before its seal
abbrev pub SealedBehind : (ℕ → ℕ) → ℕ → ℕ → List Bag → Type 0
SealedBehind when tickets epoch [] = Unit {0}
SealedBehind when tickets epoch (bag ∷ bags) =
    (bag.seal ≤ epoch) × DeferredBy when tickets bag.seal bag.jobs × SealedBehind when tickets epoch bags

-- each bag stays sealed at or after its jobs' deferrals as the epoch advances and more tickets are given
pub sealed_more : (when when' : ℕ → ℕ) (n n' e e' : ℕ) (bags : List Bag) → n ≤ n' → e ≤ e'
    → ((t : ℕ) → t < n → when' t ≡ when t) → SealedBehind when n e bags → SealedBehind when' n' e' bags
sealed_more when when' n n' e e' [] more later same h = tt
sealed_more when when' n n' e e' (bag ∷ bags) more later same h = (
  omega arith,
  deferred_more when when' n n' bag.seal bag.seal bag.jobs more (omega arith) same h.1,
  sealed_more when when' n n' e e' bags more later same h.2,
)

sealed_between : (when : ℕ → ℕ) (n e : ℕ) (front back : List Bag) (bag : Bag) → SealedBehind when n e (front ++ back)
    → bag.seal ≤ e → DeferredBy when n bag.seal bag.jobs → SealedBehind when n e (front ++ bag ∷ back)
sealed_between when n e [] back bag h seal jobs = (seal, jobs, h)
sealed_between when n e (first ∷ front) back bag h seal jobs =
    (h.0, h.1, sealed_between when n e front back bag h.2 seal jobs)

-- one bag, and the others
pub record Parts (when : ℕ → ℕ) (tickets epoch : ℕ) (bag : Bag) (others : List Bag) : Type 0 where
  pub seal : bag.seal ≤ epoch
  pub jobs : DeferredBy when tickets bag.seal bag.jobs
  pub sealed : SealedBehind when tickets epoch others

sealed_without : (when : ℕ → ℕ) (n e : ℕ) (front back : List Bag) (bag : Bag)
    → SealedBehind when n e (front ++ bag ∷ back) → Parts when n e bag (front ++ back)
sealed_without when n e [] back bag h = record { seal = h.0; jobs = h.1; sealed = h.2 }
sealed_without when n e (first ∷ front) back bag h =
    let rest = sealed_without when n e front back bag h.2 in
    record { seal = rest.seal; jobs = rest.jobs; sealed = (h.0, h.1, rest.sealed) }

-- a bag is put in
pub sealed_put : (when : ℕ → ℕ) (n e : ℕ) (old new : List Bag) (bag : Bag) → IsInserted bag old new
    → SealedBehind when n e old → bag.seal ≤ e → DeferredBy when n bag.seal bag.jobs → SealedBehind when n e new
sealed_put when n e old new bag at h seal jobs =
    let others = subst (SealedBehind when n e) at.without h in
    subst (SealedBehind when n e) (sym at.with) (sealed_between when n e at.front at.back bag others seal jobs)

-- a bag is taken out
pub sealed_got : (when : ℕ → ℕ) (n e : ℕ) (old new : List Bag) (bag : Bag) → IsInserted bag new old
    → SealedBehind when n e old → Parts when n e bag new
sealed_got when n e old new bag at h =
    let parts = sealed_without when n e at.front at.back bag (subst (SealedBehind when n e) at.with h) in
    record {
      seal = parts.seal;
      jobs = parts.jobs;
      sealed = subst (SealedBehind when n e) (sym at.without) parts.sealed;
    }
