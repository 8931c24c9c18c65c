-- What the put of a call has found of the places, by the stage of its machine, and at the stage after it.
use Rattle.std.proofs.Common.{◌≡◌, ◌≢◌, ℕ, ◌<◌, ◌==◌, Bool, true, false, List, [], ◌∷◌, length, refl, arith}
use Rattle.epoch_machine.specs.declared.machine.Action.{Action}
use Rattle.epoch_machine.specs.declared.machine.Action.TheVariants.{Pin, Unpin, Repin, Defer, Flush, Release}
use Rattle.epoch_machine.specs.declared.machine.Stage.{Stage}
use Rattle.epoch_machine.specs.declared.machine.Stage.TheVariants.{LoadPin, StorePin, ReloadPin, LoadScan, Scan}
use Rattle.epoch_machine.specs.declared.machine.Stage.TheVariants.{Advance, Take, Calling, LoadSeal, Put, Keep}
use Rattle.epoch_machine.specs.declared.machine.Stage.TheVariants.{LoadRepin, StoreUnpinned, StoreFree, End}
use Rattle.epoch_machine.specs.Machine.{Machine, is_empty, after_collect, after_pin, after_put, after_unpin, after_job}
use Rattle.epoch_machine.specs.Machine.{past_word, first_stage}
use Rattle.epoch_machine.proofs.StagesAfter.{either_way, after_pin_at, past_word_at, after_job_at}
use Rattle.epoch_laws.specs.declared.step.Deferral.{Deferral}
use Rattle.epoch_laws.specs.Full.{FoundEach}

-- WHAT IS FOUND

abbrev pub NoneFound : (ℕ → Type 0) → Type 0
NoneFound found = (k : ℕ) → ¬ (found k)

-- Just the places that a put has seen are found, and it hasn't seen each.
pub record FoundSeen (found : ℕ → Type 0) (count seen : ℕ) : Type 0 where
  pub so_far : (k : ℕ) → k < seen → found k
  pub only : (k : ℕ) → found k → k < seen
  pub short : 0 < count → seen < count

-- what a call has found that is told so at its end: each place where the bags are full, and else not each
abbrev pub FoundWhere : (found : ℕ → Type 0) (count : ℕ) → Bool → Type 0
FoundWhere found count true = FoundEach found count
FoundWhere found count false = 0 < count → ¬ (FoundEach found count)

-- a call that has found no place hasn't found each, where there is one
pub none_missed : (found : ℕ → Type 0) (count : ℕ) → NoneFound found → FoundWhere found count false
none_missed found count none some each = none 0 (each 0 some)

-- nor has a call whose put hasn't seen each place yet
pub seen_missed : (found : ℕ → Type 0) (count seen : ℕ) → FoundSeen found count seen → FoundWhere found count false
seen_missed found count seen at some each = absurd (omega (arith, at.only seen (each seen (at.short some))))

-- BY THE STAGE

-- the actions that have a put
abbrev pub puts_bag : Action → Bool
puts_bag Defer = true
puts_bag Flush = true
puts_bag Release = true
puts_bag _ = false

-- a release pins and collects before its put
abbrev pub NoneYet : (ℕ → Type 0) → Action → Type 0
NoneYet found Release = NoneFound found
NoneYet found _ = Unit {0}

-- Before its put a call has found nothing. A position is given up only where the put wasn't full.
abbrev pub FoundAt : (found : ℕ → Type 0) (count seen : ℕ) → Action → Bool → Stage → Type 0
FoundAt found count seen a full LoadPin = NoneYet found a
FoundAt found count seen a full (StorePin e) = NoneYet found a
FoundAt found count seen a full ReloadPin = NoneYet found a
FoundAt found count seen a full LoadScan = NoneYet found a
FoundAt found count seen a full (Scan e k) = NoneYet found a
FoundAt found count seen a full (Advance e) = NoneYet found a
FoundAt found count seen a full (Take x k) = NoneYet found a
FoundAt found count seen a full (Calling x k) = NoneYet found a
FoundAt found count seen a full LoadSeal = (puts_bag a ≡ true) × NoneFound found
FoundAt found count seen a full (Put s) = (puts_bag a ≡ true) × FoundSeen found count seen
FoundAt found count seen a full StoreFree = full ≡ false
FoundAt found count seen a full _ = Unit {0}

-- THE STAGES AFTER A PART OF A CALL

module _ (found : ℕ → Type 0) (count seen : ℕ) where
  found_collected : (a : Action) (full : Bool) (held : List Deferral) → NoneYet found a
      → FoundAt found count seen a full (after_collect a held)
  found_collected Release full [] none = tt
  found_collected Release full (job ∷ jobs) none = (refl, none)
  found_collected _ full held none = tt

  pub found_put : (a : Action) (full : Bool) → FoundAt found count seen a full (after_put a full)
  found_put Defer false = tt
  found_put _ full = tt

  pub found_unpinned : (a : Action) (full : Bool) → FoundAt found count seen a full (after_unpin a full)
  found_unpinned Release false = refl
  found_unpinned _ full = tt

  abbrev Began : Action → Stage → Type 0
  Began a s = FoundAt found count seen a false s

  pub found_first : (a : Action) (m : Machine Deferral) → NoneFound found → Began a (first_stage a m)
  found_first Pin m none = either_way (Began Pin) (m.guards == 0) LoadPin End tt tt
  found_first Unpin m none = either_way (Began Unpin) (m.guards == 1) StoreUnpinned End tt tt
  found_first Repin m none = either_way (Began Repin) (m.guards == 1) LoadRepin End tt tt
  found_first Defer m none =
      either_way (Began Defer) (length m.held == m.sizes.bag_jobs) LoadSeal Keep (refl, none) tt
  found_first Flush m none = either_way (Began Flush) (is_empty m.held) LoadScan LoadSeal tt (refl, none)
  found_first Release m none = none

-- the same of a machine
module _ (found : ℕ → Type 0) (count seen : ℕ) (m : Machine Deferral) (none : NoneYet found m.action) where
  abbrev At : Stage → Type 0
  At s = FoundAt found count seen m.action m.full s

  pub machine_collected : At (after_collect m.action m.held)
  machine_collected = found_collected found count seen m.action m.full m.held none

  pub machine_pinned : At (after_pin m)
  machine_pinned = after_pin_at At m none machine_collected

  pub machine_scanned : (e k w : ℕ) → At (past_word m.sizes.positions e k w)
  machine_scanned e k w = past_word_at At m.sizes.positions e k w none none none

  pub machine_called : (x k : ℕ) (jobs : List Deferral) → At (after_job m x k jobs)
  machine_called x k jobs = after_job_at At m x k jobs none none machine_collected

-- after a put there is none
pub put_ends : (a : Action) (full : Bool) (s : ℕ) → after_put a full ≢ Put s
put_ends Defer false s = λ is. cc
put_ends _ full s = λ is. cc
