-- What a structure has to show of its program, so that every run of it lets cells leave rightly.
use Rattle.std.proofs.Common.{◌≡◌, ◌≢◌, ℕ, Option, Some}
use Rattle.epoch_cells.specs.declared.cells.name.Name.{Name}
use Rattle.epoch_cells.specs.declared.fault.Fault.{Fault}
use Rattle.epoch_laws.specs.declared.heap.access.Access.TheVariants.{Point}
use Rattle.epoch_laws.specs.declared.heap.access.Accessed.{Accessed}
use Rattle.epoch_laws.specs.declared.heap.access.Accessed.TheVariants.{Again, Answers, NoSlot}
use Rattle.epoch_laws.specs.declared.heap.access.AccessAnswer.{AccessAnswer}
use Rattle.epoch_laws.specs.declared.heap.access.Change.{Change}
use Rattle.epoch_laws.specs.declared.heap.access.Ptr.{Ptr}
use Rattle.epoch_laws.specs.declared.heap.access.Spot.TheVariants.{Field}
use Rattle.epoch_laws.specs.Heap.{Heap, pointer_at, Touched, Touches as TouchesHeap}
use Rattle.epoch_laws.specs.declared.step.Call.{Call}
use Rattle.epoch_laws.specs.declared.step.Call.TheVariants.{Access as AccessCall}
use Rattle.epoch_laws.specs.declared.step.Reply.{Reply}
use Rattle.epoch_laws.specs.declared.step.Reply.TheVariants.{Refused}
use Rattle.epoch_laws.specs.Reach.{IsReachable, Past}
use Rattle.epoch_laws.proofs.TurnsGiven.{IsGiven, StaysGiven}
use Rattle.epoch_structure_laws.specs.Plans.{Deed, Touches, Defers, Program, call_by, after_by, IsOver, IsFit, IsFlush}
use Rattle.epoch_structure_laws.proofs.Custody.{Calm, Passed, Structure, Sane, Acts}

-- the phase after one step of a call on cells and pointers
abbrev pub phase_after : {P : Type 0} → P → (AccessAnswer → P) → P → Accessed → P
phase_after phase told refused (Again found) = phase
phase_after phase told refused (Answers answer) = told answer
phase_after phase told refused NoSlot = refused

abbrev pub after_touch : {P A : Type 0} → P → Deed P A → Accessed → P
after_touch phase (Touches a told failed) r = phase_after phase told failed r
after_touch phase _ r = phase

-- one step of the call, if it is one on cells and pointers
abbrev pub TouchesBy : {P A : Type 0} → Deed P A → ℕ → Ptr → Heap → Touched → Type 0
TouchesBy (Touches a told failed) k found h did = TouchesHeap a k found h did
TouchesBy _ k found h did = ⊥

-- a field of a node once in reach that this call changes lies in reach at this step
abbrev pub ChangesReached : Past → Heap → Heap → Call → Type 0
ChangesReached past h h' call =
    (k : Option ℕ) (y : Name) (f : ℕ) (change : Change) → call ≡ AccessCall (Point k (Field y f) change)
    → pointer_at h (Field y f) ≢ pointer_at h' (Field y f) → past.reached y → ¬ (¬ (IsReachable h y))

-- what holds of the past between any two steps
pub record Settled (past : Past) (h : Heap) : Type 0 where
  pub left_out : (n : Name) → past.left n → ¬ (IsReachable h n)
  pub left_given : (n : Name) → past.left n → IsGiven h n
  pub seen : (n : Name) → IsReachable h n → past.reached n
  pub reached_given : (n : Name) → past.reached n → IsGiven h n

-- phase b knows and owns no more than phase a
pub record Weaker (S : Program) (T : Structure S) (a b : S.Phase) : Type 1 where
  pub stands : (past : Past) (h : Heap) (ghost : T.Ghost) → T.Shape past h ghost → T.Stands past h ghost a
      → T.Stands past h ghost b
  pub owns : (n : Name) → T.Owns b n → T.Owns a n

-- A phase defers the removal of its own name, which is out of reach, and the next phase owns it no more.
pub record HandsOver (S : Program) (T : Structure S) (phase next : S.Phase) (n : Name) : Type 1 where
  pub own : T.Owns phase n
  pub fewer : (m : Name) → T.Owns next m → T.Owns phase m
  pub known : (past : Past) (h : Heap) (ghost : T.Ghost) → T.Shape past h ghost → T.Stands past h ghost phase
      → (¬ (IsReachable h n)) × T.Stands past h ghost next × ((m : Name) → T.Owns next m → m ≢ n)

-- what a structure shows of each phase of its program: then every run of it lets cells leave rightly
pub record Obeys (S : Program) (T : Structure S) (Starts : S.Phase → Type 0) : Type 1 where
  -- What a phase owns was given and hasn't left; what is common hasn't left either, and no phase owns it.
  pub sane : Sane S T
  -- A call on cells takes no value out and overwrites none, and has a step at least.
  pub fits : (g : ℕ) (phase : S.Phase) → IsFit (S.deed g phase)
  -- A step that changes only readings, cells that have left and cells that were free leaves the structure as it
  -- stands, and what every phase knows that doesn't own the name whose removal it defers.
  pub calm : (past past' : Past) (h h' : Heap) (ghost : T.Ghost) (gone : Option Name) → Settled past h
      → Calm past.left h h' → Passed past past' h' gone
      → ((n : Name) → past'.left n → ¬ (IsReachable h' n)) → T.Shape past h ghost
      → T.Shape past' h' ghost × ((phase : S.Phase) → ((n : Name) → T.Owns phase n → gone ≢ Some n)
      → T.Stands past h ghost phase → T.Stands past' h' ghost phase)
  -- A call begins owning nothing, and knowing only what holds of every structure of this shape.
  pub starts : (phase : S.Phase) → Starts phase → ((n : Name) → ¬ (T.Owns phase n))
      × ((past : Past) (h : Heap) (ghost : T.Ghost) → T.Shape past h ghost → T.Stands past h ghost phase)
  -- A call that answers owns nothing.
  pub answers : (g : ℕ) (phase : S.Phase) → IsOver (S.deed g phase) → (n : Name) → ¬ (T.Owns phase n)
  -- After a refusal a phase knows and owns no more than before.
  pub refused : (g : ℕ) (phase : S.Phase) (f : Fault) → Weaker S T phase (after_by phase (S.deed g phase) (Refused f))
  -- Nor does it after a flush.
  pub flushed : (g : ℕ) (phase : S.Phase) (r : Reply) → IsFlush (S.deed g phase)
      → Weaker S T phase (after_by phase (S.deed g phase) r)
  -- A removal is deferred by the one phase that owns the name, once it is out of reach, and so only once.
  pub defers : (g : ℕ) (phase deferred refused : S.Phase) (n : Name) → S.deed g phase ≡ Defers n deferred refused
      → HandsOver S T phase deferred n
  -- Each step of a call on cells and pointers brings into reach only what the actor owns, wins only what is common or
  -- new, keeps what all the others know, and changes no field of what has fallen out of reach.
  pub touches : (past : Past) (h : Heap) (ghost : T.Ghost) (g : ℕ) (phase : S.Phase) (j : ℕ) (found : Ptr)
      (did : Touched) → TouchesBy (S.deed g phase) j found h did → StaysGiven h did.heap → Settled past h
      → T.Shape past h ghost → T.Stands past h ghost phase
      → Acts S T past h did.heap ghost (Some phase) (Some (after_touch phase (S.deed g phase) did.told))
      × ChangesReached past h did.heap (call_by g (S.deed g phase))
