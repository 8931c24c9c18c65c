-- What a structure has to show of its program, beside its obligations, so that each call is replied to as expected.
use Rattle.std.proofs.Common.{◌≡◌, ℕ, true, List, [], Some, None, ◌⊎◌, subst}
use Rattle.epoch_cells.specs.declared.cells.name.Name.{Name}
use Rattle.epoch_cells.specs.declared.fault.Fault.TheVariants.{CellsFull}
use Rattle.epoch_laws.specs.declared.heap.access.Access.{Access}
use Rattle.epoch_laws.specs.declared.heap.access.Access.TheVariants.{Place, Read, Leave, Point}
use Rattle.epoch_laws.specs.declared.heap.access.Accessed.TheVariants.{Answers as Told}
use Rattle.epoch_laws.specs.declared.heap.access.AccessAnswer.{AccessAnswer}
use Rattle.epoch_laws.specs.declared.heap.access.AccessAnswer.TheVariants.{Name as NameAnswer, Pointer}
use Rattle.epoch_laws.specs.declared.heap.access.Change.TheVariants.{Load}
use Rattle.epoch_laws.specs.declared.heap.access.Ptr.{Ptr}
use Rattle.epoch_laws.specs.Heap.{Heap, guard_of, has_place, knows_names, pointer_at}
use Rattle.epoch_laws.specs.Run.{reading_refusal, readings_after}
use Rattle.epoch_laws.specs.Reach.{IsLoadedFrom, Past}
use Rattle.epoch_laws.proofs.PointersGiven.{WasGiven}
use Rattle.epoch_laws.proofs.Readable.{IsReadable}
use Rattle.epoch_structure_laws.specs.Plans.{Deed, Flushes, Touches, Defers, Answers, Program}
use Rattle.epoch_structure_laws.proofs.Custody.{Structure}
use Rattle.epoch_structure_laws.specs.Served.{AnswersAccess, RefusesAccess}

-- the name that an answer tells of: that of a new cell, or the one that a load found
abbrev pub NamedBy : Access → AccessAnswer → Name → Type 0
NamedBy (Place v) (NameAnswer m) n = m ≡ n
NamedBy (Point g spot Load) (Pointer ptr) n = ptr.name ≡ Some n
NamedBy _ _ n = ⊥

-- a load in a root, or in a field of what was loaded before, loads the name that it finds
abbrev pub LoadedBy : (Name → Type 0) → Access → AccessAnswer → Name → Type 0
LoadedBy before (Point g spot Load) (Pointer ptr) n = IsLoadedFrom before spot × (ptr.name ≡ Some n)
LoadedBy before _ _ n = ⊥

-- the call finds what it is made on: a pointer, or a cell that may be read
abbrev pub Finds : Heap → Access → Type 0
Finds h (Point g spot change) = (ptr : Ptr) × (pointer_at h spot ≡ Some ptr)
Finds h (Read g ptr) = (n : Name) × (ptr.name ≡ Some n) × IsReadable h n
Finds h (Leave ptr) = (n : Name) × (ptr.name ≡ Some n)
Finds h _ = Unit {0}

-- what a structure says further of its phases
pub record Knowledge (S : Program) : Type 1 where
  pub Names : S.Phase → Name → Type 0  -- the phase knows the name
  pub Loads : S.Phase → Name → Type 0  -- it knows that the name was loaded under the guard of its call
  pub Roomy : S.Phase → Type 0  -- it knows that the held bag has room
  pub reads : S.Phase → List Name  -- what it is reading

module _ (S : Program) (T : Structure S) (K : Knowledge S) where
  -- phase b knows no more than phase a, and reads the same
  pub record Fewer (a b : S.Phase) : Type 0 where
    pub names : (n : Name) → K.Names b n → K.Names a n
    pub loads : (n : Name) → K.Loads b n → K.Loads a n
    pub reads : K.reads b ≡ K.reads a

  -- The call may begin, and finds what it is made on.
  pub record Allows (g : ℕ) (phase : S.Phase) (a : Access) : Type 1 where
    pub guard : (k : ℕ) → guard_of a ≡ Some k → k ≡ g
    pub names : (h : Heap) → ((n : Name) → K.Names phase n → WasGiven h n) → knows_names h a ≡ true
    pub place : (past : Past) (h : Heap) (ghost : T.Ghost) → h.fields ≡ 1 → T.Shape past h ghost
        → has_place h a ≡ true
    pub reading : reading_refusal a (K.reads phase) ≡ None
    pub finds : (past : Past) (h : Heap) (ghost : T.Ghost) → T.Shape past h ghost → T.Stands past h ghost phase
        → ((n : Name) → K.Loads phase n → IsReadable h n) → Finds h a

  -- What the phase after an answer knows was known before, or the answer tells it.
  pub record Learns (g : ℕ) (phase : S.Phase) (a : Access) (answer : AccessAnswer) (next : S.Phase) : Type 0 where
    pub names : (n : Name) → K.Names next n → K.Names phase n ⊎ NamedBy a answer n
    pub loads : (n : Name) → K.Loads next n
        → K.Loads phase n ⊎ ((guard_of a ≡ Some g) × LoadedBy (K.Loads phase) a answer n)
    pub roomy : K.Roomy next → K.Roomy phase
    pub reads : K.reads next ≡ readings_after a (Told answer) (K.reads phase)

  -- Before a flush, and after one that was refused, no room is known of. A flush tells of no name.
  pub record FlushDuty (phase done failed : S.Phase) : Type 1 where
    pub after : Fewer phase done
    pub refused : Fewer phase failed
    pub none_before : ¬ (K.Roomy phase)
    pub none_refused : ¬ (K.Roomy failed)

  -- A removal is deferred of a name that is known, where the held bag has room; then none is known of.
  pub record DeferDuty (phase deferred failed : S.Phase) (n : Name) : Type 1 where
    pub name : K.Names phase n
    pub room : K.Roomy phase
    pub after : Fewer phase deferred
    pub refused : Fewer phase failed
    pub none_after : ¬ (K.Roomy deferred)

  -- A call on cells and pointers may begin, and finds what it is made on. A placing that is refused tells nothing.
  pub record TouchDuty (g : ℕ) (phase : S.Phase) (a : Access) (told : AccessAnswer → S.Phase) (failed : S.Phase) :
      Type 1 where
    pub allows : Allows g phase a
    pub learns : (answer : AccessAnswer) → AnswersAccess a answer → Learns g phase a answer (told answer)
    pub unplaced : RefusesAccess a CellsFull → Fewer phase failed × (K.Roomy failed → K.Roomy phase)

  -- What answers reads nothing.
  pub record AnswerDuty (phase : S.Phase) : Type 1 where
    pub reads : K.reads phase ≡ []

  abbrev pub DutyOf : ℕ → S.Phase → Deed S.Phase S.Answer → Type 1
  DutyOf g phase (Flushes done failed) = FlushDuty phase done failed
  DutyOf g phase (Touches a told failed) = TouchDuty g phase a told failed
  DutyOf g phase (Defers n deferred failed) = DeferDuty phase deferred failed n
  DutyOf g phase (Answers a) = AnswerDuty phase

  pub record Serves (Starts : S.Phase → Type 0) : Type 1 where
    -- A call begins knowing no name, and reads nothing.
    pub starts : (phase : S.Phase) → Starts phase
        → ((n : Name) → ¬ (K.Names phase n)) × ((n : Name) → ¬ (K.Loads phase n)) × (K.reads phase ≡ [])
    -- Each phase does its duty.
    pub duties : (g : ℕ) (phase : S.Phase) → DutyOf g phase (S.deed g phase)

  pub duty_of : (Starts : S.Phase → Type 0) → Serves Starts → (g : ℕ) (phase : S.Phase) (d : Deed S.Phase S.Answer)
      → S.deed g phase ≡ d → DutyOf g phase d
  duty_of Starts serves g phase d is = subst (DutyOf g phase) is (serves.duties g phase)
