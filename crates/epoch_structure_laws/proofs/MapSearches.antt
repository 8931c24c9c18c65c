-- What is known of a call of the map that has not found that there is no entry of its key, by the phase that it is in.
use Rattle.std.proofs.Common.{◌≡◌, ◌≤◌, ℕ, zero, suc, Bool, true, false, Option, refl, subst}
use Rattle.epoch_cells.specs.declared.cells.name.Name.{Name}
use Rattle.epoch_laws.specs.declared.heap.access.Accessed.{Accessed}
use Rattle.epoch_laws.specs.declared.heap.access.Accessed.TheVariants.{Again, Answers as Told, NoSlot}
use Rattle.epoch_laws.specs.declared.heap.access.AccessAnswer.{AccessAnswer}
use Rattle.epoch_laws.specs.declared.heap.access.AccessAnswer.TheVariants.{Unit as UnitAnswer, Name as NameAnswer}
use Rattle.epoch_laws.specs.declared.heap.access.AccessAnswer.TheVariants.{Exchanged}
use Rattle.epoch_laws.specs.declared.heap.access.Spot.{Spot}
use Rattle.epoch_structure_laws.specs.Plans.{Deed, Touches, done_by, refused_by}
use Rattle.epoch_structure_laws.proofs.Accounts.{AccountDuty}
use Rattle.epoch_structure_laws.proofs.Obligations.{after_touch}
use Rattle.epoch_structure_laws.specs.declared.map.plan.Aim.{Aim}
use Rattle.epoch_structure_laws.specs.declared.map.plan.Aim.TheVariants.{ToInsert, ToRemove, ToGet}
use Rattle.epoch_structure_laws.specs.declared.map.plan.MapAnswer.{MapAnswer}
use Rattle.epoch_structure_laws.specs.declared.map.plan.MapAnswer.TheVariants.{AlreadyThere, NotFound, MovesOut}
use Rattle.epoch_structure_laws.specs.declared.map.plan.MapPhase.{MapPhase}
use Rattle.epoch_structure_laws.specs.declared.map.plan.MapPhase.TheVariants.{MakingRoom, Placing, LoadingFirst}
use Rattle.epoch_structure_laws.specs.declared.map.plan.MapPhase.TheVariants.{Reading, Leaving, LoadingNext, Unlinking}
use Rattle.epoch_structure_laws.specs.declared.map.plan.MapPhase.TheVariants.{Burying, Linking, Inserting, Marking}
use Rattle.epoch_structure_laws.specs.declared.map.plan.MapPhase.TheVariants.{Dropping, Removing, TakingBack, Answering}
use Rattle.epoch_structure_laws.specs.declared.map.plan.MapWork.{MapWork}
use Rattle.epoch_structure_laws.specs.declared.map.plan.MapWork.TheVariants.{Insert, Remove, Get}
use Rattle.epoch_structure_laws.specs.MapProgram.{node_key, bucket_of, key_sought, again, leaking, map_placed, unlinked}
use Rattle.epoch_structure_laws.specs.MapProgram.{map_linked, inserted, marked_now, dropped, map_deed_of, map}
use Rattle.epoch_structure_laws.specs.MapProgram.{MapStarts, start_map_work, begin_map_work}
use Rattle.epoch_structure_laws.specs.MapAnswers.{bucket_asked, key_asked}
use Rattle.epoch_structure_laws.proofs.MapKept.{structure}
use Rattle.epoch_structure_laws.proofs.MapTouches.{map_obeys}

-- the node that a walk has been led to, with the entry that it held then
pub data Onward : Type 0 where
  Nowhere : Onward
  OnTo : (node : Name) (entry : ℕ) → Onward

-- what is known of a call: nothing, or that it looks for this key and has not found that there is no entry of it
pub data Search : Type 0 where
  Unknown : Search
  Seeks : (bucket key : ℕ) (onward : Onward) → Search

-- WHAT A PHASE SAYS OF THE SEARCH

abbrev pub ForAim : Aim → ℕ → ℕ → Type 0
ForAim aim i key = (bucket_of aim ≡ i) × (key_sought aim ≡ key)

-- the walk has been led to this node, whose key was not above the one that is sought
abbrev pub LedOnTo : Onward → Name → ℕ → Type 0
LedOnTo Nowhere c key = ⊥
LedOnTo (OnTo m w) c key = (m ≡ c) × (node_key w ≤ key)

abbrev pub IsOtherAnswer : MapAnswer → Type 0
IsOtherAnswer NotFound = ⊥
IsOtherAnswer answer = Unit {0}

-- the call is for this key, and is not about to answer that there is no entry of it
abbrev pub Due : MapPhase → ℕ → ℕ → Onward → Type 0
Due (MakingRoom work) i key to = (bucket_asked work ≡ i) × (key_asked work ≡ key)
Due (Placing b e k) i key to = (b ≡ i) × (node_key e ≡ key)
Due (LoadingFirst aim k) i key to = ForAim aim i key
Due (Reading aim link c k) i key to = ForAim aim i key × LedOnTo to c key
Due (Leaving aim link c v k) i key to = ForAim aim i key × (node_key v ≤ key)
Due (LoadingNext aim link c v k) i key to = ForAim aim i key
Due (Unlinking aim link c next k) i key to = ForAim aim i key
Due (Burying aim c k) i key to = ForAim aim i key
Due (Linking b e own link next k) i key to = (b ≡ i) × (node_key e ≡ key)
Due (Inserting b e own link next k) i key to = (b ≡ i) × (node_key e ≡ key)
Due (Marking b sought link c v next k) i key to = (b ≡ i) × (sought ≡ key)
Due (Dropping b sought link c v next) i key to = Unit {0}
Due (Removing c v) i key to = Unit {0}
Due (TakingBack own answer) i key to = IsOtherAnswer answer
Due (Answering answer) i key to = IsOtherAnswer answer

abbrev pub Owes : MapPhase → Search → Type 0
Owes phase Unknown = Unit {0}
Owes phase (Seeks i key to) = Due phase i key to

-- without a call nothing is known
abbrev pub IsUnknown : Search → Type 0
IsUnknown Unknown = Unit {0}
IsUnknown (Seeks i key to) = ⊥

-- in this phase a call reads no link and no entry, so that it finds nothing
abbrev pub IsBlind : MapPhase → Type 0
IsBlind (LoadingFirst aim k) = ⊥
IsBlind (Reading aim link c k) = ⊥
IsBlind (Leaving aim link c v k) = ⊥
IsBlind (LoadingNext aim link c v k) = ⊥
IsBlind phase = Unit {0}

module _ (i key : ℕ) (to : Onward) where
  -- a walk that begins again looks for the same key
  pub again_due : (aim : Aim) (k : ℕ) → ForAim aim i key → Due (again aim k) i key to
  again_due (ToInsert b e own) zero aims = tt
  again_due (ToRemove b sought) zero aims = tt
  again_due (ToGet b sought) zero aims = tt
  again_due aim (suc k) aims = aims

  -- a call begins to look for the key that it was asked for
  started : (work : MapWork) → (bucket_asked work ≡ i) × (key_asked work ≡ key) → Due (start_map_work work) i key to
  started (Insert b e k) aims = aims
  started (Remove b sought k) aims = again_due (ToRemove b sought) k aims
  started (Get b sought k) aims = again_due (ToGet b sought) k aims

  leaking_other : (answer : MapAnswer) → IsOtherAnswer answer → IsOtherAnswer (leaking answer)
  leaking_other (AlreadyThere v) other = tt
  leaking_other MovesOut other = tt
  leaking_other answer other = other

  -- after a refusal it looks for the same key, or answers otherwise
  pub refused_due : (g : ℕ) (phase : MapPhase) → Due phase i key to
      → Due (refused_by phase (map_deed_of g phase)) i key to
  refused_due g (MakingRoom work) s = tt
  refused_due g (Placing b e k) s = tt
  refused_due g (LoadingFirst aim k) s = again_due aim k s
  refused_due g (Reading aim link c k) s = again_due aim k s.0
  refused_due g (Leaving aim link c v k) s = again_due aim k s.0
  refused_due g (LoadingNext aim link c v k) s = again_due aim k s
  refused_due g (Unlinking aim link c next k) s = again_due aim k s
  refused_due g (Burying aim c k) s = tt
  refused_due g (Linking b e own link next k) s = again_due (ToInsert b e own) k s
  refused_due g (Inserting b e own link next k) s = again_due (ToInsert b e own) k s
  refused_due g (Marking b sought link c v next k) s = again_due (ToRemove b sought) k s
  refused_due g (Dropping b sought link c v next) s = tt
  refused_due g (Removing c v) s = tt
  refused_due g (TakingBack own answer) s = leaking_other answer s
  refused_due g (Answering answer) s = s

  -- WHAT AN ANSWER LEAVES

  placed_due : (b e k : ℕ) (a : AccessAnswer) → (b ≡ i) × (node_key e ≡ key) → Due (map_placed b e k a) i key to
  placed_due b e k (NameAnswer n) aims = again_due (ToInsert b e n) k aims
  placed_due b e k _ aims = tt

  unlinked_due : (aim : Aim) (c : Name) (k : ℕ) (a : AccessAnswer) → ForAim aim i key
      → Due (unlinked aim c k a) i key to
  unlinked_due aim c k (Exchanged ptr) aims = aims
  unlinked_due aim c k _ aims = again_due aim k aims

  linked_due : (b e : ℕ) (own : Name) (link : Spot) (next : Option Name) (k : ℕ) (a : AccessAnswer)
      → (b ≡ i) × (node_key e ≡ key) → Due (map_linked b e own link next k a) i key to
  linked_due b e own link next k UnitAnswer aims = aims
  linked_due b e own link next k _ aims = again_due (ToInsert b e own) k aims

  inserted_due : (b e : ℕ) (own : Name) (k : ℕ) (a : AccessAnswer) → (b ≡ i) × (node_key e ≡ key)
      → Due (inserted b e own k a) i key to
  inserted_due b e own k (Exchanged ptr) aims = tt
  inserted_due b e own k _ aims = again_due (ToInsert b e own) k aims

  marked_due : (b sought : ℕ) (link : Spot) (c : Name) (v : ℕ) (next : Option Name) (k : ℕ) (a : AccessAnswer)
      → (b ≡ i) × (sought ≡ key) → Due (marked_now b sought link c v next k a) i key to
  marked_due b sought link c v next k (Exchanged ptr) aims = tt
  marked_due b sought link c v next k _ aims = again_due (ToRemove b sought) k aims

  dropped_due : (c : Name) (v : ℕ) (a : AccessAnswer) → Due (dropped c v a) i key to
  dropped_due c v (Exchanged ptr) = tt
  dropped_due c v _ = tt

  answer_due : (g : ℕ) (phase : MapPhase) (a : AccessAnswer) → IsBlind phase → Due phase i key to
      → Due (done_by phase (map_deed_of g phase) a) i key to
  answer_due g (MakingRoom work) a blind s = started work s
  answer_due g (Placing b e k) a blind s = placed_due b e k a s
  answer_due g (Unlinking aim link c next k) a blind s = unlinked_due aim c k a s
  answer_due g (Burying aim c k) a blind s = again_due aim k s
  answer_due g (Linking b e own link next k) a blind s = linked_due b e own link next k a s
  answer_due g (Inserting b e own link next k) a blind s = inserted_due b e own k a s
  answer_due g (Marking b sought link c v next k) a blind s = marked_due b sought link c v next k a s
  answer_due g (Dropping b sought link c v next) a blind s = dropped_due c v a
  answer_due g (Removing c v) a blind s = tt
  answer_due g (TakingBack own answer) a blind s = s
  answer_due g (Answering answer) a blind s = s
  answer_due g _ a blind s = absurd blind

  -- after a step on cells in such a phase it looks for the same key, or answers otherwise
  pub blind_due : (g : ℕ) (phase : MapPhase) (told : Accessed) → IsBlind phase → Due phase i key to
      → Due (after_touch phase (map_deed_of g phase) told) i key to
  blind_due g phase told blind s = by_deed (map_deed_of g phase) refl told
    where
      by_deed : (d : Deed MapPhase MapAnswer) → map_deed_of g phase ≡ d → (told : Accessed)
          → Due (after_touch phase d told) i key to
      by_deed (Touches a next failed) is (Again found) = s
      by_deed (Touches a next failed) is (Told answer) = subst (λ (d : Deed MapPhase MapAnswer).
          Due (done_by phase d answer) i key to) is (answer_due g phase answer blind s)
      by_deed (Touches a next failed) is NoSlot = subst (λ (d : Deed MapPhase MapAnswer).
          Due (refused_by phase d) i key to) is (refused_due g phase s)
      by_deed _ is told = s

-- a call is first due to look for the key that it was asked for
pub asked_due : (work : MapWork) (has_room : Bool)
    → Due (begin_map_work work has_room) (bucket_asked work) (key_asked work) Nowhere
asked_due work false = (refl, refl)
asked_due work true = started (bucket_asked work) (key_asked work) Nowhere work (refl, refl)

-- DUTIES

-- what is due in one phase is due in the other, whatever is known
owed : (a b : MapPhase) → ((i key : ℕ) (to : Onward) → Due a i key to → Due b i key to) → (d : Search) → Owes a d
    → Owes b d
owed a b due Unknown o = tt
owed a b due (Seeks i key to) o = due i key to o

abbrev pub MapDuty : MapPhase → Deed MapPhase MapAnswer → Type 0
MapDuty = AccountDuty map structure MapStarts map_obeys Search Owes IsUnknown

refusal_owed : (g : ℕ) (phase : MapPhase) (d : Search) → Owes phase d → Owes (refused_by phase (map_deed_of g phase)) d
refusal_owed g phase = owed phase (refused_by phase (map_deed_of g phase))
    (λ i key to s. refused_due i key to g phase s)

answer_owed : (g : ℕ) (phase : MapPhase) → IsBlind phase → (d : Search) → Owes phase d
    → Owes (done_by phase (map_deed_of g phase) UnitAnswer) d
answer_owed g phase blind = owed phase (done_by phase (map_deed_of g phase) UnitAnswer)
    (λ i key to s. answer_due i key to g phase UnitAnswer blind s)

-- only a step on cells and pointers adds to what is known
pub duties : (g : ℕ) (phase : MapPhase) → MapDuty phase (map_deed_of g phase)
duties g (MakingRoom work) = λ d o.
    (answer_owed g (MakingRoom work) tt d o, refusal_owed g (MakingRoom work) d o)
duties g (Burying aim c k) = λ d o.
    (answer_owed g (Burying aim c k) tt d o, refusal_owed g (Burying aim c k) d o)
duties g (Removing c v) = λ d o.
    (answer_owed g (Removing c v) tt d o, refusal_owed g (Removing c v) d o)
duties g (TakingBack own answer) = λ d o.
    (answer_owed g (TakingBack own answer) tt d o, refusal_owed g (TakingBack own answer) d o)
duties g (Answering answer) = tt
duties g phase = λ d o. refusal_owed g phase d o
