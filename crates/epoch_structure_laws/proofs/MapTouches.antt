-- Each phase's step keeps what holds of the map, so that the map obeys.
use Rattle.std.proofs.Common.{◌≡◌, ◌≢◌, ℕ, zero, suc, Option, Some, None, inl, inr, refl, ap, sym, subst, ◌∙◌, arith}
use Rattle.std.proofs.Common.{slice_get}
use Rattle.epoch_cells.specs.PlainCells.{readable}
use Rattle.epoch_cells.specs.declared.cells.name.Name.{Name}
use Rattle.epoch_laws.specs.declared.heap.access.Ptr.{Ptr}
use Rattle.epoch_laws.specs.declared.heap.access.Spot.{Spot}
use Rattle.epoch_laws.specs.declared.heap.access.Spot.TheVariants.{Root, Field}
use Rattle.epoch_laws.specs.declared.heap.access.Change.TheVariants.{Load, CompareExchange}
use Rattle.epoch_laws.specs.declared.heap.access.Access.TheVariants.{Place, Read, Leave}
use Rattle.epoch_laws.specs.Heap.{Heap, cell_at, pointer_at, Touched, ChangesAt}
use Rattle.epoch_laws.specs.Reach.{IsReachable, Past}
use Rattle.epoch_structure_laws.specs.Plans.{call_by}
use Rattle.epoch_structure_laws.proofs.Obligations.{Settled, Obeys, TouchesBy, ChangesReached}
use Rattle.epoch_structure_laws.proofs.Calls.{calm_call}
use Rattle.epoch_structure_laws.specs.declared.map.plan.MapPhase.{MapPhase}
use Rattle.epoch_structure_laws.specs.declared.map.plan.MapPhase.TheVariants.{MakingRoom, Placing, LoadingFirst}
use Rattle.epoch_structure_laws.specs.declared.map.plan.MapPhase.TheVariants.{Reading, Leaving, LoadingNext, Unlinking}
use Rattle.epoch_structure_laws.specs.declared.map.plan.MapPhase.TheVariants.{Burying, Linking, Inserting, Marking}
use Rattle.epoch_structure_laws.specs.declared.map.plan.MapPhase.TheVariants.{Dropping, Removing, TakingBack, Answering}
use Rattle.epoch_structure_laws.specs.MapProgram.{node_key, plain, marked, bucket_of, key_sought, map_deed_of, map}
use Rattle.epoch_structure_laws.specs.MapProgram.{MapStarts}
use Rattle.epoch_structure_laws.proofs.MapForm.{Buckets, in_reach}
use Rattle.epoch_structure_laws.proofs.MapKept.{Shape, Below, Stands, structure, sane, calm_kept, refused, flushed}
use Rattle.epoch_structure_laws.proofs.MapKept.{starts, answers, fits, defers}
use Rattle.epoch_structure_laws.proofs.MapSteps.{Does, aligned_at, load_first, load_next, read_entry, leave_entry}
use Rattle.epoch_structure_laws.proofs.MapSteps.{place, link_own}
use Rattle.epoch_structure_laws.proofs.MapExchanges.{link_live, unlink, drop_own, insert, mark}

module _ (past : Past) (h : Heap) (xs : Buckets) (settled : Settled past h) (shape : Shape past h xs) where
  -- each phase's step
  touch_does : (g : ℕ) (phase : MapPhase) (j : ℕ) (found : Ptr) (did : Touched)
      → TouchesBy (map_deed_of g phase) j found h did → Stands past h xs phase
      → Does past h xs settled shape g phase did
  touch_does g (MakingRoom work) j found did e s = absurd e
  touch_does g (Burying aim c k) j found did e s = absurd e
  touch_does g (Removing c v) j found did e s = absurd e
  touch_does g (TakingBack own answer) j found did e s = absurd e
  touch_does g (Answering a) j found did e s = absurd e
  touch_does g (Placing b w k) j found did e s =
      place past h xs settled shape g b w k j found did (slice_get h.cells j) refl e
      (calm_call past.left h (Place w) j found did tt e)
  touch_does g (LoadingFirst aim k) j found did e s =
      load_first past h xs settled shape g aim k j found did (pointer_at h (Root (bucket_of aim))) refl e s
  touch_does g (Reading aim link c k) j found did e s =
      read_entry past h xs settled shape g aim link c k did (cell_at h c) (readable (cell_at h c)) refl refl e s
      (calm_call past.left h (Read (Some g) (plain (Some c))) j found did tt e)
  touch_does g (Leaving aim link c v k) j found did e s =
      leave_entry past h xs settled shape g aim link c v k did (cell_at h c) e s
      (calm_call past.left h (Leave (plain (Some c))) j found did tt e)
  touch_does g (LoadingNext aim link c v k) j found did e s =
      load_next past h xs settled shape g aim link c v k j found did (pointer_at h (Field c 0)) refl e s
  touch_does g (Unlinking aim link c next k) j found did e s =
      unlink past h xs settled shape g aim link c next k j found did (pointer_at h link) refl e s
  touch_does g (Linking b w own link next k) j found did e s =
      link_own past h xs settled shape b w own link next k s g j found did (pointer_at h (Field own 0)) refl e
  touch_does g (Inserting b w own link next k) j found did e s =
      insert past h xs settled shape g b w own link next k j found did (pointer_at h link) refl e s
  touch_does g (Marking b key link c v next k) j found did e s =
      mark past h xs settled shape g b key link c v next k j found did (pointer_at h (Field c 0)) refl e s
  touch_does g (Dropping b key link c v next) j found did e s =
      drop_own past h xs settled shape g b key link c v next j found did (pointer_at h link) refl e s

  -- A field that changes is of a node in reach.
  loads_same : (o : Option Ptr) (spot : Spot) (j : ℕ) (found : Ptr) (did : Touched)
      → ChangesAt Load j found spot h o did → did.heap ≡ h
  loads_same None spot j found did e = ap (λ (d : Touched). d.heap) e
  loads_same (Some ptr) spot j found did e = ap (λ (d : Touched). d.heap) e

  abbrev Frozen : ℕ → MapPhase → Touched → Type 0
  Frozen g phase did = ChangesReached past h did.heap (call_by g (map_deed_of g phase))

  -- an exchange that expects no mark changes the field of a node in a bucket alone
  exchange_frozen : (b key : ℕ) (link : Spot) (current : Option Name) (other : Ptr) (j : ℕ) (found : Ptr)
      (did : Touched) (o : Option Ptr) → pointer_at h link ≡ o
      → ChangesAt (CompareExchange (plain current) other) j found link h o did → Below past h xs b key link
      → (y : Name) (f : ℕ) → link ≡ Field y f → pointer_at h (Field y f) ≢ pointer_at did.heap (Field y f)
      → ¬ (¬ (IsReachable h y))
  exchange_frozen b key link current other j found did None e is s y f at changed never =
      changed (ap (λ (d : Touched). pointer_at d.heap (Field y f)) (sym is))
  exchange_frozen b key link current other j found did (Some ptr) e (inr is) s y f at changed never =
      changed (ap (λ (d : Touched). pointer_at d.heap (Field y f)) (sym is.1))
  exchange_frozen b key link current other j found did (Some ptr) e (inl is) s y zero at changed never =
      never (in_reach h xs shape.form y (link_live past h xs settled shape b key link current s
      (e ∙ ap Some (is.0 ∙ aligned_at h current)) y at))
  exchange_frozen b key link current other j found did (Some ptr) e (inl is) s y (suc f) at changed never =
      subst (Below past h xs b key) at s

  touch_frozen : (g : ℕ) (phase : MapPhase) (j : ℕ) (found : Ptr) (did : Touched)
      → TouchesBy (map_deed_of g phase) j found h did → Stands past h xs phase → Frozen g phase did
  touch_frozen g (Unlinking aim link c next k) j found did e s i y f change call changed r never =
      exchange_frozen (bucket_of aim) (key_sought aim) link (Some c) (plain next) j found did (pointer_at h link) refl e
      s.0.1 y f (cc (call)) changed never
  touch_frozen g (Dropping b key link c v next) j found did e s i y f change call changed r never =
      exchange_frozen b key link (Some c) (plain next) j found did (pointer_at h link) refl e s.0 y f (cc (call))
      changed never
  touch_frozen g (Inserting b w own link next k) j found did e s i y f change call changed r never =
      exchange_frozen b (node_key w) link next (plain (Some own)) j found did (pointer_at h link) refl e s.1 y f
      (cc (call)) changed never
  touch_frozen g (Marking b key link c v next k) j found did e s i y f change call changed r never =
      exchange_frozen b (suc (node_key v)) (Field c 0) next (marked next) j found did (pointer_at h (Field c 0)) refl e
      (s.1, (v, s.2, omega arith)) y f (cc (call)) changed never
  -- an own node was never in reach
  touch_frozen g (Linking b w own link next k) j found did e s i y f change call changed r never =
      s.0.0 (subst (λ m. past.reached m) (let same : own ≡ y = cc (call) in sym same) r)
  touch_frozen g (LoadingNext aim link c v k) j found did e s i y f change call changed r never =
      changed (ap (λ (i : Heap). pointer_at i (Field y f))
      (sym (loads_same (pointer_at h (Field c 0)) (Field c 0) j found did e)))
  touch_frozen g (MakingRoom work) j found did e s i y f change call changed r never = cc (call)
  touch_frozen g (Placing b w k) j found did e s i y f change call changed r never = cc (call)
  touch_frozen g (LoadingFirst aim k) j found did e s i y f change call changed r never = cc (call)
  touch_frozen g (Reading aim link c k) j found did e s i y f change call changed r never = cc (call)
  touch_frozen g (Leaving aim link c v k) j found did e s i y f change call changed r never = cc (call)
  touch_frozen g (Burying aim c k) j found did e s i y f change call changed r never = cc (call)
  touch_frozen g (Removing c v) j found did e s i y f change call changed r never = cc (call)
  touch_frozen g (TakingBack own answer) j found did e s i y f change call changed r never = cc (call)
  touch_frozen g (Answering a) j found did e s i y f change call changed r never = cc (call)

-- A MAP OBEYS

pub map_obeys : Obeys map structure MapStarts
map_obeys = record {
  sane = sane;
  fits = fits;
  calm = λ past past' h h' xs gone settled calm passed out shape.
      calm_kept past past' h h' xs gone settled calm passed out shape;
  starts = starts;
  answers = answers;
  refused = refused;
  flushed = flushed;
  defers = defers;
  touches = λ past h xs g phase j found did e given settled shape s. (
    touch_does past h xs settled shape g phase j found did e s given,
    touch_frozen past h xs settled shape g phase j found did e s,
  );
}
