-- What a step of a call that looks along its bucket finds: that there is no entry of its key, or where to go on.
use Rattle.std.proofs.Common.{◌≡◌, ◌≤◌, ◌<◌, ℕ, zero, suc, Bool, true, false, Option, Some, None, ◌⊎◌, inl, inr, refl}
use Rattle.std.proofs.Common.{ap, sym, subst, ◌∙◌, arith, nat_lt, if◌then◌else◌}
use Rattle.std.proofs.lemmas.Bool.Decides.{nat_tests}
use Rattle.epoch_cells.specs.PlainCells.{readable}
use Rattle.epoch_cells.specs.declared.cells.name.Name.{Name}
use Rattle.epoch_laws.specs.declared.heap.access.Accessed.{Accessed}
use Rattle.epoch_laws.specs.declared.heap.access.Accessed.TheVariants.{Answers as Told}
use Rattle.epoch_laws.specs.declared.heap.access.AccessAnswer.TheVariants.{Pointer}
use Rattle.epoch_laws.specs.declared.heap.access.Change.TheVariants.{Load}
use Rattle.epoch_laws.specs.declared.heap.access.Ptr.{Ptr}
use Rattle.epoch_laws.specs.declared.heap.access.Spot.{Spot}
use Rattle.epoch_laws.specs.declared.heap.access.Spot.TheVariants.{Root, Field}
use Rattle.epoch_laws.specs.declared.heap.heap.Content.{Content}
use Rattle.epoch_laws.specs.Heap.{Cell, Heap, cell_at, pointer_at, Touched, ChangesAt, read_by, left_by}
use Rattle.epoch_laws.specs.Reach.{Past}
use Rattle.epoch_laws.proofs.TurnsGiven.{IsGiven, StaysGiven}
use Rattle.epoch_structure_laws.proofs.Obligations.{Settled, TouchesBy, after_touch}
use Rattle.epoch_structure_laws.specs.declared.map.plan.Aim.{Aim}
use Rattle.epoch_structure_laws.specs.declared.map.plan.Aim.TheVariants.{ToInsert, ToRemove, ToGet}
use Rattle.epoch_structure_laws.specs.declared.map.plan.MapPhase.{MapPhase}
use Rattle.epoch_structure_laws.specs.declared.map.plan.MapPhase.TheVariants.{LoadingFirst, Reading, Leaving}
use Rattle.epoch_structure_laws.specs.declared.map.plan.MapPhase.TheVariants.{LoadingNext}
use Rattle.epoch_structure_laws.specs.MapProgram.{node_key, bucket_of, key_sought, absent, present, at, to_node}
use Rattle.epoch_structure_laws.specs.MapProgram.{to_look, looked_at, map_deed_of}
use Rattle.epoch_structure_laws.specs.MapEntries.{EntryHoldsValue, LooksAt, LeadsPast}
use Rattle.epoch_structure_laws.proofs.MapChains.{In, item_in, one_value, follows_in, readable_held}
use Rattle.epoch_structure_laws.proofs.MapForm.{Buckets, root_in}
use Rattle.epoch_structure_laws.proofs.MapKept.{Shape, Stands}
use Rattle.epoch_structure_laws.proofs.MapSteps.{unmarked_in}
use Rattle.epoch_structure_laws.proofs.MapValues.{NoOther}
use Rattle.epoch_structure_laws.proofs.MapSearches.{Onward, Nowhere, OnTo, ForAim, LedOnTo, Due, again_due}
use Rattle.epoch_structure_laws.proofs.MapSearches.{blind_due}

-- the node that a walk has been led to was given, and holds no entry but the one that it held then
abbrev pub OnwardHolds : Heap → Onward → Type 0
OnwardHolds h Nowhere = Unit {0}
OnwardHolds h (OnTo c w) = IsGiven h c × ((v : ℕ) → EntryHoldsValue h c v → v ≡ w)

-- and so it stays
pub onward_kept : (h h' : Heap) → StaysGiven h h' → NoOther h h' → (to : Onward) → OnwardHolds h to → OnwardHolds h' to
onward_kept h h' given other Nowhere holds = tt
onward_kept h h' given other (OnTo c w) (was, only) = (given c was, λ v there. only v (other c was v there))

module _ (past : Past) (h : Heap) (xs : Buckets) (settled : Settled past h) (shape : Shape past h xs) (i key : ℕ) where
  -- the step is told a pointer that leads past the key
  abbrev pub FoundNone : MapPhase → Accessed → Type 0
  FoundNone phase told =
      (ptr : Ptr) × (told ≡ Told (Pointer ptr)) × LooksAt phase i key ptr × LeadsPast h key ptr.name

  -- or the phase after it is due with this
  abbrev pub GoesOn : Heap → MapPhase → Type 0
  GoesOn h' next = (to : Onward) × Due next i key to × OnwardHolds h' to

  abbrev pub Looks : ℕ → MapPhase → Touched → Type 0
  Looks g phase did = FoundNone phase did.told ⊎ GoesOn did.heap (after_touch phase (map_deed_of g phase) did.told)

  -- A LINK THAT LEADS TO A NODE OF THE BUCKET, OR TO NONE

  -- what a node of a bucket holds
  held_in : (b : ℕ) (m : Name) → In m (xs b) → (w : ℕ) × EntryHoldsValue h m w × IsGiven h m
  held_in b m there =
      let bucket = shape.form.held b in
      let held = item_in h bucket.0 (xs b) m bucket.2 there in
      (held.entry, held.worth, settled.reached_given m (shape.known m (b, there)).0)

  led_on : (aim : Aim) (link : Spot) (c : Name) (k w : ℕ) → ForAim aim i key → EntryHoldsValue h c w → IsGiven h c
      → node_key w ≤ key → GoesOn h (to_node aim link c k)
  led_on aim link c zero w aims holds given le = (Nowhere, again_due i key Nowhere aim 0 aims, tt)
  led_on aim link c (suc k) w aims holds given le =
      (OnTo c w, (aims, (refl, le)), (given, λ v there. one_value h c v w there holds))

  -- it leads past the key, or to a node whose key is not above it
  leads : (aim : Aim) (link : Spot) (o : Option Name) (k : ℕ) → ForAim aim i key
      → ((m : Name) → o ≡ Some m → In m (xs (bucket_of aim))) → LeadsPast h key o ⊎ GoesOn h (at aim link o k)
  leads aim link None k aims within = inl tt
  leads aim link (Some c) k aims within = by_test (nat_lt key (node_key held.0)) refl
    where
      held : (w : ℕ) × EntryHoldsValue h c w × IsGiven h c
      held = held_in (bucket_of aim) c (within c refl)

      by_test : (b : Bool) → nat_lt key (node_key held.0) ≡ b
          → LeadsPast h key (Some c) ⊎ GoesOn h (to_node aim link c k)
      by_test true test =
          let lt : key < node_key held.0 = grind (arith, nat_tests) in inl (held.0, held.1, lt)
      by_test false test =
          let le : node_key held.0 ≤ key = grind (arith, nat_tests) in
          inr (led_on aim link c k held.0 aims held.1 held.2 le)

  -- THE FOUR PHASES THAT LOOK

  look_first : (g : ℕ) (aim : Aim) (k j : ℕ) (found : Ptr) (did : Touched) (o : Option Ptr)
      → pointer_at h (Root (bucket_of aim)) ≡ o → ChangesAt Load j found (Root (bucket_of aim)) h o did
      → ForAim aim i key → Looks g (LoadingFirst aim k) did
  look_first g aim k j found did None there e aims =
      subst (Looks g (LoadingFirst aim k)) (sym e) (inr (Nowhere, again_due i key Nowhere aim k aims, tt))
  look_first g aim k j found did (Some ptr) there e aims =
      subst (Looks g (LoadingFirst aim k)) (sym e)
      (elim (leads aim (Root (bucket_of aim)) ptr.name k aims
      (λ m name. root_in h xs shape.form (bucket_of aim) ptr m there name)) [
        | inl past_key ↦ inl (ptr, refl, aims, past_key)
        | inr on ↦ inr on
      ])

  look_next : (g : ℕ) (aim : Aim) (link : Spot) (c : Name) (v k j : ℕ) (found : Ptr) (did : Touched) (o : Option Ptr)
      → pointer_at h (Field c 0) ≡ o → ChangesAt Load j found (Field c 0) h o did
      → Stands past h xs (LoadingNext aim link c v k) → ForAim aim i key → Looks g (LoadingNext aim link c v k) did
  look_next g aim link c v k j found did None there e s aims =
      subst (Looks g (LoadingNext aim link c v k)) (sym e) (inr (Nowhere, again_due i key Nowhere aim k aims, tt))
  look_next g aim link c v k j found did (Some ptr) there e s aims =
      subst (Looks g (LoadingNext aim link c v k)) (sym e) (by_tag ptr.tag refl)
    where
      within : ptr.tag ≡ 0 → (m : Name) → ptr.name ≡ Some m → In m (xs (bucket_of aim))
      within none m name =
          let bucket = shape.form.held (bucket_of aim) in
          follows_in h bucket.0 (xs (bucket_of aim)) c m ptr bucket.2
          (unmarked_in past h xs settled shape (bucket_of aim) c ptr.name s.1
          (there ∙ ap Some (λ t. record { name = ptr.name; tag = none t }))) there name

      here : (aim' : Aim) → ForAim aim' i key → GoesOn h (present aim' link c v ptr.name k)
      here (ToInsert b w own) aims = (Nowhere, tt, tt)
      here (ToRemove b sought) aims = (Nowhere, aims, tt)
      here (ToGet b sought) aims = (Nowhere, tt, tt)

      by_test : (b : Bool) → nat_lt (node_key v) (key_sought aim) ≡ b → ptr.tag ≡ 0
          → FoundNone (LoadingNext aim link c v k) (Told (Pointer ptr))
          ⊎ GoesOn h (if b then at aim (Field c 0) ptr.name k else present aim link c v ptr.name k)
      by_test false test none = inr (here aim aims)
      by_test true test none =
          let lt : node_key v < key_sought aim = grind (arith, nat_tests) in
          elim (leads aim (Field c 0) ptr.name k aims (within none)) [
            | inl past_key ↦ inl (ptr, refl, (aims.0, aims.1, subst (λ n. node_key v < n) aims.1 lt, none), past_key)
            | inr on ↦ inr on
          ]

      by_tag : (t : ℕ) → ptr.tag ≡ t → FoundNone (LoadingNext aim link c v k) (Told (Pointer ptr))
          ⊎ GoesOn h (looked_at aim link c v k ptr.name t)
      by_tag zero none = by_test (nat_lt (node_key v) (key_sought aim)) refl none
      by_tag (suc t) some = inr (Nowhere, aims, tt)

  look_read : (g : ℕ) (aim : Aim) (link : Spot) (c : Name) (k : ℕ) (to : Onward) (did : Touched) (o : Option Cell)
      (p : Option Content) → cell_at h c ≡ o → readable o ≡ p → did ≡ read_by h c o p → ForAim aim i key
      → LedOnTo to c key → OnwardHolds h to → Looks g (Reading aim link c k) did
  look_read g aim link c k to did None p there held e aims led holds =
      subst (Looks g (Reading aim link c k)) (sym e) (inr (Nowhere, again_due i key Nowhere aim k aims, tt))
  look_read g aim link c k to did (Some cell) None there held e aims led holds =
      subst (Looks g (Reading aim link c k)) (sym e) (inr (Nowhere, again_due i key Nowhere aim k aims, tt))
  look_read g aim link c k Nowhere did (Some cell) (Some content) there held e aims led holds = absurd led
  look_read g aim link c k (OnTo m w) did (Some cell) (Some content) there held e aims led holds =
      let worth : EntryHoldsValue h c content.value =
      (cell, content, there, readable_held cell content held, refl) in
      let same : content.value ≡ w =
      holds.1 content.value (subst (λ n. EntryHoldsValue h n content.value) (sym led.0) worth) in
      subst (Looks g (Reading aim link c k)) (sym e)
      (inr (Nowhere, (aims, subst (λ n. node_key n ≤ key) (sym same) led.1), tt))

  look_leave : (g : ℕ) (aim : Aim) (link : Spot) (c : Name) (v k : ℕ) (did : Touched) (o : Option Cell)
      → did ≡ left_by h c o → ForAim aim i key → node_key v ≤ key → Looks g (Leaving aim link c v k) did
  look_leave g aim link c v k did o e aims le =
      inr (
        Nowhere,
        subst (λ (next : MapPhase). Due next i key Nowhere) (sym (told o e))
            (by_test (nat_lt (key_sought aim) (node_key v)) refl),
        tt,
      )
    where
      told : (o : Option Cell) → did ≡ left_by h c o
          → after_touch (Leaving aim link c v k) (map_deed_of g (Leaving aim link c v k)) did.told
          ≡ to_look aim link c v k
      told None is = ap (λ (d : Touched). after_touch (Leaving aim link c v k) (map_deed_of g (Leaving aim link c v k))
          d.told) is
      told (Some cell) is = ap (λ (d : Touched). after_touch (Leaving aim link c v k)
          (map_deed_of g (Leaving aim link c v k)) d.told) is

      by_test : (b : Bool) → nat_lt (key_sought aim) (node_key v) ≡ b
          → Due (if b then absent aim link (Some c) k else LoadingNext aim link c v k) i key Nowhere
      by_test false test = aims
      by_test true test =
          let lt : key_sought aim < node_key v = grind (arith, nat_tests) in
          absurd (omega (arith, lt, le, aims.1))

  -- each phase's step finds that there is no entry of the key, or leaves the call looking for it
  pub touch_looks : (g : ℕ) (phase : MapPhase) (to : Onward) (j : ℕ) (found : Ptr) (did : Touched)
      → TouchesBy (map_deed_of g phase) j found h did → Stands past h xs phase → Due phase i key to
      → OnwardHolds h to → OnwardHolds did.heap to → Looks g phase did
  touch_looks g (LoadingFirst aim k) to j found did e s due holds kept =
      look_first g aim k j found did (pointer_at h (Root (bucket_of aim))) refl e due
  touch_looks g (LoadingNext aim link c v k) to j found did e s due holds kept =
      look_next g aim link c v k j found did (pointer_at h (Field c 0)) refl e s due
  touch_looks g (Reading aim link c k) to j found did e s due holds kept =
      look_read g aim link c k to did (cell_at h c) (readable (cell_at h c)) refl refl e due.0 due.1 holds
  touch_looks g (Leaving aim link c v k) to j found did e s due holds kept =
      look_leave g aim link c v k did (cell_at h c) e due.0 due.1
  touch_looks g phase to j found did e s due holds kept =
      inr (to, blind_due i key to g phase did.told tt due, kept)
