-- Which nodes a call has in each of its phases: an insert its own one until that is placed, and each call the one that
-- it has read, from then on until it reads another. So what it gives is a node of the key that it seeks.
use Rattle.std.proofs.Common.{◌≡◌, ◌∙◌, ℕ, zero, suc, List, [], ◌∷◌, Option, Some, None}
use Rattle.std.proofs.Common.{Bool, true, false, sym, ap, subst, IsSome, IfSome, if◌then◌else◌, nat_lt}
use Rattle.std.specs.declared.cmp.Ordering.{Ordering}
use Rattle.epoch_cells.specs.declared.cells.name.Name.{Name}
use Rattle.epoch_cells.specs.declared.fault.Fault.{Fault}
use Rattle.epoch_laws.specs.declared.heap.access.Access.{Access}
use Rattle.epoch_laws.specs.declared.heap.access.Access.TheVariants.{Place, Read}
use Rattle.epoch_laws.specs.declared.heap.access.AccessAnswer.{AccessAnswer}
use Rattle.epoch_laws.specs.declared.heap.access.AccessAnswer.TheVariants.{Unit as UnitAnswer, Name as NameAnswer}
use Rattle.epoch_laws.specs.declared.heap.access.AccessAnswer.TheVariants.{Value, Pointer, Exchanged}
use Rattle.epoch_laws.specs.declared.heap.access.Spot.{Spot}
use Rattle.epoch_laws.specs.declared.heap.access.Spot.TheVariants.{Root, Field}
use Rattle.epoch_laws.specs.declared.step.Reply.{Reply}
use Rattle.epoch_laws.specs.declared.step.Reply.TheVariants.{Done}
use Rattle.epoch_structure_laws.specs.Plans.{Deed, Flushes, Touches, Defers, Answers, IsOver, after_by}
use Rattle.epoch_structure_calls.specs.Paths.{Keeping, PerformsBy, GoesTo, DoesBy, ReadsBy, ReadsTo}
use Rattle.epoch_map.specs.declared.spots.MapCallNodes.{MapCallNodes}
use Rattle.epoch_map.specs.Moving.{MovesMapNodes, ReadsNode}
use Rattle.epoch_structure_laws.specs.declared.map.plan.Aim.{Aim}
use Rattle.epoch_structure_laws.specs.declared.map.plan.Aim.TheVariants.{ToInsert, ToRemove, ToGet}
use Rattle.epoch_structure_laws.specs.declared.map.plan.MapAnswer.{MapAnswer}
use Rattle.epoch_structure_laws.specs.declared.map.plan.MapAnswer.TheVariants.{AlreadyThere, AlreadyThereLeaking}
use Rattle.epoch_structure_laws.specs.declared.map.plan.MapAnswer.TheVariants.{Removed, RemovedLeaking, Found, MovesOut}
use Rattle.epoch_structure_laws.specs.declared.map.plan.MapAnswer.TheVariants.{CellsFull, BagsFull}
use Rattle.epoch_structure_laws.specs.declared.map.plan.MapPhase.{MapPhase}
use Rattle.epoch_structure_laws.specs.declared.map.plan.MapPhase.TheVariants.{MakingRoom, Placing, LoadingFirst}
use Rattle.epoch_structure_laws.specs.declared.map.plan.MapPhase.TheVariants.{Reading, Leaving, LoadingNext, Unlinking}
use Rattle.epoch_structure_laws.specs.declared.map.plan.MapPhase.TheVariants.{Burying, Linking, Inserting, Marking}
use Rattle.epoch_structure_laws.specs.declared.map.plan.MapPhase.TheVariants.{Dropping, Removing, TakingBack, Answering}
use Rattle.epoch_structure_laws.specs.declared.map.plan.MapWork.{MapWork}
use Rattle.epoch_structure_laws.specs.declared.map.plan.MapWork.TheVariants.{Insert, Remove, Get}
use Rattle.epoch_structure_laws.specs.MapProgram.{map_deed_of, node_key, key_sought, bucket_of, out_of_moves, again}
use Rattle.epoch_structure_laws.specs.MapProgram.{absent, present, at, to_look, looked_at, first_loaded}
use Rattle.epoch_structure_laws.specs.MapProgram.{map_next_loaded, unlinked, map_linked, inserted, marked_now, dropped}
use Rattle.epoch_structure_laws.specs.MapProgram.{leaking, start_map_work}
use Rattle.epoch_structure_calls.specs.MapCalls.{coded}

-- what follows from two facts about what there is
of_some : {A : Type 0} (o : Option A) (P Q : A → Type 0) (R' : Type 0) → IsSome o → IfSome o P → IfSome o Q
    → ((a : A) → P a → Q a → R') → R'
of_some (Some a) P Q R' some p q follows = follows a p q
of_some None P Q R' some p q follows = absurd cc

module _ {N K : Type 0} (key : N → K) (cmp : K → K → Ordering) (sought : K) (own : Option N) where
  -- the key that is sought, as far as it is known; and that of the node that is not placed yet
  abbrev pub Seeks : MapCallNodes N K → Type 0
  Seeks l = IfSome l.key (λ k. k.now ≡ sought) × IfSome l.own (λ node. key node ≡ sought)

  -- the node that was read last compares so with the key
  abbrev pub HasRead : ℕ → MapCallNodes N K → Type 0
  HasRead v l = IsSome l.lent × IfSome l.lent (λ node. coded (cmp (key node.now) sought) ≡ v)

  -- what a call has that answers so
  abbrev pub HasAnswer : MapAnswer → MapCallNodes N K → Type 0
  HasAnswer (AlreadyThere v) l = (l.own ≡ None) × HasRead v l
  HasAnswer (AlreadyThereLeaking v) l = (l.own ≡ None) × HasRead v l
  HasAnswer (Removed v) l = (l.own ≡ None) × HasRead v l
  HasAnswer (RemovedLeaking v) l = (l.own ≡ None) × HasRead v l
  HasAnswer (Found v) l = (l.own ≡ None) × HasRead v l
  HasAnswer BagsFull l = l.own ≡ own
  HasAnswer CellsFull l = l.own ≡ own
  HasAnswer answer l = l.own ≡ None

  -- an own node is taken back for one of these answers
  abbrev pub HasTaken : MapAnswer → MapCallNodes N K → Type 0
  HasTaken (AlreadyThere v) l = (l.own ≡ None) × HasRead v l
  HasTaken MovesOut l = l.own ≡ None
  HasTaken answer l = ⊥

  -- what a call has in each phase
  abbrev pub Has : MapPhase → MapCallNodes N K → Type 0
  Has (MakingRoom (Insert b e k)) l = l.own ≡ own
  Has (MakingRoom work) l = (l.own ≡ own) × (l.own ≡ None)
  Has (Placing b e k) l = l.own ≡ own
  Has (Leaving aim link c v k) l = (l.own ≡ None) × HasRead v l
  Has (LoadingNext aim link c v k) l = (l.own ≡ None) × HasRead v l
  Has (Marking b k link c v next m) l = (l.own ≡ None) × HasRead v l
  Has (Dropping b k link c v next) l = (l.own ≡ None) × HasRead v l
  Has (Removing c v) l = (l.own ≡ None) × HasRead v l
  Has (TakingBack c answer) l = HasTaken answer l
  Has (Answering answer) l = HasAnswer answer l
  Has phase l = l.own ≡ None

  -- WHAT FOLLOWS

  module _ (l : MapCallNodes N K) (none : l.own ≡ None) where
    pub again_has : (aim : Aim) (k : ℕ) → Has (again aim k) l
    again_has (ToInsert b e c) zero = none
    again_has (ToRemove b key') zero = none
    again_has (ToGet b key') zero = none
    again_has aim (suc k) = none

    absent_has : (aim : Aim) (link : Spot) (o : Option Name) (k : ℕ) → Has (absent aim link o k) l
    absent_has (ToInsert b e c) link o k = none
    absent_has (ToRemove b key') link o k = none
    absent_has (ToGet b key') link o k = none

    out_has : (aim : Aim) → Has (out_of_moves aim) l
    out_has (ToInsert b e c) = none
    out_has (ToRemove b key') = none
    out_has (ToGet b key') = none

    at_has : (aim : Aim) (link : Spot) (o : Option Name) (k : ℕ) → Has (at aim link o k) l
    at_has aim link None k = absent_has aim link None k
    at_has aim link (Some c) zero = out_has aim
    at_has aim link (Some c) (suc k) = none

    present_has : (aim : Aim) (link : Spot) (c : Name) (v : ℕ) (o : Option Name) (k : ℕ) → HasRead v l
        → Has (present aim link c v o k) l
    present_has (ToInsert b e c') link c v o k has = (none, has)
    present_has (ToRemove b key') link c v o k has = (none, has)
    present_has (ToGet b key') link c v o k has = (none, has)

    look_has : (aim : Aim) (link : Spot) (c : Name) (v k : ℕ) → HasRead v l → Has (to_look aim link c v k) l
    look_has aim link c v k has = by_test (nat_lt (key_sought aim) (node_key v))
      where
        by_test : (t : Bool) → Has (if t then absent aim link (Some c) k else LoadingNext aim link c v k) l
        by_test true = absent_has aim link (Some c) k
        by_test false = (none, has)

    looked_has : (aim : Aim) (link : Spot) (c : Name) (v k : ℕ) (o : Option Name) (tag : ℕ) → HasRead v l
        → Has (looked_at aim link c v k o tag) l
    looked_has aim link c v k o zero has = by_test (nat_lt (node_key v) (key_sought aim))
      where
        by_test : (t : Bool) → Has (if t then at aim (Field c 0) o k else present aim link c v o k) l
        by_test true = at_has aim (Field c 0) o k
        by_test false = present_has aim link c v o k has
    looked_has aim link c v k o (suc tag) has = none

    first_has : (aim : Aim) (k : ℕ) (a : AccessAnswer) → Has (first_loaded aim k a) l
    first_has aim k (Pointer ptr) = at_has aim (Root (bucket_of aim)) ptr.name k
    first_has aim k a = again_has aim k

    next_has : (aim : Aim) (link : Spot) (c : Name) (v k : ℕ) (a : AccessAnswer) → HasRead v l
        → Has (map_next_loaded aim link c v k a) l
    next_has aim link c v k (Pointer ptr) has = looked_has aim link c v k ptr.name ptr.tag has
    next_has aim link c v k a has = again_has aim k

    unlinked_has : (aim : Aim) (c : Name) (k : ℕ) (a : AccessAnswer) → Has (unlinked aim c k a) l
    unlinked_has aim c k (Exchanged ptr) = none
    unlinked_has aim c k a = again_has aim k

    linked_has : (b e : ℕ) (c : Name) (link : Spot) (o : Option Name) (k : ℕ) (a : AccessAnswer)
        → Has (map_linked b e c link o k a) l
    linked_has b e c link o k UnitAnswer = none
    linked_has b e c link o k a = again_has (ToInsert b e c) k

    inserted_has : (b e : ℕ) (c : Name) (k : ℕ) (a : AccessAnswer) → Has (inserted b e c k a) l
    inserted_has b e c k (Exchanged ptr) = none
    inserted_has b e c k a = again_has (ToInsert b e c) k

    marked_has : (b key' : ℕ) (link : Spot) (c : Name) (v : ℕ) (o : Option Name) (k : ℕ) (a : AccessAnswer)
        → HasRead v l
        → Has (marked_now b key' link c v o k a) l
    marked_has b key' link c v o k (Exchanged ptr) has = (none, has)
    marked_has b key' link c v o k a has = again_has (ToRemove b key') k

    dropped_has : (c : Name) (v : ℕ) (a : AccessAnswer) → HasRead v l → Has (dropped c v a) l
    dropped_has c v (Exchanged ptr) has = (none, has)
    dropped_has c v a has = (none, has)

  taken_has : (l : MapCallNodes N K) (answer : MapAnswer) → HasTaken answer l → HasAnswer answer l
  taken_has l (AlreadyThere v) has = has
  taken_has l MovesOut has = has
  taken_has l answer has = absurd has

  leaking_has : (l : MapCallNodes N K) (answer : MapAnswer) → HasTaken answer l → HasAnswer (leaking answer) l
  leaking_has l (AlreadyThere v) has = has
  leaking_has l MovesOut has = has
  leaking_has l answer has = absurd has

  start_has : (l : MapCallNodes N K) (work : MapWork) → Has (MakingRoom work) l → Has (start_map_work work) l
  start_has l (Insert b e k) has = has
  start_has l (Remove b key' k) has = again_has l has.1 (ToRemove b key') k
  start_has l (Get b key' k) has = again_has l has.1 (ToGet b key') k

  no_room : (l : MapCallNodes N K) (work : MapWork) → Has (MakingRoom work) l → l.own ≡ own
  no_room l (Insert b e k) has = has
  no_room l (Remove b key' k) has = has.0
  no_room l (Get b key' k) has = has.0

  -- STEPS

  -- what was read stays lent
  still_read : (l l' : MapCallNodes N K) (v : ℕ) → l'.lent ≡ l.lent → HasRead v l → HasRead v l'
  still_read l l' v same has =
      subst (λ o. IsSome o × IfSome o (λ node. coded (cmp (key node.now) sought) ≡ v)) (sym same) has

  -- what compares so with a known key, and is lent, does with the one that is sought
  has_compared : (l l' : MapCallNodes N K) (v : ℕ) → Seeks l → ReadsNode key cmp l v l' → HasRead v l'
  has_compared l l' v seeks reads = (
    reads.3,
    of_some l.key (λ k. k.now ≡ sought) _ _ reads.2 seeks.0 reads.4
        (λ k is compares. subst (λ (z : K). IfSome l'.lent (λ node. coded (cmp (key node.now) z) ≡ v)) is compares),
  )

  -- an access keeps to the key
  seeks_on : (access : Access) (reply : Reply) (l l' : MapCallNodes N K) → Seeks l
      → MovesMapNodes key cmp l access reply l' → Seeks l'
  seeks_on (Place number) (Done (NameAnswer name)) l l' seeks moves =
      let of_node : key moves.0.0 ≡ sought =
      subst (λ o. IfSome o (λ node. key node ≡ sought)) moves.0.1 seeks.1 in (
        subst (λ (z : K). IfSome l'.key (λ k. k.now ≡ z)) of_node moves.0.2,
        subst (λ o. IfSome o (λ node. key node ≡ sought)) (sym moves.1) tt,
      )
  seeks_on (Read guard ptr) (Done (Value v)) l l' seeks moves = (
    subst (λ o. IfSome o (λ k. k.now ≡ sought)) (sym moves.1) seeks.0,
    subst (λ o. IfSome o (λ node. key node ≡ sought)) (sym moves.0) seeks.1,
  )
  seeks_on access reply l l' seeks moves = (
    subst (λ o. IfSome o (λ k. k.now ≡ sought)) (sym moves.1) seeks.0,
    subst (λ o. IfSome o (λ node. key node ≡ sought)) (sym moves.0) seeks.1,
  )

  -- what a deed does to the nodes
  abbrev pub Steps : Deed MapPhase MapAnswer → MapCallNodes N K → Reply → MapCallNodes N K → Type 0
  Steps (Flushes done refused) l reply l' = l' ≡ l
  Steps (Touches access told refused) l reply l' = MovesMapNodes key cmp l access reply l'
  Steps (Defers name deferred refused) l reply l' = l' ≡ l
  Steps (Answers answer) l reply l' = ⊥

  abbrev next_phase : MapPhase → Reply → MapPhase
  next_phase phase reply = after_by phase (map_deed_of 0 phase) reply

  -- each step leads on to what the next phase has
  has_on : (phase : MapPhase) (reply : Reply) (l l' : MapCallNodes N K) → Seeks l → Has phase l
      → Steps (map_deed_of 0 phase) l reply l' → Has (next_phase phase reply) l'
  has_on (MakingRoom work) (Done a) l l' seeks has p =
      subst (λ (z : MapCallNodes N K). Has (start_map_work work) z) (sym p) (start_has l work has)
  has_on (MakingRoom work) reply l l' seeks has p =
      subst (λ (z : MapCallNodes N K). z.own ≡ own) (sym p) (no_room l work has)
  has_on (Placing b e k) (Done (NameAnswer n)) l l' seeks has p = again_has l' p.1 (ToInsert b e n) k
  has_on (Placing b e k) (Done a) l l' seeks has p = p.0 ∙ has
  has_on (Placing b e k) reply l l' seeks has p = p.0 ∙ has
  has_on (LoadingFirst aim k) (Done a) l l' seeks has p = first_has l' (p.0 ∙ has) aim k a
  has_on (LoadingFirst aim k) reply l l' seeks has p = again_has l' (p.0 ∙ has) aim k
  has_on (Reading aim link c k) (Done (Value v)) l l' seeks has p = (p.0 ∙ has, has_compared l l' v seeks p)
  has_on (Reading aim link c k) (Done a) l l' seeks has p = again_has l' (p.0 ∙ has) aim k
  has_on (Reading aim link c k) reply l l' seeks has p = again_has l' (p.0 ∙ has) aim k
  has_on (Leaving aim link c v k) (Done a) l l' seeks has p =
      look_has l' (p.0 ∙ has.0) aim link c v k (still_read l l' v p.2 has.1)
  has_on (Leaving aim link c v k) reply l l' seeks has p = again_has l' (p.0 ∙ has.0) aim k
  has_on (LoadingNext aim link c v k) (Done a) l l' seeks has p =
      next_has l' (p.0 ∙ has.0) aim link c v k a (still_read l l' v p.2 has.1)
  has_on (LoadingNext aim link c v k) reply l l' seeks has p = again_has l' (p.0 ∙ has.0) aim k
  has_on (Unlinking aim link c next k) (Done a) l l' seeks has p = unlinked_has l' (p.0 ∙ has) aim c k a
  has_on (Unlinking aim link c next k) reply l l' seeks has p = again_has l' (p.0 ∙ has) aim k
  has_on (Burying aim c k) (Done a) l l' seeks has p =
      subst (λ (z : MapCallNodes N K). Has (again aim k) z) (sym p) (again_has l has aim k)
  has_on (Burying aim c k) reply l l' seeks has p = subst (λ (z : MapCallNodes N K). z.own ≡ None) (sym p) has
  has_on (Linking b e c link next k) (Done a) l l' seeks has p = linked_has l' (p.0 ∙ has) b e c link next k a
  has_on (Linking b e c link next k) reply l l' seeks has p = again_has l' (p.0 ∙ has) (ToInsert b e c) k
  has_on (Inserting b e c link next k) (Done a) l l' seeks has p = inserted_has l' (p.0 ∙ has) b e c k a
  has_on (Inserting b e c link next k) reply l l' seeks has p = again_has l' (p.0 ∙ has) (ToInsert b e c) k
  has_on (Marking b m link c v next k) (Done a) l l' seeks has p =
      marked_has l' (p.0 ∙ has.0) b m link c v next k a (still_read l l' v p.2 has.1)
  has_on (Marking b m link c v next k) reply l l' seeks has p = again_has l' (p.0 ∙ has.0) (ToRemove b m) k
  has_on (Dropping b m link c v next) (Done a) l l' seeks has p =
      dropped_has l' (p.0 ∙ has.0) c v a (still_read l l' v p.2 has.1)
  has_on (Dropping b m link c v next) reply l l' seeks has p = (p.0 ∙ has.0, still_read l l' v p.2 has.1)
  has_on (Removing c v) (Done a) l l' seeks has p =
      subst (λ (z : MapCallNodes N K). (z.own ≡ None) × HasRead v z) (sym p) has
  has_on (Removing c v) reply l l' seeks has p =
      subst (λ (z : MapCallNodes N K). (z.own ≡ None) × HasRead v z) (sym p) has
  has_on (TakingBack c answer) (Done a) l l' seeks has p =
      subst (λ (z : MapCallNodes N K). HasAnswer answer z) (sym p) (taken_has l answer has)
  has_on (TakingBack c answer) reply l l' seeks has p =
      subst (λ (z : MapCallNodes N K). HasAnswer (leaking answer) z) (sym p) (leaking_has l answer has)
  has_on (Answering answer) reply l l' seeks has p = absurd p

  -- and keeps to the key
  seeks_further : (deed : Deed MapPhase MapAnswer) (reply : Reply) (l l' : MapCallNodes N K) → Seeks l
      → Steps deed l reply l'
      → Seeks l'
  seeks_further (Flushes done refused) reply l l' seeks p = subst (λ (z : MapCallNodes N K). Seeks z) (sym p) seeks
  seeks_further (Touches access told refused) reply l l' seeks p = seeks_on access reply l l' seeks p
  seeks_further (Defers name deferred refused) reply l l' seeks p =
      subst (λ (z : MapCallNodes N K). Seeks z) (sym p) seeks
  seeks_further (Answers answer) reply l l' seeks p = absurd p

  -- PATHS

  module _ {L : Type 0} (nodes : L → MapCallNodes N K) where
    abbrev pub does : L → Access → Reply → L → Type 0
    does old access reply new = MovesMapNodes key cmp (nodes old) access reply (nodes new)

    step_of_read : (deed : Deed MapPhase MapAnswer) (reply : Reply) (l l' : L) → ReadsBy does deed l reply l'
        → Steps deed (nodes l) reply (nodes l')
    step_of_read (Touches access told refused) reply l l' p = p.1
    step_of_read deed reply l l' p = absurd p

    -- a path on which a call only reads
    pub reads_along : (replies : List Reply) (phase last : MapPhase) (l l' : L) → Seeks (nodes l) → Has phase (nodes l)
        → ReadsTo does (map_deed_of 0) replies phase l last l' → Seeks (nodes l') × Has last (nodes l')
    reads_along [] phase last l l' seeks has reads = (
      subst (λ (z : L). Seeks (nodes z)) (sym reads.1) seeks,
      subst (λ (z : L). Has last (nodes z)) (sym reads.1) (subst (λ (f : MapPhase). Has f (nodes l)) (sym reads.0) has),
    )
    reads_along (reply ∷ replies) phase last l l' seeks has reads =
        let step = step_of_read (map_deed_of 0 phase) reply l reads.0 reads.1 in
        reads_along replies (next_phase phase reply) last reads.0 l'
        (seeks_further (map_deed_of 0 phase) reply (nodes l) (nodes reads.0) seeks step)
        (has_on phase reply (nodes l) (nodes reads.0) seeks has step) reads.2

    module _ {H : Type 0} (keeping : Keeping H) where
      step_of : (deed : Deed MapPhase MapAnswer) (reply : Reply) (old new : H) (l l' : L)
          → PerformsBy does keeping deed old l reply new l' → Steps deed (nodes l) reply (nodes l')
      step_of (Flushes done refused) reply old new l l' p = ap nodes p.1
      step_of (Touches access told refused) reply old new l l' p = p.0
      step_of (Defers name deferred refused) reply old new l l' p = ap nodes p.1
      step_of (Answers answer) reply old new l l' p = absurd p

      -- and that of any call
      has_along : (replies : List Reply) (phase last : MapPhase) (old new : H) (l l' : L) → Seeks (nodes l)
          → Has phase (nodes l) → GoesTo does keeping (map_deed_of 0) replies phase old l last new l'
          → Has last (nodes l')
      has_along [] phase last old new l l' seeks has goes =
          subst (λ (z : L). Has last (nodes z)) (sym goes.2)
          (subst (λ (f : MapPhase). Has f (nodes l)) (sym goes.0) has)
      has_along (reply ∷ replies) phase last old new l l' seeks has goes =
          let step = step_of (map_deed_of 0 phase) reply old goes.0 l goes.1 goes.2 in
          has_along replies (next_phase phase reply) last goes.0 new goes.1 l'
          (seeks_further (map_deed_of 0 phase) reply (nodes l) (nodes goes.1) seeks step)
          (has_on phase reply (nodes l) (nodes goes.1) seeks has step) goes.3

      ends_so : (last : MapPhase) (answer : MapAnswer) (l : MapCallNodes N K) → Has last l
          → map_deed_of 0 last ≡ Answers answer
          → HasAnswer answer l
      ends_so (Answering a) answer l has is =
          let same : a ≡ answer = cc in subst (λ (z : MapAnswer). HasAnswer z l) same has
      ends_so last answer l has is = absurd (subst (λ d. IsOver d) (sym is) tt)

      -- a call has what its answer says
      pub answer_has : (first : MapPhase) (answer : MapAnswer) (refused : Option Fault) (old new : H) (l l' : L)
          → Seeks (nodes l) → Has first (nodes l)
          → DoesBy does keeping (map_deed_of 0) first old l answer refused new l' → HasAnswer answer (nodes l')
      answer_has first answer refused old new l l' seeks has did =
          ends_so did.last answer (nodes l')
          (has_along did.replies first did.last old new l l' seeks has did.goes) did.answers
