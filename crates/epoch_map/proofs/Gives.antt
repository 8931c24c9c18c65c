-- What a call gives: a node of the key that it seeks, or what is left of its own.
use Rattle.std.proofs.Common.{◌≡◌, ◌∙◌, ◌⊎◌, inl, inr, ℕ, Option, Some, None, Ok, Err, true, false, refl, sym, ap}
use Rattle.std.proofs.Common.{subst, arith, IsSome, IfSome}
use Rattle.std.specs.declared.cmp.Ordering.{Ordering}
use Rattle.std.specs.declared.cmp.Ordering.TheVariants.{Less, Equal, Greater}
use Rattle.epoch_cells.specs.declared.fault.Fault.{Fault}
use Rattle.epoch_cells.specs.declared.fault.Fault.TheVariants.{NoMemory, TriesOut}
use Rattle.epoch_map.specs.declared.spots.MapCallNodes.{MapCallNodes}
use Rattle.epoch_map.specs.Giving.{GivesInsert, GivesRemove, GivesGet, HandsBack}
use Rattle.epoch_map.proofs.Nodes.{HasRead, HasAnswer}
use Rattle.epoch_structure_laws.specs.declared.map.plan.MapAnswer.{MapAnswer}
use Rattle.epoch_structure_laws.specs.declared.map.plan.MapAnswer.TheVariants.{AlreadyThere, AlreadyThereLeaking}
use Rattle.epoch_structure_laws.specs.declared.map.plan.MapAnswer.TheVariants.{Removed}
use Rattle.epoch_structure_laws.specs.declared.map.plan.MapAnswer.TheVariants.{RemovedLeaking, Found, NotFound}
use Rattle.epoch_structure_laws.specs.declared.map.plan.MapAnswer.TheVariants.{MovesOutLeaking, CellsFull, BagsFull}
use Rattle.epoch_structure_laws.specs.declared.map.plan.MapAnswer.TheVariants.{Inserted}
use Rattle.epoch_structure_laws.specs.declared.map.plan.MapWork.TheVariants.{Insert, Remove, Get}
use Rattle.epoch_structure_laws.specs.MapProgram.{node_key}
use Rattle.epoch_structure_calls.specs.MapCalls.{coded, insert_tells, remove_tells, get_tells}
use Rattle.epoch_lend_nodes.proofs.NoBags.{room_told, place_told}
use Rattle.epoch_lend_nodes.specs.Telling.{without_bags}
use Rattle.epoch_structure_calls.specs.Refusals.{place_fault, room_fault}
use Rattle.epoch_structure_calls.proofs.MapFitting.{MayAnswer}

-- only a key that is the one that is sought has its number
order_is : (order : Ordering) → node_key (coded order) ≡ 1 → order ≡ Equal
unfolding node_key
order_is Less is = absurd (omega (arith, is))
order_is Equal is = refl
order_is Greater is = absurd (omega (arith, is))

sought_is : node_key 4294967296 ≡ 1
unfolding node_key
sought_is = refl

-- what there is of something, by what follows from a fact about it
some_so : {A : Type 0} (o : Option A) (P Q : A → Type 0) → ((a : A) → P a → Q a) → IfSome o P → IfSome o Q
some_so (Some a) P Q follows p = follows a p
some_so None P Q follows p = tt

-- what there is of it
pub some_at : {A : Type 0} (o : Option A) (a : A) (P : A → Type 0) → o ≡ Some a → IfSome o P → P a
some_at o a P is p = subst (λ z. IfSome z P) is p

-- what is none isn't there
pub none_at : {A : Type 0} (o : Option A) → o ≡ None → IsSome o → ⊥
none_at (Some a) is some = cc
none_at None is some = cc

module _ {N K : Type 0} (key : N → K) (cmp : K → K → Ordering) (sought : K) (own : Option N) where
  -- a node of the key is lent
  abbrev pub Lends : MapCallNodes N K → Type 0
  Lends l = IsSome l.lent × IfSome l.lent (λ node. cmp (key node.now) sought ≡ Equal)

  lends : (v : ℕ) (l : MapCallNodes N K) → HasRead key cmp sought own v l → node_key v ≡ 1 → Lends l
  lends v l has is = (
    has.0,
    some_so l.lent (λ node. coded (cmp (key node.now) sought) ≡ v) (λ node. cmp (key node.now) sought ≡ Equal)
        (λ node same. order_is (cmp (key node.now) sought) (subst (λ (n : ℕ). node_key n ≡ 1) (sym same) is)) has.1,
  )

  module _ (b m : ℕ) (f : Option Fault) (l : MapCallNodes N K) where
    pub insert_lends : (answer : MapAnswer) → MayAnswer (Insert b 4294967296 m) answer
        → HasAnswer key cmp sought own answer l → insert_tells answer f ≡ Ok true → Lends l
    insert_lends (AlreadyThere v) may has is = lends v l has.1 (may.1 ∙ sought_is)
    insert_lends (AlreadyThereLeaking v) may has is = lends v l has.1 (may.1 ∙ sought_is)
    insert_lends Inserted may has is = cc
    insert_lends BagsFull may has is = cc
    insert_lends MovesOutLeaking may has is = cc
    insert_lends CellsFull may has is = cc
    insert_lends answer may has is = cc

    pub remove_lends : (answer : MapAnswer) → MayAnswer (Remove b 1 m) answer → HasAnswer key cmp sought own answer l
        → remove_tells answer f ≡ Ok true → Lends l
    remove_lends (Removed v) may has is = lends v l has.1 may.1
    remove_lends (RemovedLeaking v) may has is = lends v l has.1 may.1
    remove_lends NotFound may has is = cc
    remove_lends BagsFull may has is = cc
    remove_lends MovesOutLeaking may has is = cc
    remove_lends answer may has is = cc

    pub get_lends : (answer : MapAnswer) → MayAnswer (Get b 1 m) answer → HasAnswer key cmp sought own answer l
        → get_tells answer f ≡ Ok true → Lends l
    get_lends (Found v) may has is = lends v l has.1 may.1
    get_lends NotFound may has is = cc
    get_lends MovesOutLeaking may has is = cc
    get_lends answer may has is = cc

-- INSERTS

module _ {N : Type 0} (node : N) (f : Option Fault) where
  pub insert_gives_node : {R : Type 0} (there : R) (answer : MapAnswer) → insert_tells answer f ≡ Ok true
      → GivesInsert node answer f (Ok (Some there))
  insert_gives_node there (AlreadyThere v) is = (refl, refl)
  insert_gives_node there (AlreadyThereLeaking v) is = (refl, refl)
  insert_gives_node there Inserted is = cc
  insert_gives_node there BagsFull is = cc
  insert_gives_node there MovesOutLeaking is = cc
  insert_gives_node there CellsFull is = cc
  insert_gives_node there answer is = cc

  pub insert_gives_none : (R : Type 0) (answer : MapAnswer) → insert_tells answer f ≡ Ok false
      → GivesInsert {R = R} node answer f (Ok None)
  insert_gives_none R Inserted is = refl
  insert_gives_none R (AlreadyThere v) is = cc
  insert_gives_none R (AlreadyThereLeaking v) is = cc
  insert_gives_none R BagsFull is = cc
  insert_gives_none R MovesOutLeaking is = cc
  insert_gives_none R CellsFull is = cc
  insert_gives_none R answer is = cc

  pub insert_gives_back : (R : Type 0) {K : Type 0} (key : N → K) (cmp : K → K
      → Ordering) (sought : K) (fault : Fault) (own : Option N)
      (l : MapCallNodes N K) (answer : MapAnswer) → own ≡ l.own → HasAnswer key cmp sought (Some node) answer l
      → insert_tells answer f ≡ Err fault → (told : Fault) → told ≡ without_bags fault
      → GivesInsert {R = R} node answer f (Err (record { fault = told; value = own }))
  insert_gives_back R key cmp sought fault own l Inserted same has is told same_told = cc
  insert_gives_back R key cmp sought fault own l (AlreadyThere v) same has is told same_told = cc
  insert_gives_back R key cmp sought fault own l (AlreadyThereLeaking v) same has is told same_told = cc
  insert_gives_back R key cmp sought fault own l BagsFull same has is told same_told =
      let at = same ∙ has in
      let so : fault ≡ room_fault f = cc in
      let tells : told ≡ NoMemory = same_told ∙ ap without_bags so ∙ room_told f in
      cc
  insert_gives_back R key cmp sought fault own l CellsFull same has is told same_told =
      let at = same ∙ has in
      let so : fault ≡ place_fault f = cc in
      let tells : told ≡ place_fault f = same_told ∙ ap without_bags so ∙ place_told f in
      cc
  insert_gives_back R key cmp sought fault own l MovesOutLeaking same has is told same_told =
      let at = same ∙ has in
      let so : fault ≡ room_fault f = cc in
      let tells : told ≡ NoMemory = same_told ∙ ap without_bags so ∙ room_told f in
      cc
  insert_gives_back R key cmp sought fault own l (Removed v) same has is told same_told =
      let at = same ∙ has.0 in
      let so : fault ≡ TriesOut = cc in
      let tells : told ≡ TriesOut = same_told ∙ ap without_bags so in
      cc
  insert_gives_back R key cmp sought fault own l (RemovedLeaking v) same has is told same_told =
      let at = same ∙ has.0 in
      let so : fault ≡ TriesOut = cc in
      let tells : told ≡ TriesOut = same_told ∙ ap without_bags so in
      cc
  insert_gives_back R key cmp sought fault own l (Found v) same has is told same_told =
      let at = same ∙ has.0 in
      let so : fault ≡ TriesOut = cc in
      let tells : told ≡ TriesOut = same_told ∙ ap without_bags so in
      cc
  insert_gives_back R key cmp sought fault own l answer same has is told same_told =
      let at = same ∙ has in
      let so : fault ≡ TriesOut = cc in
      let tells : told ≡ TriesOut = same_told ∙ ap without_bags so in
      cc

  pub insert_hands_back : {K : Type 0} (key : N → K) (cmp : K → K
      → Ordering) (sought : K) (fault : Fault) (own : Option N)
      (l : MapCallNodes N K) (answer : MapAnswer) → own ≡ l.own → HasAnswer key cmp sought (Some node) answer l
      → insert_tells answer f ≡ Err fault → (told : Fault) → told ≡ without_bags fault
      → HandsBack node (record { fault = told; value = own })
  insert_hands_back key cmp sought fault own l Inserted same has is told same_told = cc
  insert_hands_back key cmp sought fault own l (AlreadyThere v) same has is told same_told = cc
  insert_hands_back key cmp sought fault own l (AlreadyThereLeaking v) same has is told same_told = cc
  insert_hands_back key cmp sought fault own l BagsFull same has is told same_told = inl (same ∙ has)
  insert_hands_back key cmp sought fault own l CellsFull same has is told same_told = inl (same ∙ has)
  insert_hands_back key cmp sought fault own l MovesOutLeaking same has is told same_told =
      let so : fault ≡ room_fault f = cc in
      inr (same ∙ has, inr (same_told ∙ ap without_bags so ∙ room_told f))
  insert_hands_back key cmp sought fault own l (Removed v) same has is told same_told =
      let so : fault ≡ TriesOut = cc in inr (same ∙ has.0, inl (same_told ∙ ap without_bags so))
  insert_hands_back key cmp sought fault own l (RemovedLeaking v) same has is told same_told =
      let so : fault ≡ TriesOut = cc in inr (same ∙ has.0, inl (same_told ∙ ap without_bags so))
  insert_hands_back key cmp sought fault own l (Found v) same has is told same_told =
      let so : fault ≡ TriesOut = cc in inr (same ∙ has.0, inl (same_told ∙ ap without_bags so))
  insert_hands_back key cmp sought fault own l answer same has is told same_told =
      let so : fault ≡ TriesOut = cc in inr (same ∙ has, inl (same_told ∙ ap without_bags so))

-- REMOVALS

module _ (f : Option Fault) where
  pub remove_gives_node : {R : Type 0} (there : R) (answer : MapAnswer) → remove_tells answer f ≡ Ok true
      → GivesRemove answer f (Ok (Some there))
  remove_gives_node there (Removed v) is = (refl, refl)
  remove_gives_node there (RemovedLeaking v) is = (refl, refl)
  remove_gives_node there NotFound is = cc
  remove_gives_node there BagsFull is = cc
  remove_gives_node there MovesOutLeaking is = cc
  remove_gives_node there answer is = cc

  pub remove_gives_none : (R : Type 0) (answer : MapAnswer) → remove_tells answer f ≡ Ok false
      → GivesRemove {R = R} answer f (Ok None)
  remove_gives_none R NotFound is = refl
  remove_gives_none R (Removed v) is = cc
  remove_gives_none R (RemovedLeaking v) is = cc
  remove_gives_none R BagsFull is = cc
  remove_gives_none R MovesOutLeaking is = cc
  remove_gives_none R answer is = cc

  pub remove_gives_fault : (R : Type 0) (fault : Fault) (answer : MapAnswer) → remove_tells answer f ≡ Err fault
      → (told : Fault) → told ≡ without_bags fault → GivesRemove {R = R} answer f (Err told)
  remove_gives_fault R fault NotFound is told same_told = cc
  remove_gives_fault R fault (Removed v) is told same_told = cc
  remove_gives_fault R fault (RemovedLeaking v) is told same_told = cc
  remove_gives_fault R fault BagsFull is told same_told =
      let so : fault ≡ room_fault f = cc in ap Err (same_told ∙ ap without_bags so ∙ room_told f)
  remove_gives_fault R fault MovesOutLeaking is told same_told =
      let so : fault ≡ room_fault f = cc in ap Err (same_told ∙ ap without_bags so ∙ room_told f)
  remove_gives_fault R fault answer is told same_told =
      let so : fault ≡ TriesOut = cc in ap Err (same_told ∙ ap without_bags so)

  -- LOOK-UPS

  pub get_gives_node : {R : Type 0} (there : R) (answer : MapAnswer) → get_tells answer f ≡ Ok true
      → GivesGet answer f (Ok (Some there))
  get_gives_node there (Found v) is = (refl, refl)
  get_gives_node there NotFound is = cc
  get_gives_node there MovesOutLeaking is = cc
  get_gives_node there answer is = cc

  pub get_gives_none : (R : Type 0) (answer : MapAnswer) → get_tells answer f ≡ Ok false
      → GivesGet {R = R} answer f (Ok None)
  get_gives_none R NotFound is = refl
  get_gives_none R (Found v) is = cc
  get_gives_none R MovesOutLeaking is = cc
  get_gives_none R answer is = cc

  pub get_gives_fault : (R : Type 0) (fault : Fault) (answer : MapAnswer) → get_tells answer f ≡ Err fault
      → (told : Fault) → told ≡ without_bags fault → GivesGet {R = R} answer f (Err told)
  get_gives_fault R fault NotFound is told same_told = cc
  get_gives_fault R fault (Found v) is told same_told = cc
  get_gives_fault R fault MovesOutLeaking is told same_told =
      let so : fault ≡ room_fault f = cc in ap Err (same_told ∙ ap without_bags so ∙ room_told f)
  get_gives_fault R fault answer is told same_told =
      let so : fault ≡ TriesOut = cc in ap Err (same_told ∙ ap without_bags so)
