-- How a walk goes from one node to the next by three accesses that only read.
use Rattle.std.proofs.Common.{◌≡◌, ℕ, zero, suc, ◌<◌, [], ◌∷◌, ◌++◌, Bool, true, false, Some, refl, sym, ap}
use Rattle.std.proofs.Common.{subst, arith, nat_lt, if◌then◌else◌}
use Rattle.std.proofs.lemmas.Bool.Decides.{nat_tests}
use Rattle.std.specs.Ordering.{is_ge}
use Rattle.std.specs.declared.cmp.Ordering.{Ordering}
use Rattle.std.specs.declared.cmp.Ordering.TheVariants.{Less, Equal, Greater}
use Rattle.epoch_cells.specs.declared.cells.name.Name.{Name}
use Rattle.epoch_laws.specs.declared.heap.access.Access.{Access}
use Rattle.epoch_laws.specs.declared.heap.access.AccessAnswer.TheVariants.{Value, Pointer}
use Rattle.epoch_laws.specs.declared.heap.access.Spot.{Spot}
use Rattle.epoch_laws.specs.declared.heap.access.Spot.TheVariants.{Field}
use Rattle.epoch_laws.specs.declared.step.Reply.{Reply}
use Rattle.epoch_laws.specs.declared.step.Reply.TheVariants.{Done}
use Rattle.epoch_structure_laws.specs.Plans.{ptr_to, after_by}
use Rattle.epoch_structure_calls.specs.Paths.{ReadsBy, ReadsOn}
use Rattle.epoch_structure_calls.proofs.PathsGrown.{reads_then}
use Rattle.epoch_structure_laws.specs.declared.map.plan.Aim.{Aim}
use Rattle.epoch_structure_laws.specs.declared.map.plan.MapPhase.{MapPhase}
use Rattle.epoch_structure_laws.specs.declared.map.plan.MapPhase.TheVariants.{Reading, Leaving, LoadingNext}
use Rattle.epoch_structure_laws.specs.MapProgram.{map_deed_of, node_key, key_sought, absent, to_look, at, present}
use Rattle.epoch_structure_calls.specs.MapCalls.{coded}

module _ {L : Type 0} (does : L → Access → Reply → L → Type 0) where
  -- one access was made
  pub reads_one : (phase : MapPhase) (l l' : L) (reply : Reply) → ReadsBy does (map_deed_of 0 phase) l reply l'
      → ReadsOn does (map_deed_of 0) phase l (after_by phase (map_deed_of 0 phase) reply) l'
  reads_one phase l l' reply by = (reply ∷ [], (l', by, (refl, refl)))

  -- and then others
  pub reads_first : (phase last : MapPhase) (l mid l' : L) (reply : Reply)
      → ReadsBy does (map_deed_of 0 phase) l reply mid
      → ReadsOn does (map_deed_of 0) (after_by phase (map_deed_of 0 phase) reply) mid last l'
      → ReadsOn does (map_deed_of 0) phase l last l'
  reads_first phase last l mid l' reply by rest = (reply ∷ rest.0, (mid, by, rest.1))

  -- one path after the other
  pub reads_on : (first mid last : MapPhase) (l l' l'' : L) → ReadsOn does (map_deed_of 0) first l mid l'
      → ReadsOn does (map_deed_of 0) mid l' last l'' → ReadsOn does (map_deed_of 0) first l last l''
  reads_on first mid last l l' l'' before after =
      (before.0 ++ after.0, reads_then does (map_deed_of 0) before.0 after.0 first mid last l l' l'' before.1 after.1)

  -- the end of a path by another name
  pub reads_so : (first last last' : MapPhase) (l l' : L) → last' ≡ last → ReadsOn does (map_deed_of 0) first l last l'
      → ReadsOn does (map_deed_of 0) first l last' l'
  reads_so first last last' l l' same reads =
      subst (λ (f : MapPhase). ReadsOn does (map_deed_of 0) first l f l') (sym same) reads

  -- A node whose key is lower was left: its pointer is loaded next.
  looks_on : (aim : Aim) (link : Spot) (c : Name) (v k : ℕ) → node_key v < key_sought aim
      → to_look aim link c v k ≡ LoadingNext aim link c v k
  looks_on aim link c v k lower = by_test (nat_lt (key_sought aim) (node_key v)) refl
    where
      by_test : (b : Bool) → nat_lt (key_sought aim) (node_key v) ≡ b
          → (if b then absent aim link (Some c) k else LoadingNext aim link c v k) ≡ LoadingNext aim link c v k
      by_test true is = absurd (grind (arith, nat_tests, is, lower))
      by_test false is = refl

  left_so : (aim : Aim) (link : Spot) (c : Name) (v k : ℕ) (l l' : L) (reply : Reply)
      → ReadsBy does (map_deed_of 0 (Leaving aim link c v k)) l reply l' → node_key v < key_sought aim
      → after_by (Leaving aim link c v k) (map_deed_of 0 (Leaving aim link c v k)) reply ≡ LoadingNext aim link c v k
  left_so aim link c v k l l' (Done a) by lower = looks_on aim link c v k lower
  left_so aim link c v k l l' reply by lower = absurd by.2

  pub reads_to_next : (aim : Aim) (link : Spot) (c : Name) (v k : ℕ) (l l1 l2 l3 : L) (reply : Reply) (last : MapPhase)
      → ReadsBy does (map_deed_of 0 (Reading aim link c k)) l (Done (Value v)) l1
      → ReadsBy does (map_deed_of 0 (Leaving aim link c v k)) l1 reply l2 → node_key v < key_sought aim
      → ReadsOn does (map_deed_of 0) (LoadingNext aim link c v k) l2 last l3
      → ReadsOn does (map_deed_of 0) (Reading aim link c k) l last l3
  reads_to_next aim link c v k l l1 l2 l3 reply last read leaves lower rest =
      reads_first (Reading aim link c k) last l l1 l3 (Done (Value v)) read
      (reads_first (Leaving aim link c v k) last l1 l2 l3 reply leaves
      (subst (λ (f : MapPhase). ReadsOn does (map_deed_of 0) f l2 last l3)
      (sym (left_so aim link c v k l1 l2 reply leaves lower)) rest))

  -- Its pointer leads to a further node, and has no mark: the walk goes on there.
  goes_on : (aim : Aim) (link : Spot) (c n : Name) (v k rest : ℕ) → k ≡ suc rest → node_key v < key_sought aim
      → after_by (LoadingNext aim link c v k) (map_deed_of 0 (LoadingNext aim link c v k)) (Done (Pointer (ptr_to n)))
      ≡ Reading aim (Field c 0) n rest
  goes_on aim link c n v zero rest is lower = absurd (omega (arith, is))
  goes_on aim link c n v (suc k) rest is lower = by_test (nat_lt (node_key v) (key_sought aim)) refl
    where
      by_test : (b : Bool) → nat_lt (node_key v) (key_sought aim) ≡ b
          → (if b then at aim (Field c 0) (Some n) (suc k) else present aim link c v (Some n) (suc k))
          ≡ Reading aim (Field c 0) n rest
      by_test true test = ap (λ (m : ℕ). Reading aim (Field c 0) n m) (omega (arith, is))
      by_test false test = absurd (grind (arith, nat_tests, test, lower))

  pub strides_on : (aim : Aim) (link : Spot) (c n : Name) (v k rest : ℕ) (l l1 l2 l3 : L) (reply : Reply)
      → k ≡ suc rest
      → ReadsBy does (map_deed_of 0 (Reading aim link c k)) l (Done (Value v)) l1
      → ReadsBy does (map_deed_of 0 (Leaving aim link c v k)) l1 reply l2 → node_key v < key_sought aim
      → ReadsBy does (map_deed_of 0 (LoadingNext aim link c v k)) l2 (Done (Pointer (ptr_to n))) l3
      → ReadsOn does (map_deed_of 0) (Reading aim link c k) l (Reading aim (Field c 0) n rest) l3
  strides_on aim link c n v k rest l l1 l2 l3 reply is read leaves lower loads =
      reads_to_next aim link c v k l l1 l2 l3 reply (Reading aim (Field c 0) n rest) read leaves lower
      (reads_so (LoadingNext aim link c v k)
      (after_by (LoadingNext aim link c v k) (map_deed_of 0 (LoadingNext aim link c v k)) (Done (Pointer (ptr_to n))))
      (Reading aim (Field c 0) n rest) l2 l3 (sym (goes_on aim link c n v k rest is lower))
      (reads_one (LoadingNext aim link c v k) l2 l3 (Done (Pointer (ptr_to n))) loads))

-- a key that is lower than the one that is sought, by its number
lower : (aim : Aim) (order : Ordering) → key_sought aim ≡ 1 → is_ge order ≡ false
    → node_key (coded order) < key_sought aim
unfolding node_key
lower aim Less sought is = subst (λ (k : ℕ). 0 < k) (sym sought) (omega arith)
lower aim Equal sought is = absurd cc
lower aim Greater sought is = absurd cc

-- a node whose key is lower is known to the program by an entry of a lower key than the one that is sought
pub lower_key : (aim : Aim) (order : Ordering) (v : ℕ) → v ≡ coded order → key_sought aim ≡ 1 → is_ge order ≡ false
    → node_key v < key_sought aim
lower_key aim order v same sought is =
    subst (λ (n : ℕ). node_key n < key_sought aim) (sym same) (lower aim order sought is)
