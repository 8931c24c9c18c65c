-- Places of a list of nodes with marks: what a step that changes one pointer leaves there, and elsewhere.
use Rattle.std.proofs.Common.{◌≡◌, ◌≢◌, ℕ, eq-eqb, ne_eqb, if◌then◌else◌, Bool, true, false, refl, sym, subst, ap}
use Rattle.std.proofs.Common.{Option, Some, None}
use Rattle.std.proofs.lemmas.Option.{same_Some}
use Rattle.epoch_structure_worlds.specs.MarkedLists.{is_same_place, ListPointer}

-- a place is the same as itself
pub place_known : (place : Option ℕ) → is_same_place place place ≡ true
place_known None = refl
place_known (Some node) = eq-eqb node node refl

-- and isn't the same as another one
pub place_other : (place other : Option ℕ) → place ≢ other → is_same_place place other ≡ false
place_other None None differ = absurd (differ refl)
place_other None (Some node) differ = refl
place_other (Some node) None differ = refl
place_other (Some node) (Some other) differ = ne_eqb node other (λ same. differ (ap Some same))

-- a pointer that a step changed is the new one
pub changed_here : (place : Option ℕ) (new old : ListPointer)
    → (if is_same_place place place then new else old) ≡ new
changed_here place new old =
    subst (λ (b : Bool). (if b then new else old) ≡ new) (sym (place_known place)) refl

-- and each other pointer stays
pub same_elsewhere : (place other : Option ℕ) (new old : ListPointer) → place ≢ other
    → (if is_same_place place other then new else old) ≡ old
same_elsewhere place other new old differ =
    subst (λ (b : Bool). (if b then new else old) ≡ old) (sym (place_other place other differ)) refl

-- a node is another place than a node that differs
pub nodes_differ : (node other : ℕ) → node ≢ other → Some node ≢ Some other
nodes_differ node other differ same = differ (same_Some node other same)
