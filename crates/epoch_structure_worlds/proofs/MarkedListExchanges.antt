-- Each exchange of a pointer without a mark leads along sorted nodes again, behind its place.
use Rattle.std.proofs.Common.{◌≡◌, ◌≢◌, inr, ◌≤◌, ℕ, suc, Bool, true, false, List, [], ◌∷◌}
use Rattle.std.proofs.Common.{Option, Some, None, refl, sym, subst, ap, ◌∙◌}
use Rattle.std.proofs.lemmas.Option.{none-some, same_Some}
use native.Mathlib.Omega.{arith}
use Rattle.epoch_structure_laws.specs.MapEntries.{Has}
use Rattle.epoch_structure_worlds.specs.MarkedLists.{ListPointer}
use Rattle.epoch_structure_worlds.proofs.MarkedListChains.{least_behind, RunsAlong, IsFrom, least_above, next_from}
use Rattle.epoch_structure_worlds.proofs.MarkedListChains.{all_from, lower, moved}
use Rattle.epoch_structure_worlds.proofs.MarkedListChanges.{least_at, ChangesAt}

-- no node behind a place without a mark is that place
pub not_there : (pointer : Option ℕ → ListPointer) (key : ℕ → ℕ) (at : Option ℕ) (rest : List ℕ)
    → RunsAlong pointer key at (least_at key at false) rest → (node : ℕ) → Has node rest → Some node ≢ at
not_there pointer key None rest along node has same = none-some node (sym same)
not_there pointer key (Some at) rest along node has same =
    let above = all_from pointer key (Some at) (suc (key at)) rest along node has in
    let above_itself : suc (key at) ≤ key at = subst (λ (n : ℕ). suc (key at) ≤ key n) (same_Some node at same) above in
    omega (arith, above_itself)

-- the place's pointer leads to a new node, and this one to where the place's pointer led
pub inserts : (pointer pointer' : Option ℕ → ListPointer) (key : ℕ → ℕ) (at : Option ℕ) (node : ℕ) (next : Option ℕ)
    → pointer at ≡ (next, false)
    → (pointer' at).0 ≡ Some node
    → pointer' (Some node) ≡ (next, false)
    → ((place : Option ℕ) → place ≢ at → pointer' place ≡ pointer place)
    → least_at key at (pointer' at).1 ≤ key node
    → ((rest : List ℕ) → RunsAlong pointer key at (least_at key at false) rest → IsFrom key (suc (key node)) next)
    → ChangesAt pointer pointer' key at (λ rest. node ∷ rest)
inserts pointer pointer' key at node next found leads new same below above rest along =
    let past : (pointer' (Some node)).0 ≡ (pointer at).0 = ap (λ (p : ListPointer). p.0) (new ∙ sym found) in
    let agree : (other : ℕ) → Has other rest → pointer' (Some other) ≡ pointer (Some other) =
    λ other has. same (Some other) (not_there pointer key at rest along other has) in
    let behind : IsFrom key (suc (key node)) (pointer at).0 =
    subst (λ (p : ListPointer). IsFrom key (suc (key node)) p.0) (sym found) (above rest along) in (
      leads,
      below,
      moved pointer pointer' key key at (Some node) (least_at key at false)
          (least_behind (key node) (pointer' (Some node)).1) rest along past agree (λ other has. refl)
          (subst (λ (p : ListPointer). IsFrom key (least_behind (key node) p.1) (pointer at).0) (sym new) behind),
    )

least_within : (key : ℕ) (marked : Bool) → least_behind key marked ≤ suc key
least_within key true = omega arith
least_within key false = omega arith

-- the place's pointer gets the mark, and leads where it led
pub marks : (pointer pointer' : Option ℕ → ListPointer) (key : ℕ → ℕ) (at : ℕ) (next : Option ℕ)
    → pointer (Some at) ≡ (next, false) → pointer' (Some at) ≡ (next, true)
    → ((place : Option ℕ) → place ≢ Some at → pointer' place ≡ pointer place)
    → ChangesAt pointer pointer' key (Some at) (λ rest. rest)
marks pointer pointer' key at next found new same rest along =
    let leads : (pointer' (Some at)).0 ≡ (pointer (Some at)).0 =
    ap (λ (p : ListPointer). p.0) new ∙ sym (ap (λ (p : ListPointer). p.0) found) in
    let low : ℕ = least_behind (key at) (pointer' (Some at)).1 in
    moved pointer pointer' key key (Some at) (Some at) (suc (key at)) low rest along leads
    (λ other has. same (Some other) (not_there pointer key (Some at) rest along other has)) (λ other has. refl)
    (lower key (suc (key at)) low (pointer (Some at)).0 (least_within (key at) (pointer' (Some at)).1)
    (next_from pointer key (Some at) (suc (key at)) rest along))

-- all but the first
abbrev pub behind_first : List ℕ → List ℕ
behind_first [] = []
behind_first (first ∷ behind) = behind

-- the place's pointer leads past the node to which it led, which has the mark
pub unlinks : (pointer pointer' : Option ℕ → ListPointer) (key : ℕ → ℕ) (at : Option ℕ) (node : ℕ) (next : Option ℕ)
    → pointer at ≡ (Some node, false) → pointer (Some node) ≡ (next, true) → pointer' at ≡ (next, false)
    → ((place : Option ℕ) → place ≢ at → pointer' place ≡ pointer place)
    → ChangesAt pointer pointer' key at behind_first
unlinks pointer pointer' key at node next found past new same [] along =
    absurd (none-some node (sym along ∙ ap (λ (p : ListPointer). p.0) found))
unlinks pointer pointer' key at node next found past new same (first ∷ behind) along =
    let is_node : first ≡ node =
    same_Some first node (sym along.0 ∙ ap (λ (p : ListPointer). p.0) found) in
    let past_first : pointer (Some first) ≡ (next, true) =
    subst (λ (n : ℕ). pointer (Some n) ≡ (next, true)) (sym is_node) past in
    let leads : (pointer' at).0 ≡ (pointer (Some first)).0 =
    ap (λ (p : ListPointer). p.0) new ∙ sym (ap (λ (p : ListPointer). p.0) past_first) in
    let bound : ℕ = least_behind (key first) (pointer (Some first)).1 in
    let low : ℕ = least_at key at (pointer' at).1 in
    let low_is : least_at key at false ≡ low = ap (λ (p : ListPointer). least_at key at p.1) (sym new) in
    let within : low ≤ bound = subst (λ (n : ℕ). n ≤ bound) low_is
    (omega (arith, along.1, least_above (key first) (pointer (Some first)).1)) in
    moved pointer pointer' key key (Some first) at bound low behind along.2 leads
    (λ other has. same (Some other) (not_there pointer key at (first ∷ behind) along other (inr has)))
    (λ other has. refl)
    (lower key bound low (pointer (Some first)).0 within (next_from pointer key (Some first) bound behind along.2))
