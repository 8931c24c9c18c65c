-- A walk sees ascending keys.
use Rattle.std.proofs.Common.{◌≡◌, inl, inr, ◌<◌, ◌≤◌, ℕ, Bool, true, false, List, [], ◌∷◌}
use Rattle.std.proofs.Common.{Option, Some, None, refl, sym, subst, ap, ap₂, ◌∙◌}
use native.Mathlib.Omega.{arith}
use Rattle.epoch_structure_laws.specs.MapEntries.{Has}
use Rattle.epoch_structure_worlds.specs.MarkedLists.{ListPointer, ListStep, list_pointer, key_placed}
use Rattle.epoch_structure_worlds.specs.MarkedLists.{IsListRun, IsMomentOf, ListWalk, with_seen}
use Rattle.epoch_structure_worlds.specs.MarkedLists.{walk_begun, walk_on, WasWalked, Loads}
use Rattle.epoch_structure_worlds.specs.MarkedLists.{KeysDescend, WalksAscend}
use Rattle.epoch_structure_worlds.proofs.MarkedListChains.{RunsAlong, least_behind, IsFrom, next_from}
use Rattle.epoch_structure_worlds.proofs.MarkedListLinked.{nodes_of, pointers, keys}
use Rattle.epoch_structure_worlds.proofs.MarkedListSorted.{sorted_run}
use Rattle.epoch_structure_worlds.proofs.MarkedListGaps.{Stands}
use Rattle.epoch_structure_worlds.proofs.MarkedListMoments.{moment_itself, moment_of_moment, moment_is_run}
use Rattle.epoch_structure_worlds.proofs.MarkedListMoments.{moment_before}
use Rattle.epoch_structure_worlds.proofs.MarkedListMoments.{next_stands, listed_key}
use Rattle.epoch_structure_worlds.proofs.MarkedListHindsight.{LastStood, last_stood}

-- a node of the list leads to a greater key, or to its own if it has the mark
rises : (pointer : Option ℕ → ListPointer) (key : ℕ → ℕ) (place : Option ℕ) (low : ℕ) (nodes : List ℕ)
    (node next : ℕ) → RunsAlong pointer key place low nodes → Has node nodes → (pointer (Some node)).0 ≡ Some next
    → least_behind (key node) (pointer (Some node)).1 ≤ key next
rises pointer key place low [] node next along has leads = absurd has
rises pointer key place low (first ∷ behind) node next along (inl same) leads =
    let Least : ℕ → Type 0 = λ n. IsFrom key (least_behind (key n) (pointer (Some n)).1) (pointer (Some n)).0 in
    let from : Least node = subst Least (sym same)
    (next_from pointer key (Some first) (least_behind (key first) (pointer (Some first)).1) behind along.2) in
    subst (IsFrom key (least_behind (key node) (pointer (Some node)).1)) leads from
rises pointer key place low (first ∷ behind) node next along (inr later) leads =
    rises pointer key (Some first) (least_behind (key first) (pointer (Some first)).1) behind node next along.2 later
    leads

-- so does the node of a walk's last load
last_rises : (run now : List ListStep) (walk : ListWalk) (node next : ℕ) → IsListRun now → IsMomentOf run now
    → LastStood walk run → walk.last ≡ Some node → walk.found ≡ Some next
    → least_behind (key_placed node now) walk.marked ≤ key_placed next now
last_rises run now walk node next is of_now stood last_is found_is =
    let moment : List ListStep = stood.moment in
    let of_it = moment_of_moment moment run now stood.until of_now in
    let is_run = moment_is_run moment now of_it is in
    let has : Has node (nodes_of moment) = subst (λ (p : Option ℕ). Stands p moment) last_is stood.stands in
    let pointer_is : list_pointer (Some node) moment ≡ (walk.found, walk.marked) =
    ap (λ (p : Option ℕ). list_pointer p moment) (sym last_is) ∙ stood.leads in
    let leads : (list_pointer (Some node) moment).0 ≡ Some next = ap (λ (p : ListPointer). p.0) pointer_is ∙ found_is in
    let has_next = next_stands moment (Some node) next is_run has leads in
    let rise = rises (pointers moment) (keys moment) None 0 (nodes_of moment) node next (sorted_run moment is_run) has
    leads in
    let bound : least_behind (key_placed node moment) (list_pointer (Some node) moment).1
    ≡ least_behind (key_placed node now) walk.marked =
    ap₂ least_behind (sym (listed_key moment now node of_it is has)) (ap (λ (p : ListPointer). p.1) pointer_is) in
    omega (arith, rise, bound, listed_key moment now next of_it is has_next)

-- the nodes that were seen have lesser keys than the one that was found
abbrev SeenBelow : List ListStep → Option ℕ → List ℕ → Type 0
SeenBelow now found seen = (next : ℕ) → found ≡ Some next → (node : ℕ) → Has node seen
    → key_placed node now < key_placed next now

-- keys descend along what a walk has seen, and it comes to a greater one
abbrev SeesDescending : List ListStep → ListWalk → Type 0
SeesDescending now walk = KeysDescend now walk.seen × SeenBelow now walk.found walk.seen

-- one load more, from the node that was found
seen_on : (now : List ListStep) (node : ℕ) (found : Option ℕ) (marked : Bool) (seen : List ℕ)
    → KeysDescend now seen → ((other : ℕ) → Has other seen → key_placed other now < key_placed node now)
    → ((next : ℕ) → found ≡ Some next → least_behind (key_placed node now) marked ≤ key_placed next now)
    → KeysDescend now (with_seen (Some node) marked seen) × SeenBelow now found (with_seen (Some node) marked seen)
seen_on now node found true seen descend below rise = (
  descend,
  λ next found_is other has. let less = below other has in let more = rise next found_is in
      omega (arith, less, more),
)
seen_on now node found false seen descend below rise = (
  (below, descend),
  λ next found_is other has.
      let more = rise next found_is in
      elim has [
        | inl same ↦ subst (λ (n : ℕ). key_placed n now < key_placed next now) (sym same) more
        | inr earlier ↦ let less = below other earlier in omega (arith, less, more)
      ],
)

-- the first load
seen_first : (start run now : List ListStep) (place found : Option ℕ) (marked : Bool) → IsListRun now
    → IsMomentOf run now → LastStood (walk_begun start place found marked) run
    → SeesDescending now (walk_begun start place found marked)
seen_first start run now None found marked is of_now stood = (tt, λ next found_is other has. absurd has)
seen_first start run now (Some node) found marked is of_now stood =
    seen_on now node found marked [] tt (λ other has. absurd has)
    (λ next found_is. last_rises run now (walk_begun start (Some node) found marked) node next is of_now stood refl
    found_is)

-- in every run a walk sees ascending keys
sees_descending : (run now : List ListStep) (walk : ListWalk) → IsListRun now → IsMomentOf run now
    → WasWalked walk run → SeesDescending now walk
sees_descending [] now walk is of_now walked = absurd walked
sees_descending (Loads place found marked ∷ before) now walk is of_now (inl earlier) =
    sees_descending before now walk is (moment_before (Loads place found marked) before now of_now) earlier
sees_descending (Loads place found marked ∷ before) now walk is of_now (inr (inl (start, since, may, same))) =
    let run : List ListStep = Loads place found marked ∷ before in
    let begun = last_stood run (walk_begun start place found marked) (moment_is_run run now of_now is)
    (inr (inl (start, since, may, refl))) in
    subst (SeesDescending now) (sym same) (seen_first start run now place found marked is of_now begun)
sees_descending (Loads place found marked ∷ before) now walk is of_now
    (inr (inr (earlier, node, walked, found_it, place_is, same))) =
    let run : List ListStep = Loads place found marked ∷ before in
    let on = last_stood run (walk_on earlier node found marked) (moment_is_run run now of_now is)
    (inr (inr (earlier, node, walked, found_it, place_is, refl))) in
    let sees = sees_descending before now earlier is (moment_before (Loads place found marked) before now of_now) walked
    in
    subst (SeesDescending now) (sym same)
    (seen_on now node found marked earlier.seen sees.0 (sees.1 node found_it)
    (λ next found_is. last_rises run now (walk_on earlier node found marked) node next is of_now on refl found_is))
sees_descending (step ∷ before) now walk is of_now walked =
    sees_descending before now walk is (moment_before step before now of_now) walked

-- in every run the keys that a walk saw ascend
pub walks_ascend : WalksAscend
walks_ascend run walk is walked = (sees_descending run run walk is (moment_itself run) walked).0
