-- A walk sees each entry that stays as long as the walk lasts.
use Rattle.std.proofs.Common.{◌≡◌, ◌⊎◌, inl, inr, ◌≤◌, ℕ, Bool, true, false, List, [], ◌∷◌}
use Rattle.std.proofs.Common.{Option, Some, None, refl, sym, subst, ap, ◌∙◌}
use Rattle.std.proofs.lemmas.Option.{same_Some}
use native.Mathlib.Omega.{arith}
use Rattle.std.proofs.Math.Decide.{dec_lt}
use mathlib.Core.Logic.{dite}
use Rattle.epoch_structure_laws.specs.MapEntries.{Has}
use Rattle.epoch_structure_worlds.specs.MarkedLists.{ListPointer, ListStep, list_pointer, key_placed, WasLinked}
use Rattle.epoch_structure_worlds.specs.MarkedLists.{entry_of, IsListRun, IsMomentOf, ListWalk, MayStartWalk, with_seen}
use Rattle.epoch_structure_worlds.specs.MarkedLists.{walk_on, WasWalked, IsShortOf, Loads}
use Rattle.epoch_structure_worlds.specs.MarkedLists.{StaysEntry, BeginsUpTo}
use Rattle.epoch_structure_worlds.specs.MarkedLists.{WalksSeeWhatStays}
use Rattle.epoch_structure_worlds.proofs.MarkedListLinked.{nodes_of, linked_placed, nodes_linked}
use Rattle.epoch_structure_worlds.proofs.MarkedListGaps.{met_next}
use Rattle.epoch_structure_worlds.proofs.MarkedListTold.{entry_told}
use Rattle.epoch_structure_worlds.proofs.MarkedListEntries.{entry_found}
use Rattle.epoch_structure_worlds.proofs.MarkedListMoments.{moment_itself, moment_of_moment, moment_is_run}
use Rattle.epoch_structure_worlds.proofs.MarkedListMoments.{moment_before}
use Rattle.epoch_structure_worlds.proofs.MarkedListMoments.{linked_since, same_key_since, next_stands, listed_key}
use Rattle.epoch_structure_worlds.proofs.MarkedListHindsight.{LastStood, last_stood, short_then}
use Rattle.epoch_structure_worlds.proofs.MarkedListHindsight.{nothing_passed}

-- a node that was seen is among those seen after one load more
still_seen : (place : Option ℕ) (marked : Bool) (seen : List ℕ) (node : ℕ) → Has node seen
    → Has node (with_seen place marked seen)
still_seen None marked seen node has = has
still_seen (Some on) true seen node has = has
still_seen (Some on) false seen node has = inr has

-- a node with this key that is found without a mark, when the key's entry is this one, is this one
is_the_entry : (before : List ListStep) (on key node : ℕ) → IsListRun before → WasLinked on before
    → (list_pointer (Some on) before).1 ≡ false → key_placed on before ≡ key → entry_of key before ≡ Some node
    → node ≡ on
is_the_entry before on key node is linked unmarked has_key now =
    same_Some node on (sym now ∙ ap (λ (k : ℕ). entry_of k before) (sym has_key)
    ∙ entry_found before on is (linked, unmarked))

-- A load of a node whose key isn't past the entry's sees the entry, or is short of it.
sees_or_short : (before now : List ListStep) (on key node : ℕ) (found : Option ℕ) (marked : Bool) (seen : List ℕ)
    → IsListRun before → IsMomentOf before now → IsListRun now → WasLinked on before
    → list_pointer (Some on) before ≡ (found, marked) → key_placed on now ≤ key → entry_of key before ≡ Some node
    → Has node (with_seen (Some on) marked seen) ⊎ IsShortOf (Some on) marked key now
sees_or_short before now on key node found true seen is of_now is_now linked leads within stays =
    dite (dec_lt (key_placed on now) key) (λ less. inr (inl less))
    (λ not_less. inr (inr (omega (arith, within, not_less), refl)))
sees_or_short before now on key node found false seen is of_now is_now linked leads within stays =
    dite (dec_lt (key_placed on now) key) (λ less. inr (inl less))
    (λ not_less.
    let kept = same_key_since before now on of_now is_now (linked_placed before on is linked) in
    let has_key : key_placed on before ≡ key = omega (arith, kept, within, not_less) in
    inl (inl (is_the_entry before on key node is linked (ap (λ (p : ListPointer). p.1) leads) has_key stays)))

-- the first load sees the entry, or is short of it
first_or_short : (start before now : List ListStep) (place found : Option ℕ) (marked : Bool) (key node : ℕ)
    → IsListRun before → IsMomentOf start before → IsMomentOf before now → IsListRun now → MayStartWalk place start
    → list_pointer place before ≡ (found, marked) → BeginsUpTo place key now → entry_of key before ≡ Some node
    → Has node (with_seen place marked []) ⊎ IsShortOf place marked key now
first_or_short start before now None found marked key node is since of_now is_now may leads upto stays = inr tt
first_or_short start before now (Some on) found marked key node is since of_now is_now may leads upto stays =
    sees_or_short before now on key node found marked [] is of_now is_now (linked_since start before on since may.0)
    leads upto stays

-- the walk has seen this node, or its last load was short of the key
abbrev SeesOrShort : List ListStep → ℕ → ℕ → ListWalk → Type 0
SeesOrShort now key node walk = Has node walk.seen ⊎ IsShortOf walk.last walk.marked key now

-- what a walk that is short of an entry has found isn't past it
found_within : (before now : List ListStep) (walk : ListWalk) (key node on : ℕ) → IsListRun now → IsMomentOf before now
    → (stood : LastStood walk before) → walk.found ≡ Some on → IsShortOf walk.last walk.marked key now
    → entry_of key stood.moment ≡ Some node → WasLinked on before × (key_placed on now ≤ key)
found_within before now walk key node on is of_now stood found_it short stays =
    let moment : List ListStep = stood.moment in
    let of_it = moment_of_moment moment before now stood.until of_now in
    let is_run = moment_is_run moment now of_it is in
    let told = entry_told moment key node is_run stays in
    let next = met_next moment walk.last walk.found walk.marked key node is_run stood.stands stood.leads
    (short_then moment now walk.last walk.marked key of_it is stood.stands short) told.0 told.1 in
    let is_next : next.0 ≡ on = same_Some next.0 on (sym next.1 ∙ found_it) in
    let within : key_placed on moment ≤ key = subst (λ (n : ℕ). key_placed n moment ≤ key) is_next next.2 in
    let has : Has on (nodes_of moment) = next_stands moment walk.last on is_run stood.stands
    (ap (λ (p : ListPointer). p.0) stood.leads ∙ found_it) in (
      linked_since moment before on stood.until (nodes_linked moment on has),
      subst (λ (k : ℕ). k ≤ key) (sym (listed_key moment now on of_it is has)) within,
    )

-- one load more sees the entry, or is short of it
goes_on_seeing : (before now : List ListStep) (earlier : ListWalk) (node key on : ℕ) (found : Option ℕ) (marked : Bool)
    → IsListRun now → IsMomentOf before now → LastStood earlier before → earlier.found ≡ Some on
    → list_pointer (Some on) before ≡ (found, marked) → StaysEntry earlier key node now
    → IsMomentOf earlier.start before → SeesOrShort now key node earlier
    → SeesOrShort now key node (walk_on earlier on found marked)
goes_on_seeing before now earlier node key on found marked is of_now stood found_it leads stays since (inl has) =
    inl (still_seen (Some on) marked earlier.seen node has)
goes_on_seeing before now earlier node key on found marked is of_now stood found_it leads stays since (inr short) =
    let within = found_within before now earlier key node on is of_now stood found_it short
    (stays stood.moment stood.since (moment_of_moment stood.moment before now stood.until of_now)) in
    sees_or_short before now on key node found marked earlier.seen (moment_is_run before now of_now is) of_now is
    within.0 leads within.1 (stays before since of_now)

-- in every run a walk has seen an entry that stays all the while, or is short of it
sees_what_stays : (run now : List ListStep) (walk : ListWalk) (key node : ℕ) → IsListRun now → IsMomentOf run now
    → WasWalked walk run → BeginsUpTo walk.first key now → StaysEntry walk key node now
    → SeesOrShort now key node walk
sees_what_stays [] now walk key node is of_now walked upto stays = absurd walked
sees_what_stays (Loads place found marked ∷ before) now walk key node is of_now (inl earlier) upto stays =
    sees_what_stays before now walk key node is (moment_before (Loads place found marked) before now of_now) earlier
    upto stays
sees_what_stays (Loads place found marked ∷ before) now walk key node is of_now (inr (inl (start, since, may, same)))
    upto stays =
    let before_now = moment_before (Loads place found marked) before now of_now in
    let loads = (moment_is_run (Loads place found marked ∷ before) now of_now is).0 in
    subst (SeesOrShort now key node) (sym same)
    (first_or_short start before now place found marked key node (moment_is_run before now before_now is) since
    before_now is may loads.1 (subst (λ (w : ListWalk). BeginsUpTo w.first key now) same upto)
    (subst (λ (w : ListWalk). StaysEntry w key node now) same stays before since before_now))
sees_what_stays (Loads place found marked ∷ before) now walk key node is of_now
    (inr (inr (earlier, on, walked, found_it, place_is, same))) upto stays =
    let before_now = moment_before (Loads place found marked) before now of_now in
    let loads = (moment_is_run (Loads place found marked ∷ before) now of_now is).0 in
    let leads : list_pointer (Some on) before ≡ (found, marked) =
    subst (λ (p : Option ℕ). list_pointer p before ≡ (found, marked)) place_is loads.1 in
    let stays_for : StaysEntry earlier key node now = subst (λ (w : ListWalk). StaysEntry w key node now) same stays in
    let upto_for : BeginsUpTo earlier.first key now = subst (λ (w : ListWalk). BeginsUpTo w.first key now) same upto in
    let stood = last_stood before earlier (moment_is_run before now before_now is) walked in
    subst (SeesOrShort now key node) (sym same)
    (goes_on_seeing before now earlier node key on found marked is before_now stood found_it leads stays_for
    (moment_of_moment earlier.start stood.moment before stood.since stood.until)
    (sees_what_stays before now earlier key node is before_now walked upto_for stays_for))
sees_what_stays (step ∷ before) now walk key node is of_now walked upto stays =
    sees_what_stays before now walk key node is (moment_before step before now of_now) walked upto stays

-- in every run a walk that comes past a key has seen its entry, if that stayed all the while
pub walks_see : WalksSeeWhatStays
walks_see run walk key node is walked upto above stays =
    let stood = last_stood run walk is walked in
    by_case (sees_what_stays run run walk key node is (moment_itself run) walked upto stays) stood
  where
    by_case : SeesOrShort run key node walk → LastStood walk run → Has node walk.seen
    by_case (inl has) stood = has
    by_case (inr short) stood =
        absurd (nothing_passed run walk key is stood short above node (stays stood.moment stood.since stood.until))
