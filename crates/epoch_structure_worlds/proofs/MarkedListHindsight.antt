-- What a walk's last load found stood in the list so, at some moment of the walk. So a key that it missed had no entry.
use Rattle.std.proofs.Common.{◌≡◌, ◌⊎◌, inl, inr, ◌<◌, ℕ, Bool, true, false, List, [], ◌∷◌}
use Rattle.std.proofs.Common.{Option, Some, None, refl, sym, subst, ap, ◌∙◌}
use Rattle.epoch_structure_laws.specs.MapEntries.{Has}
use Rattle.epoch_structure_worlds.specs.MarkedLists.{ListPointer, ListStep, list_pointer, WasLinked}
use Rattle.epoch_structure_worlds.specs.MarkedLists.{entry_of, IsListRun, IsMomentOf, ListWalk, MayStartWalk}
use Rattle.epoch_structure_worlds.specs.MarkedLists.{walk_on, WasWalked, IsShortOf, IsAbove, Loads}
use Rattle.epoch_structure_worlds.specs.MarkedLists.{MissedKeysHadNoEntry}
use Rattle.epoch_structure_worlds.proofs.MarkedListLinked.{nodes_of, nodes_linked}
use Rattle.epoch_structure_worlds.proofs.MarkedListMembers.{marked_stays, unmarked_stays, entry_has}
use Rattle.epoch_structure_worlds.proofs.MarkedListGaps.{Stands, none_passed}
use Rattle.epoch_structure_worlds.proofs.MarkedListTold.{entry_told}
use Rattle.epoch_structure_worlds.proofs.MarkedListEntries.{none_or}
use Rattle.epoch_structure_worlds.proofs.MarkedListMoments.{moment_itself, moment_of_moment, moment_is_run}
use Rattle.epoch_structure_worlds.proofs.MarkedListMoments.{linked_since, next_stands, listed_key}

-- at some moment since the start, this place stood in the list, with this pointer
pub record StoodSo (start run : List ListStep) (place : Option ℕ) (pointer : ListPointer) : Type 0 where
  pub moment : List ListStep
  pub since : IsMomentOf start moment
  pub until : IsMomentOf moment run
  pub stands : Stands place moment
  pub leads : list_pointer place moment ≡ pointer

-- what stood so before a step still did
stood_before : (start before : List ListStep) (step : ListStep) (place : Option ℕ) (pointer : ListPointer)
    → StoodSo start before place pointer → StoodSo start (step ∷ before) place pointer
stood_before start before step place pointer stood = record {
  moment = stood.moment;
  since = stood.since;
  until = inr stood.until;
  stands = stood.stands;
  leads = stood.leads;
}

-- A pointer that has the mark after a step had it before, or its node was in the list and is there still.
marked_by : (moment before : List ListStep) (step : ListStep) (node : ℕ) (found : Option ℕ) (mark : Bool)
    → (list_pointer (Some node) before ≡ (found, true) → StoodSo moment before (Some node) (found, true))
    → IsMomentOf moment before → IsListRun (step ∷ before) → WasLinked node before
    → list_pointer (Some node) (step ∷ before) ≡ (found, true) → (list_pointer (Some node) before).1 ≡ mark
    → StoodSo moment (step ∷ before) (Some node) (found, true)
marked_by moment before step node found true stood of_before is linked leads at =
    stood_before moment before step (Some node) (found, true)
    (stood (sym (marked_stays before step node is linked at) ∙ leads))
marked_by moment before step node found false stood of_before is linked leads at = record {
  moment = step ∷ before;
  since = inr of_before;
  until = inl refl;
  stands = unmarked_stays before step node is at (entry_has before node is.1 (linked, at));
  leads = leads;
}

-- the pointer of a node that was in the list at a moment, and that is marked now, was in the list as it is now
pub marked_stood : (moment run : List ListStep) (node : ℕ) (found : Option ℕ) → IsMomentOf moment run
    → IsListRun run → Has node (nodes_of moment) → list_pointer (Some node) run ≡ (found, true)
    → StoodSo moment run (Some node) (found, true)
marked_stood moment [] node found same is has leads =
    absurd (subst (λ (r : List ListStep). Has node (nodes_of r)) same has)
marked_stood moment (step ∷ before) node found (inl same) is has leads = record {
  moment = step ∷ before;
  since = inl same;
  until = inl refl;
  stands = subst (λ (r : List ListStep). Has node (nodes_of r)) same has;
  leads = leads;
}
marked_stood moment (step ∷ before) node found (inr earlier) is has leads =
    marked_by moment before step node found (list_pointer (Some node) before).1
    (marked_stood moment before node found earlier is.1 has) earlier is
    (linked_since moment before node earlier (nodes_linked moment node has)) leads refl

-- so whatever a load finds there stood in the list so, since a moment when its node was in the list
load_stood : (start moment before : List ListStep) (node : ℕ) (found : Option ℕ) (marked : Bool) → IsListRun before
    → IsMomentOf start moment → IsMomentOf moment before → Has node (nodes_of moment)
    → list_pointer (Some node) before ≡ (found, marked) → StoodSo start before (Some node) (found, marked)
load_stood start moment before node found true is since of_before has leads =
    let stood = marked_stood moment before node found of_before is has leads in
    record {
      moment = stood.moment;
      since = moment_of_moment start moment stood.moment since stood.since;
      until = stood.until;
      stands = stood.stands;
      leads = stood.leads;
    }
load_stood start moment before node found false is since of_before has leads =
    let linked = linked_since moment before node of_before (nodes_linked moment node has) in
    record {
      moment = before;
      since = moment_of_moment start moment before since of_before;
      until = moment_itself before;
      stands = entry_has before node is (linked, ap (λ (p : ListPointer). p.1) leads);
      leads = leads;
    }

-- what the first load of a walk found stood so, since the walk began
begin_stood : (start before : List ListStep) (place found : Option ℕ) (marked : Bool) → IsListRun before
    → IsMomentOf start before → MayStartWalk place start → list_pointer place before ≡ (found, marked)
    → StoodSo start before place (found, marked)
begin_stood start before None found marked is since may leads = record {
  moment = before;
  since = since;
  until = moment_itself before;
  stands = tt;
  leads = leads;
}
begin_stood start before (Some node) found marked is since may leads =
    load_stood start start before node found marked is (moment_itself start) since
    (entry_has start node (moment_is_run start before since is) may) leads

-- what this walk's last load found stood so
abbrev pub LastStood : ListWalk → List ListStep → Type 0
LastStood walk run = StoodSo walk.start run walk.last (walk.found, walk.marked)

-- a walk that goes on finds what stood so, if what it found before did
goes_on : (before : List ListStep) (earlier : ListWalk) (node : ℕ) (found : Option ℕ) (marked : Bool)
    → IsListRun before → LastStood earlier before → earlier.found ≡ Some node
    → list_pointer (Some node) before ≡ (found, marked) → LastStood (walk_on earlier node found marked) before
goes_on before earlier node found marked is stood found_it leads =
    let has : Has node (nodes_of stood.moment) =
    next_stands stood.moment earlier.last node (moment_is_run stood.moment before stood.until is) stood.stands
    (ap (λ (p : ListPointer). p.0) stood.leads ∙ found_it) in
    load_stood earlier.start stood.moment before node found marked is stood.since stood.until has leads

-- in every run what a walk's last load found stood so, at some moment of the walk
pub last_stood : (run : List ListStep) (walk : ListWalk) → IsListRun run → WasWalked walk run → LastStood walk run
last_stood [] walk is walked = absurd walked
last_stood (Loads place found marked ∷ before) walk is (inl earlier) =
    stood_before walk.start before (Loads place found marked) walk.last (walk.found, walk.marked)
    (last_stood before walk is.1 earlier)
last_stood (Loads place found marked ∷ before) walk is (inr (inl (start, since, may, same))) =
    let stood = begin_stood start before place found marked is.1 since may is.0.1 in
    subst (λ (w : ListWalk). LastStood w (Loads place found marked ∷ before)) (sym same)
    (stood_before start before (Loads place found marked) place (found, marked) stood)
last_stood (Loads place found marked ∷ before) walk is (inr (inr (earlier, node, walked, found_it, place_is, same))) =
    let leads : list_pointer (Some node) before ≡ (found, marked) =
    subst (λ (p : Option ℕ). list_pointer p before ≡ (found, marked)) place_is is.0.1 in
    let stood = goes_on before earlier node found marked is.1 (last_stood before earlier is.1 walked) found_it leads in
    subst (λ (w : ListWalk). LastStood w (Loads place found marked ∷ before)) (sym same)
    (stood_before earlier.start before (Loads place found marked) (Some node) (found, marked) stood)
last_stood (step ∷ before) walk is walked =
    stood_before walk.start before step walk.last (walk.found, walk.marked) (last_stood before walk is.1 walked)

-- what is short of a key now was so at a moment when it stood
pub short_then : (moment run : List ListStep) (place : Option ℕ) (marked : Bool) (key : ℕ) → IsMomentOf moment run
    → IsListRun run → Stands place moment → IsShortOf place marked key run → IsShortOf place marked key moment
short_then moment run None marked key of_run is stands short = tt
short_then moment run (Some node) marked key of_run is stands short =
    subst (λ (k : ℕ). (k < key) ⊎ ((k ≡ key) × (marked ≡ true))) (listed_key moment run node of_run is stands) short

-- and so was what is above a key
above_then : (moment run : List ListStep) (found : Option ℕ) (key : ℕ) → IsMomentOf moment run → IsListRun run
    → ((node : ℕ) → found ≡ Some node → Has node (nodes_of moment)) → IsAbove found key run → IsAbove found key moment
above_then moment run None key of_run is listed above = tt
above_then moment run (Some node) key of_run is listed above =
    subst (λ (k : ℕ). key < k) (listed_key moment run node of_run is (listed node refl)) above

-- a walk's last load passes no entry, at the moment when what it found stood so
pub nothing_passed : (run : List ListStep) (walk : ListWalk) (key : ℕ) → IsListRun run → (stood : LastStood walk run)
    → IsShortOf walk.last walk.marked key run → IsAbove walk.found key run → (node : ℕ)
    → entry_of key stood.moment ≡ Some node → ⊥
nothing_passed run walk key is stood short above node now =
    let is_run = moment_is_run stood.moment run stood.until is in
    let told = entry_told stood.moment key node is_run now in
    none_passed stood.moment walk.last walk.found walk.marked key node is_run stood.stands stood.leads
    (short_then stood.moment run walk.last walk.marked key stood.until is stood.stands short)
    (above_then stood.moment run walk.found key stood.until is
    (λ next found_it. next_stands stood.moment walk.last next is_run stood.stands
    (ap (λ (p : ListPointer). p.0) stood.leads ∙ found_it)) above)
    told.0 told.1

-- in every run a key that a walk missed had no entry, at some moment of the walk
pub missed_had_none : MissedKeysHadNoEntry
missed_had_none run walk key is walked short above =
    let stood = last_stood run walk is walked in
    let none = none_or (entry_of key stood.moment) (nothing_passed run walk key is stood short above) in
    (stood.moment, stood.since, stood.until, none)
