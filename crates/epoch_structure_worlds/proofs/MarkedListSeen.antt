-- What a walk sees was an entry, at some moment of the walk.
use Rattle.std.proofs.Common.{◌≡◌, inl, inr, ℕ, Bool, true, false, List, [], ◌∷◌}
use Rattle.std.proofs.Common.{Option, Some, None, refl, sym, subst, ap}
use Rattle.epoch_structure_laws.specs.MapEntries.{Has}
use Rattle.epoch_structure_worlds.specs.MarkedLists.{ListPointer, ListStep, key_placed}
use Rattle.epoch_structure_worlds.specs.MarkedLists.{entry_of, IsListRun, IsMomentOf, ListWalk, with_seen}
use Rattle.epoch_structure_worlds.specs.MarkedLists.{walk_begun, walk_on, WasWalked, Loads}
use Rattle.epoch_structure_worlds.specs.MarkedLists.{WalksSeeEntries}
use Rattle.epoch_structure_worlds.proofs.MarkedListLinked.{nodes_linked}
use Rattle.epoch_structure_worlds.proofs.MarkedListEntries.{entry_found}
use Rattle.epoch_structure_worlds.proofs.MarkedListMoments.{moment_itself, moment_of_moment, moment_is_run}
use Rattle.epoch_structure_worlds.proofs.MarkedListMoments.{moment_before}
use Rattle.epoch_structure_worlds.proofs.MarkedListMoments.{listed_key}
use Rattle.epoch_structure_worlds.proofs.MarkedListHindsight.{StoodSo, last_stood}

-- at some moment since the start, this node was the entry of the key that it has now
abbrev WasEntry : List ListStep → List ListStep → List ListStep → ℕ → Type 0
WasEntry start run now node = (moment : List ListStep) × IsMomentOf start moment × IsMomentOf moment run
    × (entry_of (key_placed node now) moment ≡ Some node)

-- what stood so without a mark was an entry
stood_entry : (start run now : List ListStep) (node : ℕ) (found : Option ℕ) → IsListRun now → IsMomentOf run now
    → StoodSo start run (Some node) (found, false) → WasEntry start run now node
stood_entry start run now node found is of_now stood =
    let moment : List ListStep = stood.moment in
    let of_it = moment_of_moment moment run now stood.until of_now in
    let entry = entry_found moment node (moment_is_run moment now of_it is)
    (nodes_linked moment node stood.stands, ap (λ (p : ListPointer). p.1) stood.leads) in (
      moment,
      stood.since,
      stood.until,
      subst (λ (k : ℕ). entry_of k moment ≡ Some node) (sym (listed_key moment now node of_it is stood.stands)) entry,
    )

-- a walk's nodes were entries, with that of one load more
seen_entries : (start run now : List ListStep) (place found : Option ℕ) (marked : Bool) (seen : List ℕ)
    → IsListRun now → IsMomentOf run now → StoodSo start run place (found, marked)
    → ((node : ℕ) → Has node seen → WasEntry start run now node)
    → (node : ℕ) → Has node (with_seen place marked seen) → WasEntry start run now node
seen_entries start run now None found marked seen is of_now stood earlier node has = earlier node has
seen_entries start run now (Some on) found true seen is of_now stood earlier node has = earlier node has
seen_entries start run now (Some on) found false seen is of_now stood earlier node (inl same) =
    subst (WasEntry start run now) (sym same) (stood_entry start run now on found is of_now stood)
seen_entries start run now (Some on) found false seen is of_now stood earlier node (inr has) = earlier node has

-- what was an entry before a step still was
entry_before : (start before now : List ListStep) (step : ListStep) (node : ℕ) → WasEntry start before now node
    → WasEntry start (step ∷ before) now node
entry_before start before now step node was = (was.0, was.1, inr was.2, was.3)

-- in every run each node that a walk saw was an entry
seen_were_entries : (run now : List ListStep) (walk : ListWalk) → IsListRun now → IsMomentOf run now
    → WasWalked walk run → (node : ℕ) → Has node walk.seen → WasEntry walk.start run now node
seen_were_entries [] now walk is of_now walked = absurd walked
seen_were_entries (Loads place found marked ∷ before) now walk is of_now (inl earlier) = λ node has.
    entry_before walk.start before now (Loads place found marked) node
    (seen_were_entries before now walk is (moment_before (Loads place found marked) before now of_now) earlier node has)
seen_were_entries (Loads place found marked ∷ before) now walk is of_now (inr (inl (start, since, may, same))) =
    let run : List ListStep = Loads place found marked ∷ before in
    let begun = last_stood run (walk_begun start place found marked) (moment_is_run run now of_now is)
    (inr (inl (start, since, may, refl))) in
    subst (λ (w : ListWalk). (node : ℕ) → Has node w.seen → WasEntry w.start run now node) (sym same)
    (seen_entries start run now place found marked [] is of_now begun (λ node has. absurd has))
seen_were_entries (Loads place found marked ∷ before) now walk is of_now
    (inr (inr (earlier, on, walked, found_it, place_is, same))) =
    let run : List ListStep = Loads place found marked ∷ before in
    let before_now = moment_before (Loads place found marked) before now of_now in
    let stood = last_stood run (walk_on earlier on found marked) (moment_is_run run now of_now is)
    (inr (inr (earlier, on, walked, found_it, place_is, refl))) in
    subst (λ (w : ListWalk). (node : ℕ) → Has node w.seen → WasEntry w.start run now node) (sym same)
    (seen_entries earlier.start run now (Some on) found marked earlier.seen is of_now stood
    (λ node has. entry_before earlier.start before now (Loads place found marked) node
    (seen_were_entries before now earlier is before_now walked node has)))
seen_were_entries (step ∷ before) now walk is of_now walked = λ node has.
    entry_before walk.start before now step node
    (seen_were_entries before now walk is (moment_before step before now of_now) walked node has)

-- in every run each node that a walk saw was an entry at some moment of the walk
pub walks_saw_entries : WalksSeeEntries
walks_saw_entries run walk node is walked has =
    seen_were_entries run run walk is (moment_itself run) walked node has
