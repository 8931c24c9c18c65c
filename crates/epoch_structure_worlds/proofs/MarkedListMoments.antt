-- Moments of a run, and what holds at each of them: a marked pointer was in the list as it is now.
use Rattle.std.proofs.Common.{◌≡◌, inl, inr, ℕ, List, [], ◌∷◌}
use Rattle.std.proofs.Common.{Option, Some, None, refl, sym, subst, ap, ◌∙◌}
use Rattle.std.proofs.lemmas.Option.{none-some, same_Some}
use Rattle.epoch_structure_laws.specs.MapEntries.{Has}
use Rattle.epoch_structure_worlds.specs.MarkedLists.{ListPointer, ListStep, list_pointer, key_placed, WasPlaced}
use Rattle.epoch_structure_worlds.specs.MarkedLists.{WasLinked, IsListRun, IsMomentOf}
use Rattle.epoch_structure_worlds.specs.MarkedLists.{Places, Points, Links, Marks, Replaces, Unlinks, Loads}
use Rattle.epoch_structure_worlds.proofs.MarkedListChains.{RunsAlong, least_behind}
use Rattle.epoch_structure_worlds.proofs.MarkedListLinked.{nodes_of, pointers, keys, linked_placed, nodes_linked}
use Rattle.epoch_structure_worlds.proofs.MarkedListSorted.{sorted_run}
use Rattle.epoch_structure_worlds.proofs.MarkedListGaps.{Stands}
use Rattle.epoch_structure_worlds.proofs.MarkedListTold.{key_kept}

-- a run is a moment of itself
pub moment_itself : (run : List ListStep) → IsMomentOf run run
moment_itself [] = refl
moment_itself (step ∷ before) = inl refl

-- a moment of a moment is one
pub moment_of_moment : (early moment run : List ListStep) → IsMomentOf early moment → IsMomentOf moment run
    → IsMomentOf early run
moment_of_moment early moment [] of_moment same = subst (IsMomentOf early) same of_moment
moment_of_moment early moment (step ∷ before) of_moment (inl same) = subst (IsMomentOf early) same of_moment
moment_of_moment early moment (step ∷ before) of_moment (inr earlier) =
    inr (moment_of_moment early moment before of_moment earlier)

-- a run before its last step is a moment of it
pub moment_before : (step : ListStep) (before now : List ListStep) → IsMomentOf (step ∷ before) now
    → IsMomentOf before now
moment_before step before now of_now =
    moment_of_moment before (step ∷ before) now (inr (moment_itself before)) of_now

-- each moment of a run is a run
pub moment_is_run : (moment run : List ListStep) → IsMomentOf moment run → IsListRun run → IsListRun moment
moment_is_run moment [] same is = subst IsListRun (sym same) is
moment_is_run moment (step ∷ before) (inl same) is = subst IsListRun (sym same) is
moment_is_run moment (step ∷ before) (inr earlier) is = moment_is_run moment before earlier is.1

-- what was placed and linked stays so
stays_placed : (step : ListStep) (before : List ListStep) (node : ℕ) → WasPlaced node before
    → WasPlaced node (step ∷ before)
stays_placed (Places new key next) before node placed = inr placed
stays_placed (Points own next) before node placed = placed
stays_placed (Links at new next) before node placed = placed
stays_placed (Marks other next) before node placed = placed
stays_placed (Replaces other heir next) before node placed = placed
stays_placed (Unlinks at other next) before node placed = placed
stays_placed (Loads at found marked) before node placed = placed

stays_linked : (step : ListStep) (before : List ListStep) (node : ℕ) → WasLinked node before
    → WasLinked node (step ∷ before)
stays_linked (Places new key next) before node linked = linked
stays_linked (Points own next) before node linked = linked
stays_linked (Links at new next) before node linked = inr linked
stays_linked (Marks other next) before node linked = linked
stays_linked (Replaces other heir next) before node linked = inr linked
stays_linked (Unlinks at other next) before node linked = linked
stays_linked (Loads at found marked) before node linked = linked

-- what was placed at a moment is placed
pub placed_since : (moment run : List ListStep) (node : ℕ) → IsMomentOf moment run → WasPlaced node moment
    → WasPlaced node run
placed_since moment [] node same placed = subst (WasPlaced node) same placed
placed_since moment (step ∷ before) node (inl same) placed = subst (WasPlaced node) same placed
placed_since moment (step ∷ before) node (inr earlier) placed =
    stays_placed step before node (placed_since moment before node earlier placed)

-- what was linked at a moment is linked
pub linked_since : (moment run : List ListStep) (node : ℕ) → IsMomentOf moment run → WasLinked node moment
    → WasLinked node run
linked_since moment [] node same linked = subst (WasLinked node) same linked
linked_since moment (step ∷ before) node (inl same) linked = subst (WasLinked node) same linked
linked_since moment (step ∷ before) node (inr earlier) linked =
    stays_linked step before node (linked_since moment before node earlier linked)

-- a node keeps its key
same_key : (step : ListStep) (before : List ListStep) (node : ℕ) → IsListRun (step ∷ before) → WasPlaced node before
    → key_placed node (step ∷ before) ≡ key_placed node before
same_key (Places new key next) before node is placed = key_kept node new key next before is placed
same_key (Points own next) before node is placed = refl
same_key (Links at new next) before node is placed = refl
same_key (Marks other next) before node is placed = refl
same_key (Replaces other heir next) before node is placed = refl
same_key (Unlinks at other next) before node is placed = refl
same_key (Loads at found marked) before node is placed = refl

-- a node that was placed at a moment had the key that it has now
pub same_key_since : (moment run : List ListStep) (node : ℕ) → IsMomentOf moment run → IsListRun run
    → WasPlaced node moment → key_placed node run ≡ key_placed node moment
same_key_since moment [] node same is placed = ap (key_placed node) (sym same)
same_key_since moment (step ∷ before) node (inl same) is placed = ap (key_placed node) (sym same)
same_key_since moment (step ∷ before) node (inr earlier) is placed =
    same_key step before node is (placed_since moment before node earlier placed)
    ∙ same_key_since moment before node earlier is.1 placed

-- the node to which a node of the list leads is one of the list
next_has : (pointer : Option ℕ → ListPointer) (key : ℕ → ℕ) (place : Option ℕ) (low : ℕ) (nodes : List ℕ)
    (node next : ℕ) → RunsAlong pointer key place low nodes → Has node nodes → (pointer (Some node)).0 ≡ Some next
    → Has next nodes
next_has pointer key place low [] node next along has leads = absurd has
next_has pointer key place low (first ∷ []) node next along (inl same) leads =
    absurd (none-some next (sym along.2 ∙ ap (λ (n : ℕ). (pointer (Some n)).0) (sym same) ∙ leads))
next_has pointer key place low (first ∷ second ∷ behind) node next along (inl same) leads =
    let is_second : Some next ≡ Some second =
    sym leads ∙ ap (λ (n : ℕ). (pointer (Some n)).0) same ∙ along.2.0 in
    inr (inl (same_Some next second is_second))
next_has pointer key place low (first ∷ behind) node next along (inr later) leads =
    inr (next_has pointer key (Some first) (least_behind (key first) (pointer (Some first)).1) behind node next along.2
    later leads)

-- the first pointer leads to a node of the list
first_has : (pointer : Option ℕ → ListPointer) (key : ℕ → ℕ) (place : Option ℕ) (low : ℕ) (nodes : List ℕ) (next : ℕ)
    → RunsAlong pointer key place low nodes → (pointer place).0 ≡ Some next → Has next nodes
first_has pointer key place low [] next along leads = absurd (none-some next (sym along ∙ leads))
first_has pointer key place low (first ∷ behind) next along leads =
    inl (same_Some next first (sym leads ∙ along.0))

-- a place of the list leads to a node of the list, if to any
pub next_stands : (run : List ListStep) (place : Option ℕ) (next : ℕ) → IsListRun run → Stands place run
    → (list_pointer place run).0 ≡ Some next → Has next (nodes_of run)
next_stands run None next is stands leads =
    first_has (pointers run) (keys run) None 0 (nodes_of run) next (sorted_run run is) leads
next_stands run (Some node) next is stands leads =
    next_has (pointers run) (keys run) None 0 (nodes_of run) node next (sorted_run run is) stands leads

-- a node that stood in the list at a moment has the same key now
pub listed_key : (moment run : List ListStep) (node : ℕ) → IsMomentOf moment run → IsListRun run
    → Has node (nodes_of moment) → key_placed node run ≡ key_placed node moment
listed_key moment run node of_run is has = same_key_since moment run node of_run is
    (linked_placed moment node (moment_is_run moment run of_run is) (nodes_linked moment node has))
