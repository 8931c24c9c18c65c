-- In every run the list is sorted, and has each entry.
use Rattle.std.proofs.Common.{◌≤◌, ℕ}
use Rattle.std.proofs.Common.{Bool, List, [], ◌∷◌, Option, Some, None, subst}
use native.Mathlib.Omega.{arith}
use Rattle.epoch_structure_worlds.specs.MarkedLists.{ListStep, list_pointer, key_placed}
use Rattle.epoch_structure_worlds.specs.MarkedLists.{LeadsAlong, StandsBelow, IsSorted}
use Rattle.epoch_structure_worlds.specs.MarkedLists.{ListStaysSorted}
use Rattle.epoch_structure_worlds.proofs.MarkedListChains.{least_behind, RunsAlong, least_above, all_from}
use Rattle.epoch_structure_worlds.proofs.MarkedListLinked.{nodes_of, pointers, keys}
use Rattle.epoch_structure_worlds.proofs.MarkedListSorted.{sorted_run}
use Rattle.epoch_structure_worlds.proofs.MarkedListMembers.{entry_has}

-- the pointers lead along these nodes
leads : (run : List ListStep) (place : Option ℕ) (low : ℕ) (nodes : List ℕ)
    → RunsAlong (pointers run) (keys run) place low nodes → LeadsAlong run place nodes
leads run place low [] along = along
leads run place low (first ∷ behind) along = (
  along.0,
  leads run (Some first) (least_behind (key_placed first run) (list_pointer (Some first) run).1) behind
      along.2,
)

-- which are sorted
sorts : (run : List ListStep) (place : Option ℕ) (low : ℕ) (nodes : List ℕ)
    → RunsAlong (pointers run) (keys run) place low nodes → IsSorted run nodes
sorts run place low [] along = tt
sorts run place low (first ∷ behind) along =
    let bound : ℕ = least_behind (key_placed first run) (list_pointer (Some first) run).1 in
    let below : StandsBelow run first behind = λ other has.
    let above = all_from (pointers run) (keys run) (Some first) bound behind along.2 other has in (
      omega (arith, above, least_above (key_placed first run) (list_pointer (Some first) run).1),
      λ entry. subst (λ (b : Bool). least_behind (key_placed first run) b ≤ key_placed other run) entry.1 above,
    ) in
    (below, sorts run (Some first) bound behind along.2)

-- in every run the list is sorted, and has each entry
pub stays_sorted : ListStaysSorted
stays_sorted run is =
    let along = sorted_run run is in (
      nodes_of run,
      leads run None 0 (nodes_of run) along,
      sorts run None 0 (nodes_of run) along,
      λ node entry. entry_has run node is entry,
    )
