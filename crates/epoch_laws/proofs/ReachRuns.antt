-- In every run whose cells leave rightly, nothing that is loaded under a guard still held is destroyed.
use Rattle.std.proofs.Common.{◌≡◌, ℕ, List, [], ◌∷◌, ◌++◌, refl, ap, sym, subst}
use Rattle.epoch_cells.specs.declared.cells.name.Name.{Name}
use Rattle.epoch_laws.specs.declared.step.Entry.{Entry}
use Rattle.epoch_laws.specs.declared.heap.access.Ptr.{Ptr}
use Rattle.epoch_laws.specs.Heap.{null}
use Rattle.epoch_laws.specs.Reach.{IsReachable, from_root, from_field, Past, past_after, no_past, past_from}
use Rattle.epoch_laws.specs.Reach.{past_of}
use Rattle.epoch_laws.specs.Reach.{LeavesFrom, LeavesOnce, KeepsLoaded}
use Rattle.epoch_laws.specs.Run.{WorldSeat, State, Runs, IsFresh}
use Rattle.epoch_laws.proofs.SeatLinks.{AllLinked}
use Rattle.epoch_laws.proofs.Linked.{step_linked, fresh_linked}
use Rattle.epoch_laws.proofs.SeatsFine.{is_pinned}
use Rattle.epoch_laws.proofs.WorldHolds.{Holds}
use Rattle.epoch_laws.proofs.GraceKept.{step_holds, fresh_holds}
use Rattle.epoch_laws.proofs.ReachKept.{ReachHolds, KeepsReach, Guarded, holds_apart, reach_push}
use Rattle.epoch_laws.proofs.ReachSteps.{step_shows}

runs_apart : (old new : State) (log entries : List Entry) (past : Past) → AllLinked old → Holds old log
    → ReachHolds old log past → (run : Runs old entries new) → LeavesFrom past old entries new run
    → KeepsLoaded (past_from past old entries new run)
runs_apart old new log [] past linked holds reach run leaves = holds_apart old log past reach
runs_apart old new log (x ∷ entries) past linked holds reach (mid, did, run) leaves =
    let next : Holds mid (log ++ x ∷ []) = step_holds old mid log x linked holds did in
    let shown : KeepsReach past old mid x =
    step_shows past old mid log x holds linked leaves.0.frozen x.step refl did.0 in
    runs_apart mid new (log ++ x ∷ []) entries (past_after past old x mid)
    (step_linked old mid x.step x.reply linked did) next
    (reach_push old mid log x past reach leaves.0 next.logged.grace holds linked shown) run leaves.1

-- in a fresh state nothing is in reach
pub none_reached : (s : State) → IsFresh s → (x : Name) → ¬ (IsReachable s.heap x)
none_reached s fresh x (from_root i _ leads) =
    let none : leads.0 ≡ null = fresh.null_roots i leads.0 leads.1 in cc (leads.2, ap (λ (ptr : Ptr). ptr.name) none)
none_reached s fresh x (from_field y f _ r leads) = none_reached s fresh y r

-- what is kept of reach holds of a new world, where nothing is loaded, removed or destroyed
pub fresh_reach : (s : State) → IsFresh s → ReachHolds s [] no_past
fresh_reach s fresh = record {
  recent = λ p x. ⊥;
  now = λ p pin. absurd (cc (pin, ap (λ (seat : WorldSeat). is_pinned seat.word) (fresh.free p)));
  guarded = λ p. subst Guarded (sym (fresh.free p)) tt;
  recent_reach = λ p x reach. none_reached s fresh x reach;
  recent_was = λ p x r. r;
  recent_field = λ p y f x r leads. absurd r;
  loaded = λ p g x l. absurd l;
  removed = λ t x r. absurd r;
  gone = λ x d. absurd d;
}

-- and nothing is recent
pub none_recent : (s : State) (fresh : IsFresh s) (p : ℕ) (x : Name) → ¬ ((fresh_reach s fresh).recent p x)
unfolding fresh_reach
none_recent s fresh p x recent = recent

-- in every run of a new world whose cells leave rightly, no name loaded under a guard still held is destroyed
pub every_run_keeps_reach : (s new : State) (log : List Entry) → IsFresh s → (run : Runs s log new)
    → LeavesOnce s log new run → KeepsLoaded (past_of s log new run)
every_run_keeps_reach s new log fresh run leaves =
    runs_apart s new [] log no_past (fresh_linked s fresh) (fresh_holds s fresh) (fresh_reach s fresh) run leaves
