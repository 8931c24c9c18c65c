-- Where calls follow every field, the law of reach is that of what is met.
use Rattle.std.proofs.Common.{ℕ, List, [], ◌∷◌, ◌++◌, ◌⊎◌, inl, inr, refl}
use Rattle.epoch_cells.specs.declared.cells.name.Name.{Name}
use Rattle.epoch_laws.specs.declared.heap.access.Spot.{Spot}
use Rattle.epoch_laws.specs.declared.heap.access.Spot.TheVariants.{Root, Field}
use Rattle.epoch_laws.specs.declared.step.Entry.{Entry}
use Rattle.epoch_laws.specs.Run.{State, Runs, IsFresh}
use Rattle.epoch_laws.specs.Grace.{KeepsGrace}
use Rattle.epoch_laws.specs.Reach.{IsReachable, LetsGo, Past, past_after, no_past, past_from, past_of, IsLoadedFrom}
use Rattle.epoch_laws.specs.Reach.{Meets, LeavesFrom, LeavesOnce, LeavesRightly, KeepsLoaded}
use Rattle.epoch_laws.specs.Meeting.{follows_all, MetPast, met_past_after, no_met_past, LeavesOut, LeavesOutFrom}
use Rattle.epoch_laws.specs.Meeting.{LeavesWell, met_past_from, met_past_of}
use Rattle.epoch_laws.proofs.SeatLinks.{AllLinked}
use Rattle.epoch_laws.proofs.Linked.{step_linked, fresh_linked}
use Rattle.epoch_laws.proofs.WorldHolds.{Holds}
use Rattle.epoch_laws.proofs.GraceKept.{step_holds, fresh_holds}
use Rattle.epoch_laws.proofs.ReachKept.{ReachHolds, KeepsReach, met_recently, reach_push, recent_pushed}
use Rattle.epoch_laws.proofs.ReachRuns.{none_reached, fresh_reach, none_recent}
use Rattle.epoch_laws.proofs.ReachSteps.{step_shows}

-- The two pasts say the same, and what was in once was in reach once.
record IsSame (met : MetPast) (past : Past) : Type 0 where
  met_loaded : (p g : ℕ) (x : Name) → met.past.loaded p g x → past.loaded p g x
  loaded : (p g : ℕ) (x : Name) → past.loaded p g x → met.past.loaded p g x
  destroyed : (x : Name) → past.destroyed x → met.past.destroyed x
  removes : (ticket : ℕ) (x : Name) → past.removes ticket x → met.past.removes ticket x
  left : (x : Name) → met.past.left x → past.left x
  reached : (x : Name) → met.past.reached x → past.reached x

within_more : (A B : Name → Type 0) (spot : Spot) → ((x : Name) → A x → B x) → IsLoadedFrom A spot → IsLoadedFrom B spot
within_more A B (Root i) more within = tt
within_more A B (Field y f) more within = more y within

meets_more : (A B : Name → Type 0) (s new : State) (entry : Entry) (p g : ℕ) (x : Name) → ((y : Name) → A y → B y)
    → Meets A s entry new p g x → Meets B s entry new p g x
meets_more A B s new entry p g x more meets = record {
  spot = meets.spot;
  points = meets.points;
  within = within_more A B meets.spot more meets.within;
  named = meets.named;
}

-- A STEP

module _ (old new : State) (x : Entry) (past : Past) (met : MetPast) (same : IsSame met past) where
  same_after : IsSame (met_past_after follows_all met old x new) (past_after past old x new)
  same_after = record {
    met_loaded = λ p g y l. (
      l.0,
      elim l.1 [
        | inl was ↦ inl (same.met_loaded p g y was)
        | inr meets ↦ inr (meets_more _ _ old new x p g y (same.met_loaded p g) meets)
      ],
    );
    loaded = λ p g y l. (
      l.0,
      elim l.1 [
        | inl was ↦ inl (same.loaded p g y was)
        | inr meets ↦ inr (meets_more _ _ old new x p g y (same.loaded p g) meets)
      ],
    );
    destroyed = λ y d. elim d [
      | inl was ↦ inl (same.destroyed y was)
      | inr now ↦ inr (elim now [
        | inl called ↦ inl (called.0, same.removes called.0 y called.1, called.2)
        | inr other ↦ inr other
      ])
    ];
    removes = λ ticket y r. elim r [ inl was ↦ inl (same.removes ticket y was) | inr now ↦ inr now ];
    left = λ y l. elim l [ inl was ↦ inl (same.left y was) | inr now ↦ inr now ];
    reached = λ y r. elim r [ inl was ↦ inl (same.reached y was) | inr is ↦ inr is ];
  }

  leaves_out : (log : List Entry) → LeavesRightly past old x new
      → (k : ReachHolds old log past) → ((p : ℕ) (y : Name) → k.recent p y → met.recent p y)
      → ((p g : ℕ) (y : Name) → ¬ (LetsGo x p g) → Meets (past.loaded p g) old x new p g y
      → ¬ (¬ (k.recent p y ⊎ IsReachable new.heap y)))
      → LeavesOut follows_all met old x new
  leaves_out log leaves k recent recently = record {
    taken_unmet = λ y takes reached. leaves.taken_unreached y takes (same.reached y reached);
    never_now = leaves.never_now;
    out = λ y left. leaves.out y (same_after.left y left);
    meets = λ p g y kept meets. record {
      spot = meets.spot;
      points = meets.points;
      recent = λ never. recently p g y kept (meets_more _ _ old new x p g y (same.met_loaded p g) meets)
          (λ way. elim way [ inl was ↦ never (inl (recent p y was)) | inr is ↦ never (inr is) ]);
    };
  }

-- what was recent for the one law is so for the other
recent_after_step : (old new : State) (log : List Entry) (x : Entry) (past : Past) (met : MetPast)
    (k : ReachHolds old log past)
    (leaves : LeavesRightly past old x new) (grace : KeepsGrace (log ++ x ∷ [])) (holds : Holds old log)
    (linked : AllLinked old) (step : KeepsReach past old new x)
    → ((p : ℕ) (y : Name) → k.recent p y → met.recent p y)
    → (p : ℕ) (y : Name) → (reach_push old new log x past k leaves grace holds linked step).recent p y
    → (met_past_after follows_all met old x new).recent p y
recent_after_step old new log x past met k leaves grace holds linked step recent p y now =
    elim (recent_pushed old new log x past k leaves grace holds linked step p y now) [
      | inl was ↦ inl (was.0, recent p y was.1)
      | inr is ↦ inr is
    ]

-- WHOLE RUNS

runs_well : (old new : State) (log entries : List Entry) (past : Past) (met : MetPast) → AllLinked old → Holds old log
    → (k : ReachHolds old log past) → ((p : ℕ) (y : Name) → k.recent p y → met.recent p y) → IsSame met past
    → (run : Runs old entries new) → LeavesFrom past old entries new run
    → LeavesOutFrom follows_all met old entries new run
runs_well old new log [] past met linked holds k recent same run leaves = tt
runs_well old new log (x ∷ entries) past met linked holds k recent same (mid, did, run) leaves =
    let next : Holds mid (log ++ x ∷ []) = step_holds old mid log x linked holds did in
    let shown : KeepsReach past old mid x =
    step_shows past old mid log x holds linked leaves.0.frozen x.step refl did.0 in
    let grace : KeepsGrace (log ++ x ∷ []) = next.logged.grace in (
      leaves_out old mid x past met same log leaves.0 k recent
          (met_recently old mid log x past k leaves.0 grace holds linked shown),
      runs_well mid new (log ++ x ∷ []) entries (past_after past old x mid) (met_past_after follows_all met old x mid)
          (step_linked old mid x.step x.reply linked did) next
          (reach_push old mid log x past k leaves.0 grace holds linked shown)
          (recent_after_step old mid log x past met k leaves.0 grace holds linked shown recent)
          (same_after old mid x past met same) run leaves.1,
    )

runs_same : (old new : State) (entries : List Entry) (past : Past) (met : MetPast) → IsSame met past
    → (run : Runs old entries new)
    → IsSame (met_past_from follows_all met old entries new run) (past_from past old entries new run)
runs_same old new [] past met same run = same
runs_same old new (x ∷ entries) past met same (mid, did, run) =
    runs_same mid new entries (past_after past old x mid) (met_past_after follows_all met old x mid)
    (same_after old mid x past met same) run

fresh_same : (s : State) → IsFresh s → IsSame (no_met_past follows_all s) no_past
fresh_same s fresh = record {
  met_loaded = λ p g x l. l;
  loaded = λ p g x l. l;
  destroyed = λ x d. d;
  removes = λ ticket x r. r;
  left = λ x l. l;
  reached = λ x reach. none_reached s fresh x reach;
}

-- Where calls follow every field, cells that leave as the law of reach asks leave well.
pub leaves_well : (s new : State) (log : List Entry) → IsFresh s → (run : Runs s log new) → LeavesOnce s log new run
    → LeavesWell follows_all s log new run
leaves_well s new log fresh run leaves =
    runs_well s new [] log no_past (no_met_past follows_all s) (fresh_linked s fresh) (fresh_holds s fresh)
    (fresh_reach s fresh) (λ p x recent. absurd (none_recent s fresh p x recent)) (fresh_same s fresh) run leaves

-- If nothing that is met is destroyed then, nothing that is loaded is destroyed.
pub keeps_loaded : (s new : State) (log : List Entry) → IsFresh s → (run : Runs s log new)
    → KeepsLoaded (met_past_of follows_all s log new run) → KeepsLoaded (past_of s log new run)
keeps_loaded s new log fresh run keeps p g x loaded destroyed =
    let same = runs_same s new log no_past (no_met_past follows_all s) (fresh_same s fresh) run in
    keeps p g x (same.loaded p g x loaded) (same.destroyed x destroyed)
