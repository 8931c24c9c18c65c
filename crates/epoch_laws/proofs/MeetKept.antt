-- What was in since a participant published holds what it has met, and nothing that is destroyed.
use Rattle.std.proofs.Common.{◌≡◌, ℕ, ◌≤◌, true, not, List, [], ◌∷◌, ◌++◌, length, Some, inl}
use Rattle.std.proofs.Common.{inr, refl, ap, sym, subst, ◌∙◌, arith}
use Rattle.epoch_cells.specs.declared.cells.name.Name.{Name}
use Rattle.epoch_bags.specs.declared.job.Called.TheVariants.{Destroyed}
use Rattle.epoch_machine.specs.declared.machine.Stage.TheVariants.{Idle as Resting}
use Rattle.epoch_laws.specs.declared.step.Reply.TheVariants.{Deferred}
use Rattle.epoch_laws.specs.declared.step.Entry.{Entry}
use Rattle.epoch_laws.specs.declared.step.Progress.{Progress}
use Rattle.epoch_laws.specs.Grace.{IsReplyAt, KeepsGrace}
use Rattle.epoch_laws.specs.Run.{WorldSeat, State, seat_of, position_word, is_out, Runs, IsFresh}
use Rattle.epoch_laws.specs.Reach.{no_past, KeepsLoaded, LetsGo, IsFrozen}
use Rattle.epoch_laws.specs.Meeting.{Usage, MetPast, recent_after, met_past_after, no_met_past, met_past_from}
use Rattle.epoch_laws.specs.Meeting.{met_past_of, MeetsRecent, LeavesOut, LeavesOutFrom, LeavesWell}
use Rattle.epoch_laws.proofs.SeatLinks.{AllLinked, follows_at}
use Rattle.epoch_laws.proofs.Linked.{step_linked, fresh_linked}
use Rattle.epoch_laws.proofs.Log.{IsPublish, PinnedSince, stands_keep, stands_new, pinned_push}
use Rattle.epoch_laws.proofs.Log.{pinned_keep, pinned_new, pinned_within, length_push, grace_refuses}
use Rattle.epoch_laws.proofs.SeatsFine.{is_pinned, publishes_at}
use Rattle.epoch_laws.proofs.WorldHolds.{Holds}
use Rattle.epoch_laws.proofs.GraceKept.{step_holds, fresh_holds}
use Rattle.epoch_laws.proofs.ReachKept.{GivesUp, IsOut, GuardsAccess, Guarded, some_counted, KeepsReach}
use Rattle.epoch_laws.proofs.ReachSteps.{step_shows}

-- WHAT HOLDS BETWEEN ANY TWO STEPS

record MeetHolds (uses : Usage) (s : State) (log : List Entry) (met : MetPast) : Type 0 where
  now : (p : ℕ) → is_pinned (position_word s p) ≡ true → (at : ℕ) × PinnedSince log p at
  guarded : (p : ℕ) → Guarded (seat_of s p)
  recent_was : (p : ℕ) (x : Name) → met.recent p x → met.past.reached x
  loaded : (p g : ℕ) (x : Name) → met.past.loaded p g x
      → (is_pinned (position_word s p) ≡ true) × IsOut g (seat_of s p) × (¬ (¬ (met.recent p x)))
  removed : (ticket : ℕ) (x : Name) → met.past.removes ticket x
      → met.past.left x
      × ((i : ℕ) × IsReplyAt log i (Deferred ticket) × ((p at : ℕ) → PinnedSince log p at → met.recent p x → at ≤ i))
  gone : (x : Name) → met.past.destroyed x
      → met.past.left x × ((p : ℕ) → is_pinned (position_word s p) ≡ true → ¬ (met.recent p x))

-- what is met isn't destroyed
holds_apart : (uses : Usage) (s : State) (log : List Entry) (met : MetPast) → MeetHolds uses s log met
    → KeepsLoaded met.past
holds_apart uses s log met k p g x loaded destroyed =
    let l = k.loaded p g x loaded in l.2 (λ recent. (k.gone x destroyed).1 p l.0 recent)

-- A STEP THAT SHOWS IT

module _ (uses : Usage) (old new : State) (log : List Entry) (x : Entry) (met : MetPast)
    (k : MeetHolds uses old log met)
    (leaves : LeavesOut uses met old x new) (grace : KeepsGrace (log ++ x ∷ [])) (holds : Holds old log)
    (linked : AllLinked old) (step : KeepsReach no_past old new x) where
  abbrev next : MetPast
  next = met_past_after uses met old x new

  abbrev Recent : ℕ → Name → Type 0
  Recent = recent_after uses met x new

  recent_was : (p : ℕ) (y : Name) → Recent p y → next.past.reached y
  recent_was p y (inl h) = inl (k.recent_was p y h.1)
  recent_was p y (inr is) = inr is

  now_after : (p : ℕ) → is_pinned (position_word new p) ≡ true → (at : ℕ) × PinnedSince (log ++ x ∷ []) p at
  now_after p pin = elim (step.pinned p pin) [
    | inl publish ↦ (length log, pinned_new log x p publish)
    | inr was ↦ let n = k.now p was.0 in (n.0, pinned_keep log x p n.0 n.1 was.1)
  ]

  abbrev IsSafe : ℕ → ℕ → Name → Type 0
  IsSafe p g y = (is_pinned (position_word new p) ≡ true) × IsOut g (seat_of new p) × (¬ (¬ (Recent p y)))

  -- who meets a name is pinned by the guard, from before the step on
  safe_met : (p g : ℕ) (y : Name) → ¬ (LetsGo x p g) → MeetsRecent uses met old x new p g y → IsSafe p g y
  safe_met p g y kept meets = (hold.0, hold.1, recent)
    where
      counted : is_out g (seat_of old p).guards ≡ true
      counted = subst (λ (progress : Progress). GuardsAccess progress (seat_of old p).guards) meets.points.progress
          (k.guarded p) g refl

      out : IsOut g (seat_of old p)
      out = (counted, λ gives. subst (GivesUp g) meets.points.progress gives)

      idle : (seat_of old p).machine.stage ≡ Resting
      idle = follows_at old.sizes (seat_of old p) (linked.seats p) _ meets.points.progress

      pin : is_pinned (position_word old p) ≡ true
      pin = (holds.seats p).agrees ∙ ap (publishes_at (seat_of old p).machine) idle
          ∙ ap not
          (some_counted g (seat_of old p).guards (seat_of old p).machine.guards (linked.seats p).counted counted)

      hold : (is_pinned (position_word new p) ≡ true) × IsOut g (seat_of new p) × (¬ (IsPublish x.reply p))
      hold = step.holding p g pin out kept

      recent : ¬ (¬ (Recent p y))
      recent never = meets.recent (λ way. elim way [
        | inl was ↦ never (inl (hold.2, was))
        | inr is ↦ never (inr is)
      ])

  loaded_after : (p g : ℕ) (y : Name) → next.past.loaded p g y → IsSafe p g y
  loaded_after p g y (kept, inl was) =
      let l = k.loaded p g y was in
      let hold = step.holding p g l.0 l.1 kept in
      (hold.0, hold.1, λ never. l.2 (λ r. never (inl (hold.2, r))))
  loaded_after p g y (kept, inr meets) = safe_met p g y kept (leaves.meets p g y kept meets)

  removed_after : (ticket : ℕ) (y : Name) → next.past.removes ticket y
      → next.past.left y × ((i : ℕ) × IsReplyAt (log ++ x ∷ []) i (Deferred ticket)
      × ((p at : ℕ) → PinnedSince (log ++ x ∷ []) p at → Recent p y → at ≤ i))
  removed_after ticket y (inr defers) = (
    inr (inl (ticket, defers)),
    (
      length log,
      stands_new log x ∙ ap Some defers.reply,
      λ p at now recent. omega (arith, pinned_within (log ++ x ∷ []) p at now, length_push log x),
    ),
  )
  removed_after ticket y (inl was) = (inl r.0, (r.1.0, stands_keep log x r.1.0 _ r.1.1, bound))
    where
      r : met.past.left y
          × ((i : ℕ) × IsReplyAt log i (Deferred ticket)
          × ((p at : ℕ) → PinnedSince log p at → met.recent p y → at ≤ i))
      r = k.removed ticket y was

      bound : (p at : ℕ) → PinnedSince (log ++ x ∷ []) p at → Recent p y → at ≤ r.1.0
      bound p at now (inr is) = absurd (leaves.out y (inl r.0) is)
      bound p at now (inl recent) = elim (pinned_push log x p at now) [
        | inl new ↦ absurd (recent.0 new.1)
        | inr was ↦ r.1.2 p at was.0 recent.1
      ]

  gone_after : (y : Name) → next.past.destroyed y
      → next.past.left y × ((p : ℕ) → is_pinned (position_word new p) ≡ true → ¬ (Recent p y))
  gone_after y (inl was) = (inl g.0, apart)
    where
      g : met.past.left y × ((p : ℕ) → is_pinned (position_word old p) ≡ true → ¬ (met.recent p y))
      g = k.gone y was

      apart : (p : ℕ) → is_pinned (position_word new p) ≡ true → ¬ (Recent p y)
      apart p pin (inr is) = leaves.out y (inl g.0) is
      apart p pin (inl recent) =
          elim (step.pinned p pin) [ inl publish ↦ recent.0 publish | inr was ↦ g.1 p was.0 recent.1 ]
  gone_after y (inr (inl (ticket, removes, reply))) = (inl r.0, apart)
    where
      r : met.past.left y
          × ((i : ℕ) × IsReplyAt log i (Deferred ticket)
          × ((p at : ℕ) → PinnedSince log p at → met.recent p y → at ≤ i))
      r = k.removed ticket y removes

      apart : (p : ℕ) → is_pinned (position_word new p) ≡ true → ¬ (Recent p y)
      apart p pin (inr is) = leaves.out y (inl r.0) is
      apart p pin (inl recent) = elim (step.pinned p pin) [
        | inl publish ↦ recent.0 publish
        | inr was ↦ let n = k.now p was.0 in
            grace_refuses log x grace ticket Destroyed reply r.1.0 p n.0 r.1.1 n.1 (r.1.2 p n.0 n.1 recent.1)
      ]
  gone_after y (inr (inr (inl takes))) = (
    inr (inr takes),
    λ p pin recent. elim recent [
      | inl h ↦ leaves.taken_unmet y takes (k.recent_was p y h.1)
      | inr is ↦ leaves.out y (inr (inr takes)) is
    ],
  )
  gone_after y (inr (inr (inr now))) = absurd (leaves.never_now y now)

  meet_push : MeetHolds uses new (log ++ x ∷ []) next
  meet_push = record {
    now = now_after;
    guarded = λ p. step.guarded p (k.guarded p);
    recent_was = recent_was;
    loaded = loaded_after;
    removed = removed_after;
    gone = gone_after;
  }

-- WHOLE RUNS

-- where nothing was in reach, nothing is frozen
none_frozen : (old new : State) (x : Entry) → IsFrozen no_past old x new
none_frozen old new x p g y f points changes reached = absurd reached

runs_apart : (uses : Usage) (old new : State) (log entries : List Entry) (met : MetPast) → AllLinked old → Holds old log
    → MeetHolds uses old log met → (run : Runs old entries new) → LeavesOutFrom uses met old entries new run
    → KeepsLoaded (met_past_from uses met old entries new run).past
runs_apart uses old new log [] met linked holds k run leaves = holds_apart uses old log met k
runs_apart uses old new log (x ∷ entries) met linked holds k (mid, did, run) leaves =
    let next : Holds mid (log ++ x ∷ []) = step_holds old mid log x linked holds did in
    let shown : KeepsReach no_past old mid x =
    step_shows no_past old mid log x holds linked (none_frozen old mid x) x.step refl did.0 in
    runs_apart uses mid new (log ++ x ∷ []) entries (met_past_after uses met old x mid)
    (step_linked old mid x.step x.reply linked did) next
    (meet_push uses old mid log x met k leaves.0 next.logged.grace holds linked shown) run leaves.1

fresh_meets : (uses : Usage) (s : State) → IsFresh s → MeetHolds uses s [] (no_met_past uses s)
fresh_meets uses s fresh = record {
  now = λ p pin. absurd (cc (pin, ap (λ (seat : WorldSeat). is_pinned seat.word) (fresh.free p)));
  guarded = λ p. subst Guarded (sym (fresh.free p)) tt;
  recent_was = λ p x is. is;
  loaded = λ p g x l. absurd l;
  removed = λ ticket x r. absurd r;
  gone = λ x d. absurd d;
}

-- In every run whose names leave only out of what is in, nothing that is met under a guard still held is destroyed.
pub every_run_keeps_met : (uses : Usage) (s new : State) (log : List Entry) → IsFresh s → (run : Runs s log new)
    → LeavesWell uses s log new run → KeepsLoaded (met_past_of uses s log new run)
every_run_keeps_met uses s new log fresh run leaves =
    runs_apart uses s new [] log (no_met_past uses s) (fresh_linked s fresh) (fresh_holds s fresh)
    (fresh_meets uses s fresh) run leaves
