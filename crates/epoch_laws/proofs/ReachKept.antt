-- What was in reach since a participant published holds what it has loaded, and nothing that is destroyed.
use Rattle.std.proofs.Common.{◌≡◌, ℕ, ◌<◌, ◌≤◌, ◌==◌, true, false, not, List, [], ◌∷◌, ◌++◌, length, Some, ◌⊎◌, inl}
use Rattle.std.proofs.Common.{inr, refl, ap, subst, ◌∙◌, arith}
use Rattle.std.proofs.lemmas.Bool.Decides.{nat_tests}
use Rattle.epoch_cells.specs.declared.cells.name.Name.{Name}
use Rattle.epoch_bags.specs.declared.job.Called.TheVariants.{Destroyed}
use Rattle.epoch_machine.specs.declared.machine.Stage.TheVariants.{Idle as Resting}
use Rattle.epoch_laws.specs.declared.step.Call.TheVariants.{Unpin, Pause}
use Rattle.epoch_laws.specs.declared.step.Reply.TheVariants.{Deferred}
use Rattle.epoch_laws.specs.declared.step.Entry.{Entry}
use Rattle.epoch_laws.specs.declared.step.Progress.{Progress}
use Rattle.epoch_laws.specs.declared.step.Progress.TheVariants.{Driven, Accesses}
use Rattle.epoch_laws.specs.declared.heap.access.Spot.{Spot}
use Rattle.epoch_laws.specs.declared.heap.access.Spot.TheVariants.{Root, Field}
use Rattle.epoch_laws.specs.Grace.{IsReplyAt, KeepsGrace}
use Rattle.epoch_laws.specs.Heap.{guard_of}
use Rattle.epoch_laws.specs.Run.{WorldSeat, State, seat_of, position_word, is_out}
use Rattle.epoch_laws.specs.Reach.{Leads, IsReachable, from_root, from_field, Past, LetsGo, IsLoadedFrom, Meets}
use Rattle.epoch_laws.specs.Reach.{past_after, LeavesRightly, KeepsLoaded}
use Rattle.epoch_laws.proofs.SeatLinks.{AllLinked, follows_at}
use Rattle.epoch_laws.proofs.Log.{IsPublish, IsWithdrawal, PinnedSince, stands_keep, stands_new, pinned_push}
use Rattle.epoch_laws.proofs.Log.{pinned_keep, pinned_new, pinned_within, length_push, grace_refuses}
use Rattle.epoch_laws.proofs.SeatsFine.{is_pinned, publishes_at}
use Rattle.epoch_laws.proofs.WorldHolds.{Holds}

-- GUARDS

-- the call under way gives the guard up at its end
abbrev pub GivesUp : ℕ → Progress → Type 0
GivesUp g (Driven (Unpin (Some other))) = other ≡ g
GivesUp g (Driven (Pause (Some other))) = other ≡ g
GivesUp g _ = ⊥

-- the guard is out, and is so still when the call under way ends
abbrev pub IsOut : ℕ → WorldSeat → Type 0
IsOut g seat = (is_out g seat.guards ≡ true) × (¬ (GivesUp g seat.progress))

-- the guard of a call on cells and pointers that is under way is out
abbrev pub GuardsAccess : Progress → List ℕ → Type 0
GuardsAccess (Accesses a k found) guards = (g : ℕ) → guard_of a ≡ Some g → is_out g guards ≡ true
GuardsAccess _ guards = Unit {0}

abbrev pub Guarded : WorldSeat → Type 0
Guarded seat = GuardsAccess seat.progress seat.guards

-- where a guard is out, the number of guards counted isn't zero
pub some_counted : (g : ℕ) (guards : List ℕ) (n : ℕ) → n ≡ length guards → is_out g guards ≡ true → (n == 0) ≡ false
some_counted g [] n counted out = absurd (cc)
some_counted g (first ∷ guards) n counted out = more (length guards) n counted
  where
    more : (k n : ℕ) → n ≡ length (first ∷ guards) → (n == 0) ≡ false
    more k n e = let some : 0 < n = omega arith in tested n some
      where
        tested : (n : ℕ) → 0 < n → (n == 0) ≡ false
        tested n some = grind (arith, nat_tests)

-- WHAT HOLDS BETWEEN ANY TWO STEPS

pub record ReachHolds (s : State) (log : List Entry) (past : Past) : Type 1 where
  pub recent : ℕ → Name → Type 0  -- the names that were in reach at some moment since a participant published last
  pub now : (p : ℕ) → is_pinned (position_word s p) ≡ true → (at : ℕ) × PinnedSince log p at
  pub guarded : (p : ℕ) → Guarded (seat_of s p)
  pub recent_reach : (p : ℕ) (x : Name) → IsReachable s.heap x → recent p x
  pub recent_was : (p : ℕ) (x : Name) → recent p x → past.reached x
  pub recent_field : (p : ℕ) (y : Name) (f : ℕ) (x : Name)
      → recent p y → Leads s.heap (Field y f) x → ¬ (¬ (recent p x))
  pub loaded : (p g : ℕ) (x : Name) → past.loaded p g x
      → (is_pinned (position_word s p) ≡ true) × IsOut g (seat_of s p) × (¬ (¬ (recent p x)))
  pub removed : (t : ℕ) (x : Name) → past.removes t x
      → past.left x
      × ((i : ℕ) × IsReplyAt log i (Deferred t) × ((p at : ℕ) → PinnedSince log p at → recent p x → at ≤ i))
  pub gone : (x : Name) → past.destroyed x
      → past.left x × ((p : ℕ) → is_pinned (position_word s p) ≡ true → ¬ (recent p x))

-- what is loaded isn't destroyed
pub holds_apart : (s : State) (log : List Entry) (past : Past) → ReachHolds s log past → KeepsLoaded past
holds_apart s log past k p g x loaded destroyed =
    let l = k.loaded p g x loaded in l.2 (λ recent. (k.gone x destroyed).1 p l.0 recent)

-- What a step must show: of each participant's word and guards, and of the fields.
pub record KeepsReach (past : Past) (old new : State) (x : Entry) : Type 0 where
  pub pinned : (q : ℕ) → is_pinned (position_word new q) ≡ true
      → IsPublish x.reply q ⊎ ((is_pinned (position_word old q) ≡ true) × (¬ (IsWithdrawal x.reply q)))
  pub holding : (q g : ℕ) → is_pinned (position_word old q) ≡ true → IsOut g (seat_of old q) → ¬ (LetsGo x q g)
      → (is_pinned (position_word new q) ≡ true) × IsOut g (seat_of new q) × (¬ (IsPublish x.reply q))
  pub guarded : (q : ℕ) → Guarded (seat_of old q) → Guarded (seat_of new q)
  pub fields : (y : Name) (f : ℕ) (z : Name) → past.reached y → Leads new.heap (Field y f) z
      → ¬ (¬ (Leads old.heap (Field y f) z ⊎ IsReachable new.heap y))

-- A STEP THAT SHOWS IT

module _ (old new : State) (log : List Entry) (x : Entry) (past : Past) (k : ReachHolds old log past)
    (leaves : LeavesRightly past old x new) (grace : KeepsGrace (log ++ x ∷ [])) (holds : Holds old log)
    (linked : AllLinked old) (step : KeepsReach past old new x) where
  abbrev next : Past
  next = past_after past old x new

  abbrev Recent : ℕ → Name → Type 0
  Recent p y = ((¬ (IsPublish x.reply p)) × k.recent p y) ⊎ IsReachable new.heap y

  recent_was : (p : ℕ) (y : Name) → Recent p y → next.reached y
  recent_was p y (inl h) = inl (k.recent_was p y h.1)
  recent_was p y (inr r) = inr r

  recent_field : (p : ℕ) (y : Name) (f : ℕ) (z : Name) → Recent p y → Leads new.heap (Field y f) z → ¬ (¬ (Recent p z))
  recent_field p y f z (inr r) leads never = never (inr (from_field y f z r leads))
  recent_field p y f z (inl h) leads never = step.fields y f z (k.recent_was p y h.1) leads (λ way. elim way [
    | inl was ↦ k.recent_field p y f z h.1 was (λ r. never (inl (h.0, r)))
    | inr r ↦ never (inr (from_field y f z r leads))
  ])

  now_after : (p : ℕ) → is_pinned (position_word new p) ≡ true → (at : ℕ) × PinnedSince (log ++ x ∷ []) p at
  now_after p pin = elim (step.pinned p pin) [
    | inl publish ↦ (length log, pinned_new log x p publish)
    | inr was ↦ let n = k.now p was.0 in (n.0, pinned_keep log x p n.0 n.1 was.1)
  ]

  abbrev IsSafe : ℕ → ℕ → Name → Type 0
  IsSafe p g y = (is_pinned (position_word new p) ≡ true) × IsOut g (seat_of new p) × (¬ (¬ (Recent p y)))

  met : (p g : ℕ) (y : Name) → ¬ (LetsGo x p g) → Meets (past.loaded p g) old x new p g y → IsSafe p g y
  met p g y kept meets = (hold.0, hold.1, at_spot meets.spot meets.within meets.named)
    where
      counted : is_out g (seat_of old p).guards ≡ true
      counted = subst (λ (progress : Progress). GuardsAccess progress (seat_of old p).guards) meets.points.progress
          (k.guarded p) g refl

      out : IsOut g (seat_of old p)
      out = (counted, λ gives. subst (GivesUp g) meets.points.progress gives)

      idle : (seat_of old p).machine.stage ≡ Resting
      idle = follows_at old.sizes (seat_of old p) (linked.seats p) _ meets.points.progress

      pin : is_pinned (position_word old p) ≡ true
      pin = (holds.seats p).agrees ∙ ap (publishes_at (seat_of old p).machine) idle
          ∙ ap not
          (some_counted g (seat_of old p).guards (seat_of old p).machine.guards (linked.seats p).counted counted)

      hold : (is_pinned (position_word new p) ≡ true) × IsOut g (seat_of new p) × (¬ (IsPublish x.reply p))
      hold = step.holding p g pin out kept

      at_spot : (spot : Spot) → IsLoadedFrom (past.loaded p g) spot → Leads old.heap spot y ⊎ Leads new.heap spot y
          → ¬ (¬ (Recent p y))
      at_spot (Root i) l (inl leads) never = never (inl (hold.2, k.recent_reach p y (from_root i y leads)))
      at_spot (Root i) l (inr leads) never = never (inr (from_root i y leads))
      at_spot (Field z f) l (inl leads) never =
          (k.loaded p g z l).2 (λ r. k.recent_field p z f y r leads (λ s. never (inl (hold.2, s))))
      at_spot (Field z f) l (inr leads) never =
          (k.loaded p g z l).2 (λ r. recent_field p z f y (inl (hold.2, r)) leads never)

  -- a name that is so found or left was in reach at some moment since the participant published, or is
  pub met_recently : (p g : ℕ) (y : Name) → ¬ (LetsGo x p g) → Meets (past.loaded p g) old x new p g y
      → ¬ (¬ (k.recent p y ⊎ IsReachable new.heap y))
  met_recently p g y kept meets never =
      (met p g y kept meets).2 (λ r. elim r [ inl was ↦ never (inl was.1) | inr reach ↦ never (inr reach) ])

  loaded_after : (p g : ℕ) (y : Name) → next.loaded p g y → IsSafe p g y
  loaded_after p g y (kept, inl was) =
      let l = k.loaded p g y was in
      let hold = step.holding p g l.0 l.1 kept in
      (hold.0, hold.1, λ never. l.2 (λ r. never (inl (hold.2, r))))
  loaded_after p g y (kept, inr meets) = met p g y kept meets

  removed_after : (t : ℕ) (y : Name) → next.removes t y
      → next.left y × ((i : ℕ) × IsReplyAt (log ++ x ∷ []) i (Deferred t)
      × ((p at : ℕ) → PinnedSince (log ++ x ∷ []) p at → Recent p y → at ≤ i))
  removed_after t y (inr defers) = (
    inr (inl (t, defers)),
    (
      length log,
      stands_new log x ∙ ap Some defers.reply,
      λ p at now recent. omega (arith, pinned_within (log ++ x ∷ []) p at now, length_push log x),
    ),
  )
  removed_after t y (inl was) = (inl r.0, (r.1.0, stands_keep log x r.1.0 _ r.1.1, bound))
    where
      r : past.left y
          × ((i : ℕ) × IsReplyAt log i (Deferred t) × ((p at : ℕ) → PinnedSince log p at → k.recent p y → at ≤ i))
      r = k.removed t y was

      bound : (p at : ℕ) → PinnedSince (log ++ x ∷ []) p at → Recent p y → at ≤ r.1.0
      bound p at now (inr reach) = absurd (leaves.out y (inl r.0) reach)
      bound p at now (inl recent) = elim (pinned_push log x p at now) [
        | inl new ↦ absurd (recent.0 new.1)
        | inr was ↦ r.1.2 p at was.0 recent.1
      ]

  gone_after : (y : Name) → next.destroyed y
      → next.left y × ((p : ℕ) → is_pinned (position_word new p) ≡ true → ¬ (Recent p y))
  gone_after y (inl was) = (inl g.0, apart)
    where
      g : past.left y × ((p : ℕ) → is_pinned (position_word old p) ≡ true → ¬ (k.recent p y))
      g = k.gone y was

      apart : (p : ℕ) → is_pinned (position_word new p) ≡ true → ¬ (Recent p y)
      apart p pin (inr reach) = leaves.out y (inl g.0) reach
      apart p pin (inl recent) =
          elim (step.pinned p pin) [ inl publish ↦ recent.0 publish | inr was ↦ g.1 p was.0 recent.1 ]
  gone_after y (inr (inl (t, removes, reply))) = (inl r.0, apart)
    where
      r : past.left y
          × ((i : ℕ) × IsReplyAt log i (Deferred t) × ((p at : ℕ) → PinnedSince log p at → k.recent p y → at ≤ i))
      r = k.removed t y removes

      apart : (p : ℕ) → is_pinned (position_word new p) ≡ true → ¬ (Recent p y)
      apart p pin (inr reach) = leaves.out y (inl r.0) reach
      apart p pin (inl recent) = elim (step.pinned p pin) [
        | inl publish ↦ recent.0 publish
        | inr was ↦ let n = k.now p was.0 in
            grace_refuses log x grace t Destroyed reply r.1.0 p n.0 r.1.1 n.1 (r.1.2 p n.0 n.1 recent.1)
      ]
  gone_after y (inr (inr (inl takes))) = (
    inr (inr takes),
    λ p pin recent. elim recent [
      | inl h ↦ leaves.taken_unreached y takes (k.recent_was p y h.1)
      | inr reach ↦ leaves.out y (inr (inr takes)) reach
    ],
  )
  gone_after y (inr (inr (inr now))) = absurd (leaves.never_now y now)

  pub reach_push : ReachHolds new (log ++ x ∷ []) next
  reach_push = record {
    recent = Recent;
    now = now_after;
    guarded = λ p. step.guarded p (k.guarded p);
    recent_reach = λ p y reach. inr reach;
    recent_was = recent_was;
    recent_field = recent_field;
    loaded = loaded_after;
    removed = removed_after;
    gone = gone_after;
  }

  -- what it calls recent is in reach after the step, or was recent before, and its participant doesn't publish
  pub recent_pushed : (p : ℕ) (y : Name) → reach_push.recent p y
      → ((¬ (IsPublish x.reply p)) × k.recent p y) ⊎ IsReachable new.heap y
  unfolding reach_push
  recent_pushed p y recent = recent
