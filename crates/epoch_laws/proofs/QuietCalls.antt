-- A call of a participant p whom nobody disturbs: what is known of its machine between the steps of a round.
use Rattle.std.proofs.Common.{◌≡◌, ◌≢◌, ℕ, ◌+◌, ◌-◌, ◌*◌, ◌%◌, ◌^◌, ◌<◌, ◌≤◌, ◌==◌, ◌&&◌, min, Bool, true, false, not}
use Rattle.std.proofs.Common.{List, [], ◌∷◌, length, Some, None, ◌⊎◌, inl, inr, refl, sym, subst}
use Rattle.std.proofs.Common.{◌∙◌, arith}
use Rattle.std.proofs.lemmas.Bool.Decides.{nat_tests}
use Rattle.std.proofs.Math.Nat.{min-eq_left, min-eq_right}
use Rattle.epoch_machine.specs.declared.machine.Sizes.{Sizes}
use Rattle.epoch_machine.specs.declared.machine.Stage.{Stage}
use Rattle.epoch_machine.specs.declared.machine.Stage.TheVariants.{LoadPin, StorePin, ReloadPin}
use Rattle.epoch_machine.specs.declared.machine.Stage.TheVariants.{LoadScan, Scan, Advance, Take, Calling}
use Rattle.epoch_machine.specs.declared.machine.Stage.TheVariants.{StoreUnpinned, End}
use Rattle.epoch_machine.specs.Machine.{Machine, is_taking}
use Rattle.epoch_machine.specs.Machine.{after_collect, after_unpin, holds_up}
use Rattle.epoch_laws.specs.declared.heap.access.AccessAnswer.TheVariants.{Guard, Unit as UnitAnswer}
use Rattle.epoch_laws.specs.declared.step.Call.{Call}
use Rattle.epoch_laws.specs.declared.step.Call.TheVariants.{Pin, Unpin, Flush}
use Rattle.epoch_laws.specs.declared.step.Deferral.{Deferral}
use Rattle.epoch_laws.specs.declared.step.Progress.TheVariants.{Driven}
use Rattle.epoch_laws.specs.declared.step.Reply.{Reply}
use Rattle.epoch_laws.specs.declared.step.Reply.TheVariants.{Done}
use Rattle.epoch_laws.specs.declared.step.Word.{Word}
use Rattle.epoch_laws.specs.declared.step.Word.TheVariants.{Free, Unpinned, Pinned}
use Rattle.epoch_laws.specs.Calls.{ends_call}
use Rattle.epoch_laws.specs.Kept.{action_of}
use Rattle.epoch_laws.specs.Run.{Bag, WorldSeat, State, seat_of, position_word}
use Rattle.epoch_laws.specs.Run.{lowest}
use Rattle.epoch_laws.specs.Run.{without, full_or_done}
use Rattle.epoch_laws.specs.Tickets.{times, times_queued, calls_of}
use Rattle.epoch_laws.proofs.SeatsFine.{is_pinned}
use Rattle.epoch_laws.proofs.JobsPlaced.{HandAt}
use Rattle.epoch_laws.proofs.StoredBags.{SealedBy}

-- A call of a round of p: what it began with, and what its steps lead to.
pub record Plan : Type 0 where
  pub p : ℕ
  pub call : Call
  pub sizes : Sizes
  pub held : List Deferral  -- the jobs held all along
  pub full : Bool  -- whether its own put found no place
  pub epoch : ℕ  -- the epoch in which the round pins
  pub next : ℕ  -- the one after it, where there is one
  pub bound : ℕ  -- no bag's seal is greater
  pub bags : ℕ  -- there were so many bags at most
  pub total : ℕ → ℕ  -- how often each job was in the store, or called

-- the epoch after this one, where there is one
abbrev pub IsNext : ℕ → ℕ → Type 0
IsNext epoch next = ((epoch ≢ 2 ^ 63 - 1) × (next ≡ epoch + 1)) ⊎ ((epoch ≡ 2 ^ 63 - 1) × (next ≡ epoch))

-- the round's epoch, or the next one
abbrev pub Near : Plan → ℕ → Type 0
Near v epoch = (epoch ≡ v.epoch) ⊎ ((epoch ≡ v.next) × (v.next ≡ v.epoch + 1))

-- what holds at the end of each call of a round, where so many bags are left
abbrev pub After : Plan → ℕ → ℕ → Word → Call → Type 0
After v epoch left w Pin = (w ≡ Pinned v.epoch) × Near v epoch × (left ≤ v.bags)
After v epoch left w (Flush g) = (w ≡ Pinned v.epoch) × (epoch ≡ v.next) × (left ≤ v.bags)
    × (v.bound + 2 ≤ v.next → left ≤ v.bags - v.sizes.collect_bags)
After v epoch left w (Unpin g) = (w ≡ Unpinned) × (epoch ≡ v.epoch) × (left ≤ v.bags)
After v epoch left w _ = ⊥

-- the calls that collect, and the one that unpins
abbrev pub Collects : Call → Type 0
Collects Pin = Unit {0}
Collects (Flush (Some g)) = Unit {0}
Collects _ = ⊥

abbrev pub IsUnpin : Call → Type 0
IsUnpin (Unpin (Some g)) = Unit {0}
IsUnpin _ = ⊥

-- the guards counted while the call is under way, and from its end on
abbrev pub guards_in : Call → List ℕ
guards_in (Flush (Some g)) = g ∷ []
guards_in (Unpin (Some g)) = g ∷ []
guards_in _ = []

abbrev pub guards_out : Call → List ℕ
guards_out Pin = lowest [] ∷ []
guards_out (Flush (Some g)) = g ∷ []
guards_out _ = []

-- what the call is told at its end
abbrev pub told_of : Call → Bool → Reply
told_of Pin full = Done (Guard (lowest []))
told_of (Flush g) full = full_or_done full
told_of _ full = Done UnitAnswer

-- after so many bags of a collection all that are left are ahead of it, or as many as it may still take
abbrev pub Enough : ℕ → ℕ → ℕ → Type 0
Enough taken left ahead = (64 ≤ ahead + taken) ⊎ (left ≤ ahead)

-- what is known of the epoch, the bags and the word at each stage
abbrev pub KnowsAt : Plan → ℕ → ℕ → ℕ → Word → Stage → Type 0
KnowsAt v epoch left ahead w LoadPin = (v.call ≡ Pin) × (epoch ≡ v.epoch) × (left ≤ v.bags)
KnowsAt v epoch left ahead w (StorePin e) = (v.call ≡ Pin) × (e ≡ v.epoch) × (epoch ≡ v.epoch) × (left ≤ v.bags)
KnowsAt v epoch left ahead w ReloadPin = (v.call ≡ Pin) × (w ≡ Pinned v.epoch) × (epoch ≡ v.epoch) × (left ≤ v.bags)
KnowsAt v epoch left ahead w LoadScan = Collects v.call × (w ≡ Pinned v.epoch) × Near v epoch × (left ≤ v.bags)
KnowsAt v epoch left ahead w (Scan e k) = Collects v.call × (w ≡ Pinned v.epoch) × (e ≡ epoch)
    × ((e ≡ v.epoch) ⊎ ((e ≡ v.next) × (v.next ≡ v.epoch + 1) × (k ≤ v.p))) × (left ≤ v.bags)
KnowsAt v epoch left ahead w (Advance e) = Collects v.call × (w ≡ Pinned v.epoch) × (v.next ≡ e + 1) × (left ≤ v.bags)
KnowsAt v epoch left ahead w (Take x k) = Collects v.call × (w ≡ Pinned v.epoch) × (x ≡ v.next) × (epoch ≡ v.next)
    × (left + k ≤ v.bags) × (k < v.sizes.collect_bags) × (v.bound + 2 ≤ v.next → Enough k left ahead)
KnowsAt v epoch left ahead w (Calling x k) = Collects v.call × (w ≡ Pinned v.epoch) × (x ≡ v.next) × (epoch ≡ v.next)
    × (left + (k + 1) ≤ v.bags) × (k < v.sizes.collect_bags) × (v.bound + 2 ≤ v.next → Enough (k + 1) left ahead)
KnowsAt v epoch left ahead w StoreUnpinned = IsUnpin v.call × (epoch ≡ v.epoch) × (left ≤ v.bags)
KnowsAt v epoch left ahead w End = After v epoch left w v.call
KnowsAt v epoch left ahead w _ = ⊥

-- what is known of p's machine and word, of the epoch and of the bags at this stage of the call
pub record Known (v : Plan) (called : ℕ → ℕ) (epoch : ℕ) (queued : List Bag) (ahead : ℕ) (w : Word)
    (m : Machine Deferral) (s : Stage) : Type 0 where
  pub held : m.held ≡ v.held
  pub full : m.full ≡ v.full
  pub action : m.action ≡ action_of v.call
  pub sizes : m.sizes ≡ v.sizes
  pub counted : m.guards ≡ length (guards_in v.call)
  pub hand : HandAt m.hand s
  pub seals : SealedBy v.bound queued
  pub placed : (t : ℕ) → times_queued t queued + times t m.hand + called t ≡ v.total t
  pub at : KnowsAt v epoch (length queued) ahead w s

-- who doesn't disturb p
abbrev pub IsStill : WorldSeat → Type 0
IsStill seat = (is_pinned seat.word ≡ false) × (is_taking seat.machine.stage ≡ false)

-- the call is under way
pub record IsUnderWay (v : Plan) (called : ℕ → ℕ) (s : State) (ahead : ℕ) : Type 0 where
  pub there : v.p < length s.seats
  pub positions : v.sizes.positions ≡ length s.seats
  pub others : (q : ℕ) → q ≢ v.p → IsStill (seat_of s q)
  pub taken : position_word s v.p ≢ Free
  pub progress : (seat_of s v.p).progress ≡ Driven v.call
  pub guards : (seat_of s v.p).guards ≡ guards_in v.call
  pub known : Known v called s.epoch s.queued ahead (position_word s v.p) (seat_of s v.p).machine
      (seat_of s v.p).machine.stage

-- p is between two calls, with these guards and jobs
pub record Rests (p : ℕ) (sizes : Sizes) (jobs : List Deferral) (out : List ℕ) (bound : ℕ) (total called : ℕ → ℕ)
    (s : State) : Type 0 where
  pub there : p < length s.seats
  pub positions : sizes.positions ≡ length s.seats
  pub others : (q : ℕ) → q ≢ p → IsStill (seat_of s q)
  pub taken : position_word s p ≢ Free
  pub guards : (seat_of s p).guards ≡ out
  pub counted : (seat_of s p).machine.guards ≡ length out
  pub held : (seat_of s p).machine.held ≡ jobs
  pub hand : (seat_of s p).machine.hand ≡ []
  pub sized : (seat_of s p).machine.sizes ≡ sizes
  pub seals : SealedBy bound s.queued
  pub placed : (t : ℕ) → times_queued t s.queued + called t ≡ total t

-- the call has ended with this reply
pub record HasEnded (v : Plan) (called : ℕ → ℕ) (r : Reply) (s : State) : Type 0 where
  pub rests : Rests v.p v.sizes v.held (guards_out v.call) v.bound v.total called s
  pub after : After v s.epoch (length s.queued) (position_word s v.p) v.call
  pub told : r ≡ told_of v.call v.full

-- what comes of a step
abbrev pub Comes : Plan → (ℕ → ℕ) → Reply → State → ℕ → Type 0
Comes v called r s ahead =
    ((ends_call r ≡ false) × IsUnderWay v called s ahead) ⊎ ((ends_call r ≡ true) × HasEnded v called r s)

-- LEMMAS ON STAGES

-- what the test of two numbers tells
pub eq_true : (x y : ℕ) → (x == y) ≡ true → x ≡ y
eq_true x y e = grind (arith, nat_tests)

-- two numbers whose test fails differ
pub eq_false : (x y : ℕ) → (x == y) ≡ false → x ≢ y
eq_false x y e = grind (arith, nat_tests)

-- where the epoch is the greatest, no other one comes
pub at_top : (e f : ℕ) → IsNext e f → e ≡ 2 ^ 63 - 1 → f ≡ e
at_top e f (inl n) at = absurd (n.0 at)
at_top e f (inr n) at = n.1

-- and else the next one is one greater
pub below_top : (e f : ℕ) → IsNext e f → e ≢ 2 ^ 63 - 1 → f ≡ e + 1
below_top e f (inl n) at = n.1
below_top e f (inr n) at = absurd (at n.0)

-- the stage after a collection
pub to_end : (c : Call) (held : List Deferral) → Collects c → after_collect (action_of c) held ≡ End
to_end Pin held h = refl
to_end (Flush (Some g)) held h = refl
to_end (Flush None) held h = absurd h
to_end _ held h = absurd h

-- whoever sees the next epoch is near
near_next : (v : Plan) (epoch : ℕ) → IsNext v.epoch v.next → epoch ≡ v.next → Near v epoch
near_next v epoch (inl n) e = inr (e, n.1)
near_next v epoch (inr n) e = inl (e ∙ n.1)

-- what a collection has done for the call that made it
pub collected : (v : Plan) (epoch left : ℕ) (w : Word) (c : Call)
    → IsNext v.epoch v.next → Collects c → w ≡ Pinned v.epoch → epoch ≡ v.next → left ≤ v.bags
    → (v.bound + 2 ≤ v.next → left ≤ v.bags - v.sizes.collect_bags) → After v epoch left w c
collected v epoch left w Pin next h word e few all = (word, near_next v epoch next e, few)
collected v epoch left w (Flush g) next h word e few all = (word, e, few, all)
collected v epoch left w _ next h word e few all = absurd h

-- the stage after the word is unpinned, and what is known then
pub unpinned_end : (c : Call) (full : Bool) → IsUnpin c → after_unpin (action_of c) full ≡ End
unpinned_end (Unpin (Some g)) full h = refl
unpinned_end (Unpin None) full h = absurd h
unpinned_end _ full h = absurd h

-- what an unpin has done at its end: the word is unpinned, in the round's epoch, and no more bags are left than before
pub unpinned_after : (v : Plan) (epoch left : ℕ) (c : Call)
    → IsUnpin c → epoch ≡ v.epoch → left ≤ v.bags → After v epoch left Unpinned c
unpinned_after v epoch left (Unpin (Some g)) h e few = (refl, e, few)
unpinned_after v epoch left (Unpin None) h e few = absurd h
unpinned_after v epoch left _ h e few = absurd h

-- a pinned word holds up a scan for another epoch, and no other scan
pub holds_pinned : (e n : ℕ) → n ≡ e → holds_up e (2 * n + 1) ≡ false
holds_pinned e n same =
    subst (λ (b : Bool). (((2 * n + 1) % 2 == 1) && not b) ≡ false) (sym equal) (and_false ((2 * n + 1) % 2 == 1))
  where
    and_false : (b : Bool) → (b && false) ≡ false
    and_false true = refl
    and_false false = refl

    equal : (2 * n + 1 == 2 * e + 1) ≡ true
    equal = grind (arith, nat_tests)

-- so much is ahead of a collection that begins
pub enough_at_first : (left ahead : ℕ) → min 64 ahead ≡ min 64 left → Enough 0 left ahead
enough_at_first left ahead same = elim (split 64 ahead) [
  | inl le ↦ inl (omega arith)
  | inr le ↦ elim (split 64 left) [
    | inl more ↦ let all : min 64 left ≡ 64 = min-eq_left more in
        let few : min 64 ahead ≡ ahead = min-eq_right le in
        inl (omega arith)
    | inr less ↦ let all : min 64 left ≡ left = min-eq_right less in
        let few : min 64 ahead ≡ ahead = min-eq_right le in
        inr (omega arith)
  ]
]
  where
    split : (a b : ℕ) → (a ≤ b) ⊎ (b ≤ a)
    split a b = grind arith

-- it stays enough where no bag was taken, and where one was
pub enough_same : (k left left' ahead ahead' : ℕ)
    → Enough k left ahead → ahead + left' ≡ ahead' + left → left' ≡ left → Enough k left' ahead'
enough_same k left left' ahead ahead' (inl e) count same = inl (omega arith)
enough_same k left left' ahead ahead' (inr e) count same = inr (omega arith)

-- it stays enough where one more bag was taken
pub enough_less : (k left left' ahead ahead' : ℕ)
    → Enough k left ahead → ahead + left' ≡ ahead' + left → left ≡ left' + 1 → Enough (k + 1) left' ahead'
enough_less k left left' ahead ahead' (inl e) count same = inl (omega arith)
enough_less k left left' ahead ahead' (inr e) count same = inr (omega arith)

-- where nothing is ahead, and few were taken, no bag is left
pub enough_none : (k left ahead : ℕ) → Enough k left ahead → ahead ≡ 0 → k < 64 → left ≡ 0
enough_none k left ahead (inl e) none below = absurd (omega arith)
enough_none k left ahead (inr e) none below = omega arith

-- a full store calls no job
full_calls : (t : ℕ) (full : Bool) → calls_of t (full_or_done full) ≡ 0
full_calls t true = refl
full_calls t false = refl

-- the end of a call calls no job, and ends it
pub told_calls : (t : ℕ) (c : Call) (full : Bool) → calls_of t (told_of c full) ≡ 0
told_calls t Pin full = refl
told_calls t (Flush g) full = full_calls t full
told_calls t _ full = refl

-- nor does it keep the call from its end
full_ends : (full : Bool) → ends_call (full_or_done full) ≡ true
full_ends true = refl
full_ends false = refl

-- what a call is told at its end does end it, whether its put found a place or not
pub told_ends : (c : Call) (full : Bool) → ends_call (told_of c full) ≡ true
told_ends Pin full = refl
told_ends (Flush g) full = full_ends full
told_ends _ full = refl

-- the only guard is spent
pub alone : (g : ℕ) → without g (g ∷ []) ≡ []
alone g = simp same
  where
    same : (g == g) ≡ true
    same = grind (arith, nat_tests)
