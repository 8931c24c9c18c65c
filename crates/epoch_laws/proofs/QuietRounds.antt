-- Whole calls of a round that nobody disturbs, and whole rounds.
use Rattle.std.proofs.Common.{◌≡◌, ◌≢◌, ℕ, zero, suc, ◌+◌, ◌-◌, ◌*◌, ◌^◌, ◌<◌, ◌≤◌, ◌==◌, Bool, true, false, List, []}
use Rattle.std.proofs.Common.{◌∷◌, ◌++◌, length, Option, Some, None, ◌⊎◌, inl, inr, refl, ap, sym, subst, ◌∙◌, arith}
use Rattle.std.proofs.Common.{if◌then◌else◌, length-set, suc-mul}
use Rattle.std.proofs.lemmas.Bool.Decides.{nat_tests}
use Rattle.std.proofs.lemmas.List.Sums.{sum_by-append, sum_by-cons}
use Rattle.epoch_cells.specs.declared.fault.Fault.{Fault}
use Rattle.epoch_machine.specs.declared.machine.Action.{Action}
use Rattle.epoch_machine.specs.declared.machine.Action.TheVariants.{Pin as PinAction, Unpin as UnpinAction}
use Rattle.epoch_machine.specs.declared.machine.Action.TheVariants.{Flush as FlushAction}
use Rattle.epoch_machine.specs.declared.machine.Sizes.{Sizes}
use Rattle.epoch_machine.specs.declared.machine.Stage.{Stage}
use Rattle.epoch_machine.specs.declared.machine.Stage.TheVariants.{LoadPin, LoadScan, LoadSeal, StoreUnpinned, End}
use Rattle.epoch_machine.specs.Machine.{Machine, IsSized, is_empty, begun, first_stage}
use Rattle.epoch_laws.specs.declared.heap.access.AccessAnswer.TheVariants.{Guard, Unit as UnitAnswer}
use Rattle.epoch_laws.specs.declared.step.Call.{Call}
use Rattle.epoch_laws.specs.declared.step.Call.TheVariants.{Pin, Unpin, Flush}
use Rattle.epoch_laws.specs.declared.step.Deferral.{Deferral}
use Rattle.epoch_laws.specs.declared.step.Entry.{Entry}
use Rattle.epoch_laws.specs.declared.step.Reply.{Reply}
use Rattle.epoch_laws.specs.declared.step.Reply.TheVariants.{Began, Done}
use Rattle.epoch_laws.specs.declared.step.Step.TheVariants.{Begin, Go}
use Rattle.epoch_laws.specs.declared.step.Word.TheVariants.{Pinned}
use Rattle.epoch_laws.specs.Calls.{goes_of, ends_call, AllGoOn}
use Rattle.epoch_laws.specs.Kept.{action_of}
use Rattle.epoch_laws.specs.Rounds.{call_to, IsRound, AreRounds}
use Rattle.epoch_laws.specs.Run.{Bag, WorldSeat, State, seat_of, position_word, with_seat, with_places, ahead_of}
use Rattle.epoch_laws.specs.Run.{lowest, begun_seat, drives, refusal, BeginsCall, TakesStep, Runs}
use Rattle.epoch_laws.specs.Tickets.{times, calls_of, times_called}
use Rattle.epoch_laws.proofs.JobsPlaced.{HandAt}
use Rattle.epoch_laws.proofs.SeatLemmas.{seat_written, seat_other}
use Rattle.epoch_laws.proofs.QuietCalls.{Plan, IsNext, guards_in, KnowsAt, Known, IsStill, IsUnderWay, Rests}
use Rattle.epoch_laws.proofs.QuietCalls.{HasEnded}
use Rattle.epoch_laws.proofs.QuietSteps.{go_comes}

-- RUNS AND CALLS

pub runs_split : (s t : State) (a b : List Entry) → Runs s (a ++ b) t → (mid : State) × Runs s a mid × Runs mid b t
runs_split s t [] b run = (s, refl, run)
runs_split s t (x ∷ a) b (mid, did, run) =
    let parts = runs_split mid t a b run in
    (parts.0, (mid, did, parts.1), parts.2)

-- how often a job was called adds up over two logs, one after the other
pub called_append : (t : ℕ) (a b : List Entry) → times_called t (a ++ b) ≡ times_called t a + times_called t b
called_append t a b = sum_by-append (λ (x : Entry). calls_of t x.reply) a b

-- an entry in front of a log adds its own call of a job, if it is one
pub called_cons : (t : ℕ) (x : Entry) (log : List Entry)
    → times_called t (x ∷ log) ≡ calls_of t x.reply + times_called t log
called_cons t x log = sum_by-cons (λ (y : Entry). calls_of t y.reply) x log

-- p is between two calls all the same where the calls of jobs are counted in another way, to the same numbers
pub recount : (p : ℕ) (sizes : Sizes) (jobs : List Deferral) (out : List ℕ) (bound : ℕ) (total called other : ℕ → ℕ)
    (s : State) → ((t : ℕ) → other t ≡ called t)
    → Rests p sizes jobs out bound total called s → Rests p sizes jobs out bound total other s
recount p sizes jobs out bound total called other s same h = record {
  there = h.there;
  positions = h.positions;
  others = h.others;
  taken = h.taken;
  guards = h.guards;
  counted = h.counted;
  held = h.held;
  hand = h.hand;
  sized = h.sized;
  seals = h.seals;
  placed = λ t. omega (arith, h.placed t, same t);
}

-- a call that is under way goes on to its end
pub goes_to_end : (v : Plan) (called : ℕ → ℕ) (old new : State) (going : List Reply) (last : Reply)
    → IsNext v.epoch v.next → v.sizes.collect_bags ≤ 64 → 0 < v.sizes.collect_bags
    → IsUnderWay v called old (ahead_of old v.p) → AllGoOn going → ends_call last ≡ true
    → Runs old (goes_of v.p (going ++ last ∷ [])) new
    → HasEnded v (λ t. called t + times_called t (goes_of v.p (going ++ last ∷ []))) last new
goes_to_end v called old new [] last next few some h on ends (mid, did, run) =
    elim (go_comes v called old mid last next few some h did) [
      | inl going ↦ absurd (cc (going.0, ends))
      | inr ended ↦ subst (HasEnded v _ last) (sym run) (record {
        rests = recount v.p v.sizes v.held _ v.bound v.total _ _ mid
            (λ t. omega (arith, called_cons t (record { step = Go v.p; reply = last }) [])) ended.1.rests;
        after = ended.1.after;
        told = ended.1.told;
      })
    ]
goes_to_end v called old new (r ∷ going) last next few some h on ends (mid, did, run) =
    elim (go_comes v called old mid r next few some h did) [
      | inl goes ↦
          let rest = goes_to_end v
          (λ t. called t + calls_of t r) mid new going last next few some goes.1 on.1 ends run in
          record {
            rests = recount v.p v.sizes v.held _ v.bound v.total _ _ new (λ t. omega (
              arith,
              called_cons t (record { step = Go v.p; reply = r }) (goes_of v.p (going ++ last ∷ [])),
            )) rest.rests;
            after = rest.after;
            told = rest.told;
          }
      | inr ended ↦ absurd (cc (ended.0, on.0))
    ]

-- HOW A CALL BEGINS

pub begun_by : (old new : State) (p : ℕ) (c : Call) (o : Option Fault)
    → BeginsCall old p c o Began new → new ≡ with_seat old p (begun_seat c (seat_of old p))
begun_by old new p c (Some f) did = absurd (cc (did.0))
begun_by old new p c None did = did.1

-- an accepted Begin leads from a state between two calls to one in which the call is under way
pub begins : (v : Plan) (a : Action) (t : Stage) (called : ℕ → ℕ) (old new : State)
    → Rests v.p v.sizes v.held (guards_in v.call) v.bound v.total called old
    → TakesStep old (Begin v.p v.call) Began new
    → begun_seat v.call (seat_of old v.p) ≡ drives a v.call (seat_of old v.p) → a ≡ action_of v.call → v.full ≡ false
    → first_stage a (seat_of old v.p).machine ≡ t → HandAt [] t
    → KnowsAt v old.epoch (length old.queued) (ahead_of new v.p) (position_word old v.p) t
    → IsUnderWay v called new (ahead_of new v.p)
begins v a t called old new h (did, sees) drive action full stage free at = record {
  there = subst (λ (k : ℕ). v.p < k) (sym as_many) h.there;
  positions = h.positions ∙ sym as_many;
  others = λ q other. subst IsStill (sym (wrote q ∙ seat_other old v.p q to other)) (h.others q other);
  taken = λ f. h.taken (ap (λ (st : WorldSeat). st.word) (sym here) ∙ f);
  progress = ap (λ (st : WorldSeat). st.progress) here;
  guards = ap (λ (st : WorldSeat). st.guards) here ∙ h.guards;
  known = subst (λ (epoch : ℕ). Known v called epoch new.queued (ahead_of new v.p) (position_word new v.p)
      (seat_of new v.p).machine (seat_of new v.p).machine.stage) (sym (ap (λ (s : State). s.epoch) made))
      (subst (λ (bags : List Bag). Known v called old.epoch bags (ahead_of new v.p) (position_word new v.p)
      (seat_of new v.p).machine (seat_of new v.p).machine.stage) (sym (ap (λ (s : State). s.queued) made))
      (subst (λ (st : WorldSeat). Known v called old.epoch old.queued
      (ahead_of new v.p) st.word st.machine st.machine.stage) (sym here) known));
}
  where
    m : Machine Deferral
    m = (seat_of old v.p).machine

    to : WorldSeat
    to = drives a v.call (seat_of old v.p)

    made : with_places new old.places old.seen old.ahead old.room ≡ with_seat old v.p to
    made = begun_by old _ v.p v.call (refusal v.call (seat_of old v.p) old.tickets old.heap) did
        ∙ ap (with_seat old v.p) drive

    as_many : length new.seats ≡ length old.seats
    as_many = ap (λ (s : State). length s.seats) made ∙ length-set old.seats v.p to

    wrote : (q : ℕ) → seat_of new q ≡ seat_of (with_seat old v.p to) q
    wrote q = ap (λ (s : State). seat_of s q) made

    here : seat_of new v.p ≡ to
    here = wrote v.p ∙ seat_written old v.p to h.there

    known : Known v called old.epoch old.queued (ahead_of new v.p) (position_word old v.p) (begun a m) (begun a m).stage
    known = subst (λ s. Known v called old.epoch old.queued (ahead_of new v.p) (position_word old v.p) (begun a m) s)
        (sym stage) (record {
          held = h.held;
          full = sym full;
          action = action;
          sizes = h.sized;
          counted = h.counted;
          hand = subst (λ (jobs : List Deferral). HandAt jobs t) (sym h.hand) free;
          seals = h.seals;
          placed = λ u. omega (arith, h.placed u, ap (times u) h.hand);
          at = at;
        })

-- every epoch has a next one, which at the last is itself
pub next_of : (epoch : ℕ) → (next : ℕ) × IsNext epoch next
next_of epoch = by_top (epoch == 2 ^ 63 - 1) refl
  where
    by_top : (top : Bool) → (epoch == 2 ^ 63 - 1) ≡ top → (next : ℕ) × IsNext epoch next
    by_top true e = let last : epoch ≡ 2 ^ 63 - 1 = grind (arith, nat_tests) in (epoch, inr (last, refl))
    by_top false e = let before : epoch ≢ 2 ^ 63 - 1 = grind (arith, nat_tests) in (epoch + 1, inl (before, refl))

-- THE CALLS OF A ROUND

module _ (p : ℕ) (sizes : Sizes) (sized : IsSized sizes) where
  abbrev Resting : List Deferral → List ℕ → ℕ → (ℕ → ℕ) → (ℕ → ℕ) → State → Type 0
  Resting jobs out bound total called s = Rests p sizes jobs out bound total called s

  abbrev counts : (ℕ → ℕ) → List Entry → ℕ → ℕ
  counts called log t = called t + times_called t log

  -- what is called along the log
  counted_call : (called : ℕ → ℕ) (c : Call) (rs : List Reply) (t : ℕ) → called t + times_called t
      (record { step = Begin p c; reply = Began } ∷ goes_of p rs) ≡ called t + times_called t (goes_of p rs)
  counted_call called c rs t = omega (arith, called_cons t (record { step = Begin p c; reply = Began }) (goes_of p rs))

  pub record Pinning (epoch next bound bags g : ℕ) (jobs : List Deferral) (total called : ℕ → ℕ)
      (s : State) : Type 0 where
    pub rests : Rests p sizes jobs (g ∷ []) bound total called s
    pub word : position_word s p ≡ Pinned epoch
    pub near : (s.epoch ≡ epoch) ⊎ ((s.epoch ≡ next) × (next ≡ epoch + 1))
    pub few : length s.queued ≤ bags

  pub pins : (epoch next bound bags g : ℕ) (jobs : List Deferral) (total called : ℕ → ℕ) (old new : State)
      (going : List Reply) → IsNext epoch next
      → Resting jobs [] bound total called old → old.epoch ≡ epoch → length old.queued ≤ bags → AllGoOn going
      → Runs old (call_to p Pin going (Done (Guard g))) new
      → Pinning epoch next bound bags g jobs total (counts called (call_to p Pin going (Done (Guard g)))) new
  pins epoch next bound bags g jobs total called old new going is_next h at few on (start, did, run) =
      let v : Plan = record {
        p = p;
        call = Pin;
        sizes = sizes;
        held = jobs;
        full = false;
        epoch = epoch;
        next = next;
        bound = bound;
        bags = bags;
        total = total;
      } in
      let under_way = begins v PinAction LoadPin called old start h did refl refl refl
      (ap (λ (n : ℕ). if n == 0 then LoadPin else End) h.counted) refl (refl, at, few) in
      let ended = goes_to_end v called start new going
      (Done (Guard g)) is_next sized.collect_bags.1 sized.collect_bags.0 under_way on refl run in
      let its : lowest [] ≡ g = cc (ended.told) in
      record {
        rests = recount p sizes jobs (g ∷ []) bound total _ _ new
            (λ t. counted_call called Pin (going ++ Done (Guard g) ∷ []) t) (subst (λ (k : ℕ). Rests p sizes jobs
            (k ∷ []) bound total (counts called (goes_of p (going ++ Done (Guard g) ∷ []))) new) its ended.rests);
        word = ended.after.0;
        near = ended.after.1;
        few = ended.after.2;
      }

  pub record Flushing (epoch next bound bags g : ℕ) (total called : ℕ → ℕ) (s : State) : Type 0 where
    pub rests : Rests p sizes [] (g ∷ []) bound total called s
    pub epoch_is : s.epoch ≡ next
    pub few : length s.queued ≤ bags
    pub fewer : bound + 2 ≤ next → length s.queued ≤ bags - sizes.collect_bags

  pub flushes : (epoch next bound bags g : ℕ) (total called : ℕ → ℕ) (old new : State) (going : List Reply)
      (last : Reply) → IsNext epoch next
      → Pinning epoch next bound bags g [] total called old → AllGoOn going → ends_call last ≡ true
      → Runs old (call_to p (Flush (Some g)) going last) new
      → Flushing epoch next bound bags g total (counts called (call_to p (Flush (Some g)) going last)) new
  flushes epoch next bound bags g total called old new going last is_next h on ends (start, did, run) =
      let v : Plan = record {
        p = p;
        call = Flush (Some g);
        sizes = sizes;
        held = [];
        full = false;
        epoch = epoch;
        next = next;
        bound = bound;
        bags = bags;
        total = total;
      } in
      let under_way = begins v FlushAction LoadScan called old start h.rests did refl refl refl
      (ap (λ (jobs : List Deferral). if is_empty jobs then LoadScan else LoadSeal) h.rests.held) refl
      (tt, h.word, h.near, h.few) in
      let ended = goes_to_end v called start new going last is_next sized.collect_bags.1 sized.collect_bags.0
      under_way on ends run in
      record {
        rests = recount p sizes [] (g ∷ []) bound total _ _ new
            (λ t. counted_call called (Flush (Some g)) (going ++ last ∷ []) t) ended.rests;
        epoch_is = ended.after.1;
        few = ended.after.2;
        fewer = ended.after.3;
      }

  pub record Between (epoch bound bags : ℕ) (total called : ℕ → ℕ) (s : State) : Type 0 where
    pub rests : Rests p sizes [] [] bound total called s
    pub epoch_is : s.epoch ≡ epoch
    pub few : length s.queued ≤ bags

  pub unpins : (epoch bound bags g : ℕ) (total called : ℕ → ℕ) (old new : State) (going : List Reply)
      → Resting [] (g ∷ []) bound total called old → old.epoch ≡ epoch → length old.queued ≤ bags → AllGoOn going
      → Runs old (call_to p (Unpin (Some g)) going (Done UnitAnswer)) new
      → Between epoch bound bags total (counts called (call_to p (Unpin (Some g)) going (Done UnitAnswer))) new
  unpins epoch bound bags g total called old new going h at few on (start, did, run) =
      let next = next_of epoch in
      let v : Plan = record {
        p = p;
        call = Unpin (Some g);
        sizes = sizes;
        held = [];
        full = false;
        epoch = epoch;
        next = next.0;
        bound = bound;
        bags = bags;
        total = total;
      } in
      let under_way = begins v UnpinAction StoreUnpinned called old start h did refl refl refl
      (ap (λ (n : ℕ). if n == 1 then StoreUnpinned else End) h.counted) refl (tt, at, few) in
      let ended = goes_to_end v called start new going
      (Done UnitAnswer) next.1 sized.collect_bags.1 sized.collect_bags.0 under_way on refl run in
      record {
        rests = recount p sizes [] [] bound total _ _ new
            (λ t. counted_call called (Unpin (Some g)) (going ++ Done UnitAnswer ∷ []) t) ended.rests;
        epoch_is = ended.after.1;
        few = ended.after.2;
      }

  -- WHOLE ROUNDS

  pub record Advanced (next bound bags : ℕ) (total called : ℕ → ℕ) (s : State) : Type 0 where
    pub between : Between next bound bags total called s
    pub fewer : bound + 2 ≤ next → length s.queued ≤ bags - sizes.collect_bags

  -- one round: the epoch goes on by one, and once all bags are expired a collection's worth of them is called
  pub round : (epoch next bound bags : ℕ) (total called : ℕ → ℕ) (old new : State) (log : List Entry)
      → IsNext epoch next
      → Between epoch bound bags total called old → IsRound p log → Runs old log new
      → Advanced next bound bags total (counts called log) new
  round epoch next bound bags total called old new log is_next h r run =
      let pin : List Entry = call_to p Pin r.pins (Done (Guard r.guard)) in
      let flush : List Entry = call_to p (Flush (Some r.guard)) r.flushes r.flushed in
      let unpin : List Entry = call_to p (Unpin (Some r.guard)) r.unpins (Done UnitAnswer) in
      let first = runs_split old new pin (flush ++ unpin) (subst (λ (es : List Entry). Runs old es new) r.whole run) in
      let second = runs_split first.0 new flush unpin first.2 in
      let pinned = pins epoch next bound bags r.guard [] total called old first.0 r.pins is_next h.rests h.epoch_is
      h.few r.pinning first.1 in
      let flushed = flushes epoch next bound bags r.guard total
      (counts called pin) first.0 second.0 r.flushes r.flushed is_next pinned r.flushing r.ended second.1 in
      let out = unpins next bound (length second.0.queued) r.guard total (counts (counts called pin) flush) second.0 new
      r.unpins flushed.rests flushed.epoch_is (omega arith) r.unpinning second.2 in
      record {
        between = record {
          rests = recount p sizes [] [] bound total _ _ new
              (λ t. omega (
                arith,
                ap (times_called t) r.whole,
                called_append t pin (flush ++ unpin),
                called_append t flush unpin,
              )) out.rests;
          epoch_is = out.epoch_is;
          few = omega (arith, out.few, flushed.few);
        };
        fewer = λ bound. omega (arith, out.few, flushed.fewer bound);
      }

  -- so many rounds, while all bags stay expired: collections for all of them leave none
  pub rounds : (n epoch bound bags : ℕ) (total called : ℕ → ℕ) (old new : State) (log : List Entry)
      → Between epoch bound bags total called old → bound + 2 ≤ epoch + 1 → bound + 2 ≤ 2 ^ 63 - 1
      → bags ≤ n * sizes.collect_bags → AreRounds p n log → Runs old log new
      → Rests p sizes [] [] bound total (counts called log) new × (length new.queued ≤ 0)
  rounds zero epoch bound bags total called old new log h reached small enough none run =
      let same : new ≡ old = subst (λ (es : List Entry). Runs old es new) none run in (
        subst (Rests p sizes [] [] bound total (counts called log)) (sym same)
            (recount p sizes [] [] bound total called _ old (λ t. omega (arith, ap (times_called t) none)) h.rests),
        omega (arith, ap (λ (s : State). length s.queued) same, h.few),
      )
  rounds (suc n) epoch bound bags total called old new log h reached small enough
      (first, others, is_round, are_rounds, whole) run =
      let next = next_of epoch in
      let parts = runs_split old new first others (subst (λ (es : List Entry). Runs old es new) whole run) in
      let one = round epoch next.0 bound bags total called old parts.0 first next.1 h is_round parts.1 in
      let expired : bound + 2 ≤ next.0 = reach epoch next.0 next.1 reached in
      let fewer : length parts.0.queued ≤ bags - sizes.collect_bags = one.fewer expired in
      let between : Between next.0 bound (bags - sizes.collect_bags) total (counts called first) parts.0 =
      record { rests = one.between.rests; epoch_is = one.between.epoch_is; few = fewer } in
      let rest = rounds n next.0 bound (bags - sizes.collect_bags) total
      (counts called first) parts.0 new others between (omega arith) small
      (less n bags sizes.collect_bags enough) are_rounds parts.2 in (
        recount p sizes [] [] bound total _ _ new
            (λ t. omega (arith, ap (times_called t) whole, called_append t first others)) rest.0,
        rest.1,
      )
    where
      reach : (e f : ℕ) → IsNext e f → bound + 2 ≤ e + 1 → bound + 2 ≤ f
      reach e f (inl i) le = omega (arith, i.1)
      reach e f (inr i) le = omega (arith, i.0, i.1)

      less : (n b c : ℕ) → b ≤ suc n * c → b - c ≤ n * c
      less n b c le = omega (arith, suc-mul n c)
