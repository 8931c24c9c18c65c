-- In every run each call collects few.
use Rattle.std.proofs.Common.{◌≡◌, ◌≢◌, ℕ, ◌+◌, ◌-◌, ◌<◌, ◌≤◌, ◌==◌, Bool, true, false, List, [], ◌∷◌, length, Option}
use Rattle.std.proofs.Common.{Some, None, ◌⊎◌, inl, inr, refl, ap, sym, subst, subst₂, ◌∙◌, arith, if◌then◌else◌}
use Rattle.std.proofs.lemmas.Bool.Decides.{nat_tests}
use Rattle.epoch_cells.specs.declared.fault.Fault.{Fault}
use Rattle.epoch_machine.specs.declared.machine.Action.{Action}
use Rattle.epoch_machine.specs.declared.machine.Action.TheVariants.{Pin as PinAction, Unpin as UnpinAction}
use Rattle.epoch_machine.specs.declared.machine.Action.TheVariants.{Repin as RepinAction, Defer as DeferAction}
use Rattle.epoch_machine.specs.declared.machine.Action.TheVariants.{Flush as FlushAction, Release as ReleaseAction}
use Rattle.epoch_machine.specs.declared.machine.Sizes.{Sizes}
use Rattle.epoch_machine.specs.Machine.{IsSized, begun}
use Rattle.epoch_laws.specs.declared.step.Call.{Call}
use Rattle.epoch_laws.specs.declared.step.Call.TheVariants.{Pin, Unpin, Repin, Pause, Resume, Defer, Flush, Release}
use Rattle.epoch_laws.specs.declared.step.Call.TheVariants.{DeferDestroy}
use Rattle.epoch_laws.specs.declared.step.Entry.{Entry}
use Rattle.epoch_laws.specs.declared.step.Progress.TheVariants.{Idle}
use Rattle.epoch_laws.specs.declared.step.Reply.{Reply}
use Rattle.epoch_laws.specs.declared.step.Reply.TheVariants.{Called, Began}
use Rattle.epoch_laws.specs.declared.step.Step.{Step}
use Rattle.epoch_laws.specs.declared.step.Step.TheVariants.{Register, Begin, Go, End as EndStep, EndGo}
use Rattle.epoch_laws.specs.declared.step.Word.TheVariants.{Free, Unpinned}
use Rattle.epoch_laws.specs.Collected.{called_after, taken_after, none_yet, IsFew, FewAlong}
use Rattle.epoch_laws.specs.Run.{WorldSeat, State, Ending, Open, Emptying, Over, seat_of, position_word, with_seat}
use Rattle.epoch_laws.specs.Run.{with_places, free_seat, begun_seat, refusal, BeginsCall, EndGoes, Moves, Runs, IsFresh}
use Rattle.epoch_laws.proofs.SeatLemmas.{seat_written, seat_other, seat_there, same_or_other, IsAccepted, begin_given}
use Rattle.epoch_laws.proofs.SeatLinks.{AllLinked, follows_at}
use Rattle.epoch_laws.proofs.Linked.{moved_linked, fresh_linked}
use Rattle.epoch_laws.proofs.SizesStay.{moves_same}
use Rattle.epoch_laws.proofs.FewCollected.{AllSmall, small_got, Counts, weak, bound, begun_counts, told, GoesTo}
use Rattle.epoch_laws.proofs.FewCollected.{go_counts}

-- What holds between any two steps. For each participant, taken counts the bags that its call has taken, and called the
-- jobs that it has called.
pub record Holds (z : Sizes) (taken called : ℕ → ℕ) (s : State) : Type 0 where
  pub linked : AllLinked s  -- each seat's machine is the one of the call under way
  pub sizes : s.sizes ≡ z  -- the sizes stay
  pub small : AllSmall z.bag_jobs s.queued  -- no bag has more jobs than a bag takes
  pub counts : (q : ℕ) → Counts z (taken q) (called q) (seat_of s q).machine (seat_of s q).machine.stage

same_is : (q : ℕ) → (q == q) ≡ true
same_is q = grind (arith, nat_tests)

other_is : (p q : ℕ) → q ≢ p → (p == q) ≡ false
other_is p q ne = grind (arith, nat_tests)

-- the counts of who takes a step, and of the others
own_called : (q called : ℕ) (r : Reply) → called_after q called (Go q) r ≡ called + told r
own_called q called (Called t how) = ap (λ (b : Bool). if b then called + 1 else called) (same_is q)
own_called q called _ = omega arith

own_taken : (q taken : ℕ) (old new : State) (r : Reply)
    → taken_after q taken old (Go q) r new ≡ taken + (length old.queued - length new.queued)
own_taken q taken old new r =
    ap (λ (b : Bool). if b then taken + (length old.queued - length new.queued) else taken) (same_is q)

others_called : (p q called : ℕ) (r : Reply) → q ≢ p → called_after q called (Go p) r ≡ called
others_called p q called (Called t how) ne = ap (λ (b : Bool). if b then called + 1 else called) (other_is p q ne)
others_called p q called _ ne = refl

others_taken : (p q taken : ℕ) (old new : State) (r : Reply) → q ≢ p → taken_after q taken old (Go p) r new ≡ taken
others_taken p q taken old new r ne =
    ap (λ (b : Bool). if b then taken + (length old.queued - length new.queued) else taken) (other_is p q ne)

module _ (z : Sizes) (sized : IsSized z) (taken called : ℕ → ℕ) (old new : State) (r : Reply)
    (h : Holds z taken called old) where
  abbrev After : Step → Type 0
  After step = Holds z (λ q. taken_after q (taken q) old step r new) (λ q. called_after q (called q) step r) new

  -- the parts that every step keeps
  built : (step : Step) → Moves old step r new → AllSmall z.bag_jobs new.queued
      → ((q : ℕ) → Counts z (taken_after q (taken q) old step r new) (called_after q (called q) step r)
      (seat_of new q).machine (seat_of new q).machine.stage) → After step
  built step did small counts = record {
    linked = moved_linked old new step r h.linked did;
    sizes = moves_same old new r step did ∙ h.sizes;
    small = small;
    counts = counts;
  }

  Same : (t c : ℕ) (a b : WorldSeat)
      → b ≡ a → Counts z t c a.machine a.machine.stage → Counts z t c b.machine b.machine.stage
  Same t c a b e counts = subst (λ (s : WorldSeat). Counts z t c s.machine s.machine.stage) (sym e) counts

  goes : (p : ℕ) → Moves old (Go p) r new → GoesTo z sized (taken p) (called p) old new p r h.small
      → position_word old p ≢ Free → After (Go p)
  goes p did to taken_now = built (Go p) did to.bags_small (λ q. by_position q (same_or_other q p))
    where
      by_position : (q : ℕ) → (q ≡ p) ⊎ (q ≢ p) → Counts z (taken_after q (taken q) old (Go p) r new)
          (called_after q (called q) (Go p) r) (seat_of new q).machine (seat_of new q).machine.stage
      by_position q (inl same) = subst (λ (k : ℕ). Counts z (taken_after k (taken k) old (Go p) r new)
          (called_after k (called k) (Go p) r) (seat_of new k).machine (seat_of new k).machine.stage) (sym same)
          (subst₂ (λ (t c : ℕ). Counts z t c (seat_of new p).machine (seat_of new p).machine.stage)
          (sym (own_taken p (taken p) old new r)) (sym (own_called p (called p) r))
          (Same _ _ to.after (seat_of new p)
          (to.wrote p ∙ seat_written old p to.after (seat_there old p taken_now)) to.counts))
      by_position q (inr other) =
          subst₂ (λ (t c : ℕ). Counts z t c (seat_of new q).machine (seat_of new q).machine.stage)
          (sym (others_taken p q (taken q) old new r other)) (sym (others_called p q (called q) r other))
          (Same _ _ (seat_of old q) (seat_of new q) (to.wrote q ∙ seat_other old p q to.after other) (h.counts q))

  -- no seat is written, and no counts change
  along : (step : Step) → Moves old step r new → ((q : ℕ) → taken_after q (taken q) old step r new ≡ taken q)
      → ((q : ℕ) → called_after q (called q) step r ≡ called q)
      → AllSmall z.bag_jobs new.queued → ((q : ℕ) → seat_of new q ≡ seat_of old q) → After step
  along step did takes calls small same = built step did small (λ q. subst₂ (λ (t c : ℕ). Counts z t c
      (seat_of new q).machine (seat_of new q).machine.stage) (sym (takes q)) (sym (calls q))
      (Same _ _ (seat_of old q) (seat_of new q) (same q) (h.counts q)))

  stays : (step : Step) → Moves old step r new → ((q : ℕ) → taken_after q (taken q) old step r new ≡ taken q)
      → ((q : ℕ) → called_after q (called q) step r ≡ called q) → (last : State) → new ≡ last
      → last.queued ≡ old.queued → ((q : ℕ) → seat_of last q ≡ seat_of old q) → After step
  stays step did takes calls last e bags same = along step did takes calls (subst (AllSmall z.bag_jobs)
      (sym (ap (λ (s : State). s.queued) e ∙ bags)) h.small) (λ q. ap (λ (s : State). seat_of s q) e ∙ same q)

  registers : (p : ℕ) → Moves old Register r new → p < length old.seats
      → new ≡ with_seat old p (record (free_seat old.sizes) { word = Unpinned }) → After Register
  registers p did there e = built Register did (subst (AllSmall z.bag_jobs)
      (sym (ap (λ (s : State). s.queued) e)) h.small) (λ q. by_position q (same_or_other q p))
    where
      by_position : (q : ℕ) → (q ≡ p) ⊎ (q ≢ p)
          → Counts z (taken q) (called q) (seat_of new q).machine (seat_of new q).machine.stage
      by_position q (inl same) =
          let few = bound z sized (taken q) (called q) _ _ _ (h.counts q).at in
          Same (taken q) (called q) (record (free_seat old.sizes) { word = Unpinned }) (seat_of new q)
          (ap (λ (s : State). seat_of s q) e
          ∙ ap (λ (k : ℕ). seat_of (with_seat old p (record (free_seat old.sizes) { word = Unpinned })) k) same
          ∙ seat_written old p _ there)
          (record { held = omega arith; at = few })
      by_position q (inr other) = Same (taken q) (called q) (seat_of old q) (seat_of new q)
          (ap (λ (s : State). seat_of s q) e ∙ seat_other old p q _ other) (h.counts q)

  begins : (p : ℕ) (c : Call) (o : Option Fault) → refusal c (seat_of old p) old.tickets old.heap ≡ o
      → Moves old (Begin p c) r new → BeginsCall old p c o r new → After (Begin p c)
  begins p c (Some f) at did (is, e) = stays (Begin p c) did
      (λ q. ap (λ (x : Reply). taken_after q (taken q) old (Begin p c) x new) is) (λ q.
      ap (called_after q (called q) (Begin p c)) is) old e refl (λ q. refl)
  begins p c None at did (is, e) =
      built (Begin p c) did (subst (AllSmall z.bag_jobs) (sym (ap (λ (s : State). s.queued) e)) h.small)
      (λ q. subst (λ (x : Reply). Counts z (taken_after q (taken q) old (Begin p c) x new)
      (called_after q (called q) (Begin p c) x) (seat_of new q).machine (seat_of new q).machine.stage) (sym is)
      (by_position q (same_or_other q p)))
    where
      given : IsAccepted c (seat_of old p) old.tickets old.heap
      given = begin_given c (seat_of old p) old.tickets old.heap at

      held : length (seat_of old p).machine.held ≤ z.bag_jobs
      held = weak z.bag_jobs (length (seat_of old p).machine.held) (seat_of old p).machine.stage (h.counts p).held

      driven : (a : Action) → Counts z 0 0 (begun a (seat_of old p).machine) (begun a (seat_of old p).machine).stage
      driven a = begun_counts z sized a (seat_of old p).machine held ((h.linked.seats p).sized ∙ h.sizes)

      resting : Counts z 0 0 (seat_of old p).machine (seat_of old p).machine.stage
      resting =
          let rests = follows_at old.sizes (seat_of old p) (h.linked.seats p) Idle given.idle in
          subst (λ s. Counts z 0 0 (seat_of old p).machine s) (sym rests)
          (record { held = held; at = (omega arith, omega arith) })

      begun_call : (c : Call)
          → Counts z 0 0 (begun_seat c (seat_of old p)).machine (begun_seat c (seat_of old p)).machine.stage
      begun_call Pin = driven PinAction
      begun_call (Unpin g) = driven UnpinAction
      begun_call (Repin (Some g)) = driven RepinAction
      begun_call (Pause (Some g)) = driven UnpinAction
      begun_call (Resume (Some g)) = driven PinAction
      begun_call (Defer (Some g)) = driven DeferAction
      begun_call (Flush (Some g)) = driven FlushAction
      begun_call Release = driven ReleaseAction
      begun_call (Defer None) = resting
      begun_call (DeferDestroy (Some g) ptr) = driven DeferAction
      begun_call (DeferDestroy None ptr) = resting
      begun_call _ = resting

      by_position : (q : ℕ) → (q ≡ p) ⊎ (q ≢ p) → Counts z (if p == q then 0 else taken q)
          (if p == q then 0 else called q) (seat_of new q).machine (seat_of new q).machine.stage
      by_position q (inl same) =
          let equal : (p == q) ≡ true = ap (λ (k : ℕ). p == k) same ∙ same_is p in
          subst (λ (b : Bool). Counts z (if b then 0 else taken q) (if b then 0 else called q) (seat_of new q).machine
          (seat_of new q).machine.stage) (sym equal)
          (Same 0 0 (begun_seat c (seat_of old p)) (seat_of new q)
          (ap (λ (s : State). seat_of s q) e ∙ ap (λ (k : ℕ). seat_of (with_seat old p (begun_seat c (seat_of old p)))
          k) same ∙ seat_written old p _ (seat_there old p given.taken)) (begun_call c))
      by_position q (inr other) =
          subst (λ (b : Bool). Counts z (if b then 0 else taken q) (if b then 0 else called q) (seat_of new q).machine
          (seat_of new q).machine.stage) (sym (other_is p q other))
          (Same _ _ (seat_of old q) (seat_of new q)
          (ap (λ (s : State). seat_of s q) e ∙ seat_other old p q _ other) (h.counts q))

  ends : (ending : Ending) → Moves old EndGo r new → EndGoes old ending r new → After EndGo
  ends Open did (is, e) = stays EndGo did (λ q. refl) (λ q. refl) old e refl (λ q. refl)
  ends Over did (is, e) = stays EndGo did (λ q. refl) (λ q. refl) old e refl (λ q. refl)
  ends (Emptying (job ∷ jobs) n) did (is, e) = stays EndGo did (λ q. refl) (λ q. refl) _ e refl (λ q. refl)
  ends (Emptying [] n) did (inl (bag, queued, out, is, e)) =
      along EndGo did (λ q. refl) (λ q. refl) (subst (AllSmall z.bag_jobs) (sym (ap (λ (s : State). s.queued) e))
      (small_got z.bag_jobs old.queued queued bag out h.small).0) (λ q. ap (λ (s : State). seat_of s q) e)
  ends (Emptying [] n) did (inr (none, is, e)) = stays EndGo did (λ q. refl) (λ q. refl) _ e refl (λ q. refl)

  moves : (step : Step) → Moves old step r new → After step
  moves Register did = by_case did
    where
      by_case : Moves old Register r new → After Register
      by_case (inl to) = registers to.0 did to.2 to.6
      by_case (inr (inl to)) = stays Register did (λ q. refl) (λ q. refl) old to.3 refl (λ q. refl)
      by_case (inr (inr to)) = stays Register did (λ q. refl) (λ q. refl) old to.2 refl (λ q. refl)
  moves (Begin p c) did = begins p c (refusal c (seat_of old p) old.tickets old.heap) refl did did
  moves (Go p) did = by_case did
    where
      by_case : Moves old (Go p) r new → After (Go p)
      by_case (inl to) = stays (Go p) did
          (λ q. none_taken q) (λ q. ap (called_after q (called q) (Go p)) to.1) old to.2 refl (λ q. refl)
        where
          none_taken : (q : ℕ) → taken_after q (taken q) old (Go p) r new ≡ taken q
          none_taken q = by_test (p == q)
            where
              by_test : (b : Bool)
                  → (if b then taken q + (length old.queued - length new.queued) else taken q) ≡ taken q
              by_test true = omega (arith, ap (λ (s : State). length s.queued) to.2)
              by_test false = refl
      by_case (inr to) = goes p did (go_counts z sized (taken p) (called p) old new p r h.small h.linked h.sizes to.0
          (seat_of old p).progress refl (h.counts p) to.1) to.0
  moves EndStep did = by_case did
    where
      by_case : Moves old EndStep r new → After EndStep
      by_case (inl to) = stays EndStep did (λ q. refl) (λ q. refl) _ to.3 refl (λ q. refl)
      by_case (inr (inl to)) = stays EndStep did (λ q. refl) (λ q. refl) old to.3 refl (λ q. refl)
      by_case (inr (inr to)) = stays EndStep did (λ q. refl) (λ q. refl) old to.2 refl (λ q. refl)
  moves EndGo did = ends old.ending did did

-- the places play no part
taken_aside : (q taken : ℕ) (old new : State) (step : Step) (r : Reply)
    (places : List Bool) (seen ahead : List ℕ) (room : List Bool)
    → taken_after q taken old step r (with_places new places seen ahead room) ≡ taken_after q taken old step r new
taken_aside q taken old new (Begin p c) Began places seen ahead room = refl
taken_aside q taken old new _ _ places seen ahead room = refl

aside : (z : Sizes) (taken others called : ℕ → ℕ) (s : State) (places : List Bool) (seen ahead : List ℕ)
    (room : List Bool) → ((q : ℕ) → taken q ≡ others q) → Holds z taken called (with_places s places seen ahead room)
    → Holds z others called s
aside z taken others called s places seen ahead room same h = record {
  linked = record { positions = h.linked.positions; seats = h.linked.seats };
  sizes = h.sizes;
  small = h.small;
  counts = λ q. subst (λ (t : ℕ). Counts z t (called q) (seat_of s q).machine (seat_of s q).machine.stage)
      (same q) (h.counts q);
}

few_along : (z : Sizes) → IsSized z → (taken called : ℕ → ℕ) (old new : State) (log : List Entry)
    → Holds z taken called old
    → (run : Runs old log new) → FewAlong z taken called old new log run
few_along z sized taken called old new [] h run = tt
few_along z sized taken called old new (x ∷ log) h (mid, did, run) = (
  λ p. few p,
  few_along z sized (λ q. taken_after q (taken q) old x.step x.reply mid)
      (λ q. called_after q (called q) x.step x.reply) mid new log after run,
)
  where
    after : Holds z (λ q. taken_after q (taken q) old x.step x.reply mid)
        (λ q. called_after q (called q) x.step x.reply) mid
    after = aside z _ _ _ mid old.places old.seen old.ahead old.room
        (λ q. taken_aside q (taken q) old mid x.step x.reply old.places old.seen old.ahead old.room)
        (moves z sized taken called old (with_places mid old.places old.seen old.ahead old.room) x.reply h x.step did.0)

    few : (p : ℕ) → IsFew z (taken_after p (taken p) old x.step x.reply mid) (called_after p (called p) x.step x.reply)
    few p = let both = bound z sized _ _ _ _ _ (after.counts p).at in record { bags = both.0; jobs = both.1 }

-- in a new world nothing was taken and nothing called
pub collects_few : (fresh new : State) (log : List Entry) → IsFresh fresh → (run : Runs fresh log new)
    → FewAlong fresh.sizes none_yet none_yet fresh new log run
collects_few fresh new log is_fresh run =
    few_along fresh.sizes is_fresh.in_range none_yet none_yet fresh new log (record {
      linked = fresh_linked fresh is_fresh;
      sizes = refl;
      small = subst (AllSmall fresh.sizes.bag_jobs) (sym is_fresh.none_queued) tt;
      counts = λ q. subst (λ (seat : WorldSeat). Counts fresh.sizes 0 0 seat.machine seat.machine.stage)
          (sym (is_fresh.free q)) (record { held = omega arith; at = (omega arith, omega arith) });
    }) run
