-- The sharp list leads to a sharp state.
use Rattle.std.proofs.Common.{◌≡◌, ℕ, zero, suc, ◌+◌, ◌<◌, List, [], ◌∷◌, ◌++◌, ◌≤◌, ◌&&◌, append_assoc, append-nil}
use Rattle.std.proofs.Common.{length}
use Rattle.std.proofs.Common.{length-append, Bool, true, false, Some, inl, inr, refl, ap, sym, subst, ◌∙◌, arith}
use Rattle.std.proofs.Common.{slice_index_or, slice_get}
use Rattle.epoch_cells.specs.declared.fault.Fault.TheVariants.{BagsFull}
use Rattle.epoch_machine.specs.declared.machine.Sizes.{Sizes}
use Rattle.epoch_laws.specs.declared.heap.access.AccessAnswer.TheVariants.{Guard, Unit as UnitAnswer}
use Rattle.epoch_machine.specs.declared.machine.Stage.TheVariants.{LoadSeal}
use Rattle.epoch_laws.specs.declared.step.Call.{Call}
use Rattle.epoch_laws.specs.declared.step.Call.TheVariants.{Pin, Unpin, Defer, Flush}
use Rattle.epoch_laws.specs.declared.step.Entry.{Entry}
use Rattle.epoch_laws.specs.declared.step.Reply.{Reply}
use Rattle.epoch_laws.specs.declared.step.Reply.TheVariants.{Began, Stepped, Pinned as PinnedReply}
use Rattle.epoch_laws.specs.declared.step.Reply.TheVariants.{Unpinned as UnpinnedReply, Repinned, Deferred, Done}
use Rattle.epoch_laws.specs.declared.step.Reply.TheVariants.{Refused}
use Rattle.epoch_laws.specs.declared.step.Step.TheVariants.{Register, Begin, Go}
use Rattle.epoch_laws.specs.declared.step.Word.TheVariants.{Unpinned}
use Rattle.epoch_laws.specs.Calls.{call_entries, goes_of, ends_call, EndsAtLast}
use Rattle.epoch_laws.specs.Grace.{IsReplyAt}
use Rattle.epoch_laws.specs.Run.{Bag, WorldSeat, State, HasFreePlace, Ending, Open, seat_of}
use Rattle.epoch_laws.specs.Run.{free_seat, IsFresh, Moves, TakesStep, Runs}
use Rattle.epoch_laws.specs.Room.{is_at_places}
use Rattle.epoch_laws.proofs.Log.{IsWithdrawal, PinnedSince, stands_push, stands_keep, stands_new}
use Rattle.epoch_laws.proofs.Log.{stands_within}
use Rattle.epoch_laws.proofs.RunsGoOn.{runs_append}
use Rattle.epoch_laws.specs.Sharp.{pair_sizes, EndsIn, EndsCall, TakesCalls, sharp_calls, both_register}
use Rattle.epoch_laws.specs.Sharp.{TakesSharpList, IsSharp}
use Rattle.epoch_laws.proofs.LonePuts.{lone_calls, places_stay}
use Rattle.epoch_laws.proofs.SureSteps.{no_heap, Aside, aside_of, among, placed, core, moves_among, Leads}
use Rattle.epoch_laws.proofs.SharpCalls.{job, its_bag, both_new, job_deferred, flushing, AllStay, Flushed}
use Rattle.epoch_laws.proofs.SharpCalls.{Collected, ends_more, zeroth_pins, zeroth_unpins, first_pins}
use Rattle.epoch_laws.proofs.SharpCalls.{first_unpins, zeroth_pins_again, first_pins_again, first_defers}
use Rattle.epoch_laws.proofs.SharpCalls.{first_flushes}

-- HOW A CALL BEGINS

-- a Begin of p is accepted in this state, and comes to that one
abbrev BeginsTo : State → ℕ → Call → State → Type 0
BeginsTo at p c after = (aside : Aside) (new : State) (told : Reply)
    → Moves (among at aside) (Begin p c) told new → (told ≡ Began) × (core new ≡ after)

-- so it does in every state that is this one but for the places and the cells
begins_to : (at after old mid : State) (p : ℕ) (c : Call) (told : Reply)
    → BeginsTo at p c after → core old ≡ at → TakesStep old (Begin p c) told mid → (told ≡ Began) × (core mid ≡ after)
begins_to at after old mid p c told is e did =
    is (aside_of old) (placed mid (aside_of old)) told (moves_among at old mid (Begin p c) told e did)

-- a call of the list, from its Begin on
record Called (p : ℕ) (c : Call) (Result : State → List Reply → State → Type 0) (old new : State)
    (replies : List Reply) : Type 0 where
  pub mid : State
  pub rs : List Reply
  -- the log with the flush, and what it is
  pub whole : replies ≡ Began ∷ rs
  pub began : TakesStep old (Begin p c) Began mid
  pub run : Runs mid (goes_of p rs) new
  pub result : Result mid rs new

-- a call that is accepted, and goes on to its end
called : (p : ℕ) (c : Call) (at after : State) (Result : State → List Reply → State → Type 0)
    → BeginsTo at p c after → Leads p after Result
    → (old new : State) (replies : List Reply) → core old ≡ at → EndsAtLast replies
    → Runs old (call_entries p c replies) new → Called p c Result old new replies
called p c at after Result is leads old new [] e ends run = absurd ends
called p c at after Result is leads old new (r ∷ []) e ends (mid, did, run) =
    absurd (cc (ends, ap ends_call (begins_to at after old mid p c r is e did).0))
called p c at after Result is leads old new (r ∷ s ∷ rs) e ends (mid, did, run) =
    let one = begins_to at after old mid p c r is e did in
    record {
      mid = mid;
      rs = s ∷ rs;
      whole = ap (λ (z : Reply). z ∷ s ∷ rs) one.0;
      began = subst (λ (z : Reply). TakesStep old (Begin p c) z mid) one.0 did;
      run = run;
      result = leads mid new (s ∷ rs) one.1 ends.1 run;
    }

-- THE REGISTRATIONS

-- two seats, each as it was by default
two_seats : (seats : List WorldSeat) (d : WorldSeat)
    → length seats ≡ 2 → ((p : ℕ) → slice_index_or seats p d ≡ d) → seats ≡ d ∷ d ∷ []
two_seats (a ∷ b ∷ []) d len at = ap (λ (x : WorldSeat). x ∷ b ∷ []) (at 0) ∙ ap (λ (x : WorldSeat). d ∷ x ∷ []) (at 1)
two_seats _ d len at = absurd (omega (arith, len))

-- a world with its places and its cells left out
abbrev made : Sizes → ℕ → List WorldSeat → List Bag → ℕ → Ending → State
made sizes epoch seats queued tickets ending = record {
  sizes = sizes;
  epoch = epoch;
  seats = seats;
  queued = queued;
  tickets = tickets;
  ending = ending;
  heap = no_heap;
  places = [];
  seen = [];
  ahead = [];
  room = [];
}

-- the core of the new world, and that after one registration
abbrev unregistered : State
unregistered = made pair_sizes 0 (free_seat pair_sizes ∷ free_seat pair_sizes ∷ []) [] 0 Open

abbrev half_registered : State
half_registered =
    made pair_sizes 0 (record (free_seat pair_sizes) { word = Unpinned } ∷ free_seat pair_sizes ∷ []) [] 0 Open

-- the new world is in such a state
fresh_core : (s : State) → IsFresh s → s.sizes ≡ pair_sizes → s.epoch ≡ 0 → core s ≡ unregistered
fresh_core s fresh sized first =
    ap (λ (z : Sizes). made z s.epoch s.seats s.queued s.tickets s.ending) sized
    ∙ ap (λ (e : ℕ). made pair_sizes e s.seats s.queued s.tickets s.ending) first
    ∙ ap (λ (q : List WorldSeat). made pair_sizes 0 q s.queued s.tickets s.ending) seats
    ∙ ap (λ (q : List Bag). made pair_sizes 0
    (free_seat pair_sizes ∷ free_seat pair_sizes ∷ []) q s.tickets s.ending) fresh.none_queued
    ∙ ap (λ (t : ℕ). made pair_sizes 0
    (free_seat pair_sizes ∷ free_seat pair_sizes ∷ []) [] t s.ending) fresh.no_tickets
    ∙ ap (λ (x : Ending). made pair_sizes 0 (free_seat pair_sizes ∷ free_seat pair_sizes ∷ []) [] 0 x) fresh.open_end
  where
    free : (p : ℕ) → slice_index_or s.seats p (free_seat pair_sizes) ≡ free_seat pair_sizes
    free p = subst (λ (z : Sizes). slice_index_or s.seats p (free_seat z) ≡ free_seat z) sized (fresh.free p)

    seats : s.seats ≡ free_seat pair_sizes ∷ free_seat pair_sizes ∷ []
    seats = two_seats s.seats (free_seat pair_sizes) (sym fresh.sized ∙ ap (λ (z : Sizes). z.positions) sized) free

-- the first Register takes position 0
registers_first : (aside : Aside) (new : State) (told : Reply)
    → Moves (among unregistered aside) Register told new → core new ≡ half_registered
registers_first aside new told (inl (zero, opened, there, free, least, told_so, did)) = ap core did
registers_first aside new told (inl (suc p, opened, there, free, least, told_so, did)) =
    absurd (least 0 (omega arith) refl)
registers_first aside new told (inr (inl did)) = absurd (did.1 0 (omega arith) refl)
registers_first aside new told (inr (inr did)) = absurd (did.0 refl)

-- and the second one position 1
registers_second : (aside : Aside) (new : State) (told : Reply)
    → Moves (among half_registered aside) Register told new → core new ≡ both_new
registers_second aside new told (inl (zero, opened, there, free, least, told_so, did)) = absurd (cc (free))
registers_second aside new told (inl (suc zero, opened, there, free, least, told_so, did)) = ap core did
registers_second aside new told (inl (suc (suc p), opened, there, free, least, told_so, did)) =
    absurd (omega (arith, there))
registers_second aside new told (inr (inl did)) = absurd (did.1 1 (omega arith) refl)
registers_second aside new told (inr (inr did)) = absurd (did.0 refl)

-- both registrations
registered_both : (old new : State) (r s : Reply)
    → core old ≡ unregistered → Runs old (both_register r s) new → core new ≡ both_new
registered_both old new r s e (mid, one, (last, two, same)) =
    ap core same ∙ registers_second (aside_of mid) (placed last (aside_of mid)) s
    (moves_among half_registered mid last Register s half two)
  where
    half : core mid ≡ half_registered
    half = registers_first (aside_of old) (placed mid (aside_of old)) r
        (moves_among unregistered old mid Register r e one)

-- RUNS AND LOGS

-- such calls are a run
takes_run : (old new : State) (calls : List (ℕ × Call)) (log : List Entry)
    → TakesCalls old calls log new → Runs old log new
takes_run old new [] log (none, same) = subst (λ (l : List Entry). Runs old l new) (sym none) same
takes_run old new ((p, c) ∷ calls) log (mid, replies, rest, ends, whole, others) =
    subst (λ (l : List Entry). Runs old l new) (sym whole)
    (runs_append old mid new (call_entries p c replies) rest ends.run (takes_run mid new calls rest others))

-- the Gos of two lists of replies
goes_append : (p : ℕ) (a b : List Reply) → goes_of p (a ++ b) ≡ goes_of p a ++ goes_of p b
goes_append p [] b = refl
goes_append p (r ∷ a) b = ap (λ (es : List Entry). record { step = Go p; reply = r } ∷ es) (goes_append p a b)

-- what stands after a log, and what stands in it, in a longer one
get_at : (log : List Entry) (x : Entry) (more : List Entry) → slice_get (log ++ x ∷ more) (length log) ≡ Some x
get_at [] x more = refl
get_at (e ∷ log) x more = get_at log x more

get_kept : (log more : List Entry) (k : ℕ) (x : Entry)
    → slice_get log k ≡ Some x → slice_get (log ++ more) k ≡ Some x
get_kept [] more k x at = absurd (cc (at))
get_kept (e ∷ log) more zero x at = at
get_kept (e ∷ log) more (suc k) x at = get_kept log more k x at

-- whoever publishes with the last entry is pinned since
since_new : (log : List Entry) (x : Entry) (p : ℕ)
    → x.reply ≡ PinnedReply p → PinnedSince (log ++ x ∷ []) p (length log)
since_new log x p e = record {
  published = inl (stands_new log x ∙ ap Some e);
  lasts = λ k after ends. elim ends [ inl w ↦ no k after (UnpinnedReply p) w | inr w ↦ no k after (Repinned p) w ];
}
  where
    no : (k : ℕ) → length log < k → (event : Reply) → ¬ (IsReplyAt (log ++ x ∷ []) k event)
    no k after event w =
        absurd (omega (arith, after, stands_within (log ++ x ∷ []) k event w, length-append log (x ∷ [])))

-- it published within the log
since_within : (log : List Entry) (p at : ℕ) → PinnedSince log p at → at < length log
since_within log p at h =
    elim h.published [ inl e ↦ stands_within log at _ e | inr e ↦ stands_within log at _ e ]

-- and stays pinned by an entry that withdraws nothing
since_push : (log : List Entry) (x : Entry) (p at : ℕ)
    → PinnedSince log p at → ¬ (IsWithdrawal x.reply p) → PinnedSince (log ++ x ∷ []) p at
since_push log x p at h stays = record {
  published = elim h.published [ inl e ↦ inl (stands_keep log x at _ e) | inr e ↦ inr (stands_keep log x at _ e) ];
  lasts = λ k after ends. elim ends [
    | inl w ↦ elim (stands_push log x k _ w) [ inl old ↦ h.lasts k after (inl old) | inr new ↦ stays (inl new.1) ]
    | inr w ↦ elim (stands_push log x k _ w) [ inl old ↦ h.lasts k after (inr old) | inr new ↦ stays (inr new.1) ]
  ];
}

-- no entry withdraws what p publishes
abbrev Keep : ℕ → List Entry → Type 0
Keep p [] = Unit {0}
Keep p (x ∷ es) = (¬ (IsWithdrawal x.reply p)) × Keep p es

-- and by entries that withdraw nothing
since_all : (log es : List Entry) (p at : ℕ) → PinnedSince log p at → Keep p es → PinnedSince (log ++ es) p at
since_all log [] p at h keep = subst (λ (l : List Entry). PinnedSince l p at) (sym (append-nil log)) h
since_all log (x ∷ es) p at h keep =
    subst (λ (l : List Entry). PinnedSince l p at) (append_assoc log (x ∷ []) es)
    (since_all (log ++ x ∷ []) es p at (since_push log x p at h keep.0) keep.1)

-- such are the entries of a call whose replies do so
keep_goes : (p : ℕ) (rs : List Reply) → AllStay rs → Keep 0 (goes_of p rs)
keep_goes p [] h = tt
keep_goes p (r ∷ rs) h = (h.0, keep_goes p rs h.1)

-- a reply that withdraws nothing
abbrev calm : Reply → Bool
calm (UnpinnedReply p) = false
calm (Repinned p) = false
calm _ = true

-- such a reply withdraws nothing of 0
calm_stays : (r : Reply) → calm r ≡ true → ¬ (IsWithdrawal r 0)
calm_stays r e (inl w) = let is : calm r ≡ false = ap calm w in cc (e, is)
calm_stays r e (inr w) = let is : calm r ≡ false = ap calm w in cc (e, is)

-- entries of which no reply withdraws anything
abbrev all_calm : List Entry → Bool
all_calm [] = true
all_calm (x ∷ es) = calm x.reply && all_calm es

calm_both : (a b : Bool) → a && b ≡ true → (a ≡ true) × (b ≡ true)
calm_both true b e = (refl, e)
calm_both false b e = absurd (cc (e))

keep_calm : (es : List Entry) → all_calm es ≡ true → Keep 0 es
keep_calm [] e = tt
keep_calm (x ∷ es) e =
    let both = calm_both (calm x.reply) (all_calm es) e in (calm_stays x.reply both.0, keep_calm es both.1)

-- an accepted Begin, and a step after it
abbrev begin : ℕ → Call → Entry
begin p c = record { step = Begin p c; reply = Began }

abbrev went : ℕ → Reply → Entry
went p r = record { step = Go p; reply = r }

-- what a pin is told that does not collect
abbrev pin_replies : ℕ → List Reply
pin_replies p = Began ∷ Stepped ∷ PinnedReply p ∷ Stepped ∷ Done (Guard 0) ∷ []

-- the entries of 0's pin before it publishes
abbrev up_to : List Entry
up_to = begin 0 Pin ∷ went 0 Stepped ∷ []

-- with its second pin 0 is pinned since it published
pinned_in : (l : List Entry) (rs : List Reply)
    → rs ≡ pin_replies 0 → PinnedSince (l ++ call_entries 0 Pin rs) 0 (length (l ++ up_to))
pinned_in l rs e =
    let x : Entry = went 0 (PinnedReply 0) in
    let more : List Entry = went 0 Stepped ∷ went 0 (Done (Guard 0)) ∷ [] in
    subst (λ (r : List Reply). PinnedSince (l ++ call_entries 0 Pin r) 0 (length (l ++ up_to))) (sym e)
    (subst (λ (z : List Entry). PinnedSince z 0 (length (l ++ up_to)))
    (append_assoc (l ++ up_to) (x ∷ []) more ∙ append_assoc l up_to (x ∷ more))
    (since_all ((l ++ up_to) ++ x ∷ []) more 0 (length (l ++ up_to)) (since_new (l ++ up_to) x 0 refl)
    (keep_calm more refl)))

-- what a deferral is told
abbrev defer_replies : List Reply
defer_replies = Began ∷ Deferred 0 ∷ Done UnitAnswer ∷ []

-- the place of the deferral in the log
deferred_in : (l : List Entry) (rs : List Reply) → rs ≡ defer_replies
    → slice_get (l ++ call_entries 1 (Defer (Some 0)) rs) (length (l ++ begin 1 (Defer (Some 0)) ∷ []))
    ≡ Some (went 1 (Deferred 0))
deferred_in l rs e =
    let b : Entry = begin 1 (Defer (Some 0)) in
    let x : Entry = went 1 (Deferred 0) in
    let y : Entry = went 1 (Done UnitAnswer) in
    subst (λ (r : List Reply). slice_get (l ++ call_entries 1 (Defer (Some 0)) r) (length (l ++ b ∷ [])) ≡ Some x)
    (sym e) (ap (λ (z : List Entry). slice_get z (length (l ++ b ∷ [])))
    (sym (append_assoc l (b ∷ []) (x ∷ y ∷ []))) ∙ get_at (l ++ b ∷ []) x (y ∷ []))

-- THE LIST, ONE CALL AFTER THE OTHER

-- From such a state on, with such a log before them, these calls lead to a sharp state.
record LeadsOn (fresh at : State) (Holds : List Entry → Type 0) (calls : List (ℕ × Call)) : Type 0 where
  pub so : (before : List Entry) (old new : State) (log : List Entry) → Runs fresh before old → core old ≡ at
      → Holds before → TakesCalls old calls log new → IsSharp fresh (before ++ log) new

-- So they do with a call before them that comes to such a state, and keeps what holds of the log.
module _ (fresh at began after : State) (Result : State → List Reply → State → Type 0) (p : ℕ) (c : Call)
    (calls : List (ℕ × Call)) (Before After : List Entry → Type 0) (begins : BeginsTo at p c began)
    (leads : Leads p began Result)
    (keeps : (before : List Entry) (old new : State) (rs : List Reply) → Before before → Result old rs new
    → (core new ≡ after) × After (before ++ call_entries p c (Began ∷ rs)))
    (on : LeadsOn fresh after After calls) where
  -- the call, and then the others
  one_more : (before : List Entry) (old new : State) (log : List Entry) → Runs fresh before old → core old ≡ at
      → Before before → TakesCalls old ((p, c) ∷ calls) log new → IsSharp fresh (before ++ log) new
  one_more before old new log run is holds (mid, replies, rest, ends, whole, others) =
      let k = called p c at began Result begins leads old mid replies is ends.ends ends.run in
      let kept = keeps before k.mid mid k.rs holds k.result in
      let held : After (before ++ call_entries p c replies) =
      subst (λ (rs : List Reply). After (before ++ call_entries p c rs)) (sym k.whole) kept.1 in
      subst (λ (l : List Entry). IsSharp fresh l new)
      (append_assoc before (call_entries p c replies) rest ∙ ap (λ (l : List Entry). before ++ l) (sym whole))
      (on.so (before ++ call_entries p c replies) mid new rest
      (runs_append fresh old mid before (call_entries p c replies) run ends.run) kept.0 held others)

-- the same with the states and the further calls left to be found
leads_on : {fresh at began after : State} {Result : State → List Reply → State → Type 0} {calls : List (ℕ × Call)}
    (p : ℕ) (c : Call) (Before After : List Entry → Type 0) → BeginsTo at p c began → Leads p began Result
    → ((before : List Entry) (old new : State) (rs : List Reply) → Before before → Result old rs new
    → (core new ≡ after) × After (before ++ call_entries p c (Began ∷ rs)))
    → LeadsOn fresh after After calls → LeadsOn fresh at Before ((p, c) ∷ calls)
leads_on {fresh} {at} {began} {after} {Result} {calls} p c Before After begins leads keeps on =
    record { so = one_more fresh at began after Result p c calls Before After begins leads keeps on }

-- what holds of the log: nothing yet, that 0 has stayed pinned, and that it has so since before 1 deferred its job
abbrev Any : List Entry → Type 0
Any log = Unit {0}

record StillPinned (log : List Entry) : Type 0 where
  pub at : ℕ
  pub since : PinnedSince log 0 at

record DeferredSince (log : List Entry) : Type 0 where
  pub at : ℕ
  pub since : PinnedSince log 0 at
  pub place : ℕ
  pub earlier : at ≤ place
  pub deferred : slice_get log place ≡ Some (went 1 (Deferred 0))

-- the second pin of 1
keeps_pinned : (before : List Entry) (rs : List Reply) → Began ∷ rs ≡ pin_replies 1 → StillPinned before
    → StillPinned (before ++ call_entries 1 Pin (Began ∷ rs))
keeps_pinned before rs e h = record {
  at = h.at;
  since = since_all before (call_entries 1 Pin (Began ∷ rs)) 0 h.at h.since
      (subst (λ (r : List Reply). Keep 0 (call_entries 1 Pin r)) (sym e)
      (keep_calm (call_entries 1 Pin (pin_replies 1)) refl));
}

-- the deferral
keeps_deferred : (before : List Entry) (rs : List Reply) → Began ∷ rs ≡ defer_replies → StillPinned before
    → DeferredSince (before ++ call_entries 1 (Defer (Some 0)) (Began ∷ rs))
keeps_deferred before rs e h = record {
  at = h.at;
  since = since_all before (call_entries 1 (Defer (Some 0)) (Began ∷ rs)) 0 h.at h.since
      (subst (λ (r : List Reply). Keep 0 (call_entries 1 (Defer (Some 0)) r)) (sym e)
      (keep_calm (call_entries 1 (Defer (Some 0)) defer_replies) refl));
  place = length (before ++ begin 1 (Defer (Some 0)) ∷ []);
  earlier = omega (
    arith,
    since_within before 0 h.at h.since,
    length-append before (begin 1 (Defer (Some 0)) ∷ []),
  );
  deferred = deferred_in before (Began ∷ rs) e;
}

-- THE FLUSH

module _ (fresh old new : State) (before : List Entry) (replies : List Reply) (is_fresh : IsFresh fresh)
    (some : 0 < length fresh.places) (run : Runs fresh before old) (is : core old ≡ job_deferred)
    (held : DeferredSince before) (ends : EndsCall 1 (Flush (Some 0)) old replies new) where
  -- what the flush comes to
  flush : Called 1 (Flush (Some 0)) Flushed old new replies
  flush = called 1 (Flush (Some 0)) job_deferred (flushing 2 [] LoadSeal false (job ∷ [])) Flushed
      (λ aside mid told did. (did.0, ap core did.1)) first_flushes old new replies is ends.ends ends.run

  -- a place is free for it, and nobody else is at the places
  free : HasFreePlace 1 old
  free = record {
    others = λ q other. ap (λ (s : State). is_at_places (seat_of s q).machine.stage) is ∙ away q;
    fewer = omega (arith, some, ap (λ (s : State). length s.queued) is, places_stay fresh old before run);
  }
    where
      away : (q : ℕ) → is_at_places (seat_of job_deferred q).machine.stage ≡ false
      away zero = refl
      away (suc zero) = refl
      away (suc (suc q)) = refl

  -- and so it isn't refused
  collected : Collected flush.mid flush.rs new
  collected = by_end flush.result
    where
      by_end : Flushed flush.mid flush.rs new → Collected flush.mid flush.rs new
      by_end (inl e) =
          absurd (lone_calls fresh old new before 1 (Flush (Some 0)) replies is_fresh run free ends
          (subst (EndsIn (Refused BagsFull)) (sym flush.whole) (ends_more Began (Refused BagsFull) flush.rs e)))
      by_end (inr c) = c

  abbrev whole : List Entry
  whole = before ++ call_entries 1 (Flush (Some 0)) replies

  -- 0 has stayed pinned
  since : PinnedSince whole 0 held.at
  since = since_all before (call_entries 1 (Flush (Some 0)) replies) 0 held.at held.since
      (subst (λ (rs : List Reply). Keep 0 (call_entries 1 (Flush (Some 0)) rs)) (sym flush.whole)
      (calm_stays Began refl, keep_goes 1 flush.rs collected.stays))

  whole_is : whole ≡ before ++ begin 1 (Flush (Some 0)) ∷ goes_of 1 flush.rs
  whole_is = ap (λ (rs : List Reply). before ++ call_entries 1 (Flush (Some 0)) rs) flush.whole

  -- the state after the flush is sharp
  flush_sharp : IsSharp fresh whole new
  flush_sharp = record {
    bag = its_bag;
    stored = ap (λ (s : State). s.queued) collected.is;
    holds = refl;
    before = before ++ begin 1 (Flush (Some 0)) ∷ goes_of 1 collected.front;
    collection = collected.behind;
    begins = collected.begins;
    ends_so = whole_is ∙ ap (λ (es : List Entry). before ++ begin 1 (Flush (Some 0)) ∷ es)
        (ap (goes_of 1) collected.split ∙ goes_append 1 collected.front collected.behind)
        ∙ sym (append_assoc before (begin 1 (Flush (Some 0)) ∷ goes_of 1 collected.front)
        (goes_of 1 collected.behind));
    earlier = runs_append fresh old collected.begins before
        (begin 1 (Flush (Some 0)) ∷ goes_of 1 collected.front) run (flush.mid, flush.began, collected.to);
    collects = collected.from;
    expiry = collected.expiry;
    ended = collected.ended;
    place = held.place;
    last = length before + length (goes_of 1 flush.rs);
    at_end = omega (arith, ap length whole_is, length-append before (begin 1 (Flush (Some 0)) ∷ goes_of 1 flush.rs));
    deferred = get_kept before (call_entries 1 (Flush (Some 0)) replies) held.place _ held.deferred;
    blocked = record {
      at = held.at;
      before = held.earlier;
      published = since.published;
      lasted = λ k after upto ends. since.lasts k after ends;
    };
  }

-- THE WHOLE LIST

module _ (fresh : State) (is_fresh : IsFresh fresh) (some : 0 < length fresh.places) where
  -- the last call of the list leads to a sharp state
  last_call : (before : List Entry) (old new : State) (log : List Entry)
      → Runs fresh before old → core old ≡ job_deferred → DeferredSince before
      → TakesCalls old ((1, Flush (Some 0)) ∷ []) log new → IsSharp fresh (before ++ log) new
  last_call before old new log run is held (mid, replies, rest, ends, whole, (none, same)) =
      let all : log ≡ call_entries 1 (Flush (Some 0)) replies =
      whole ∙ ap (λ (l : List Entry). call_entries 1 (Flush (Some 0)) replies ++ l) none ∙ append-nil _ in
      subst (λ (s : State). IsSharp fresh (before ++ log) s) (sym same)
      (subst (λ (l : List Entry). IsSharp fresh (before ++ l) mid) (sym all)
      (flush_sharp fresh old mid before replies is_fresh some run is held ends))

  flush_leads : LeadsOn fresh job_deferred DeferredSince ((1, Flush (Some 0)) ∷ [])
  flush_leads = record { so = last_call }

  -- all of them do
  list_leads : LeadsOn fresh both_new Any sharp_calls
  list_leads =
      (leads_on 0 Pin Any Any (λ aside mid told did. (did.0, ap core did.1)) zeroth_pins
      (λ before old new rs held e. (e, tt))
      (leads_on 0 (Unpin (Some 0)) Any Any (λ aside mid told did. (did.0, ap core did.1)) zeroth_unpins
      (λ before old new rs held e. (e.1, tt))
      (leads_on 1 Pin Any Any (λ aside mid told did. (did.0, ap core did.1)) first_pins
      (λ before old new rs held e. (e, tt))
      (leads_on 1 (Unpin (Some 0)) Any Any (λ aside mid told did. (did.0, ap core did.1)) first_unpins
      (λ before old new rs held e. (e.1, tt))
      (leads_on 0 Pin Any StillPinned (λ aside mid told did. (did.0, ap core did.1)) zeroth_pins_again
      (λ before old new rs held e. (
        e.1,
        record {
          at = length (before ++ up_to);
          since = pinned_in before (Began ∷ rs) (ap (λ (r : List Reply). Began ∷ r) e.0);
        },
      ))
      (leads_on 1 Pin StillPinned StillPinned (λ aside mid told did. (did.0, ap core did.1)) first_pins_again
      (λ before old new rs held e. (e.1, keeps_pinned before rs (ap (λ (r : List Reply). Began ∷ r) e.0) held))
      (leads_on 1 (Defer (Some 0)) StillPinned DeferredSince (λ aside mid told did. (did.0, ap core did.1)) first_defers
      (λ before old new rs held e. (e.1, keeps_deferred before rs (ap (λ (r : List Reply). Began ∷ r) e.0) held))
      flush_leads)))))))

-- what the list comes to in a new world, and that it is a run
pub sharp : (fresh new : State) (log : List Entry) → IsFresh fresh → fresh.sizes ≡ pair_sizes → fresh.epoch ≡ 0
    → 0 < length fresh.places → TakesSharpList fresh log new → IsSharp fresh log new
sharp fresh new log is_fresh sized first some list =
    subst (λ (l : List Entry). IsSharp fresh l new) (sym list.whole)
    ((list_leads fresh is_fresh some).so (both_register list.first list.second) list.both new list.later list.registered
    (registered_both fresh list.both list.first list.second (fresh_core fresh is_fresh sized first) list.registered)
    tt list.calls)

-- the calls after the registrations are a run, whatever world it is
pub sharp_run : (fresh new : State) (log : List Entry) → TakesSharpList fresh log new → Runs fresh log new
sharp_run fresh new log list =
    subst (λ (l : List Entry). Runs fresh l new) (sym list.whole)
    (runs_append fresh list.both new (both_register list.first list.second) list.later list.registered
    (takes_run list.both new sharp_calls list.later list.calls))
