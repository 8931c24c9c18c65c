-- Steps that can come to one thing alone, and what they come to.
use Rattle.std.proofs.Common.{◌≡◌, ℕ, ◌+◌, List, [], ◌∷◌, Bool, true, false, Option, Some, None, inl, inr, ap, sym}
use Rattle.std.proofs.Common.{subst, ◌∙◌}
use Rattle.epoch_machine.specs.declared.machine.Answer.TheVariants.{Epoch, Word as WordFound, Stored, Job}
use Rattle.epoch_machine.specs.declared.machine.Ask.{Ask}
use Rattle.epoch_machine.specs.declared.machine.Ask.TheVariants.{LoadEpoch, LoadWord, StorePinned, StoreRepinned}
use Rattle.epoch_machine.specs.declared.machine.Ask.TheVariants.{StoreUnpinned, StoreFree, StoreEpoch, PutBag, TakeBag}
use Rattle.epoch_machine.specs.declared.machine.Ask.TheVariants.{KeepJob, CallJob}
use Rattle.epoch_machine.specs.declared.machine.Stage.{Stage}
use Rattle.epoch_machine.specs.Machine.{ask_at, hears}
use Rattle.epoch_laws.specs.declared.step.Call.{Call}
use Rattle.epoch_laws.specs.declared.step.Progress.{Progress}
use Rattle.epoch_laws.specs.declared.step.Progress.TheVariants.{Driven}
use Rattle.epoch_laws.specs.declared.step.Reply.{Reply}
use Rattle.epoch_laws.specs.declared.step.Reply.TheVariants.{Stepped, Pinned as PinnedReply, Unpinned as UnpinnedReply}
use Rattle.epoch_laws.specs.declared.step.Reply.TheVariants.{Deferred}
use Rattle.epoch_laws.specs.declared.step.Step.{Step}
use Rattle.epoch_laws.specs.declared.step.Step.TheVariants.{Go}
use Rattle.epoch_laws.specs.declared.step.Word.{Word}
use Rattle.epoch_laws.specs.declared.step.Word.TheVariants.{Free, Unpinned, Pinned}
use Rattle.epoch_laws.specs.Heap.{Heap}
use Rattle.epoch_laws.specs.Calls.{goes_of, ends_call, EndsAtLast}
use Rattle.epoch_laws.specs.Run.{WorldSeat, State, seat_of, position_word, word_number, with_seat, with_machine}
use Rattle.epoch_laws.specs.Run.{with_word, with_places, with_heap, removed_by, end_reply, ended_seat, PerformsAsk}
use Rattle.epoch_laws.specs.Run.{DrivesCall, DoesGo, Moves, TakesStep, Runs}

-- what a step answers, and the state after it
pub record Outcome : Type 0 where
  pub reply : Reply
  pub state : State

abbrev pub outcome : Reply → State → Option Outcome
outcome r s = Some (record { reply = r; state = s })

-- what an ask of p comes to, where that is sure
abbrev pub sure_ask : State → ℕ → WorldSeat → Stage → Ask → Option Outcome
sure_ask s p seat at LoadEpoch =
    outcome Stepped (with_seat s p (with_machine seat (hears seat.machine at (Epoch s.epoch))))
sure_ask s p seat at (LoadWord k) = outcome Stepped
    (with_seat s p (with_machine seat (hears seat.machine at (WordFound (word_number (position_word s k))))))
sure_ask s p seat at (StorePinned e) =
    outcome (PinnedReply p) (with_seat s p (with_word seat (Pinned e) (hears seat.machine at Stored)))
sure_ask s p seat at StoreUnpinned =
    outcome (UnpinnedReply p) (with_seat s p (with_word seat Unpinned (hears seat.machine at Stored)))
sure_ask s p seat at (StoreEpoch e) =
    outcome Stepped (record (with_seat s p (with_machine seat (hears seat.machine at Stored))) { epoch = e })
sure_ask s p seat at KeepJob =
    outcome (Deferred s.tickets) (record (with_seat s p (with_machine seat (hears seat.machine at
    (Job (record { ticket = s.tickets; removes = removed_by seat.progress }))))) { tickets = s.tickets + 1 })
sure_ask s p seat at _ = None

-- what a step of a driven call comes to: its ask, or its end
abbrev pub sure_drive : State → ℕ → WorldSeat → Call → Stage → Option Ask → Option Outcome
sure_drive s p seat c at (Some ask) = sure_ask s p seat at ask
sure_drive s p seat c at None = outcome (end_reply c seat) (with_seat s p (ended_seat c seat))

-- by the progress of p, and by its word
abbrev pub sure_by : State → ℕ → WorldSeat → Progress → Option Outcome
sure_by s p seat (Driven c) = sure_drive s p seat c seat.machine.stage (ask_at seat.machine.stage)
sure_by s p seat _ = None

abbrev pub sure_at : State → ℕ → WorldSeat → Word → Option Outcome
sure_at s p seat Free = None
sure_at s p seat _ = sure_by s p seat seat.progress

-- what the step Go of p comes to, where that is sure
abbrev pub sure : State → ℕ → Option Outcome
sure s p = sure_at s p (seat_of s p) (seat_of s p).word

-- the step came to this
abbrev pub Is : Outcome → Reply → State → Type 0
Is o r new = (r ≡ o.reply) × (new ≡ o.state)

-- where it is sure, that is what it came to
is_so : (a b : Reply) (s t : State) (r : Reply) (new : State) (o : Outcome)
    → outcome a s ≡ Some o → r ≡ a → new ≡ s → Is o r new
is_so a b s t r new o e told did = subst (λ (z : Outcome). Is z r new) at (told, did)
  where
    at : record { reply = a; state = s } ≡ o
    at = cc (e)

-- so for each ask that is sure
performed : (s : State) (p : ℕ) (seat : WorldSeat) (at : Stage) (ask : Ask) (r : Reply) (new : State) (o : Outcome)
    → sure_ask s p seat at ask ≡ Some o → PerformsAsk s p seat at ask r new → Is o r new
performed s p seat at (StoreRepinned k) r new o e did = absurd (cc (e))
performed s p seat at StoreFree r new o e did = absurd (cc (e))
performed s p seat at (PutBag k) r new o e did = absurd (cc (e))
performed s p seat at (TakeBag k) r new o e did = absurd (cc (e))
performed s p seat at CallJob r new o e did = absurd (cc (e))
performed s p seat at _ r new o e did = is_so _ r _ s r new o e did.0 did.1

-- and for each step of a driven call
driven : (s : State) (p : ℕ) (seat : WorldSeat) (c : Call) (at : Stage) (ask : Option Ask) (r : Reply) (new : State)
    (o : Outcome) → sure_drive s p seat c at ask ≡ Some o → DrivesCall s p seat c at ask r new → Is o r new
driven s p seat c at (Some ask) r new o e did = performed s p seat at ask r new o e did
driven s p seat c at None r new o e did = is_so _ r _ s r new o e did.0 did.1

went : (s : State) (p : ℕ) (seat : WorldSeat) (now : Progress) (r : Reply) (new : State) (o : Outcome)
    → sure_by s p seat now ≡ Some o → DoesGo s p seat now r new → Is o r new
went s p seat (Driven c) r new o e did = driven s p seat c seat.machine.stage (ask_at seat.machine.stage) r new o e did
went s p seat _ r new o e did = absurd (cc (e))

-- a step is sure only at a position that is taken
not_free : (s : State) (p : ℕ) (seat : WorldSeat) (w : Word) (o : Outcome)
    → sure_at s p seat w ≡ Some o → (sure_by s p seat seat.progress ≡ Some o) × (w ≡ Free → ⊥)
not_free s p seat Free o e = absurd (cc (e))
not_free s p seat Unpinned o e = (e, λ f. cc (f))
not_free s p seat (Pinned k) o e = (e, λ f. cc (f))

-- what a Go of p came to, where it is sure
pub sure_goes : (s : State) (p : ℕ) (r : Reply) (new : State) (o : Outcome)
    → sure s p ≡ Some o → Moves s (Go p) r new → Is o r new
sure_goes s p r new o e (inl did) = absurd ((not_free s p (seat_of s p) (seat_of s p).word o e).1 did.0)
sure_goes s p r new o e (inr did) =
    went s p (seat_of s p) (seat_of s p).progress r new o (not_free s p (seat_of s p) (seat_of s p).word o e).0 did.1

-- THE PLACES AND THE CELLS ASIDE

-- no cells
abbrev pub no_heap : Heap
no_heap = record { roots = []; cells = []; fields = 0; align = 1; start_turn = 0 }

-- a state with its places and its cells left out
abbrev pub core : State → State
core s = with_heap (with_places s [] [] [] []) no_heap

-- the places and the cells of a state
pub record Aside : Type 0 where
  pub places : List Bool
  pub seen : List ℕ
  pub ahead : List ℕ
  pub room : List Bool
  pub heap : Heap

-- those of a state
abbrev pub aside_of : State → Aside
aside_of s = record { places = s.places; seen = s.seen; ahead = s.ahead; room = s.room; heap = s.heap }

-- this state with the places and the cells of another one
abbrev pub among : State → Aside → State
among at a = with_heap (with_places at a.places a.seen a.ahead a.room) a.heap

-- and with its places alone
abbrev pub placed : State → Aside → State
placed at a = with_places at a.places a.seen a.ahead a.room

-- a Go of p comes to this, whatever the places and the cells are
abbrev pub Surely : State → ℕ → Reply → State → Type 0
Surely at p r after = (aside : Aside) → sure (among at aside) p ≡ outcome r (among after aside)

-- what a step does to all but the places and the cells, it does to the state with its own
pub moves_among : (at old new : State) (step : Step) (told : Reply) → core old ≡ at → TakesStep old step told new
    → Moves (among at (aside_of old)) step told (placed new (aside_of old))
moves_among at old new step told e did =
    subst (λ (s : State). Moves s step told (placed new (aside_of old)))
    (ap (λ (s : State). among s (aside_of old)) e) did.0

-- a Go of p that surely comes to this has that reply, and leads to that state, the places and the cells aside
pub surely_goes : (at after old new : State) (p : ℕ) (r told : Reply)
    → Surely at p r after → core old ≡ at → TakesStep old (Go p) told new → (told ≡ r) × (core new ≡ core after)
surely_goes at after old new p r told sure_so e did =
    let o : Outcome = record { reply = r; state = among after (aside_of old) } in
    let is = sure_goes (among at (aside_of old)) p told (placed new (aside_of old)) o
    (sure_so (aside_of old)) (moves_among at old new (Go p) told e did) in
    (is.0, ap core is.1)

-- WHAT A CALL COMES TO

-- from that state on, p's steps up to its call's end come to this
abbrev pub Leads : ℕ → State → (State → List Reply → State → Type 0) → Type 0
Leads p at Result = (old new : State) (rs : List Reply) → core old ≡ at → EndsAtLast rs
    → Runs old (goes_of p rs) new → Result old rs new

-- one step that is sure, and the further ones
pub goes : (p : ℕ) (at after : State) (r : Reply) (Result Later : State → List Reply → State → Type 0)
    → Surely at p r after → ends_call r ≡ false
    → Leads p (core after) Later → ((old mid new : State) (rs : List Reply) → TakesStep old (Go p) r mid
    → Later mid rs new → Result old (r ∷ rs) new) → Leads p at Result
goes p at after r Result Later is on next back old new [] e ends run = absurd ends
goes p at after r Result Later is on next back old new (x ∷ []) e ends (mid, did, run) =
    let one = surely_goes at after old mid p r x is e did in absurd (cc (ends, on, ap ends_call one.0))
goes p at after r Result Later is on next back old new (x ∷ y ∷ rs) e ends (mid, did, run) =
    let one = surely_goes at after old mid p r x is e did in
    subst (λ (z : Reply). Result old (z ∷ y ∷ rs) new) (sym one.0)
    (back old mid new (y ∷ rs) (subst (λ (z : Reply). TakesStep old (Go p) z mid) one.0 did)
    (next mid new (y ∷ rs) one.1 ends.1 run))

-- a last step that is sure
pub ends : (p : ℕ) (at after : State) (r : Reply) (Result : State → List Reply → State → Type 0)
    → Surely at p r after → ends_call r ≡ true
    → ((old new : State) → core new ≡ core after → Result old (r ∷ []) new) → Leads p at Result
ends p at after r Result is on over old new [] e last run = absurd last
ends p at after r Result is on over old new (x ∷ []) e last (mid, did, run) =
    let one = surely_goes at after old mid p r x is e did in
    subst (λ (z : Reply). Result old (z ∷ []) new) (sym one.0) (over old new (ap core run ∙ one.1))
ends p at after r Result is on over old new (x ∷ y ∷ rs) e last (mid, did, run) =
    let one = surely_goes at after old mid p r x is e did in absurd (cc (last.0, on, ap ends_call one.0))
