-- A participant's part of a step, put into the world, is the world's step but for the places.
use Rattle.std.proofs.Common.{◌≡◌, ◌≢◌, ℕ, ◌<◌, true, List, [], ◌∷◌, length, zero, suc, Some, None, inr, refl, ap, ap₂}
use Rattle.std.proofs.Common.{sym, subst, ◌∙◌, arith, slice_index_or}
use Rattle.epoch_machine.specs.declared.machine.Ask.{Ask}
use Rattle.epoch_machine.specs.declared.machine.Ask.TheVariants.{LoadWord}
use Rattle.epoch_machine.specs.declared.machine.Ask.TheVariants.{StoreFree, PutBag, TakeBag}
use Rattle.epoch_machine.specs.declared.machine.Ask.TheVariants.{CallJob}
use Rattle.epoch_machine.specs.declared.machine.Sizes.{Sizes}
use Rattle.epoch_machine.specs.declared.machine.Answer.TheVariants.{Word as WordFound}
use Rattle.epoch_machine.specs.Machine.{asks, hears, AskFits}
use Rattle.epoch_laws.specs.declared.step.Call.{Call}
use Rattle.epoch_laws.specs.declared.step.Reply.{Reply}
use Rattle.epoch_laws.specs.declared.step.Reply.TheVariants.{Began}
use Rattle.epoch_laws.specs.declared.step.Step.TheVariants.{Begin, Go}
use Rattle.epoch_laws.specs.declared.step.Word.TheVariants.{Free}
use Rattle.epoch_laws.specs.declared.step.Progress.{Progress}
use Rattle.epoch_laws.specs.declared.step.Progress.TheVariants.{Driven}
use Rattle.epoch_laws.specs.Run.{Bag, WorldSeat, State, seat_of, position_word, with_seat, word_number, free_seat}
use Rattle.epoch_laws.specs.Run.{begun_seat, refusal, BeginsCall, PerformsAsk, DrivesCall, DoesGo, Moves, is_driven}
use Rattle.epoch_world.specs.declared.world.common.Common.{Common}
use Rattle.epoch_world.specs.Seats.{SeatPerforms}
use Rattle.epoch_laws.specs.Kept.{AllLinked}

-- the participant at a position has a call under way, and its machine asks for this
pub record IsDrivenAt (s : State) (p : ℕ) (ask : Ask) : Type 0 where
  pub taken : position_word s p ≢ Free
  pub under_way : is_driven (seat_of s p).progress ≡ true
  pub asked : asks (seat_of s p).machine ≡ Some ask
  pub within : AskFits (seat_of s p).machine.sizes ask

-- a participant that the code has found at an ask is at it in the world
pub driven_here : (s : State) (p : ℕ) (seat : WorldSeat) (call : Call) (ask : Ask) → seat ≡ seat_of s p
    → seat.word ≢ Free → seat.progress ≡ Driven call → asks seat.machine ≡ Some ask → AskFits seat.machine.sizes ask
    → IsDrivenAt s p ask
driven_here s p seat call ask is taken drive asked within = record {
  taken = λ free. taken (ap (λ (q : WorldSeat). q.word) is ∙ free);
  under_way = ap (λ (q : WorldSeat). is_driven q.progress) (sym is) ∙ ap is_driven drive;
  asked = ap (λ (q : WorldSeat). asks q.machine) (sym is) ∙ asked;
  within = subst (λ (q : WorldSeat). AskFits q.machine.sizes ask) is within;
}

-- an element within a list is the same for every default
pub same_within : {A : Type 0} (xs : List A) (p : ℕ) (d e : A)
    → p < length xs → slice_index_or xs p d ≡ slice_index_or xs p e
same_within [] p d e lt = absurd (omega arith)
same_within (x ∷ xs) zero d e lt = refl
same_within (x ∷ xs) (suc p) d e lt = same_within xs p d e (omega arith)

-- what an index finds is the participant there
pub found_there : (seats : List WorldSeat) (sizes : Sizes) (p : ℕ) (seat : WorldSeat)
    → p < length seats → seat ≡ slice_index_or seats p seat → seat ≡ slice_index_or seats p (free_seat sizes)
found_there seats sizes p seat lt is = is ∙ same_within seats p seat (free_seat sizes) lt

-- what participants have in common in a state
abbrev common_of : State → Common (List Bag)
common_of s = record { epoch = s.epoch; store = s.queued; tickets = s.tickets; heap = s.heap }

module _ (old new : State) (p word : ℕ) (seat after : WorldSeat) (reply : Reply) (h : Common (List Bag)) (e : new
    ≡ record (with_seat old p after) { epoch = h.epoch; queued = h.store; tickets = h.tickets; heap = h.heap }) where
  made : (seat' : WorldSeat) (h' : Common (List Bag)) → after ≡ seat' → h ≡ h' → new
      ≡ record (with_seat old p seat') { epoch = h'.epoch; queued = h'.store; tickets = h'.tickets; heap = h'.heap }
  made seat' h' a b = e ∙ ap₂ (λ (q : WorldSeat) (k : Common (List Bag)).
      record (with_seat old p q) { epoch = k.epoch; queued = k.store; tickets = k.tickets; heap = k.heap }) a b

  -- what its seat does is what the world does, but for the places
  pub performs_by : (ask : Ask)
      → seat.machine.sizes ≡ old.sizes → ((k : ℕ) → ask ≡ LoadWord k → word ≡ word_number (position_word old k))
      → SeatPerforms seat.machine.sizes p word
      (common_of old) seat seat.machine.stage ask reply after h
      → PerformsAsk old p seat seat.machine.stage ask reply new
  performs_by (LoadWord k) sizes found did = (
    did.0,
    made _ _ (did.1 ∙ ap (λ (w : ℕ). record seat { machine = hears seat.machine seat.machine.stage (WordFound w) })
        (found k refl)) did.2,
  )
  performs_by StoreFree sizes found did = (did.0, made _ _ (did.1 ∙ ap free_seat sizes) did.2)
  performs_by (PutBag seal) sizes found did = (did.0, h.store, did.1, did.2, made _ _ did.3 did.4)
  performs_by (TakeBag x) sizes found did = (did.0, after.machine.hand, h.store, did.1, did.2, made _ _ did.3 did.4)
  performs_by CallJob sizes found did = (did.0, did.1, did.2, did.3, made _ _ did.4 did.5)
  performs_by _ sizes found did = (did.0, made _ _ did.1 did.2)

-- A STEP BEGIN AND A STEP GO

-- to begin a call is a step of the world
pub begin_moves : (old new : State) (p : ℕ) (c : Call) (seat after : WorldSeat) → seat ≡ seat_of old p
    → refusal c seat old.tickets old.heap ≡ None → after ≡ begun_seat c seat → new ≡ with_seat old p after
    → Moves old (Begin p c) Began new
begin_moves old new p c seat after is given begun e =
    subst (λ r. BeginsCall old p c r Began new)
    (sym (ap (λ (q : WorldSeat). refusal c q old.tickets old.heap) (sym is) ∙ given))
    (refl, e ∙ ap (with_seat old p) (begun ∙ ap (begun_seat c) is))

-- and so is to go on with it
pub go_moves : (old new : State) (p : ℕ) (seat : WorldSeat) (reply : Reply)
    → seat ≡ seat_of old p → seat.word ≢ Free → DoesGo old p seat seat.progress reply new → Moves old (Go p) reply new
go_moves old new p seat reply is taken goes =
    inr (
      λ free. taken (ap (λ (q : WorldSeat). q.word) is ∙ free),
      subst (λ (q : WorldSeat). DoesGo old p q q.progress reply new) is goes,
    )

-- by how far the call is
pub goes_at : (old new : State) (p : ℕ) (seat : WorldSeat) (reply : Reply) (now : Progress)
    → seat.progress ≡ now → DoesGo old p seat now reply new → DoesGo old p seat seat.progress reply new
goes_at old new p seat reply now is goes = subst (λ (q : Progress). DoesGo old p seat q reply new) (sym is) goes

drives_by : (old new : State) (p : ℕ) (seat : WorldSeat) (reply : Reply) (ask : Ask) (now : Progress)
    → is_driven now ≡ true → asks seat.machine ≡ Some ask
    → PerformsAsk old p seat seat.machine.stage ask reply new → DoesGo old p seat now reply new
drives_by old new p seat reply ask (Driven c) driven asked did =
    subst (λ o. DrivesCall old p seat c seat.machine.stage o reply new) (sym asked) did
drives_by old new p seat reply ask _ driven asked did = absurd (cc)

-- to end a call is one way to go on
pub end_goes : (old new : State) (p : ℕ) (seat : WorldSeat) (c : Call) (reply : Reply)
    → asks seat.machine ≡ None → DrivesCall old p seat c seat.machine.stage None reply new
    → DoesGo old p seat (Driven c) reply new
end_goes old new p seat c reply none did =
    subst (λ o. DrivesCall old p seat c seat.machine.stage o reply new) (sym none) did

-- and to perform an ask is another
pub perform_moves : (old new : State) (p : ℕ) (seat : WorldSeat) (reply : Reply) (ask : Ask)
    → seat ≡ seat_of old p → IsDrivenAt old p ask
    → PerformsAsk old p seat seat.machine.stage ask reply new → Moves old (Go p) reply new
perform_moves old new p seat reply ask is driven did =
    go_moves old new p seat reply is (λ free. driven.taken (ap (λ (q : WorldSeat). q.word) (sym is) ∙ free))
    (drives_by old new p seat reply ask seat.progress (ap (λ (q : WorldSeat). is_driven q.progress) is
    ∙ driven.under_way) (ap (λ (q : WorldSeat). asks q.machine) is ∙ driven.asked) did)

-- a step Go that performs an ask, but for the places, from the participant's part of it
pub performed : (old now new : State) (p word : ℕ) (seat after : WorldSeat) (reply : Reply) (ask : Ask)
    (h : Common (List Bag))
    → old ≡ now → AllLinked old
    → seat ≡ seat_of old p → IsDrivenAt now p ask
    → ((k : ℕ) → ask ≡ LoadWord k → word ≡ word_number (position_word now k))
    → SeatPerforms seat.machine.sizes p word
    (common_of old) seat seat.machine.stage ask reply after h
    → new ≡ record (with_seat old p after) { epoch = h.epoch; queued = h.store; tickets = h.tickets; heap = h.heap }
    → Moves old (Go p) reply new
performed old now new p word seat after reply ask h is linked there driven found did e =
    perform_moves old new p seat reply ask there (subst (λ (s : State). IsDrivenAt s p ask) (sym is) driven)
    (performs_by old new p word seat after reply h e ask
    (ap (λ (q : WorldSeat). q.machine.sizes) there ∙ (linked.seats p).sized)
    (λ k asked. found k asked ∙ ap (λ (s : State). word_number (position_word s k)) (sym is)) did)
