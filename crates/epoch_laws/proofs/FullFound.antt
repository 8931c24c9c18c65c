-- In every run a call is told that the bags are full exactly where its put has found each place occupied.
use Rattle.std.proofs.Common.{◌≡◌, ◌≢◌, ℕ, slice_index_or, ◌<◌, List, [], ◌∷◌, length, Option, Some, None, inl, inr}
use Rattle.std.proofs.Common.{refl, ap, sym, subst, ◌∙◌}
use Rattle.epoch_cells.specs.declared.fault.Fault.{Fault}
use Rattle.epoch_cells.specs.declared.fault.Fault.TheVariants.{NotRegistered}
use Rattle.epoch_machine.specs.declared.machine.Stage.TheVariants.{Idle as Resting}
use Rattle.epoch_laws.specs.declared.step.Call.{Call}
use Rattle.epoch_laws.specs.declared.step.Entry.{Entry}
use Rattle.epoch_laws.specs.declared.step.Progress.TheVariants.{Idle}
use Rattle.epoch_laws.specs.declared.step.Reply.{Reply}
use Rattle.epoch_laws.specs.declared.step.Reply.TheVariants.{Began, Refused}
use Rattle.epoch_laws.specs.declared.step.Step.{Step}
use Rattle.epoch_laws.specs.declared.step.Step.TheVariants.{Register, Begin, Go, End as EndStep, EndGo}
use Rattle.epoch_laws.specs.declared.step.Word.{Word}
use Rattle.epoch_laws.specs.declared.step.Word.TheVariants.{Free, Unpinned}
use Rattle.epoch_laws.specs.Full.{IsOfPut, found_after, TellsFull, FullAlong, none_found, FullWhereFound}
use Rattle.epoch_laws.specs.Places.{SeesOccupied}
use Rattle.epoch_laws.specs.Run.{State, Ending, Open, Emptying, Over, seat_of, position_word, with_seat, with_places}
use Rattle.epoch_laws.specs.Run.{free_seat, seen_by, occupancy_of, turn_at, turn_of, refusal, BeginsCall, EndGoes}
use Rattle.epoch_laws.specs.Run.{SeesPlaces, TakesStep, Runs, IsFresh}
use Rattle.epoch_laws.proofs.SeatLemmas.{seat_there, begin_given, same_or_other}
use Rattle.epoch_laws.proofs.SeatLinks.{AllLinked, follows_at}
use Rattle.epoch_laws.proofs.Linked.{step_linked, fresh_linked}
use Rattle.epoch_laws.proofs.SeatsFind.{PutFinds, SameFound, as_before, rest_finds, begun_finds}
use Rattle.epoch_laws.proofs.PutsFind.{AllFind, same_count, find_along, find_written}
use Rattle.epoch_laws.proofs.FoundAfter.{others_same, own_same}
use Rattle.epoch_laws.proofs.FullOfGo.{ShowsFull, goes}

-- EVERY STEP

module _ (old new : State) (reply : Reply) (found : ℕ → ℕ → Type 0) (h : AllFind found old)
    (linked : AllLinked old) where
  abbrev aside_of : State
  aside_of = with_places new old.places old.seen old.ahead old.room

  -- nothing is found, and no seat is written
  stays : (step : Step) → SeesPlaces old step new → ((q : ℕ) → seen_by new q ≡ seen_by old q)
      → ((q : ℕ) → SameFound (found q) (found_after found old step reply new q))
      → (last : State) → aside_of ≡ last → ((q : ℕ) → seat_of last q ≡ seat_of old q)
      → AllFind (found_after found old step reply new) new
  stays step sees seen same last e seats =
      find_along old new found _ h (same_count old new step sees) same seen
      (λ q. ap (λ (s : State). seat_of s q) e ∙ seats q)

  registers : (p : ℕ) → p < length old.seats
      → SeesPlaces old Register new → aside_of ≡ with_seat old p (record (free_seat old.sizes) { word = Unpinned })
      → AllFind found new
  registers p there sees e = find_written old new found found h (same_count old new Register sees) p _ there
      (λ q other. as_before (found q)) (λ q other. ap (λ (all : List ℕ). slice_index_or all q 0) sees.1)
      (λ q. ap (λ (s : State). seat_of s q) e)
      (rest_finds _ _ _ (record (free_seat old.sizes) { word = Unpinned }) refl tt (λ plain. refl))

  begins : (p : ℕ) (c : Call) (fault : Option Fault)
      → refusal c (seat_of old p) old.tickets old.heap ≡ fault → SeesPlaces old (Begin p c) new
      → BeginsCall old p c fault reply aside_of → ShowsFull found old new (Begin p c) reply
  begins p c (Some fault) at sees did = subst (ShowsFull found old new (Begin p c)) (sym did.0) (
    tt,
    find_along old new found _ h (same_count old new (Begin p c) sees) (λ q. as_before (found q))
        (λ q. ap (λ (all : List ℕ). slice_index_or all q 0) sees.1) (λ q. ap (λ (s : State). seat_of s q) did.1),
  )
  begins p c None at sees did =
      let given = begin_given c (seat_of old p) old.tickets old.heap at in
      let rests : (seat_of old p).machine.stage ≡ Resting =
      follows_at old.sizes (seat_of old p) (linked.seats p) Idle given.idle in
      subst (ShowsFull found old new (Begin p c)) (sym did.0) (
        tt,
        find_written old new found _ h (same_count old new (Begin p c) sees) p _ (seat_there old p given.taken)
            begun_same
            (λ q other. ap (λ (all : List ℕ). slice_index_or all q 0) sees.1)
            (λ q. ap (λ (s : State). seat_of s q) did.1)
            (begun_finds _ _ _ c (seat_of old p) rests (h p).by_action (λ k was. was.0 refl)),
      )
    where
      begun_same : (q : ℕ) → q ≢ p → SameFound (found q) (found_after found old (Begin p c) Began new q)
      begun_same q other = record { more = λ k was. (other, was); back = λ k was. was.1 }

  goes_free : (p : ℕ) → position_word old p ≡ Free
      → SeesPlaces old (Go p) new → reply ≡ Refused NotRegistered → aside_of ≡ old
      → ShowsFull found old new (Go p) reply
  goes_free p free sees told e = (
    subst (TellsFull found old (Go p)) (sym told) tt,
    stays (Go p) sees seen same_found old e (λ q. refl),
  )
    where
      off : ¬ (IsOfPut (turn_of (seat_of old p)))
      off puts =
          subst (λ (w : Word). IsOfPut (turn_at w (seat_of old p).progress (seat_of old p).machine.stage)) free puts

      same_found : (q : ℕ) → SameFound (found q) (found_after found old (Go p) reply new q)
      same_found q = elim (same_or_other q p) [
        | inl same ↦ subst (λ (k : ℕ). SameFound (found k) (found_after found old (Go p) reply new k)) (sym same)
            (own_same found old new reply p off)
        | inr other ↦ others_same found old new reply p q other
      ]

      own : seen_by new p ≡ seen_by old p
      own =
          (subst
          (λ (w : Word). SeesOccupied (turn_at w (seat_of old p).progress (seat_of old p).machine.stage)
          (seat_of old p).machine (seat_of new p).machine (occupancy_of old p) (occupancy_of new p)) free sees.0).1

      seen : (q : ℕ) → seen_by new q ≡ seen_by old q
      seen q = elim (same_or_other q p) [
        | inl same ↦ subst (λ (k : ℕ). seen_by new k ≡ seen_by old k) (sym same) own
        | inr other ↦ sees.1 q other
      ]

  -- a step of the end
  ends_all : (ending : Ending) → SeesPlaces old EndGo new → EndGoes old ending reply aside_of → AllFind found new
  ends_all ending sees did = by_ending ending did
    where
      along : (last : State) → aside_of ≡ last → ((q : ℕ) → seat_of last q ≡ seat_of old q) → AllFind found new
      along = stays EndGo sees (λ q. ap (λ (all : List ℕ). slice_index_or all q 0) sees.1) (λ q. as_before (found q))

      by_ending : (ending : Ending) → EndGoes old ending reply aside_of → AllFind found new
      by_ending Open did = along old did.1 (λ q. refl)
      by_ending Over did = along old did.1 (λ q. refl)
      by_ending (Emptying (job ∷ jobs) n) did = along _ did.1 (λ q. refl)
      by_ending (Emptying [] n) (inl did) = along _ did.4 (λ q. refl)
      by_ending (Emptying [] n) (inr did) = along _ did.2 (λ q. refl)

  -- a step that neither an end nor a participant goes on with
  still : (new.places ≡ old.places) × (new.seen ≡ old.seen) × (new.ahead ≡ old.ahead) × (new.room ≡ old.room)
      → (last : State) → aside_of ≡ last → ((q : ℕ) → seat_of last q ≡ seat_of old q)
      → AllFind found new
  still same last e seats = find_along old new found found h (ap length same.0) (λ q. as_before (found q))
      (λ q. ap (λ (all : List ℕ). slice_index_or all q 0) same.1) (λ q. ap (λ (s : State). seat_of s q) e ∙ seats q)

  step_shown : (step : Step) → TakesStep old step reply new → ShowsFull found old new step reply
  step_shown Register (inl did, sees) = (tt, registers did.0 did.2 sees did.6)
  step_shown Register (inr (inl did), sees) = (tt, still sees old did.3 (λ q. refl))
  step_shown Register (inr (inr did), sees) = (tt, still sees old did.2 (λ q. refl))
  step_shown (Begin p c) (did, sees) = begins p c (refusal c (seat_of old p) old.tickets old.heap) refl sees did
  step_shown (Go p) (inl did, sees) = goes_free p did.0 sees did.1 did.2
  step_shown (Go p) (inr did, sees) = goes old new reply found h p did.0 sees linked (seat_of old p).progress refl did.1
  step_shown EndStep (inl did, sees) = (tt, still sees _ did.3 (λ q. refl))
  step_shown EndStep (inr (inl did), sees) = (tt, still sees old did.3 (λ q. refl))
  step_shown EndStep (inr (inr did), sees) = (tt, still sees old did.2 (λ q. refl))
  step_shown EndGo (did, sees) = (tt, ends_all old.ending sees did)

-- WHOLE RUNS

full_from : (old new : State) (log : List Entry) (found : ℕ → ℕ → Type 0)
    → AllFind found old → AllLinked old → (run : Runs old log new)
    → FullAlong found old new log run
full_from old new [] found h linked run = tt
full_from old new (x ∷ log) found h linked (mid, did, run) =
    let shown : ShowsFull found old mid x.step x.reply = step_shown old mid x.reply found h linked x.step did in
    (shown.0, full_from mid new log _ shown.1 (step_linked old mid x.step x.reply linked did) run)

-- in every run of a new world a call is told that the bags are full just where its put has found each place occupied
pub found_full : (s new : State) (log : List Entry) → IsFresh s → FullWhereFound s log new
found_full s new log fresh run = full_from s new log none_found all_free (fresh_linked s fresh) run
  where
    all_free : AllFind none_found s
    all_free p = subst (PutFinds (none_found p) (length s.places) (seen_by s p)) (sym (fresh.free p))
        (rest_finds _ _ _ (free_seat s.sizes) refl tt (λ plain. refl))
