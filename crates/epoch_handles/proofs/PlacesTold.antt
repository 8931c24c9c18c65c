-- The answers of puts and of collections are those that the words found at the places stand for.
use Rattle.std.proofs.Common.{◌≡◌, ◌∙◌, ℕ, List, [], ◌∷◌, ◌++◌, refl, sym, ap, inl, inr}
use Rattle.std.proofs.lemmas.Bool.Decides.{eqb_tells}
use Rattle.std.proofs.lemmas.List.{append_assoc, append-nil}
use Rattle.epoch_bags.specs.Bags.{Sealed}
use Rattle.epoch_tables.specs.SharedPlaces.{PlaceMe}
use Rattle.epoch_tables.specs.SharedSteps.{PutMoves, TakeMoves}
use Rattle.epoch_tables.specs.declared.shared_places.view.PlaceView.{PlaceView}
use Rattle.epoch_bags.specs.declared.queue.PutStep.{PutStep}
use Rattle.epoch_bags.specs.declared.queue.TakeStep.{TakeStep}
use Rattle.epoch_bags.specs.declared.queue.places.PutCursor.{PutCursor}
use Rattle.epoch_bags.specs.declared.queue.places.PutCursor.TheVariants.{Look as PutLook, Claim as PutClaim, Fill}
use Rattle.epoch_bags.specs.declared.queue.places.TakeCursor.{TakeCursor}
use Rattle.epoch_bags.specs.declared.queue.places.TakeCursor.TheVariants.{Look as TakeLook, Claim as TakeClaim, Empty}
use Rattle.epoch_machine.specs.declared.machine.Ask.{Ask}
use Rattle.epoch_machine.specs.declared.machine.Ask.TheVariants.{LoadEpoch, LoadWord, StorePinned, StoreRepinned}
use Rattle.epoch_machine.specs.declared.machine.Ask.TheVariants.{StoreUnpinned, StoreFree, StoreEpoch, PutBag, TakeBag}
use Rattle.epoch_machine.specs.declared.machine.Ask.TheVariants.{KeepJob, CallJob}
use Rattle.epoch_machine.specs.declared.machine.Answer.TheVariants.{Epoch, Word, Stored, Job}
use Rattle.epoch_machine.specs.Asks.{Reply, Heard, PutStepped, TakeStepped, JobGiven, Log}
use Rattle.epoch_handles.specs.Drives.{Sight, Situation, Performs, Performed}
use Rattle.epoch_handles.specs.Told.{PutTells, TakeTells, Tells, TellsAll}
use Rattle.epoch_handles.proofs.Telling.{passes_or_not}

module _ {J : Type 0} where
  -- these words were appended to those that a seat found
  abbrev Adds : PlaceView J → List ℕ → PlaceView J → Type 0
  Adds v words u = u.found ≡ v.found ++ words

  adds_none : (v u : PlaceView J) → u.found ≡ v.found → Adds v [] u
  adds_none v u same = same ∙ sym (append-nil v.found)

  put_told : (places : ℕ) (cursor next : PutCursor) (step : PutStep) (bag : Sealed J) (v u : PlaceMe J)
      → PutMoves places cursor v bag step next u
      → (found : List ℕ) × Adds v.0 found u.0 × PutTells places cursor found step next
  put_told places (PutLook place) next step bag v u (word, is, free, occupied) =
      (word ∷ [], ap (λ (z : PlaceMe J). z.0.found) is, (word, refl, free, occupied))
  put_told places (PutClaim place) next step bag v u (word, free, occupied) = elim (eqb_tells word 0) [
    | inl zero ↦ (
      word ∷ [],
      ap (λ (z : PlaceMe J). z.0.found) (free zero.1).0.2,
      (word, refl, (λ at. ((free at).1, (free at).2)), (λ other. (occupied other).1)),
    )
    | inr differs ↦ (
      word ∷ [],
      ap (λ (z : PlaceMe J). z.0.found) (occupied differs.1).0,
      (word, refl, (λ at. ((free at).1, (free at).2)), (λ other. (occupied other).1)),
    )
  ]
  put_told places (Fill place) next step bag v u (done, is) =
      ([], adds_none v.0 u.0 (ap (λ (z : PlaceMe J). z.0.found) is), (refl, done))

  take_told : (places x : ℕ) (cursor next : TakeCursor) (step : TakeStep) (bag : Sealed J) (v u : PlaceMe J)
      → TakeMoves places x cursor v step next u bag
      → (found : List ℕ) × Adds v.0 found u.0 × TakeTells places x cursor found step next
  take_told places x (TakeLook place) next step bag v u (past, looks) = elim (eqb_tells place places) [
    | inl last ↦ (
      [],
      adds_none v.0 u.0 (ap (λ (z : PlaceMe J). z.0.found) (past last.1).1),
      ((λ at. (refl, (past at).0)), (λ other. absurd (other last.1))),
    )
    | inr before ↦ (
        let word = (looks before.1).0 in (
          word ∷ [],
          ap (λ (z : PlaceMe J). z.0.found) (looks before.1).1,
          ((λ at. absurd (before.1 at)), (λ other. (word, refl, (looks before.1).2, (looks before.1).3))),
        ))
  ]
  take_told places x (TakeClaim place claims) next step bag v u (word, won, lost) = elim (eqb_tells word claims) [
    | inl same ↦ (
      word ∷ [],
      ap (λ (z : PlaceMe J). z.0.found) (won same.1).0.2,
      (word, refl, (λ at. ((won at).1, (won at).2)), (λ other. (lost other).1)),
    )
    | inr differs ↦ (
      word ∷ [],
      ap (λ (z : PlaceMe J). z.0.found) (lost differs.1).0,
      (word, refl, (λ at. ((won at).1, (won at).2)), (λ other. (lost other).1)),
    )
  ]
  take_told places x (Empty place) next step bag v u (got, goes, (is, hand, expired)) =
      ([], adds_none v.0 u.0 (ap (λ (z : PlaceMe J). z.0.found) is), (refl, got, goes))

  -- a step at the other table finds no word at a place
  silent : (v u : Sight J) → u.places ≡ v.places → Adds v.places.0 [] u.places.0
  silent v u same = adds_none v.places.0 u.places.0 (ap (λ (z : PlaceMe J). z.0.found) same)

  one_told : (places : ℕ) (before after : Situation J) (ask : Ask) (reply : Reply J)
      → Performs places before ask reply after
      → (found : List ℕ) × Adds before.sight.places.0 found after.sight.places.0
      × Tells places before.cursors ask reply found after.cursors
  one_told places before after LoadEpoch (Heard (Epoch e)) (rises, is, start) =
      ([], silent before.sight after.sight (ap (λ (z : Sight J). z.places) is), (refl, start))
  one_told places before after (StorePinned e) (Heard Stored) (read, is, same) =
      ([], silent before.sight after.sight (ap (λ (z : Sight J). z.places) is), (refl, same))
  one_told places before after (StoreRepinned e) (Heard Stored) (read, is, same) =
      ([], silent before.sight after.sight (ap (λ (z : Sight J). z.places) is), (refl, same))
  one_told places before after StoreUnpinned (Heard Stored) (is, same) =
      ([], silent before.sight after.sight (ap (λ (z : Sight J). z.places) is), (refl, same))
  one_told places before after StoreFree (Heard Stored) (is, same) =
      ([], silent before.sight after.sight (ap (λ (z : Sight J). z.places) is), (refl, same))
  one_told places before after (LoadWord k) (Heard (Word w)) (is_word, same, (e, scan, passed, held)) =
      elim (passes_or_not e w is_word) [
        | inl lets ↦ ([], silent before.sight after.sight (ap (λ (z : Sight J). z.places) (passed lets)), (refl, same))
        | inr holds ↦ ([], silent before.sight after.sight (ap (λ (z : Sight J). z.places) (held holds)), (refl, same))
      ]
  one_told places before after (StoreEpoch e) (Heard Stored) (ahead, is, same) =
      ([], silent before.sight after.sight (ap (λ (z : Sight J). z.places) is), (refl, same))
  one_told places before after KeepJob (Heard (Job job)) (is, same) =
      ([], silent before.sight after.sight (ap (λ (z : Sight J). z.places) is), (refl, same))
  one_told places before after CallJob (JobGiven job) (is, same) =
      ([], silent before.sight after.sight (ap (λ (z : Sight J). z.places) is), (refl, same))
  one_told places before after (PutBag seal) (PutStepped step) (is, same, moves) =
      let put = put_told places before.cursors.put after.cursors.put step
      (record { seal = seal; jobs = before.machine.held }) before.sight.places after.sight.places moves in
      (put.0, put.1, (same, put.2))
  one_told places before after (TakeBag x) (TakeStepped step jobs) (is, same, (bag, got, moves)) =
      let take =
      take_told places x before.cursors.take after.cursors.take step bag before.sight.places after.sight.places moves in
      (take.0, take.1, (same, take.2))
  one_told places before after ask reply performs = absurd performs

  pub answers_found : (places : ℕ) (before after : Situation J) (log : Log J)
      → Performed places before log after
      → (words : List ℕ) × (after.sight.places.0.found ≡ before.sight.places.0.found ++ words)
      × TellsAll places before.cursors log words after.cursors
  answers_found places before after [] same = (
    [],
    silent before.sight after.sight (ap (λ (z : Situation J). z.sight.places) same),
    (refl, ap (λ (z : Situation J). z.cursors) same),
  )
  answers_found places before after (x ∷ log) (next, exchange, behind) =
      let one = one_told places before next x.ask x.reply exchange.performs in
      let more = answers_found places next after log behind in (
        one.0 ++ more.0,
        more.1 ∙ ap (λ (found : List ℕ). found ++ more.0) one.1 ∙ append_assoc before.sight.places.0.found one.0 more.0,
        (one.0, more.0, next.cursors, refl, one.2, more.2),
      )
