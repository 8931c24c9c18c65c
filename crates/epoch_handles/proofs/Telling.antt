-- The replies on the participants' table are the words that the seat's steps found.
use Rattle.std.proofs.Common.{◌≡◌, ◌∙◌, ℕ, ◌≤◌, ◌⊎◌, List, [], ◌∷◌, ◌++◌, sym, ap, arith, inl, inr}
use Rattle.std.proofs.lemmas.Bool.Decides.{eqb_tells}
use Rattle.std.proofs.lemmas.List.{append_assoc, append-nil}
use Rattle.epoch_tables.specs.Table.{IsWord, LetsPass}
use Rattle.epoch_tables.specs.declared.table.view.ParticipantView.{ParticipantView}
use Rattle.epoch_machine.specs.declared.machine.Ask.{Ask}
use Rattle.epoch_machine.specs.declared.machine.Ask.TheVariants.{LoadEpoch, LoadWord, StorePinned, StoreRepinned}
use Rattle.epoch_machine.specs.declared.machine.Ask.TheVariants.{StoreUnpinned, StoreFree, StoreEpoch, PutBag, TakeBag}
use Rattle.epoch_machine.specs.declared.machine.Ask.TheVariants.{KeepJob, CallJob}
use Rattle.epoch_machine.specs.declared.machine.Answer.TheVariants.{Epoch, Word, Stored, Job}
use Rattle.epoch_machine.specs.Asks.{Reply, Heard, PutStepped, TakeStepped, JobGiven, Log}
use Rattle.epoch_handles.specs.Drives.{Sight, Situation, Performs, Performed}
use Rattle.epoch_handles.specs.Told.{word_told, words_told}

-- a scan passes the word, or is held up by it
pub passes_or_not : (e w : ℕ) → IsWord w → LetsPass e w ⊎ (¬ LetsPass e w)
passes_or_not e w (inl free) = inl (inl free)
passes_or_not e w (inr (inl unpinned)) = inl (inr (inl unpinned))
passes_or_not e w (inr (inr (published, is))) = elim (eqb_tells published e) [
  | inl same ↦ inl (inr (inr (let at = same.1 in omega arith)))
  | inr differs ↦ inr (λ lets. elim lets [
    | inl free ↦ omega arith
    | inr rest ↦ elim rest [
      | inl unpinned ↦ omega arith
      | inr own ↦ differs.1 (omega arith)
    ]
  ])
]

module _ {J : Type 0} where
  -- what one step found, and that its epoch is no lower
  abbrev pub Finds : Sight J → Reply J → Sight J → Type 0
  Finds v reply u = (u.words.found ≡ v.words.found ++ word_told reply) × (v.words.seen ≤ u.words.seen)

  -- a step that finds no word, and leaves the greatest epoch
  silent : (v u : Sight J) → u.words.found ≡ v.words.found → u.words.seen ≡ v.words.seen
      → (u.words.found ≡ v.words.found ++ []) × (v.words.seen ≤ u.words.seen)
  silent v u found seen = (found ∙ sym (append-nil v.words.found), omega arith)

  pub one_found : (places : ℕ) (before after : Situation J) (ask : Ask) (reply : Reply J)
      → Performs places before ask reply after → Finds before.sight reply after.sight
  one_found places before after LoadEpoch (Heard (Epoch e)) (rises, is, start) =
      (ap (λ (z : Sight J). z.words.found) is, let seen = ap (λ (z : Sight J). z.words.seen) is in omega arith)
  one_found places before after (StorePinned e) (Heard Stored) (read, is, same) =
      silent before.sight after.sight (ap (λ (z : Sight J). z.words.found) is) (ap (λ (z : Sight J). z.words.seen) is)
  one_found places before after (StoreRepinned e) (Heard Stored) (read, is, same) =
      silent before.sight after.sight (ap (λ (z : Sight J). z.words.found) is) (ap (λ (z : Sight J). z.words.seen) is)
  one_found places before after StoreUnpinned (Heard Stored) (is, same) =
      silent before.sight after.sight (ap (λ (z : Sight J). z.words.found) is) (ap (λ (z : Sight J). z.words.seen) is)
  one_found places before after StoreFree (Heard Stored) (is, same) =
      silent before.sight after.sight (ap (λ (z : Sight J). z.words.found) is) (ap (λ (z : Sight J). z.words.seen) is)
  one_found places before after (LoadWord k) (Heard (Word w)) (is_word, same, (e, scan, passed, held)) =
      elim (passes_or_not e w is_word) [
        | inl lets ↦ (
          ap (λ (z : Sight J). z.words.found) (passed lets),
          let seen = ap (λ (z : Sight J). z.words.seen) (passed lets) in omega arith,
        )
        | inr holds ↦ (
          ap (λ (z : Sight J). z.words.found) (held holds),
          let seen = ap (λ (z : Sight J). z.words.seen) (held holds) in omega arith,
        )
      ]
  one_found places before after (StoreEpoch e) (Heard Stored) (ahead, is, same) = (
    ap (λ (z : Sight J). z.words.found) is ∙ sym (append-nil before.sight.words.found),
    let seen = ap (λ (z : Sight J). z.words.seen) is in omega arith,
  )
  one_found places before after KeepJob (Heard (Job job)) (is, same) =
      silent before.sight after.sight (ap (λ (z : Sight J). z.words.found) is) (ap (λ (z : Sight J). z.words.seen) is)
  one_found places before after CallJob (JobGiven job) (is, same) =
      silent before.sight after.sight (ap (λ (z : Sight J). z.words.found) is) (ap (λ (z : Sight J). z.words.seen) is)
  one_found places before after (PutBag seal) (PutStepped step) (is, same, moves) = silent before.sight after.sight
      (ap (λ (z : ParticipantView). z.found) is) (ap (λ (z : ParticipantView). z.seen) is)
  one_found places before after (TakeBag x) (TakeStepped step jobs) (is, same, moves) = silent before.sight after.sight
      (ap (λ (z : ParticipantView). z.found) is) (ap (λ (z : ParticipantView). z.seen) is)
  one_found places before after ask reply performs = absurd performs

  pub replies_found : (places : ℕ) (before after : Situation J) (log : Log J)
      → Performed places before log after
      → (after.sight.words.found ≡ before.sight.words.found ++ words_told log)
      × (before.sight.words.seen ≤ after.sight.words.seen)
  replies_found places before after [] same =
      silent before.sight after.sight (ap (λ (z : Situation J). z.sight.words.found) same)
      (ap (λ (z : Situation J). z.sight.words.seen) same)
  replies_found places before after (x ∷ log) (next, exchange, behind) =
      let one = one_found places before next x.ask x.reply exchange.performs in
      let more = replies_found places next after log behind in (
        more.0 ∙ ap (λ (found : List ℕ). found ++ words_told log) one.0
            ∙ append_assoc before.sight.words.found (word_told x.reply) (words_told log),
        let first = one.1 in let rest = more.1 in omega arith,
      )
