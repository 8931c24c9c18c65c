-- A collection is for an epoch that its seat has read or stored.
use Rattle.std.proofs.Common.{◌≡◌, ℕ, ◌+◌, ◌≤◌, ◌==◌, true, false, List, [], ◌∷◌}
use Rattle.std.proofs.Common.{Option, Some, None, refl, sym, ap, subst, arith}
use Rattle.epoch_bags.specs.declared.queue.PutStep.{PutStep}
use Rattle.epoch_bags.specs.declared.queue.PutStep.TheVariants.{Again as PutAgain, Done, Full}
use Rattle.epoch_bags.specs.declared.queue.TakeStep.{TakeStep}
use Rattle.epoch_bags.specs.declared.queue.TakeStep.TheVariants.{Again as TakeAgain, Empty as TakeEnds, Got}
use Rattle.epoch_machine.specs.declared.machine.Action.{Action}
use Rattle.epoch_machine.specs.declared.machine.Answer.{Answer}
use Rattle.epoch_machine.specs.declared.machine.Answer.TheVariants.{Epoch, Word, Stored, Job}
use Rattle.epoch_machine.specs.declared.machine.Ask.{Ask}
use Rattle.epoch_machine.specs.declared.machine.Ask.TheVariants.{LoadEpoch, LoadWord, StorePinned, StoreRepinned}
use Rattle.epoch_machine.specs.declared.machine.Ask.TheVariants.{StoreUnpinned as AskUnpinned, StoreFree as AskFree}
use Rattle.epoch_machine.specs.declared.machine.Ask.TheVariants.{StoreEpoch, TakeBag, KeepJob, CallJob}
use Rattle.epoch_machine.specs.declared.machine.Stage.{Stage}
use Rattle.epoch_machine.specs.declared.machine.Stage.TheVariants.{Scan, Advance, Take, Calling}
use Rattle.epoch_machine.specs.Machine.{Machine, ask_at, begun, put_heard, took_heard, gives, after_collect}
use Rattle.epoch_machine.specs.Machine.{after_job, rest, is_empty}
use Rattle.epoch_machine.specs.Asks.{Reply, Heard, PutStepped, TakeStepped, JobGiven, Log, told}
use Rattle.epoch_handles.specs.Drives.{Sight, Situation, Performs, Performed}
use Rattle.epoch_handles.specs.Told.{IsExpiryWithin, AreExpiriesWithin}
use Rattle.epoch_handles.proofs.StagesHeard.{StageIs, AnswerIs, either_is, collected_is, put_is, heard_is, begun_is}
use Rattle.epoch_handles.proofs.Telling.{one_found, replies_found}

-- the epoch of a scan, of an advance or of a collection is at most this one
abbrev Upto : ℕ → ℕ → Type 0
Upto seen epoch = epoch ≤ seen

abbrev StageSeen : ℕ → Stage → Type 0
StageSeen seen = StageIs (Upto seen) (Upto seen)

abbrev IsSeenBy : {J : Type 0} → ℕ → Stage → Answer J → Type 0
IsSeenBy seen = AnswerIs (Upto seen) (Upto seen)

still_seen : (seen now : ℕ) (s : Stage) → seen ≤ now → StageSeen seen s → StageSeen now s
still_seen seen now (Scan e k) grows at = omega arith
still_seen seen now (Advance e) grows at = omega arith
still_seen seen now (Take x k) grows at = omega arith
still_seen seen now (Calling x k) grows at = omega arith
still_seen seen now _ grows at = tt

-- what an ask is, where there is one
ask_in : Option Ask → Ask
ask_in (Some ask) = ask
ask_in None = CallJob

same_ask : (ask other : Ask) → Some ask ≡ Some other → ask ≡ other
unfolding ask_in
same_ask ask other same = ap ask_in same

-- a stage that asks for a store of the epoch is the one that advances to it
stored_by : (J : Type 0) (seen : ℕ) (s : Stage) (ask : Ask)
    → ask_at s ≡ Some ask → ((e : ℕ) → ask ≡ StoreEpoch e → e ≤ seen) → IsSeenBy {J = J} seen s Stored
stored_by J seen (Advance e) ask is within = within (e + 1) (sym (same_ask (StoreEpoch (e + 1)) ask is))
stored_by J seen _ ask is within = tt

-- the epoch that an ask stores
stored_epoch : Ask → ℕ
stored_epoch (StoreEpoch e) = e
stored_epoch ask = 0

within_later : (seen now : ℕ) (ask : Ask) → seen ≤ now → IsExpiryWithin seen ask → IsExpiryWithin now ask
within_later seen now (TakeBag x) grows within = omega arith
within_later seen now _ grows within = tt

IsWithinAsk : ℕ → Option Ask → Type 0
IsWithinAsk seen (Some ask) = IsExpiryWithin seen ask
IsWithinAsk seen None = Unit {0}

stage_within : (seen : ℕ) (s : Stage) → StageSeen seen s → IsWithinAsk seen (ask_at s)
unfolding IsWithinAsk
stage_within seen (Take x k) at = at
stage_within seen _ at = tt

ask_within : (seen : ℕ) (s : Stage) (ask : Ask) → ask_at s ≡ Some ask → StageSeen seen s → IsExpiryWithin seen ask
unfolding IsWithinAsk
ask_within seen s ask is at = subst (IsWithinAsk seen) is (stage_within seen s at)

module _ {J : Type 0} where
  job_seen : (seen : ℕ) (m : Machine J) (x k : ℕ) (jobs : List J) → x ≤ seen → StageSeen seen (after_job m x k jobs)
  job_seen seen m x k jobs at =
      either_is (Upto seen) (Upto seen) (is_empty jobs) _ (Calling x k)
      (either_is (Upto seen) (Upto seen) (k + 1 == m.sizes.collect_bags) (after_collect m.action m.held)
      (Take x (k + 1)) (collected_is (Upto seen) (Upto seen) m.action m.held) at) at

  took_seen : (seen : ℕ) (m : Machine J) (s : Stage) (step : TakeStep) (jobs : List J)
      → m.stage ≡ s → StageSeen seen s → StageSeen seen (took_heard m s step jobs).stage
  took_seen seen m (Take x k) TakeAgain jobs is at = subst (StageSeen seen) (sym is) at
  took_seen seen m (Take x k) TakeEnds jobs is at = collected_is (Upto seen) (Upto seen) m.action m.held
  took_seen seen m (Take x k) Got jobs is at = job_seen seen m x k jobs at
  took_seen seen m s step jobs is at = subst (StageSeen seen) (sym is) at

  given_seen : (seen : ℕ) (m : Machine J) (s : Stage) (jobs : List J)
      → m.stage ≡ s → StageSeen seen s → StageSeen seen (gives m s jobs).stage
  given_seen seen m (Calling x k) jobs is at = job_seen seen m x k jobs at
  given_seen seen m s jobs is at = subst (StageSeen seen) (sym is) at

  put_step_seen : (seen : ℕ) (m : Machine J) (step : PutStep)
      → StageSeen seen m.stage → StageSeen seen (put_heard m step).stage
  put_step_seen seen m PutAgain at = at
  put_step_seen seen m Done at = put_is (Upto seen) (Upto seen) m.action false
  put_step_seen seen m Full at = put_is (Upto seen) (Upto seen) m.action true

  -- what the answer of a step tells of the epoch seen after it
  answer_seen : (places : ℕ) (before after : Situation J) (ask : Ask) (a : Answer J)
      → ask_at before.machine.stage ≡ Some ask
      → Performs places before ask (Heard a) after
      → IsSeenBy after.sight.words.seen before.machine.stage a
  unfolding stored_epoch
  answer_seen places before after LoadEpoch (Epoch e) asked (rises, is, start) =
      let seen = ap (λ (z : Sight J). z.words.seen) is in omega arith
  answer_seen places before after (LoadWord k) (Word x) asked performs = tt
  answer_seen places before after (StorePinned e) Stored asked performs =
      stored_by J after.sight.words.seen before.machine.stage (StorePinned e) asked (λ x is. absurd (cc is))
  answer_seen places before after (StoreRepinned e) Stored asked performs =
      stored_by J after.sight.words.seen before.machine.stage (StoreRepinned e) asked (λ x is. absurd (cc is))
  answer_seen places before after AskUnpinned Stored asked performs =
      stored_by J after.sight.words.seen before.machine.stage AskUnpinned asked (λ x is. absurd (cc is))
  answer_seen places before after AskFree Stored asked performs =
      stored_by J after.sight.words.seen before.machine.stage AskFree asked (λ x is. absurd (cc is))
  answer_seen places before after (StoreEpoch e) Stored asked (ahead, is, same) =
      stored_by J after.sight.words.seen before.machine.stage (StoreEpoch e) asked
      (λ x at. let seen = ap (λ (z : Sight J). z.words.seen) is in let stored = ap stored_epoch at in omega arith)
  answer_seen places before after KeepJob (Job job) asked performs = tt
  answer_seen places before after ask a asked performs = absurd performs

  -- after any step, the stage's epoch is one that was seen
  told_seen : (places : ℕ) (before after : Situation J) (ask : Ask) (reply : Reply J)
      → ask_at before.machine.stage ≡ Some ask
      → Performs places before ask reply after
      → StageSeen after.sight.words.seen before.machine.stage
      → StageSeen after.sight.words.seen (told before.machine reply).stage
  told_seen places before after ask (Heard a) asked performs at =
      heard_is (Upto after.sight.words.seen) (Upto after.sight.words.seen) before.machine before.machine.stage a refl at
      (answer_seen places before after ask a asked performs)
  told_seen places before after ask (PutStepped step) asked performs at =
      put_step_seen after.sight.words.seen before.machine step at
  told_seen places before after ask (TakeStepped step jobs) asked performs at =
      took_seen after.sight.words.seen before.machine before.machine.stage step jobs refl at
  told_seen places before after ask (JobGiven job) asked performs at =
      given_seen after.sight.words.seen before.machine before.machine.stage (rest before.machine.hand) refl at

  expiries_seen_from : (places : ℕ) (before after : Situation J) (log : Log J)
      → StageSeen before.sight.words.seen before.machine.stage
      → Performed places before log after
      → AreExpiriesWithin after.sight.words.seen log
  expiries_seen_from places before after [] at performed = tt
  expiries_seen_from places before after (x ∷ log) at (next, exchange, behind) =
      let grows = (one_found places before next x.ask x.reply exchange.performs).1 in
      let later = (replies_found places next after log behind).1 in
      let still = still_seen before.sight.words.seen next.sight.words.seen before.machine.stage grows at in
      let goes_on = told_seen places before next x.ask x.reply exchange.asked exchange.performs still in (
        within_later before.sight.words.seen after.sight.words.seen x.ask (omega arith)
            (ask_within before.sight.words.seen before.machine.stage x.ask exchange.asked at),
        expiries_seen_from places next after log
            (subst (λ (m : Machine J). StageSeen next.sight.words.seen m.stage) (sym exchange.machine) goes_on) behind,
      )

  pub expiries_seen : (places : ℕ) (action : Action) (before after : Situation J) (log : Log J)
      → Performed places (record before { machine = begun action before.machine }) log after
      → AreExpiriesWithin after.sight.words.seen log
  expiries_seen places action before after log performed =
      expiries_seen_from places (record before { machine = begun action before.machine }) after log
      (begun_is (Upto before.sight.words.seen) (Upto before.sight.words.seen) action before.machine) performed
