-- What a machine's stages have in common after any answer: a fact about the epoch of a scan, an advance or a
-- collection, and one about the epoch of a bag in hand.
use Rattle.std.proofs.Common.{◌≡◌, ℕ, ◌+◌, ◌-◌, ◌^◌, ◌==◌, if◌then◌else◌, Bool, true, false, List, [], ◌∷◌, length}
use Rattle.std.proofs.Common.{sym, subst}
use Rattle.epoch_machine.specs.declared.machine.Action.{Action}
use Rattle.epoch_machine.specs.declared.machine.Action.TheVariants.{Pin, Unpin, Repin, Defer, Flush, Release}
use Rattle.epoch_machine.specs.declared.machine.Answer.{Answer}
use Rattle.epoch_machine.specs.declared.machine.Answer.TheVariants.{Epoch, Word, Stored, Job}
use Rattle.epoch_machine.specs.declared.machine.Stage.{Stage}
use Rattle.epoch_machine.specs.declared.machine.Stage.TheVariants.{LoadPin, StorePin, ReloadPin, LoadScan, Scan}
use Rattle.epoch_machine.specs.declared.machine.Stage.TheVariants.{StoreFree}
use Rattle.epoch_machine.specs.declared.machine.Stage.TheVariants.{Advance, Take, Calling, LoadSeal, Keep, LoadRepin}
use Rattle.epoch_machine.specs.declared.machine.Stage.TheVariants.{StoreRepin, ReloadRepin, StoreUnpinned, End}
use Rattle.epoch_machine.specs.Machine.{Machine, hears, after_collect, after_put, after_unpin, scanned, past_word}
use Rattle.epoch_machine.specs.Machine.{holds_up, first_stage, is_empty}

module _ (Looks InHand : ℕ → Type 0) where
  -- the one fact of a stage that scans, advances or takes, and the other of one that calls
  abbrev pub StageIs : Stage → Type 0
  StageIs (Scan e k) = Looks e
  StageIs (Advance e) = Looks e
  StageIs (Take x k) = Looks x
  StageIs (Calling x k) = InHand x
  StageIs stage = Unit {0}

  -- what an answer tells of the epoch that is looked for next
  abbrev pub AnswerIs : {J : Type 0} → Stage → Answer J → Type 0
  AnswerIs stage (Epoch e) = Looks e
  AnswerIs (Advance e) Stored = Looks (e + 1)
  AnswerIs stage answer = Unit {0}

  pub collected_is : {J : Type 0} (a : Action) (held : List J) → StageIs (after_collect a held)
  collected_is Release [] = tt
  collected_is Release (job ∷ jobs) = tt
  collected_is Pin held = tt
  collected_is Unpin held = tt
  collected_is Repin held = tt
  collected_is Defer held = tt
  collected_is Flush held = tt

  pub either_is : (b : Bool) (s t : Stage) → StageIs s → StageIs t → StageIs (if b then s else t)
  either_is true s t first second = first
  either_is false s t first second = second

  pub put_is : (a : Action) (full : Bool) → StageIs (after_put a full)
  put_is Flush full = tt
  put_is Defer true = tt
  put_is Defer false = tt
  put_is Release full = tt
  put_is Pin full = tt
  put_is Unpin full = tt
  put_is Repin full = tt

  pub unpinned_is : (a : Action) (full : Bool) → StageIs (after_unpin a full)
  unpinned_is Release true = tt
  unpinned_is Release false = tt
  unpinned_is Pin full = tt
  unpinned_is Unpin full = tt
  unpinned_is Repin full = tt
  unpinned_is Defer full = tt
  unpinned_is Flush full = tt

  pub word_is : (positions e k w : ℕ) → Looks e → StageIs (past_word positions e k w)
  word_is positions e k w at =
      either_is (holds_up e w) (Take e 0) _ at
      (either_is (k + 1 == positions) (scanned e) (Scan e (k + 1))
      (either_is (e == 2 ^ 63 - 1) (Take e 0) (Advance e) at at) at)

  module _ {J : Type 0} where
    pub heard_is : (m : Machine J) (s : Stage) (a : Answer J)
        → m.stage ≡ s → StageIs s → AnswerIs s a → StageIs (hears m s a).stage
    heard_is m LoadPin (Epoch e) is at by = tt
    heard_is m ReloadPin (Epoch e) is at by =
        either_is (m.pins == 1) LoadScan (after_collect m.action m.held) tt (collected_is m.action m.held)
    heard_is m LoadScan (Epoch e) is at by = by
    heard_is m LoadSeal (Epoch e) is at by = tt
    heard_is m LoadRepin (Epoch e) is at by = either_is (m.published == e) End (StoreRepin e) tt tt
    heard_is m ReloadRepin (Epoch e) is at by = tt
    heard_is m (Scan e k) (Word w) is at by = word_is m.sizes.positions e k w at
    heard_is m (StorePin e) Stored is at by = tt
    heard_is m (StoreRepin e) Stored is at by = tt
    heard_is m (Advance e) Stored is at by = by
    heard_is m StoreUnpinned Stored is at by = unpinned_is m.action m.full
    heard_is m StoreFree Stored is at by = tt
    heard_is m Keep (Job job) is at by = tt
    heard_is m s a is at by = subst StageIs (sym is) at

    -- an action begins at no scan and no collection
    pub begun_is : (action : Action) (m : Machine J) → StageIs (first_stage action m)
    begun_is Pin m = either_is (m.guards == 0) LoadPin End tt tt
    begun_is Unpin m = either_is (m.guards == 1) StoreUnpinned End tt tt
    begun_is Repin m = either_is (m.guards == 1) LoadRepin End tt tt
    begun_is Defer m = either_is (length m.held == m.sizes.bag_jobs) LoadSeal Keep tt tt
    begun_is Flush m = either_is (is_empty m.held) LoadScan LoadSeal tt tt
    begun_is Release m = tt
