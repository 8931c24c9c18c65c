-- Rounds of one participant whom nobody disturbs, and that they call every job of the bags in the store.
use Rattle.std.specs.Prelude.{◌≡◌, ◌≢◌, ℕ, zero, suc, ◌+◌, ◌/◌, ◌%◌, ◌^◌, ◌≤◌, min, true, List, [], ◌∷◌, ◌++◌, length}
use Rattle.std.specs.Prelude.{Some}
use Rattle.epoch_machine.specs.declared.machine.Stage.TheVariants.{LoadScan}
use Rattle.epoch_laws.specs.declared.heap.access.AccessAnswer.TheVariants.{Guard, Unit as UnitAnswer}
use Rattle.epoch_laws.specs.declared.step.Call.{Call}
use Rattle.epoch_laws.specs.declared.step.Call.TheVariants.{Pin, Flush, Unpin}
use Rattle.epoch_laws.specs.declared.step.Entry.{Entry}
use Rattle.epoch_laws.specs.declared.step.Progress.TheVariants.{Idle}
use Rattle.epoch_laws.specs.declared.step.Reply.{Reply}
use Rattle.epoch_laws.specs.declared.step.Reply.TheVariants.{Began, Done}
use Rattle.epoch_laws.specs.declared.step.Word.TheVariants.{Unpinned, Pinned}
use Rattle.epoch_laws.specs.Calls.{call_entries, goes_of, ends_call, AllGoOn}
use Rattle.epoch_laws.specs.Run.{Bag, State, Runs, seat_of, position_word}
use Rattle.epoch_laws.specs.Tickets.{times_queued, times_called}

-- p is registered, not pinned and without a call under way, and nobody else is pinned
pub record IsQuiet (p : ℕ) (s : State) : Type 0 where
  pub unpinned : position_word s p ≡ Unpinned
  pub idle : (seat_of s p).progress ≡ Idle
  pub others : (q e : ℕ) → q ≢ p → position_word s q ≢ Pinned e

-- a call from its accepted Begin to its last reply
abbrev pub call_to : ℕ → Call → List Reply → Reply → List Entry
call_to p c going last = call_entries p c (Began ∷ (going ++ last ∷ []))

-- a Pin, a Flush under its guard, and an Unpin of it, each from its Begin to its end
pub record IsRound (p : ℕ) (log : List Entry) : Type 0 where
  pub guard : ℕ
  pub pins : List Reply
  pub flushes : List Reply
  pub unpins : List Reply
  pub flushed : Reply
  pub pinning : AllGoOn pins
  pub flushing : AllGoOn flushes
  pub unpinning : AllGoOn unpins
  pub ended : ends_call flushed ≡ true
  pub whole : log ≡ call_to p Pin pins (Done (Guard guard))
      ++ (call_to p (Flush (Some guard)) flushes flushed ++ call_to p (Unpin (Some guard)) unpins (Done UnitAnswer))

-- so many rounds, one after the other
abbrev pub AreRounds : ℕ → ℕ → List Entry → Type 0
AreRounds p zero log = log ≡ []
AreRounds p (suc n) log =
    (first : List Entry) × (others : List Entry) × IsRound p first × AreRounds p n others × (log ≡ first ++ others)

-- A first round whose Flush isn't refused: before it reaches this state, in which its own bag is in the store, if it
-- had one, and the scan begins; and after.
pub record IsFirstRound (p : ℕ) (before : List Entry) (put : State) (after : List Entry) : Type 0 where
  pub guard : ℕ
  pub pins : List Reply
  pub puts : List Reply
  pub flushes : List Reply
  pub unpins : List Reply
  pub pinning : AllGoOn pins
  pub putting : AllGoOn puts
  pub flushing : AllGoOn flushes
  pub unpinning : AllGoOn unpins
  pub until : before ≡ call_to p Pin pins (Done (Guard guard)) ++ call_entries p (Flush (Some guard)) (Began ∷ puts)
  pub scans : (seat_of put p).machine.stage ≡ LoadScan
  pub behind : after ≡ goes_of p (flushes ++ Done UnitAnswer ∷ [])
      ++ call_to p (Unpin (Some guard)) unpins (Done UnitAnswer)

-- how many collections take so many bags, each of them so many: their quotient, rounded up
abbrev pub collections : ℕ → ℕ → ℕ
collections bags each = bags / each + min 1 (bags % each)

-- each job of these bags was called, as often as it stands in them, and no bag is left
pub record CallsAll (bags : List Bag) (log : List Entry) (new : State) : Type 0 where
  pub called : (t : ℕ) → times_called t log ≡ times_queued t bags
  pub none_left : new.queued ≡ []

-- What a first round comes to whose Flush isn't refused. The run reaches a state in which the round's own bag is in the
-- store, if it had one, and the scan begins. Where as many further rounds follow as the bags take that are in the store
-- then, these rounds call every job of those bags.
pub record PutsAndCalls (p : ℕ) (s : State) (first others later : List Entry) (new : State) : Type 0 where
  pub put : State
  pub done : State
  pub before : List Entry
  pub after : List Entry
  pub whole : first ≡ before ++ after
  pub puts : IsFirstRound p before put after
  pub reaches : Runs s before put
  pub goes_on : Runs put (after ++ others) done
  pub ends : Runs done later new
  pub calls_all : AreRounds p (suc (collections (length put.queued) put.sizes.collect_bags)) others
      → CallsAll put.queued (after ++ others) done

-- Said of a run from s to new, wherever it begins with such a round of a participant whom nobody disturbs.
abbrev pub RoundsCallAll : State → List Entry → State → Type 0
RoundsCallAll s log new = (p : ℕ) (first others later : List Entry) → log ≡ first ++ (others ++ later)
    → IsQuiet p s → s.epoch + 4 ≤ 2 ^ 63 → (round : IsRound p first) → round.flushed ≡ Done UnitAnswer
    → PutsAndCalls p s first others later new
