-- The rule of the participants' table: what holds between any two steps, whatever threads take them.
-- Word 0 is twice the epoch. The word of a position is 0 where no seat has the position, 2 where a seat has it
-- and isn't pinned, and 2e + 1 where that seat is pinned in e.
use Rattle.std.specs.Prelude.{◌≡◌, ◌≢◌, ℕ, ◌+◌, ◌*◌, ◌<◌, ◌≤◌, ◌⊎◌, [], length, slice_index, Option, Some, None}
use Rattle.std.specs.List.{Contains}
use mathlib.Core.Option.{some}
use lib.ListN.{get_elem?}
use Rattle.atomic_table.specs.Table.{State}
use Rattle.atomic_table.specs.Seated.{TableId}
use Rattle.atomic_table.specs.declared.shared.Seat.{Seat}
use Rattle.epoch_tables.specs.declared.table.view.ParticipantView.{ParticipantView}

-- what a caller sees of a table: how many positions it has, and which table it is
pub record Board : Type 0 where
  pub positions : ℕ
  pub table : TableId

-- where the word of a position stands: 128 bytes after the one before
abbrev pub word_at : ℕ → ℕ
word_at position = 16 * position + 16

abbrev pub words_for : ℕ → ℕ
words_for positions = 16 * positions + 16

-- the word of a seat's position
abbrev pub seat_word : Option ℕ → ℕ
seat_word None = 2
seat_word (Some published) = 2 * published + 1

-- what the word of a position can be
abbrev pub IsWord : ℕ → Type 0
IsWord word = (word ≡ 0) ⊎ ((word ≡ 2) ⊎ ((published : ℕ) × (word ≡ 2 * published + 1)))

-- the word doesn't hold up a scan for this epoch
abbrev pub LetsPass : ℕ → ℕ → Type 0
LetsPass epoch word = (word ≡ 0) ⊎ ((word ≡ 2) ⊎ (word ≡ 2 * epoch + 1))

-- the seat of this number has this view
abbrev pub Sees : {S : Type 0} → State S ParticipantView → ℕ → ParticipantView → Type 0
Sees s seat view = get_elem? s.views seat ≡ some view

pub record EpochsAgree {S : Type 0} (positions : ℕ) (s : State S ParticipantView) : Type 0 where
  pub epoch : ℕ
  pub as_many : length s.words ≡ words_for positions
  pub epoch_word : slice_index s.words 0 ≡ 2 * epoch
  -- Each epoch from 1 to the present one was stored by some seat. So the first epoch of all is 0.
  pub reached : (number : ℕ) → 0 < number → number ≤ epoch
      → (seat : ℕ) × (view : ParticipantView) × Sees s seat view × Contains view.advanced number
  -- Each word is what its seat's view says, and 0 where no seat has the position.
  pub words_match : (seat : ℕ) (view : ParticipantView) (position : ℕ) → Sees s seat view
      → view.position ≡ Some position
      → (position < positions) × (slice_index s.words (word_at position) ≡ seat_word view.published)
  pub taken_by_seat : (position : ℕ) → position < positions → slice_index s.words (word_at position) ≢ 0
      → (seat : ℕ) × (view : ParticipantView) × Sees s seat view × (view.position ≡ Some position)
  pub one_seat_each : (seat other : ℕ) (view its : ParticipantView) (position : ℕ) → Sees s seat view → Sees s other its
      → view.position ≡ Some position → its.position ≡ Some position → seat ≡ other
  -- Whoever read or stored an epoch, it was at most the present one.
  pub none_ahead : (seat : ℕ) (view : ParticipantView) → Sees s seat view → view.seen ≤ epoch
  -- A pinned seat has a position, and published an epoch that it had read. Once it has read the epoch again,
  -- the present epoch is that one or the next.
  pub pins_known : (seat : ℕ) (view : ParticipantView) (published : ℕ) → Sees s seat view
      → view.published ≡ Some published
      → ((position : ℕ) × (view.position ≡ Some position)) × (published ≤ view.seen)
  pub pinned_near : (seat : ℕ) (view : ParticipantView) (first : ℕ) → Sees s seat view → view.first_read ≡ Some first
      → (published : ℕ) × (view.published ≡ Some published) × (published ≤ first) × (first ≤ epoch)
      × (epoch ≤ first + 1)
  -- A scan is by a pinned seat that has read the epoch again. Each seat pinned at a position that the scan has
  -- passed, which has read the epoch again, read the scanned one or a later one.
  pub scans_known : (seat : ℕ) (view : ParticipantView) (scanned passed : ℕ) → Sees s seat view
      → view.scan ≡ Some (scanned, passed)
      → ((first : ℕ) × (view.first_read ≡ Some first) × (first ≤ scanned)) × (scanned ≤ view.seen)
  pub scans_hold : (seat : ℕ) (view : ParticipantView) (scanned passed : ℕ) (other : ℕ) (its : ParticipantView)
      (position first : ℕ) → Sees s seat view → view.scan ≡ Some (scanned, passed) → Sees s other its
      → its.position ≡ Some position → position < passed → its.first_read ≡ Some first → scanned ≤ first

-- SEATS

-- it is a seat at this table, and has no slot
abbrev pub IsOf : {S : Type 0} → Board → Seat S ParticipantView → Type 0
IsOf board seat = (seat.table_id ≡ board.table) × (seat.me.1 ≡ [])

-- it is the same seat of the same table, with the same slots
abbrev pub IsSameSeat : {S : Type 0} → Seat S ParticipantView → Seat S ParticipantView → Type 0
IsSameSeat before after = (after.table_id ≡ before.table_id) × (after.id ≡ before.id) × (after.me.1 ≡ before.me.1)

-- LAWS

-- After a whole scan for an epoch, the present epoch is that one or the next. So storing the next never lowers it.
abbrev pub IsNeverLowered : Type 0 → Type 0
IsNeverLowered S = (positions : ℕ) (s : State S ParticipantView) → EpochsAgree positions s
    → (seat : ℕ) (view : ParticipantView) (scanned : ℕ) → Sees s seat view → view.scan ≡ Some (scanned, positions)
    → (slice_index s.words 0 ≡ 2 * scanned) ⊎ (slice_index s.words 0 ≡ 2 * (scanned + 1))

-- Where a bag sealed with `seal` is expired for an epoch that some seat has read or stored, each pinned seat that
-- has read the epoch again read one after the seal.
abbrev pub ReadsAfterSeal : Type 0 → Type 0
ReadsAfterSeal S = (positions : ℕ) (s : State S ParticipantView) → EpochsAgree positions s
    → (seat other : ℕ) (view its : ParticipantView) (epoch seal first : ℕ) → Sees s seat view → epoch ≤ view.seen
    → seal + 2 ≤ epoch → Sees s other its → its.first_read ≡ Some first → seal + 1 ≤ first

-- The epoch that a seat would read now is no lower than any that it has read or stored.
abbrev pub NeverFalls : Type 0 → Type 0
NeverFalls S = (positions : ℕ) (s : State S ParticipantView) → EpochsAgree positions s
    → (seat : ℕ) (view : ParticipantView) (epoch : ℕ) → Sees s seat view → slice_index s.words 0 ≡ 2 * epoch
    → view.seen ≤ epoch

-- Each epoch from 1 to the one that a seat would read now was stored by some seat, after its scan of the one before.
abbrev pub EachIsStored : Type 0 → Type 0
EachIsStored S = (positions : ℕ) (s : State S ParticipantView) → EpochsAgree positions s
    → (epoch number : ℕ) → slice_index s.words 0 ≡ 2 * epoch → 0 < number → number ≤ epoch
    → (seat : ℕ) × (view : ParticipantView) × Sees s seat view × Contains view.advanced number

-- GRACE

-- At the first of two moments the seat was pinned, and had read the epoch since it published; and at the second one it
-- is pinned with that very reading.
pub record IsPinnedStill {S : Type 0} (then now : State S ParticipantView) (seat : ℕ) : Type 0 where
  pub first : ℕ
  pub was_pinned : (view : ParticipantView) × Sees then seat view × (view.first_read ≡ Some first)
  pub is_pinned : (view : ParticipantView) × Sees now seat view × (view.first_read ≡ Some first)

-- No seat that was pinned at a moment when this was the epoch is still pinned at a moment when some seat has this view.
abbrev pub HasNoPinSince : (S : Type 0) → ℕ → ParticipantView → Type 0
HasNoPinSince S seal view = (positions : ℕ) (then now : State S ParticipantView)
    → EpochsAgree positions then → EpochsAgree positions now → slice_index then.words 0 ≡ 2 * seal
    → (knowing other : ℕ) → Sees now knowing view → ¬ (IsPinnedStill then now other)

-- Whoever has read or stored an epoch for which a bag is expired knows that no pin of before its seal is left.
abbrev pub HoldsBagsBack : Type 0 → Type 0
HoldsBagsBack S = (seal : ℕ) (view : ParticipantView) → seal + 2 ≤ view.seen → HasNoPinSince S seal view
