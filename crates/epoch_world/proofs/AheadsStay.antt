-- What is ahead of the collections stays where a participant registers or begins a call.
use Rattle.std.proofs.Common.{◌≡◌, ℕ, zero, suc, ◌==◌, true, false, List, [], ◌∷◌, length, Some, refl, ap}
use Rattle.std.proofs.Common.{slice_index_or, slice_set}
use Rattle.epoch_machine.specs.declared.machine.Stage.{Stage}
use Rattle.epoch_machine.specs.declared.machine.Stage.TheVariants.{LoadPin, LoadRepin, LoadSeal, LoadScan}
use Rattle.epoch_machine.specs.declared.machine.Stage.TheVariants.{StoreUnpinned, Keep, End, Take, Calling, Put}
use Rattle.epoch_machine.specs.Machine.{is_empty, is_taking}
use Rattle.epoch_machine.proofs.StagesAfter.{either_way}
use Rattle.epoch_laws.specs.declared.step.Call.{Call}
use Rattle.epoch_laws.specs.declared.step.Call.TheVariants.{Pin, Unpin, Repin, Pause, Resume, Defer, Flush, Release}
use Rattle.epoch_laws.specs.declared.step.Call.TheVariants.{DeferDestroy}
use Rattle.epoch_laws.specs.Collections.{expiry_of}
use Rattle.epoch_laws.specs.Kept.{rests}
use Rattle.epoch_laws.specs.Room.{is_putting}
use Rattle.epoch_laws.specs.Run.{WorldSeat, begun_seat}
use Rattle.epoch_world.specs.Worlds.{aheads}

-- a participant counts for it by the epoch of its stage alone
pub same_aheads : {C : Type 0} (ahead : ℕ → C → ℕ) (seats : List WorldSeat) (cursors : List C) (p : ℕ)
    (after other : WorldSeat)
    → expiry_of after.machine.stage ≡ expiry_of (slice_index_or seats p other).machine.stage
    → aheads ahead (slice_set seats p after) cursors ≡ aheads ahead seats cursors
same_aheads ahead [] cursors p after other same = refl
same_aheads ahead (seat ∷ seats) [] zero after other same = refl
same_aheads ahead (seat ∷ seats) [] (suc p) after other same = refl
same_aheads ahead (seat ∷ seats) (cursor ∷ cursors) zero after other same =
    ap (λ (x : ℕ). ahead x cursor ∷ aheads ahead seats cursors) same
same_aheads ahead (seat ∷ seats) (cursor ∷ cursors) (suc p) after other same =
    ap (λ (rest : List ℕ). ahead (expiry_of seat.machine.stage) cursor ∷ rest)
    (same_aheads ahead seats cursors p after other same)

-- who rests has no such epoch, and neither takes nor puts a bag
pub none_for : (s : Stage) → rests s ≡ true → expiry_of s ≡ 0
none_for (Take x k) on = absurd (cc (on))
none_for (Calling x k) on = absurd (cc (on))
none_for _ on = refl

-- a machine that rests has no collection under way
pub not_taking : (s : Stage) → rests s ≡ true → is_taking s ≡ false
not_taking (Take x k) on = absurd (cc (on))
not_taking _ on = refl

-- and no put
pub not_putting : (s : Stage) → rests s ≡ true → is_putting s ≡ false
not_putting (Put seal) on = absurd (cc (on))
not_putting _ on = refl

abbrev TakesNone : Stage → Type 0
TakesNone s = expiry_of s ≡ 0

-- no call begins by collecting
pub begun_for : (c : Call) (seat : WorldSeat)
    → expiry_of seat.machine.stage ≡ 0 → expiry_of (begun_seat c seat).machine.stage ≡ 0
begun_for Pin seat rests = either_way TakesNone (seat.machine.guards == 0) LoadPin End refl refl
begun_for (Unpin g) seat rests = either_way TakesNone (seat.machine.guards == 1) StoreUnpinned End refl refl
begun_for (Repin (Some g)) seat rests = either_way TakesNone (seat.machine.guards == 1) LoadRepin End refl refl
begun_for (Pause (Some g)) seat rests = either_way TakesNone (seat.machine.guards == 1) StoreUnpinned End refl refl
begun_for (Resume (Some g)) seat rests = either_way TakesNone (seat.machine.guards == 0) LoadPin End refl refl
begun_for (Defer (Some g)) seat rests =
    either_way TakesNone (length seat.machine.held == seat.machine.sizes.bag_jobs) LoadSeal Keep refl refl
begun_for (Flush (Some g)) seat rests = either_way TakesNone (is_empty seat.machine.held) LoadScan LoadSeal refl refl
begun_for Release seat rests = refl
begun_for (DeferDestroy (Some g) ptr) seat rests =
    either_way TakesNone (length seat.machine.held == seat.machine.sizes.bag_jobs) LoadSeal Keep refl refl
begun_for _ seat rests = rests
