-- What a call's answer tells.
use Rattle.std.proofs.Common.{◌≡◌, ℕ, Option, refl, arith, IsErr}
use Rattle.epoch_cells.specs.declared.fault.Fault.{Fault}
use Rattle.epoch_structure_laws.specs.declared.map.plan.MapAnswer.{MapAnswer}
use Rattle.epoch_structure_laws.specs.declared.map.plan.MapAnswer.TheVariants.{Inserted, AlreadyThere}
use Rattle.epoch_structure_laws.specs.declared.map.plan.MapAnswer.TheVariants.{AlreadyThereLeaking}
use Rattle.epoch_structure_laws.specs.declared.map.plan.MapAnswer.TheVariants.{Removed, RemovedLeaking, Found, NotFound}
use Rattle.epoch_structure_laws.specs.declared.map.plan.MapWork.TheVariants.{Insert, Remove, Get}
use Rattle.epoch_structure_calls.specs.MapCalls.{insert_tells, remove_tells, get_tells}
use Rattle.epoch_structure_calls.proofs.MapFitting.{MayAnswer}

-- with no move a call fails
pub insert_needs_moves : (b e moves : ℕ) (a : MapAnswer) (f : Option Fault) → MayAnswer (Insert b e moves) a
    → moves ≡ 0 → IsErr (insert_tells a f)
insert_needs_moves b e moves Inserted f may none = absurd (omega (arith, may, none))
insert_needs_moves b e moves (AlreadyThere v) f may none = absurd (omega (arith, may.0, none))
insert_needs_moves b e moves (AlreadyThereLeaking v) f may none = absurd (omega (arith, may.0, none))
insert_needs_moves b e moves a f may none = refl

-- with no move a removal fails
pub remove_needs_moves : (b key moves : ℕ) (a : MapAnswer) (f : Option Fault) → MayAnswer (Remove b key moves) a
    → moves ≡ 0 → IsErr (remove_tells a f)
remove_needs_moves b key moves (Removed v) f may none = absurd (omega (arith, may.0, none))
remove_needs_moves b key moves (RemovedLeaking v) f may none = absurd (omega (arith, may.0, none))
remove_needs_moves b key moves NotFound f may none = absurd (omega (arith, may, none))
remove_needs_moves b key moves a f may none = refl

-- with no move a look-up fails
pub get_needs_moves : (b key moves : ℕ) (a : MapAnswer) (f : Option Fault) → MayAnswer (Get b key moves) a
    → moves ≡ 0 → IsErr (get_tells a f)
get_needs_moves b key moves (Found v) f may none = absurd (omega (arith, may.0, none))
get_needs_moves b key moves NotFound f may none = absurd (omega (arith, may, none))
get_needs_moves b key moves a f may none = refl
