use Rattle.std.proofs.Common.{sym, ◌∙◌}
use Rattle.epoch_lend.proofs.array.slot.LentSlot.end.Goals as goal

-- src/array/slot.rt:182:5
pub returns : goal.returns
returns g c = (
  c.end-word.ensures.vacant c.turn_of.result (c.if-word-vacant_word.false ∙ c.vacant_word.ensures),
  c.end-word.ensures.at ∙ sym c.requires,
)
