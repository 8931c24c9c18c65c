use Rattle.std.proofs.Common.{sym, ◌∙◌}
use Rattle.epoch_world.proofs.ReadingLists.{without_at}
use Rattle.epoch_world.proofs.world.readings.reading_at.Goals as goal

pub returns-then-is_name : goal.returns-then-is_name
returns-then-is_name c = (
  c.loop-index-test.true,
  c.loop-index.invariant ∙ without_at c.args.name c.args.readings.now c.loop-index.index c.index-readings-index.result
      c.index-readings-index.is c.loop-index-test.true (sym c.is_name.ensures ∙ c.if-is_name.true),
)
