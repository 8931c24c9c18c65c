use Rattle.std.proofs.Common.{◌∙◌, ap₂, sym}
use Rattle.epoch_laws.specs.declared.step.Phase.{Phase}
use Rattle.epoch_laws.specs.declared.step.Entry.{Entry}
use Rattle.epoch_laws.specs.Fits.{phase_after}
use Rattle.epoch_laws.proofs.Phases.{phase_more}
use Rattle.epoch_laws.proofs.histories.phase.phase_of.Goals as goal

pub loop-entry-preserved : goal.loop-entry-preserved
loop-entry-preserved c =
    let log = c.args.entries.now in
    let place = c.loop-entry.entry-index in
    c.phase_after-phase.ensures
    ∙ ap₂ (λ (phase : Phase) (entry : Entry). phase_after phase entry.step entry.reply) c.loop-entry.invariant
    c.entry-item.is
    ∙ sym (phase_more log place _ c.loop-entry-test.true)
