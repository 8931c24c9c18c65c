use Rattle.std.proofs.Common.{◌∙◌, ap, sym, take}
use Rattle.epoch_laws.specs.declared.step.Entry.{Entry}
use Rattle.epoch_laws.specs.Lawful.{Told, told_after, told_of}
use Rattle.epoch_laws.specs.Known.{known_of}
use Rattle.epoch_laws.proofs.ToldGrows.{told_more}
use Rattle.epoch_laws.proofs.histories.known.Known.of.Goals as goal

pub loop-entry-preserved : goal.loop-entry-preserved
loop-entry-preserved c =
    let log = c.args.entries.now in
    let place = c.loop-entry.entry-index in
    let before : Told = told_of c.args.participant (take place log) in
    let more = sym (told_more c.args.participant log place _ c.loop-entry-test.true) in
    c.after-known.ensures before c.loop-entry.invariant
    ∙ ap (λ (entry : Entry). known_of (told_after c.args.participant before entry.step entry.reply)) c.entry-item.is
    ∙ ap known_of more
