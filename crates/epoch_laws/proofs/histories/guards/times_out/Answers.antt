use Rattle.std.proofs.Common.{◌∙◌, ap, sym, take, arith}
use Rattle.epoch_laws.specs.declared.step.Entry.{Entry}
use Rattle.epoch_laws.specs.Lawful.{Told, told_after, told_of}
use Rattle.epoch_laws.specs.Known.{known_of}
use Rattle.epoch_laws.proofs.GuardsCounted.{times_in}
use Rattle.epoch_laws.proofs.ToldGrows.{told_more}
use Rattle.epoch_laws.proofs.histories.guards.times_out.Goals as goal

pub loop-entry-preserved : goal.loop-entry-preserved
loop-entry-preserved c =
    let log = c.args.entries.now in
    let place = c.loop-entry.entry-index in
    let old = c.loop-entry.invariant in
    let before : Told = told_of c.args.participant (take place log) in
    let more = sym (told_more c.args.participant log place _ c.loop-entry-test.true) in
    record {
      known = c.after-known.ensures before old.known
          ∙ ap (λ (entry : Entry). known_of (told_after c.args.participant before entry.step entry.reply))
          c.entry-item.is
          ∙ ap known_of more;
      counted = c.times_after-times.ensures.counted before.guards old.counted
          ∙ ap (times_in c.args.guard) (sym (c.change.ensures before old.known))
          ∙ ap
          (λ (entry : Entry). times_in c.args.guard
          (told_after c.args.participant before entry.step entry.reply).guards) c.entry-item.is
          ∙ ap (λ (t : Told). times_in c.args.guard t.guards) more;
      few = omega (arith, c.times_after-times.ensures.few, old.few);
    }
