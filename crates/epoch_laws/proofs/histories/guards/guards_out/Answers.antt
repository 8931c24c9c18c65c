use Rattle.std.proofs.Common.{◌≡◌, ℕ, List, ◌∙◌, ap, sym, take, length, arith}
use Rattle.std.proofs.lemmas.Bool.Decides.{nat_tests}
use Rattle.std.proofs.lemmas.Grind.{common_steps}
use Rattle.epoch_laws.specs.declared.histories.known.GuardChange.{GuardChange}
use Rattle.epoch_laws.specs.declared.step.Entry.{Entry}
use Rattle.epoch_laws.specs.Lawful.{Told, told_after, told_of}
use Rattle.epoch_laws.specs.Known.{known_of, changed}
use Rattle.epoch_laws.proofs.GuardsCounted.{length_without}
use Rattle.epoch_laws.proofs.ToldGrows.{told_more}
use Rattle.epoch_laws.proofs.histories.guards.guards_out.Goals as goal
use Rattle.epoch_laws.proofs.histories.guards.guards_out.Goals.{in-Adds, in-Takes+then-times_out-gt0}
use Rattle.epoch_laws.proofs.histories.guards.guards_out.Goals.{in-Takes+else-times_out-gt0, in-Keeps}

pub loop-place-preserved : goal.loop-place-preserved
loop-place-preserved c =
    let log = c.args.entries.now in
    let place = c.loop-place.place in
    let old = c.loop-place.invariant in
    let before : Told = told_of c.args.participant (take place log) in
    let guards : List ℕ = before.guards in
    let size = λ (change : GuardChange). length (changed change guards) in
    let counted : c.match-change.count ≡ length (changed c.change.result guards) = elim c.match-change.branch [
      | in-Adds w ↦ grind (arith, common_steps, ap size w.in-Adds.is, old.counted)
      | in-Takes+then-times_out-gt0 w ↦
          grind (arith, nat_tests, ap size w.in-Takes.is, old.counted, length_without w.in-Takes.guard guards)
      | in-Takes+else-times_out-gt0 w ↦
          grind (arith, nat_tests, ap size w.in-Takes.is, old.counted, length_without w.in-Takes.guard guards)
      | in-Keeps w ↦ grind (arith, ap size w.in-Keeps.is, old.counted)
    ] in
    let more = sym (told_more c.args.participant log place _ c.loop-place-test.true) in
    record {
      known = c.after-known.ensures before old.known
          ∙ ap (λ (entry : Entry). known_of (told_after c.args.participant before entry.step entry.reply))
          c.index-entries-place.is
          ∙ ap known_of more;
      counted = counted
          ∙ ap length (sym (c.change.ensures before old.known))
          ∙ ap (λ (entry : Entry). length (told_after c.args.participant before entry.step entry.reply).guards)
          c.index-entries-place.is
          ∙ ap (λ (t : Told). length t.guards) more;
      few = elim c.match-change.branch [
        | in-Adds w ↦ omega (arith, old.few)
        | in-Takes+then-times_out-gt0 w ↦ omega (arith, old.few)
        | in-Takes+else-times_out-gt0 w ↦ omega (arith, old.few)
        | in-Keeps w ↦ omega (arith, old.few)
      ];
    }
