use Rattle.std.proofs.Common.{◌≡◌, ℕ, List, length, ◌∙◌, ap, sym, eq-eqb, arith}
use Rattle.std.proofs.lemmas.Bool.Decides.{nat_tests}
use Rattle.epoch_laws.specs.Lawful.{told_of}
use Rattle.epoch_laws.proofs.GuardsCounted.{times_in, only_one, times_of_one}
use Rattle.epoch_laws.proofs.histories.guards.has_only.Goals as goal

pub returns-then-guards_out-eq1 : goal.returns-then-guards_out-eq1
returns-then-guards_out-eq1 c =
    let guards : List ℕ = (told_of c.args.participant c.args.entries.now).guards in
    let one : length guards ≡ 1 = sym c.guards_out.ensures ∙ c.if-guards_out-eq1.true in (
      λ yes. only_one c.args.guard guards one (grind (arith, nat_tests, yes, c.times_out.ensures)),
      λ only. eq-eqb c.times_out.result 1
          (c.times_out.ensures ∙ ap (times_in c.args.guard) only ∙ times_of_one c.args.guard),
    )
