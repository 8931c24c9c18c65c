use Rattle.std.proofs.Common.{◌≡◌, ℕ, List, ◌∙◌, ap, sym, nat_lt}
use Rattle.epoch_laws.specs.Lawful.{told_of}
use Rattle.epoch_laws.specs.Run.{is_out}
use Rattle.epoch_laws.proofs.GuardsCounted.{out_counted}
use Rattle.epoch_laws.proofs.histories.guards.has_out.Goals as goal

pub returns : goal.returns
returns c =
    let guards : List ℕ = (told_of c.args.participant c.args.entries.now).guards in
    let same : is_out c.args.guard guards ≡ nat_lt 0 c.times_out.result =
    out_counted c.args.guard guards ∙ ap (nat_lt 0) (sym c.times_out.ensures) in
    (λ yes. same ∙ yes, λ out. sym same ∙ out)
