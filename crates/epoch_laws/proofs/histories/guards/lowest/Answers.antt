use Rattle.std.proofs.Common.{arith, sym, ◌∙◌, ap, ◌≡◌, ℕ, ◌-◌, Bool, true, false, refl, List}
use Rattle.std.proofs.lemmas.Bool.Decides.{not_from_Decides}
use Rattle.epoch_laws.specs.Lawful.{told_of}
use Rattle.epoch_laws.specs.Run.{lowest_from}
use Rattle.epoch_laws.proofs.LowestGuard.{lowest_begins, lowest_taken, lowest_free, lowest_ends}
use Rattle.epoch_laws.proofs.histories.guards.lowest.Goals as goal

untrue : (b : Bool) → (b ≡ true → ⊥) → b ≡ false
untrue true otherwise = absurd (otherwise refl)
untrue false otherwise = refl

pub loop-number-init : goal.loop-number-init
loop-number-init c = lowest_begins (told_of c.args.participant c.args.entries.now).guards

pub returns-then-not-has_out : goal.returns-then-not-has_out
returns-then-not-has_out c =
    let guards : List ℕ = (told_of c.args.participant c.args.entries.now).guards in
    sym (c.loop-number.invariant
    ∙ lowest_free c.loop-number.number guards (omega arith)
    (untrue _ (not_from_Decides _ c.has_out.ensures c.if-not-has_out.true)))

pub loop-number-preserved : goal.loop-number-preserved
loop-number-preserved c =
    let guards : List ℕ = (told_of c.args.participant c.args.entries.now).guards in
    c.loop-number.invariant
    ∙ lowest_taken c.loop-number.number guards (omega arith) (c.has_out.ensures.0 c.if-not-has_out.false)

pub returns : goal.returns
returns c =
    let guards : List ℕ = (told_of c.args.participant c.args.entries.now).guards in
    let last : c.loop-number.number ≡ 64 = omega arith in
    sym (c.loop-number.invariant ∙ ap (λ (k : ℕ). lowest_from k (64 - k) guards) last
    ∙ lowest_ends 64 guards)
