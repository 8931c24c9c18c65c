use Rattle.std.proofs.Common.{rules, ◌≡◌, ℕ, ◌*◌, ◌/◌, ap, ◌∙◌, arith}
use Rattle.epoch_tables.specs.TableSteps.{after_epoch}
use Rattle.epoch_tables.proofs.EpochLoads.{epoch_load_keeps}
use Rattle.epoch_tables.proofs.table.participants.Participants.load_epoch_word.Goals as goal

pub load-requires : goal.load-requires
load-requires g c = let wide = c.self.invariant.words in (search rules, omega arith, epoch_load_keeps _ _ _ _)

halved : (word epoch : ℕ) → word ≡ 2 * epoch → epoch ≡ word / 2
halved word epoch is = omega arith

pub returns-clause-answer : goal.returns-clause-answer
returns-clause-answer g c = let told = c.load.ensures.2.1 in
    let half = halved c.load.result told.0 told.1 in
    let twice = told.1 in
    omega arith

pub returns-clause-rises : goal.returns-clause-rises
returns-clause-rises g c = let told = c.load.ensures.2.1 in
    let half = halved c.load.result told.0 told.1 in
    let low = told.2 in
    omega arith

pub returns-clause-view : goal.returns-clause-view
returns-clause-view g c = let told = c.load.ensures.2.1 in
    told.3 ∙ ap (λ (epoch : ℕ). after_epoch c.args.seat.now.me.0 epoch) (halved c.load.result told.0 told.1)
