use Rattle.std.proofs.Common.{rules, ◌≡◌, ℕ, ◌+◌, ◌*◌, ap, ◌∙◌, arith}
use Rattle.epoch_tables.specs.Table.{Board, word_at}
use Rattle.epoch_tables.specs.TableSteps.{after_word, after_claim}
use Rattle.epoch_tables.proofs.Registering.{claim_keeps}
use Rattle.epoch_tables.proofs.table.participants.Participants.claim.Goals as goal

pub compare_exchange-requires : goal.compare_exchange-requires
compare_exchange-requires g c =
    let same : c.self.inside.positions ≡ c.args.self.now.positions = ap (λ (b : Board). b.positions) c.self.view_is in
    let wide = c.self.invariant.words in
    let below = c.requires.free.1 in
    let key = c.self.invariant.key in
    rw c.word_index.ensures (search rules, omega arith, claim_keeps _ _ _ _ _ c.requires.free.0 (omega arith))

-- a word stands at one position
same_position : (word position other : ℕ) → word ≡ word_at position → word ≡ 16 * other + 16 → position ≡ other
same_position word position other at is = omega arith

pub returns-clause-won : goal.returns-clause-won
returns-clause-won g c = λ zero. let told = c.compare_exchange.ensures.2.2 in
    told.2 zero
    ∙ ap (λ (z : ℕ). after_claim c.args.seat.now.me.0 z c.compare_exchange.result)
    (same_position _ _ _ told.1 c.word_index.ensures)
    ∙ ap (λ (z : ℕ). after_claim c.args.seat.now.me.0 c.args.position z) zero

pub returns-clause-lost : goal.returns-clause-lost
returns-clause-lost g c = λ taken. let told = c.compare_exchange.ensures.2.2 in
    told.3 taken
    ∙ ap (λ (z : ℕ). after_word c.args.seat.now.me.0 z c.compare_exchange.result)
    (same_position _ _ _ told.1 c.word_index.ensures)
