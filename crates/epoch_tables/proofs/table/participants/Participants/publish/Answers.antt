use Rattle.std.proofs.Common.{rules, ◌≡◌, ap, arith}
use Rattle.epoch_tables.specs.Table.{Board}
use Rattle.epoch_tables.proofs.OwnStores.{publish_keeps}
use Rattle.epoch_tables.proofs.table.participants.Participants.publish.Goals as goal

pub store-requires : goal.store-requires
store-requires g c =
    let same : c.self.inside.positions ≡ c.args.self.now.positions = ap (λ (b : Board). b.positions) c.self.view_is in
    let wide = c.self.invariant.words in
    let below = c.requires.own.1 in
    rw c.pinned_word.ensures (rw c.word_index.ensures
    (search rules, omega arith, publish_keeps _ _ _ _ _ _ c.requires.own.0 c.requires.read))
