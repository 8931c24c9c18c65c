use Rattle.std.proofs.Common.{rules, ◌≡◌, ap, arith}
use Rattle.epoch_tables.specs.Table.{Board}
use Rattle.epoch_tables.proofs.WordLoads.{word_load_keeps}
use Rattle.epoch_tables.proofs.table.participants.Participants.load_word.Goals as goal

pub load-requires : goal.load-requires
load-requires g c =
    let same : c.self.inside.positions ≡ c.args.self.now.positions = ap (λ (b : Board). b.positions) c.self.view_is in
    let wide = c.self.invariant.words in
    let below = c.requires.within in
    let key = c.self.invariant.key in
    let scan = c.requires.scanning in
    rw c.word_index.ensures (search rules, omega arith, word_load_keeps _ _ _ _ scan.0 _ scan.1 (omega arith))

pub returns-clause-view : goal.returns-clause-view
returns-clause-view g c = λ epoch is. let told = c.load.ensures.2.2 epoch c.args.position is in (told.1, told.2)
