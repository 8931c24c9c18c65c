use Rattle.std.proofs.Common.{rules, ◌≡◌, ℕ, ◌+◌, Some, refl, sym, ap, ◌∙◌, arith}
use Rattle.epoch_tables.specs.Table.{Board}
use Rattle.epoch_tables.proofs.EpochStores.{epoch_store_keeps}
use Rattle.epoch_tables.proofs.table.participants.Participants.advance.Goals as goal

pub store-requires : goal.store-requires
store-requires g c =
    let same : c.self.inside.positions ≡ c.args.self.now.positions = ap (λ (b : Board). b.positions) c.self.view_is in
    let key : c.args.self.now.positions ≡ c.self.inside.table.shared.key = sym (c.self.invariant.key ∙ same) in
    let wide = c.self.invariant.words in (
      search rules,
      omega arith,
      epoch_store_keeps _ _ _ _ _ (c.requires.scanned ∙ ap (λ (z : ℕ). Some (c.args.epoch, z)) key),
    )

pub returns-clause-ahead : goal.returns-clause-ahead
returns-clause-ahead g c = (c.store.ensures.2.1 (c.args.epoch + 1) refl).0

pub returns-clause-view : goal.returns-clause-view
returns-clause-view g c = (c.store.ensures.2.1 (c.args.epoch + 1) refl).1
