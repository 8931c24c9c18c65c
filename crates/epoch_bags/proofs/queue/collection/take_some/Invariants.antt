use Rattle.std.proofs.Common.{◌≡◌, ℕ, ◌+◌, ◌≤◌, [], length, min}
use Rattle.epoch_bags.specs.Stores.{AllExpired}
use Rattle.epoch_bags.proofs.queue.collection.take_some.Given as goal

abbrev pub invariant-loop-taken : goal.invariant-loop-taken
invariant-loop-taken g l = record {
  hand : l.hand.jobs ≡ [];
  few : l.taken ≤ l.most;
  rest : length (g.S.BagStore.queued l.store) + l.taken ≡ length (g.S.BagStore.queued l.fn.store);
  ahead : ((place : ℕ) → ¬ (g.S.BagStore.Claimed l.fn.store place))
      → AllExpired l.expiry.number (g.S.BagStore.queued l.fn.store)
      → min 64 (g.S.BagStore.ahead l.expiry.number l.store l.cursor + l.taken)
      ≡ min 64 (length (g.S.BagStore.queued l.fn.store));
  kept : g.S.BagStore.capacity l.store ≡ g.S.BagStore.capacity l.fn.store;
}

abbrev pub decreases-loop-taken : goal.decreases-loop-taken
decreases-loop-taken g l = g.S.BagStore.takes_left (g.S.BagStore.capacity l.fn.store) l.cursor
