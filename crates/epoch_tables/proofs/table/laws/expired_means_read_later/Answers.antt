use Rattle.std.proofs.Common.{arith}
use Rattle.epoch_tables.proofs.table.laws.expired_means_read_later.Goals as goal

-- the bag's seal is two below an epoch that is at most the present one, which is at most one past the reading
pub returns : goal.returns
returns c = λ positions s r seat other view its epoch seal first sees known expired sees' is.
    let low = r.none_ahead seat view sees in
    let near = (r.pinned_near other its first sees' is).4 in
    omega arith
