use Rattle.std.proofs.Common.{arith}
use Rattle.epoch_tables.proofs.table.laws.pinned_seats_hold_bags_back.Goals as goal

-- The pinned seat had read the seal at most, and the epoch is at most one past what it read.
pub returns : goal.returns
returns c = λ seal view expired positions then now r r' sealed knowing other knows stays.
    let word = r.epoch_word in
    let read = (r.pinned_near other stays.was_pinned.0 stays.first stays.was_pinned.1 stays.was_pinned.2).3 in
    let near = (r'.pinned_near other stays.is_pinned.0 stays.first stays.is_pinned.1 stays.is_pinned.2).4 in
    let low = r'.none_ahead knowing view knows in
    absurd (omega arith)
