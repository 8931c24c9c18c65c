use denote.RattleType.{RattleType}
use denote.Param.Send.{IsSend, IsSync, owning_send, struct_send, sendable}
use denote.Builtin.{RawPtr}
use denote.Struct.Struct.{exits_of}
use denote.Struct.Owning.{shape, fields, to}
use Rattle.std_alloc.proofs.SendSync.{quiet}
use Rattle.epoch_lend.specs.contracts.lending.Marked.{the_row, the_type}
use Rattle.epoch_lend.proofs.Keyless.{marked_keyless}

-- what a marking gained may be sent to another thread, where its value may be sent and shared
pub send : (T : RattleType) → IsSend T → IsSync T → IsSend (the_row T)
send T s y = let O = the_type T in
    let ps : IsSend RawPtr = search sendable in owning_send O (
      ps,
      tt,
    ) (λ d. marked_keyless T y d.at d.value d.lifetime d.right d.loans d.seen)
    (λ k. quiet (to O) (exits_of k (fields O)) ((struct_send (shape O) (ps, tt)).leaving k))
