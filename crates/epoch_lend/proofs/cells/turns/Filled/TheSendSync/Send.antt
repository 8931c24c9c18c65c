use denote.RattleType.{RattleType}
use denote.Param.Send.{IsSend, owning_send, struct_send, sendable}
use denote.Builtin.{RawPtr}
use denote.Struct.Struct.{exits_of}
use denote.Struct.Owning.{shape, fields, to}
use Rattle.std_alloc.proofs.SendSync.{quiet}
use Rattle.epoch_lend.specs.contracts.cells.turns.Filled.{the_row, the_type}
use Rattle.epoch_lend.proofs.TurnsKeyless.{filled_keyless}

-- a claimed place with a value in it names no thread's token, if the value names none
pub send : (T : RattleType) → IsSend T → IsSend (the_row T)
send T s = let O = the_type T in
    let ps : IsSend RawPtr = search sendable in owning_send O (ps, tt) (λ d. filled_keyless T s d.at d.state d.word
    d.value)
    (λ k. quiet (to O) (exits_of k (fields O)) ((struct_send (shape O) (ps, tt)).leaving k))
