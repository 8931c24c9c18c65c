use denote.RattleType.{RattleType}
use denote.Param.Send.{IsSend, owning_send, struct_send, sendable}
use denote.Builtin.{RawPtr}
use denote.Struct.Struct.{exits_of}
use denote.Struct.Owning.{shape, fields, to}
use Rattle.std_alloc.proofs.SendSync.{quiet}
use Rattle.epoch_lend.specs.contracts.cells.turns.Vacancy.{the_row, the_type}
use Rattle.epoch_lend.proofs.TurnsKeyless.{vacancy_keyless}

-- a vacancy may go to another thread where values of its type may
pub send : (T : RattleType) → IsSend T → IsSend (the_row T)
send T s = let O = the_type T in
    let ps : IsSend RawPtr = search sendable in owning_send O (ps, tt) (λ d. vacancy_keyless T s d.at d.state d.word
    (d.value, d.lifetime) d.right)
    (λ k. quiet (to O) (exits_of k (fields O)) ((struct_send (shape O) (ps, tt)).leaving k))
