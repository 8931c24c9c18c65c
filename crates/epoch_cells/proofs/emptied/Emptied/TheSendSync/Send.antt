use mir.Raw.{raw}
use denote.Memory.{lone}
use denote.RattleType.{RattleType}
use denote.RawPtr.{Ptr, block_ptr, null_ptr, room_for}
use denote.Param.Send.{IsSend, Frees, owning_send, struct_send, sendable}
use denote.Builtin.{RawPtr}
use denote.Struct.Struct.{exits_of}
use denote.Struct.Owning.{shape, fields, to}
use base.Shift.{Keyless}
use mir.Syntax.{Ty}
use Rattle.std_alloc.proofs.SendSync.{quiet}
use Rattle.core.specs.declared.alloc.Allocator.{Ghosts}
use Rattle.epoch_cells.specs.contracts.emptied.Emptied.{the_row, the_type}

-- room names no thread's token
room : (τ : Ty) (p : Ptr) → Keyless (room_for τ p)
room τ (block_ptr b o) = tt
room τ null_ptr = tt

-- the bytes, the room and the right to free it name no thread's token
pub send : (T A : RattleType) (g : Ghosts A.Denot) → IsSend T → IsSend A → Frees g g.dealloc_token
    → IsSend (the_row T A g)
send T A g s sa f = let O = the_type T A g in
    let ps : IsSend RawPtr = search sendable in
    let τ : Ty = raw (lone T.mir) in
    owning_send O (ps, (sa, tt)) (λ d. (room τ d.ptr, f.frees d.alloc τ d.ptr))
    (λ k. quiet (to O) (exits_of k (fields O)) ((struct_send (shape O) (ps, (sa, tt))).leaving k))
