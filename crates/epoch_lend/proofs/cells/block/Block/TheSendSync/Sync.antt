use denote.RattleType.{RattleType}
use denote.Param.Send.{IsSend, IsSync, Frees}
use Rattle.core.specs.declared.alloc.Allocator.{Ghosts}
use Rattle.epoch_lend.specs.contracts.cells.block.Block.{the_row}

-- a block may be shared among threads: what is shared of it says where its memory is, and names no thread's token
pub sync : (T A : RattleType) (g : Ghosts A.Denot) → IsSend T → IsSend A → Frees g g.dealloc_token → IsSync (the_row T
    A g)
sync T A g s sa f = record { shared = λ d b o κ. ((((tt, λ q. tt), tt), λ q. tt), λ _. tt) }
