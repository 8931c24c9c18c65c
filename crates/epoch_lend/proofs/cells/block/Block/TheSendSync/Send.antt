use denote.RattleType.{RattleType}
use denote.Param.Send.{IsSend, Frees}
use Rattle.core.specs.declared.alloc.Allocator.{Ghosts}
use Rattle.epoch_lend.specs.contracts.cells.block.Block.{the_row}

-- a block's room and the right to free its memory name no thread's token
pub send : (T A : RattleType) (g : Ghosts A.Denot) → IsSend T → IsSend A → Frees g g.dealloc_token → IsSend (the_row T
    A g)
send T A g s sa f = record {
  owned = λ d vs. ((λ vss. (tt, ((λ uss. (tt, tt)), tt))), (tt, (f.frees d.heap _ d.at, λ _. tt)));
  leaving = λ k x vs. tt;
}
