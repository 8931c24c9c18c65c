use denote.RattleType.{RattleType}
use denote.Ref.{NamedLft}
use denote.Param.Send.{IsSend, IsSync}
use Rattle.counted_slot.specs.declared.Fits.{Ghosts}
use Rattle.epoch_cells.specs.contracts.kept.Kept.{the_row}
use Rattle.epoch_cells.proofs.Keyless.{writer_keyless}

-- its bytes name no thread's token, nor does its claim, which is one to write
pub send : (a : NamedLft) (T G : RattleType) (g : Ghosts T.Denot G.Denot) → IsSend T → IsSync T
    → IsSend (the_row a T G g)
send a T G g s y = record {
  owned = λ d vs. let h = d.claim in
      let writes = writer_keyless a.lft T (g.fits h.tag) s y h.slot h.right h.value d.writes in
      ((λ vss. (tt, (((λ uss. (tt, (tt, ((λ wss. (tt, tt)), tt)))), writes), tt))), tt);
  leaving = λ k d w. (tt, tt);
}
