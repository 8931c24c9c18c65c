use Rattle.std.proofs.Common.{refl}
use Rattle.epoch_handles.proofs.SeatKept.{seat_steps}
use Rattle.epoch_handles.proofs.local.Local.load_word.Goals as goal

pub returns-clause-steps : goal.returns-clause-steps
returns-clause-steps g c = λ epoch at. let told = c.load_word.ensures in let found = told.view epoch at in (
  λ lets. seat_steps c.args.self.now c.load_word.new.seat _ c.requires.seated told.kept (found.0 lets) refl,
  λ holds. seat_steps c.args.self.now c.load_word.new.seat _ c.requires.seated told.kept (found.1 holds) refl,
)
