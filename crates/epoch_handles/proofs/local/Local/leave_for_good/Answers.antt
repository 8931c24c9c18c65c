use Rattle.std.proofs.Common.{◌∙◌, ap}
use Rattle.epoch_handles.proofs.Releasing.{left_for_good}
use Rattle.epoch_handles.proofs.local.Local.leave_for_good.Goals as goal

pub returns-clause-freed : goal.returns-clause-freed
returns-clause-freed g c = left_for_good _ _ c.args.self.now c.store_unpinned.new.self c.free.new.self
    c.take.new.self c.take-2.new.self
    c.requires.begins c.requires.action c.requires.room c.requires.none c.store_unpinned.ensures c.take.ensures
    c.free.ensures.only c.free.ensures.knows c.take-2.ensures c.requires.rests

pub returns-clause-kept : goal.returns-clause-kept
returns-clause-kept g c = ap (λ z. z.claimer) c.free.ensures.only ∙ c.store_unpinned.ensures.claimer
