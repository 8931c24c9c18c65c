use Rattle.std.proofs.Common.{◌∙◌, true, false, ap, sym, arith}
use Rattle.std.proofs.lemmas.Bool.{false≢true}
use Rattle.epoch_bags.specs.Jobs.{IsCalled}
use Rattle.epoch_bags.specs.declared.job.Job.{Job}
use Rattle.epoch_machine.specs.declared.machine.Action.{Action}
use Rattle.epoch_machine.specs.Machine.{Machine, after_put, is_empty}
use Rattle.epoch_handles.specs.Handles.{sight_of}
use Rattle.epoch_handles.proofs.Driving.{drives_of}
use Rattle.epoch_handles.proofs.Releasing.{was_put, was_full, left_still, freed_behind, refused_behind}
use Rattle.epoch_handles.proofs.local.Local.leave.Goals as goal

-- the bag found no place
pub stay-requires : goal.stay-requires
stay-requires g c =
    let h = c.args.self.now in let n = c.put.new.self in let puts = c.put.ensures in
    let is = was_full h.machine n.machine puts.machine (sym c.found_full.ensures ∙ c.if-found_full.true) in (
      omega arith,
      (
        puts.seated,
        (
          puts.rests,
          (
            ap (λ (z : Machine (Job g.row.W.Denot)). z.stage) is
                ∙ ap (λ (a : Action). after_put a true) c.requires.action,
            (
              ap (λ (z : Machine (Job g.row.W.Denot)). z.action) is ∙ c.requires.action,
              (
                ap (λ (z : Machine (Job g.row.W.Denot)). z.full) is,
                (
                  (λ none. absurd (false≢true (sym c.if-holds_none.false ∙ c.holds_none.ensures
                      ∙ ap is_empty (sym (ap (λ (z : Machine (Job g.row.W.Denot)). z.held) is) ∙ none)))),
                  ap (λ (z : Machine (Job g.row.W.Denot)). z.guards) is ∙ c.requires.none,
                ),
              ),
            ),
          ),
        ),
      ),
    )

pub returns-then-found_full-clause-refused : goal.returns-then-found_full-clause-refused
returns-then-found_full-clause-refused g c = λ _.
    let h = c.args.self.now in let n = c.put.new.self in let puts = c.put.ensures in
    let is = was_full h.machine n.machine puts.machine (sym c.found_full.ensures ∙ c.if-found_full.true) in
    refused_behind _ _ h n c.stay.new.self puts.same (ap (λ (z : Machine (Job g.row.W.Denot)). z.held) is)
    (drives_of (IsCalled g.W.Run.done g.W.Removing.Remove.tried) h.collector.now.places.capacity h.machine n.machine
    (sight_of h)
    (sight_of n) puts.drives) c.stay.ensures

-- the bag is in a place
pub leave_for_good-requires-2 : goal.leave_for_good-requires-2
leave_for_good-requires-2 g c =
    let h = c.args.self.now in let n = c.put.new.self in let puts = c.put.ensures in
    let is = was_put h.machine n.machine puts.machine (sym c.found_full.ensures ∙ c.if-found_full.false) in (
      omega arith,
      (
        puts.seated,
        (
          puts.rests,
          (
            ap (λ (z : Machine (Job g.row.W.Denot)). z.stage) is
                ∙ ap (λ (a : Action). after_put a false) c.requires.action,
            (
              ap (λ (z : Machine (Job g.row.W.Denot)). z.action) is ∙ c.requires.action,
              (
                ap (λ (z : Machine (Job g.row.W.Denot)). z.full) is,
                ap (λ (z : Machine (Job g.row.W.Denot)). z.held) is,
              ),
            ),
          ),
        ),
      ),
    )

pub returns-clause-freed : goal.returns-clause-freed
returns-clause-freed g c = λ _.
    let h = c.args.self.now in let n = c.put.new.self in let puts = c.put.ensures in
    let is = was_put h.machine n.machine puts.machine (sym c.found_full.ensures ∙ c.if-found_full.false) in
    freed_behind _ _ h n c.leave_for_good-2.new.self puts.same
    (ap (λ (z : Machine (Job g.row.W.Denot)). z.sizes) is) (drives_of (IsCalled g.W.Run.done g.W.Removing.Remove.tried)
    h.collector.now.places.capacity h.machine n.machine (sight_of h) (sight_of n) puts.drives)
    (λ _. left_still h.machine.held n c.leave_for_good-2.new.self c.leave_for_good-2.ensures.kept
    (puts.whole (sym c.found_full.ensures ∙ c.if-found_full.false)))
    c.leave_for_good-2.ensures.freed
