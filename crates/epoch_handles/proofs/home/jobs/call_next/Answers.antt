use Rattle.std.proofs.Common.{◌∙◌, ◌∷◌, ap}
use Rattle.epoch_bags.specs.declared.job.Job.TheVariants.{Remove}
use Rattle.epoch_handles.proofs.Collecting.{begins_with, one_fewer}
use Rattle.epoch_handles.proofs.home.jobs.call_next.Goals as goal

-- a removal is of the name that was told where it lies
pub returns-in-Remove-clause-called : goal.returns-in-Remove-clause-called
returns-in-Remove-clause-called g c = λ _.
    let first = c.in-Some.ensures.1 in (
      Remove c.in-Remove.name,
      c.remove_near.ensures.tried,
      begins_with _ _ first.0 (first.1 ∙ ap (λ job. job ∷ first.0) c.in-Remove.is),
    )

pub returns-in-Remove-clause-fewer : goal.returns-in-Remove-clause-fewer
returns-in-Remove-clause-fewer g c = λ _.
    let first = c.in-Some.ensures.1 in
    one_fewer _ _ _ c.in-Some.ensures.0 (begins_with _ _ first.0 first.1) c.give-in-Remove.ensures.after

-- what is left is the bag without its first job
pub returns-clause-fewer : goal.returns-clause-fewer
returns-clause-fewer g c = λ _.
    let first = c.in-Some.ensures.1 in
    one_fewer _ _ _ c.in-Some.ensures.0 (begins_with _ _ first.0 first.1) c.give-2.ensures.after
