use Rattle.std.proofs.Common.{◌∙◌, ap, sym, arith}
use Rattle.epoch_bags.specs.Jobs.{IsCalled}
use Rattle.epoch_bags.specs.declared.job.Job.{Job}
use Rattle.epoch_machine.specs.Machine.{Machine}
use Rattle.epoch_handles.proofs.Flushing.{flush_seals, none_counted, pinned_with_guards, still_pinned, scan_begins}
use Rattle.epoch_handles.proofs.Flushing.{put_before_scan, collection_ends, flush_does, flush_ready}
use Rattle.epoch_handles.proofs.StraightCalls.{seated_with}
use Rattle.epoch_handles.proofs.Ended.{ends_with_any}
use Rattle.epoch_handles.proofs.local.Local.flush.Goals as goal

-- WITH NO JOB HELD

-- it is pinned, since a guard is out
pub collect-requires : goal.collect-requires
collect-requires g c =
    let h = c.args.self.now in
    let comes = scan_begins h c.begin.new.self c.requires.ready c.begin.ensures
    (sym c.holds_none-none.ensures ∙ c.if-none.true) in
    (omega arith, (comes.seated, (comes.rests, (pinned_with_guards h c.requires.ready c.requires.out, comes.scans))))

pub end_uncounted-requires : goal.end_uncounted-requires
end_uncounted-requires g c =
    let h = c.args.self.now in let o = c.collect.new.self in
    let comes = scan_begins h c.begin.new.self c.requires.ready c.begin.ensures
    (sym c.holds_none-none.ensures ∙ c.if-none.true) in
    let flushed = collection_ends _ _ h (record h { machine = c.begin.new.self }) o comes c.collect.ensures in
    (omega arith, (flushed.ends, none_counted o.machine flushed.flushes.action))

pub returns-then-none-clause-called : goal.returns-then-none-clause-called
returns-then-none-clause-called g c =
    let h = c.args.self.now in let o = c.collect.new.self in
    let comes = scan_begins h c.begin.new.self c.requires.ready c.begin.ensures
    (sym c.holds_none-none.ensures ∙ c.if-none.true) in
    flush_does _ _ h o c.end_uncounted.new.self (collection_ends _ _ h
    (record h { machine = c.begin.new.self }) o comes c.collect.ensures) c.end_uncounted.ensures

pub returns-then-none-clause-ready : goal.returns-then-none-clause-ready
returns-then-none-clause-ready g c =
    let h = c.args.self.now in let o = c.collect.new.self in
    let comes = scan_begins h c.begin.new.self c.requires.ready c.begin.ensures
    (sym c.holds_none-none.ensures ∙ c.if-none.true) in
    flush_ready _ _ h o c.end_uncounted.new.self c.requires.ready c.requires.out (collection_ends _ _
    h (record h { machine = c.begin.new.self }) o comes c.collect.ensures) c.end_uncounted.ensures

-- nothing was put
pub returns-then-none-clause-found : goal.returns-then-none-clause-found
returns-then-none-clause-found g c =
    sym (ap (λ (z : Machine (Job g.row.W.Denot)). z.full) c.end_uncounted.ensures
    ∙ ap (λ (z : Machine (Job g.row.W.Denot)). z.full) c.collect.ensures.machine
    ∙ ap (λ (z : Machine (Job g.row.W.Denot)). z.full) c.begin.ensures)

-- WITH A BAG THAT IS PUT

pub put-requires : goal.put-requires
put-requires g c =
    let h = c.args.self.now in let m = c.begin.new.self in let ready = c.requires.ready in
    let begins = ap (λ (z : Machine (Job g.row.W.Denot)). z.stage) c.begin.ensures
    ∙ flush_seals h.machine (sym c.holds_none-none.ensures ∙ c.if-none.false) in (
      omega arith,
      (
        seated_with h m (ap (λ (z : Machine (Job g.row.W.Denot)). z.sizes) c.begin.ensures) ready.seated,
        (ready.rests, (pinned_with_guards h ready c.requires.out, begins)),
      ),
    )

pub collect-requires-2 : goal.collect-requires-2
collect-requires-2 g c =
    let h = c.args.self.now in let n = c.put.new.self in
    let comes = put_before_scan h n c.begin.new.self c.begin.ensures c.put.ensures in (
      omega arith,
      (
        comes.seated,
        (comes.rests, (still_pinned h n comes.pin (pinned_with_guards h c.requires.ready c.requires.out), comes.scans)),
      ),
    )

pub end_uncounted-requires-2 : goal.end_uncounted-requires-2
end_uncounted-requires-2 g c =
    let h = c.args.self.now in let n = c.put.new.self in let o = c.collect-2.new.self in
    let flushed = collection_ends _ _ h n o
    (put_before_scan h n c.begin.new.self c.begin.ensures c.put.ensures) c.collect-2.ensures in
    (omega arith, (flushed.ends, none_counted o.machine flushed.flushes.action))

pub found_full-requires : goal.found_full-requires
found_full-requires g c = omega arith

pub returns-clause-called : goal.returns-clause-called
returns-clause-called g c =
    let h = c.args.self.now in let n = c.put.new.self in let o = c.collect-2.new.self in
    flush_does _ _ h o c.end_uncounted-2.new.self (collection_ends _ _ h n o
    (put_before_scan h n c.begin.new.self c.begin.ensures c.put.ensures) c.collect-2.ensures) c.end_uncounted-2.ensures

pub returns-clause-ready : goal.returns-clause-ready
returns-clause-ready g c =
    let h = c.args.self.now in let n = c.put.new.self in let o = c.collect-2.new.self in
    flush_ready _ _ h o c.end_uncounted-2.new.self c.requires.ready c.requires.out
    (collection_ends _ _ h n o
    (put_before_scan h n c.begin.new.self c.begin.ensures c.put.ensures) c.collect-2.ensures) c.end_uncounted-2.ensures

-- whichever jobs were called
pub returns-then-none-clause-does : goal.returns-then-none-clause-does
returns-then-none-clause-does g c = ends_with_any (IsCalled g.W.Run.done g.W.Removing.Remove.tried) _ _
    (returns-then-none-clause-called g c)

pub returns-clause-does : goal.returns-clause-does
returns-clause-does g c = ends_with_any (IsCalled g.W.Run.done g.W.Removing.Remove.tried) _ _
    (returns-clause-called g c)
