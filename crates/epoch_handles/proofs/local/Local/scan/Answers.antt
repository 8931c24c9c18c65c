use Rattle.std.proofs.Common.{◌≡◌, ◌∙◌, ℕ, ◌-◌, ◌^◌, ◌<◌, sym, ap, subst, arith}
use Rattle.epoch_bags.specs.declared.job.Job.{Job}
use Rattle.epoch_machine.specs.Machine.{Machine}
use Rattle.epoch_handles.proofs.Scanning.{HasPassed, doesnt_let_pass, scan_begins, scan_passes, scan_stops}
use Rattle.epoch_handles.proofs.Scanning.{scan_greatest, scan_advances}
use Rattle.epoch_handles.proofs.local.Local.scan.Goals as goal

-- the positions of the machine are those of the table
pub loop-position-init : goal.loop-position-init
loop-position-init g c =
    let h = c.args.self.now in let seated = c.requires.seated in
    let some : 0 < h.machine.sizes.positions =
    let sizes = ap (λ z. z.positions) seated.sizes in
    let positions = seated.positions in
    let most = c.positions-positions.ensures in
    omega arith in
    record {
      small = c.load_epoch-epoch.ensures.within;
      passed = scan_begins h c.load_epoch-epoch.new.self c.load_epoch-epoch.result c.requires.pinned c.requires.begins
          some c.load_epoch-epoch.ensures.rises c.load_epoch-epoch.ensures.steps;
    }

pub scanned-requires : goal.scanned-requires
scanned-requires g c =
    let passed = c.loop-position.invariant.passed in
    let high = sym c.holds_up.ensures ∙ c.if-holds_up.true in
    let steps = (c.load_word-word.ensures.steps c.load_epoch-epoch.result passed.scan).1
    (doesnt_let_pass c.load_epoch-epoch.result c.load_word-word.result high) in (
      omega arith,
      (
        ap (λ (z : Machine (Job g.row.W.Denot)). z.stage) (steps.machine ∙ passed.machine) ∙ c.requires.begins,
        c.load_epoch-epoch.ensures.within,
      ),
    )

pub returns-then-holds_up-clause-scans : goal.returns-then-holds_up-clause-scans
returns-then-holds_up-clause-scans g c =
    let h = c.args.self.now in let passed = c.loop-position.invariant.passed in let seated = c.requires.seated in
    let within : c.loop-position.position < h.machine.sizes.positions =
    let sizes = ap (λ z. z.positions) seated.sizes in
    let positions = seated.positions in
    let count = c.positions-positions.ensures in
    let less = c.loop-position-test.true in
    omega arith in
    scan_stops h c.loop-position.self c.load_word-word.new.self c.load_epoch-epoch.result c.loop-position.position
    c.load_word-word.result c.scanned.new.self
    passed within c.load_word-word.ensures.answer (sym c.holds_up.ensures ∙ c.if-holds_up.true)
    (c.load_word-word.ensures.steps c.load_epoch-epoch.result passed.scan) c.scanned.ensures

pub loop-position-preserved : goal.loop-position-preserved
loop-position-preserved g c =
    let h = c.args.self.now in let passed = c.loop-position.invariant.passed in let seated = c.requires.seated in
    let within : c.loop-position.position < h.machine.sizes.positions =
    let sizes = ap (λ z. z.positions) seated.sizes in
    let positions = seated.positions in
    let count = c.positions-positions.ensures in
    let less = c.loop-position-test.true in
    omega arith in
    record {
      small = c.loop-position.invariant.small;
      passed = scan_passes h c.loop-position.self c.load_word-word.new.self c.load_epoch-epoch.result
          c.loop-position.position c.load_word-word.result
          passed within c.load_word-word.ensures.answer (sym c.holds_up.ensures ∙ c.if-holds_up.false)
          (c.load_word-word.ensures.steps c.load_epoch-epoch.result passed.scan);
    }

-- after the last position
pub returns-then-epoch-lt-GREATEST_EPOCH-clause-scans : goal.returns-then-epoch-lt-GREATEST_EPOCH-clause-scans
returns-then-epoch-lt-GREATEST_EPOCH-clause-scans g c =
    let h = c.args.self.now in let seated = c.requires.seated in
    let last : c.loop-position.position ≡ h.machine.sizes.positions =
    let sizes = ap (λ z. z.positions) seated.sizes in
    let positions = seated.positions in
    let count = c.positions-positions.ensures in
    let past = c.loop-position-test.false in
    let most = c.loop-position.auto.position-end in
    omega arith in
    let passed = subst (λ (k : ℕ). HasPassed h c.load_epoch-epoch.result k c.loop-position.self) last
    c.loop-position.invariant.passed in
    scan_advances h c.loop-position.self c.advance.new.self c.load_epoch-epoch.result
    c.scanned-then-epoch-lt-GREATEST_EPOCH.new.self
    passed c.if-epoch-lt-GREATEST_EPOCH.true c.advance.ensures.ahead c.advance.ensures.steps
    c.scanned-then-epoch-lt-GREATEST_EPOCH.ensures

pub returns-clause-scans : goal.returns-clause-scans
returns-clause-scans g c =
    let h = c.args.self.now in let seated = c.requires.seated in
    let last : c.loop-position.position ≡ h.machine.sizes.positions =
    let sizes = ap (λ z. z.positions) seated.sizes in
    let positions = seated.positions in
    let count = c.positions-positions.ensures in
    let past = c.loop-position-test.false in
    let most = c.loop-position.auto.position-end in
    omega arith in
    let passed = subst (λ (k : ℕ). HasPassed h c.load_epoch-epoch.result k c.loop-position.self) last
    c.loop-position.invariant.passed in
    let greatest : c.load_epoch-epoch.result ≡ 2 ^ 63 - 1 =
    let small = c.loop-position.invariant.small in
    let not_less = c.if-epoch-lt-GREATEST_EPOCH.false in
    omega arith in
    scan_greatest h c.loop-position.self c.load_epoch-epoch.result c.scanned-2.new.self passed
    greatest c.scanned-2.ensures
