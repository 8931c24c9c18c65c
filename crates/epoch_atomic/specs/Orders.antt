-- The ordering of a lost exchange, where one ordering is given for both.
use Rattle.std.specs.declared.sync.atomic.Ordering.{Ordering}
use Rattle.std.specs.declared.sync.atomic.Ordering.TheVariants.{Relaxed, Release, Acquire, AcqRel, SeqCst}

abbrev pub failure_of : Ordering → Ordering
failure_of Relaxed = Relaxed
failure_of Release = Relaxed
failure_of Acquire = Acquire
failure_of AcqRel = Acquire
failure_of SeqCst = SeqCst
