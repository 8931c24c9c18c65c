-- What a phase asks for, as code says it.
use Rattle.epoch_structure_laws.specs.Plans.{Deed, Flushes, Touches, Defers, Answers}
use Rattle.epoch_structure_laws.specs.declared.machine.Wish.{Wish}
use Rattle.epoch_structure_laws.specs.declared.machine.Wish.TheVariants.{Flush, Touch, Defer, Answer}

abbrev pub wish_of : {P A : Type 0} → Deed P A → Wish A
wish_of (Flushes done refused) = Flush
wish_of (Touches access told refused) = Touch access
wish_of (Defers node deferred refused) = Defer node
wish_of (Answers answer) = Answer answer
