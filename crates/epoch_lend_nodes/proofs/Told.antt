-- An answer to an exchange, by whether it was made.
use Rattle.std.proofs.Common.{◌≡◌, Bool, true, false, Option, None, refl}
use Rattle.epoch_laws.specs.declared.heap.access.AccessAnswer.{AccessAnswer}
use Rattle.epoch_laws.specs.declared.heap.access.AccessAnswer.TheVariants.{Exchanged, Absent}
use Rattle.epoch_structure_calls.specs.Linking.{was_made}

-- some answer that tells so
abbrev pub answer_of : Bool → AccessAnswer
answer_of true = Exchanged (record { name = None; tag = 0 })
answer_of false = Absent

-- such an answer tells whether the exchange was made
pub tells : (made : Bool) → was_made (answer_of made) ≡ made
tells true = refl
tells false = refl
