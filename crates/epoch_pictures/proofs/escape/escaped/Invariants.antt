use Rattle.std.proofs.Common.{◌≡◌, string_bytes, take}
use Rattle.epoch_pictures.specs.Escapes.{escape}
use Rattle.epoch_pictures.proofs.escape.escaped.Given as goal

abbrev pub invariant-loop-byte : goal.invariant-loop-byte
invariant-loop-byte l = string_bytes l.written ≡ escape (take l.byte-index l.bytes)
