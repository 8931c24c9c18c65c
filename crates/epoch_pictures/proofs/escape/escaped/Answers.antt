use Rattle.std.proofs.Common.{ℕ, List, take, subst, sym}
use Rattle.std.specs.List.{All}
use Rattle.epoch_pictures.specs.Escapes.{IsText}
use Rattle.epoch_pictures.proofs.EscapedText.{escape_more, escape_is_text}
use Rattle.epoch_pictures.proofs.escape.escaped.Goals as goal

-- one byte was written behind the others
pub loop-byte-preserved : goal.loop-byte-preserved
loop-byte-preserved c =
    let more = escape_more c.as_bytes-bytes.result.now c.loop-byte.byte-index c.loop-byte-test.true in
    cc (more, c.in_ok-push_escaped.ensures, c.loop-byte.invariant)

-- what is written is the escaped form of some bytes, in which there is no markup
pub returns-clause-plain : goal.returns-clause-plain
returns-clause-plain c =
    let P : List ℕ → Type 0 = All IsText in
    subst P (sym c.loop-byte.invariant) (escape_is_text (take c.loop-byte.byte-index c.as_bytes-bytes.result.now))
