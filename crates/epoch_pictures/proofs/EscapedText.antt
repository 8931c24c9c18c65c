-- Text is escaped byte by byte, and none of what is written is markup.
use Rattle.std.proofs.Common.{rules, ◌≡◌, ℕ, zero, suc, ◌+◌, ◌<◌, List, [], ◌∷◌, ◌++◌, length, take, slice_index, sym}
use Rattle.std.proofs.Common.{ap, ◌∙◌, append_assoc, add-one, arith}
use Rattle.std.specs.List.{All}
use Rattle.std.proofs.lemmas.List.{append-nil}
use Rattle.std.proofs.lemmas.List.Elements.{All-append}
use Rattle.epoch_pictures.specs.Escapes.{IsText, escape, escaped_byte}

escape_next : (bytes : List ℕ) (i : ℕ)
    → i < length bytes → escape (take (suc i) bytes) ≡ escape (take i bytes) ++ escaped_byte (slice_index bytes i)
escape_next [] i within = absurd (omega arith)
escape_next (byte ∷ bytes) zero within = append-nil (escaped_byte byte)
escape_next (byte ∷ bytes) (suc i) within =
    ap (λ rest. escaped_byte byte ++ rest) (escape_next bytes i (omega arith))
    ∙ sym (append_assoc (escaped_byte byte) (escape (take i bytes)) (escaped_byte (slice_index bytes i)))

-- one byte further
pub escape_more : (bytes : List ℕ) (i : ℕ)
    → i < length bytes → escape (take (i + 1) bytes) ≡ escape (take i bytes) ++ escaped_byte (slice_index bytes i)
escape_more bytes i within = rw add-one (escape_next bytes i within)

byte_is_text : (byte : ℕ) → All IsText (escaped_byte byte)
byte_is_text byte = grind arith

-- no byte of an escaped text opens or ends markup
pub escape_is_text : (bytes : List ℕ) → All IsText (escape bytes)
escape_is_text [] = search rules
escape_is_text (byte ∷ bytes) =
    All-append IsText (escaped_byte byte) (escape bytes) (byte_is_text byte) (escape_is_text bytes)
