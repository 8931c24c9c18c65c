-- Text as XML has it.
use Rattle.std.specs.Prelude.{◌≢◌, ℕ, ◌==◌, nat_lt, if◌then◌else◌, List, [], ◌∷◌, ◌++◌, codes}

-- a byte that XML reads as markup is written as its entity; a question mark stands for any byte that no plain text has
abbrev pub escaped_byte : ℕ → List ℕ
escaped_byte byte =
    if byte == 38 then codes "&amp;" else (if byte == 60 then codes "&lt;"
    else (if byte == 62 then codes "&gt;" else (if byte == 34 then codes "&quot;" else
    (if nat_lt byte 32 then codes "?" else (if nat_lt byte 127 then byte ∷ [] else codes "?")))))

abbrev pub escape : List ℕ → List ℕ
escape [] = []
escape (byte ∷ bytes) = escaped_byte byte ++ escape bytes

-- no byte opens or ends markup: there is no less-than or greater-than sign and no quotation mark
pub record IsText (byte : ℕ) : Type 0 where
  pub no_less : byte ≢ 60
  pub no_greater : byte ≢ 62
  pub no_quote : byte ≢ 34
