-- What a `Part` and a `Deed` own. The value is shared for a lifetime a of its own, and a part is a share of a's token.
use Rattle.std.specs.Prelude.{ℕ, [], ◌∷◌}
use base.FractionLaws.{Counts}
use base.Fml.{Share, Fml, fsep, fex, flft}
use denote.RattleType.{RattleType}
use denote.RawPtr.{Ptr}
use denote.Struct.Lending.{lent_at}

-- k parts in 2 ^ 63 of a's token
abbrev pub tokens : ℕ → ℕ → Fml
tokens a k = fex Share (λ e. fex (Counts 63 e k) (λ _. flft (a ∷ []) e))

module _ (R : RattleType) (p : Ptr) (x : R.Denot) (a : ℕ) where
  abbrev pub part_owns : ℕ → Fml
  part_owns k = fsep (tokens a k) (lent_at R p x (a ∷ []))
