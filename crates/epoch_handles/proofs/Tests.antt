-- What a test that failed and a test that held have in common: nothing.
use Rattle.std.proofs.Common.{◌≡◌, ◌∙◌, Bool, true, false, Option, Some, None, sym}
use Rattle.std.proofs.lemmas.Bool.{false≢true}

-- no test is both
pub not_both : {b : Bool} → b ≡ false → b ≡ true → ⊥
not_both off on = false≢true (sym off ∙ on)

-- no option is both `None` and `Some`
pub none_is_not_some : {A : Type 0} {o : Option A} {x : A} → o ≡ None → o ≡ Some x → ⊥
none_is_not_some none some = cc (sym none ∙ some)
