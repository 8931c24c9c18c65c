-- What was found before, in the words of a call that lends it again.
use Rattle.std.proofs.Common.{Option, Some, None, IfSome, refl}
use Rattle.std.proofs.Math.Logic.{∥∥₁_map}
use Rattle.std.specs.Option.{ForSome}

-- what is known of a value that was found before tells what is asked of it, if it tells that of each value
pub found_before : {X : Type 0} (P Q : X → Type 0) (o : Option X) → ((x : X) → P x → Q x)
    → ForSome o (λ x. ∥ P x ∥₁) → IfSome o (λ x. ∥ Q x ∥₁)
found_before P Q None more found = tt
found_before P Q (Some x) more found = ∥∥₁_map (found x refl) (more x)

-- the same of a value that another call lends
pub lent_again : {X : Type 0} (P Q : X → Type 0) (o : Option X) → ((x : X) → P x → Q x)
    → IfSome o (λ x. ∥ P x ∥₁) → IfSome o (λ x. ∥ Q x ∥₁)
lent_again P Q None more lent = tt
lent_again P Q (Some x) more lent = ∥∥₁_map lent (more x)
