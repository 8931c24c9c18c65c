-- What holds of any replies holds of those that are given.
use Rattle.std.proofs.Common.{Result, Ok, Err, IfOk}

-- what holds of every value holds of the value of an `Ok`
pub of_any : {X E : Type 0} (r : Result X E) (P : X → Type 0) → ((x : X) → P x) → IfOk r P
of_any (Ok x) P each = each x
of_any (Err e) P each = tt
