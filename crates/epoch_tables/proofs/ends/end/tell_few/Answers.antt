use Rattle.std.proofs.Common.{◌≡◌, ℕ, ◌*◌, ◌<◌, ◌≤◌, arith}
use Rattle.std.proofs.Math.Nat.{mul-le-mul_left}
use Rattle.epoch_tables.proofs.ends.end.tell_few.Goals as goal

-- so many values of 64 bytes or more each, with their bytes counted by a word
few_of_size : (count bytes size : ℕ)
    → bytes ≡ count * size → 64 ≤ size → bytes < 18446744073709551616 → 64 * count < 18446744073709551616
few_of_size count bytes size is wide within =
    let least : count * 64 ≤ count * size = mul-le-mul_left count wide in
    omega (arith, is, least, within)

-- a sealed bag has room for 64 jobs, none of which takes no byte
pub returns : goal.returns
returns g c = few_of_size _ _ _ c.size_of_val-bytes.ensures (omega arith) c.size_of_val-bytes.type_inv
