-- Weights that are taken off one after the other are taken off together.
use Rattle.std.proofs.Common.{◌≡◌, ℕ, ◌+◌, ◌-◌, arith}

pub both_off : (n a b : ℕ) → n - a - b ≡ n - (a + b)
both_off n a b = omega arith
