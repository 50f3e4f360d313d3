-- Integers of any size.
use Rattle.std.specs.Prelude.{ℕ, suc, ℤ, pos, negsuc}

-- how far a number is from 0
abbrev pub distance : ℤ → ℕ
distance (pos n) = n
distance (negsuc n) = suc n
