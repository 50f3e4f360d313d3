-- The hash of a row by its cells.
use Rattle.std.specs.Prelude.{ℕ, ◌+◌, ◌*◌, ◌/◌, ◌%◌, ◌^◌}
use Rattle.type_terms.specs.Hashing.{start, mix}

-- the second cell comes last, all but its last two bits in the low bits
abbrev pub hash_cells : ℕ → ℕ → ℕ → ℕ
hash_cells first second third = mix (mix (mix start first) third) (second % 4 * 2 ^ 62 + second / 4)
