-- Numbers in two's complement (II.22.9), for integers of each width.
use Rattle.std.specs.Prelude.{ℕ, ◌*◌, ◌-◌, ℤ, pos, negsuc, Bool, nat_lt, not, if◌then◌else◌}
use Rattle.type_terms.specs.declared.term.Primitive.{Primitive}
use Rattle.image_model.specs.Constants.{Integer}

-- an integer type, its element type aside
abbrev pub integer : Primitive → ℕ → Bool → Integer
integer of bytes signed = record { element = 0; of = of; bytes = bytes; signed = signed }

-- the number, where from `half` on numbers are negative if they have a sign
abbrev pub sign_of : (number half : ℕ) → Bool → ℤ
sign_of number half signed = if not signed then pos number else if nat_lt number half then pos number else negsuc (2 * half - 1 - number)
