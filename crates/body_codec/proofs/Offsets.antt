-- Where instructions begin.
use Rattle.std.proofs.Common.{◌≡◌, ℕ, ◌<◌, ◌≤◌, ◌+◌, List, [], ◌∷◌, length, take, get_or, refl, sym, arith, Option, None, Some}
use Rattle.std.specs.List.{sum_by}
use Rattle.std.proofs.lemmas.List.{take_all, take-take}
use Rattle.std.proofs.lemmas.List.Sums.{sum_by-cons, sum_by_more, sum_by-take-le}
use Rattle.opcode_table.specs.Opcodes.{bytes_of}
use Rattle.assembly_tree.specs.declared.body.Ins.{Ins}
use Rattle.body_codec.specs.Instruction.{joined, opcode_bytes}
use Rattle.body_codec.specs.Encoding.{ins_size, offset}

pub offset_none : (code : List Ins) → offset code 0 ≡ 0
unfolding offset
offset_none code = refl

pub offset_more : (code : List Ins) (k : ℕ) (d : Ins) → k < length code → offset code (k + 1) ≡ offset code k + ins_size (get_or code k d)
unfolding offset
offset_more code k d h = sum_by_more ins_size code k d h

-- each is at most where the code ends
pub offset_within : (code : List Ins) (k : ℕ) → offset code k ≤ offset code (length code)
unfolding offset
offset_within code k = rw (take_all (length code) code (omega arith)) (sum_by-take-le ins_size code k)

front_some : (first : ℕ) (second : Option ℕ) → 1 ≤ length (joined first second)
front_some first None = omega arith
front_some first (Some second) = omega arith

ins_some : (ins : Ins) → 1 ≤ ins_size ins
unfolding opcode_bytes
ins_some ins = omega (arith, front_some (bytes_of ins.op).0 (bytes_of ins.op).1)

counted : (code : List Ins) → length code ≤ sum_by ins_size code
counted [] = omega arith
counted (ins ∷ rest) = omega (arith, counted rest, ins_some ins, sum_by-cons ins_size ins rest)

-- there are no more instructions than bytes
pub count_within : (code : List Ins) → length code ≤ offset code (length code)
unfolding offset
count_within code = rw (take_all (length code) code (omega arith)) (counted code)

-- offsets rise
pub offset_rises : (code : List Ins) (j k : ℕ) → j ≤ k → offset code j ≤ offset code k
unfolding offset
offset_rises code j k h = rw (sym (take-take j k code h)) (sum_by-take-le ins_size (take k code) j)
