-- The instructions of a well-formed body can be written: each operand fits its opcode.
use Rattle.std.proofs.Common.{◌≡◌, refl, sym, subst, ℕ, ℤ, ◌+◌, ◌<◌, ◌≤◌, ◌&&◌, true≢false, T, nat_lt, length, Option, Some, None, inl, inr, arith}
use Rattle.std.specs.Prelude.{IsTrue, int_le, pos, negsuc, ◌≤ℤ◌}
use Rattle.std.proofs.lemmas.Bool.{and_parts, ltb-true, leb-true}
use Rattle.std.proofs.lemmas.Int.{ints}
use Rattle.std.proofs.lemmas.List.Elements.{All-from_recursion}
use Rattle.opcode_table.specs.Opcodes.{bytes_of}
use Rattle.opcode_table.specs.declared.kind.OperandKind.{OperandKind}
use Rattle.opcode_table.specs.declared.kind.OperandKind.TheVariants as kinds
use Rattle.opcode_table.specs.declared.op.Op.{Op}
use Rattle.assembly_tree.specs.declared.body.Ins.{Ins}
use Rattle.assembly_tree.specs.declared.body.Operand as operand
use Rattle.opcode_table.specs.Sizes.{bytes_in, opcode_size}
use Rattle.assembly_tree.specs.WellFormedBodies.{operand_kind, fits_kind, are_targets, is_instruction}
use Rattle.assembly_tree.specs.WellFormedBodies as tree
use Rattle.assembly_tree.specs.Weight.{instruction_weight, operand_weight}
use Rattle.body_codec.specs.Encoding.{FitsBytes, OperandFits, size_of, ins_size}
use Rattle.body_codec.specs.Instruction.{joined, opcode_bytes, kind}
use Rattle.image_members.specs.CodeBytes.{any_token}
use Rattle.laws_writable_trees.specs.Ranges.{IsOperandInRange, IsInRange}
use Rattle.laws_writable_trees.proofs.Each.{each_from, each_true}

-- ---- integers

at_least : (n low : ℤ) → IsTrue (int_le low n) → low ≤ℤ n
at_least n low h = record { le = subst T (sym h) tt }

byte_fits : (n : ℤ) → (IsTrue (int_le (negsuc 0x7F) n && int_le n (pos 0x7F))) → FitsBytes 1 n
byte_fits n h =
    let both = and_parts (int_le (negsuc 0x7F) n) (int_le n (pos 0x7F)) h in
    let low = at_least n (negsuc 0x7F) both.0 in
    let high = at_least (pos 0x7F) n both.1 in
    record { low = omega (arith, ints); high = omega (arith, ints) }

word_fits : (n : ℤ) → (IsTrue (int_le (negsuc 0x7FFFFFFF) n && int_le n (pos 0x7FFFFFFF))) → FitsBytes 4 n
word_fits n h =
    let both = and_parts (int_le (negsuc 0x7FFFFFFF) n) (int_le n (pos 0x7FFFFFFF)) h in
    let low = at_least n (negsuc 0x7FFFFFFF) both.0 in
    let high = at_least (pos 0x7FFFFFFF) n both.1 in
    record { low = omega (arith, ints); high = omega (arith, ints) }

unsigned_fits : (n : ℤ) → (IsTrue (int_le (pos 0) n && int_le n (pos 0xFF))) → (m : ℕ) × (n ≡ pos m) × (m < 256)
unsigned_fits (pos m) h =
    let both = and_parts (int_le (pos 0) (pos m)) (int_le (pos m) (pos 0xFF)) h in
    let high = at_least (pos 0xFF) (pos m) both.1 in
    (m, refl, omega (arith, ints))
unsigned_fits (negsuc m) h = absurd (true≢false (sym (and_parts (int_le (pos 0) (negsuc m)) (int_le (negsuc m) (pos 0xFF)) h).0))

-- ---- operands

operand_fits : (count : ℕ) (k : OperandKind) (o : operand.Operand) → IsTrue (fits_kind k o) → IsTrue (are_targets count o) → IsOperandInRange o → OperandFits any_token count k o
operand_fits count kinds.Nothing operand.TheVariants.Nothing h t r = refl
operand_fits count kinds.Var8 (operand.TheVariants.Var n) h t r = (refl, let few = leb-true n 0xFF h in omega arith)
operand_fits count kinds.Var16 (operand.TheVariants.Var n) h t r = (refl, r)
operand_fits count kinds.Num8 (operand.TheVariants.Int n) h t r = byte_fits n h
operand_fits count kinds.Num32 (operand.TheVariants.Int n) h t r = word_fits n h
operand_fits count kinds.Num64 (operand.TheVariants.Int n) h t r = record { low = r.0; high = r.1 }
operand_fits count kinds.Byte (operand.TheVariants.Int n) h t r = unsigned_fits n h
operand_fits count kinds.Real4 (operand.TheVariants.Real bits) h t r = (refl, let few = leb-true bits 0xFFFFFFFF h in omega arith)
operand_fits count kinds.Real8 (operand.TheVariants.Real bits) h t r = (refl, r)
operand_fits count kinds.Branch8 (operand.TheVariants.Target at) h t r = (refl, ltb-true at count t)
operand_fits count kinds.Branch32 (operand.TheVariants.Target at) h t r = (refl, ltb-true at count t)
operand_fits count kinds.Switch (operand.TheVariants.Targets at) h t r =
    (refl, All-from_recursion (λ n. n < count) at (each_from (λ n. IsTrue (nat_lt n count)) (λ n. n < count) (λ n. ltb-true n count) at (each_true (λ n. nat_lt n count) at t)))
operand_fits count kinds.Method (operand.TheVariants.Method m) h t r = (inl refl, refl)
operand_fits count kinds.Field (operand.TheVariants.Field f) h t r = (inl refl, refl)
operand_fits count kinds.Of (operand.TheVariants.Of o) h t r = (inl refl, refl)
operand_fits count kinds.Text (operand.TheVariants.Text units) h t r = (refl, refl)
operand_fits count kinds.Token (operand.TheVariants.Method m) h t r = (inr refl, refl)
operand_fits count kinds.Token (operand.TheVariants.Field f) h t r = (inr refl, refl)
operand_fits count kinds.Token (operand.TheVariants.Of o) h t r = (inr refl, refl)
operand_fits count k o h t r = absurd (true≢false (sym h))

pub same_kind : (op : Op) → operand_kind op ≡ kind op
unfolding operand_kind kind
same_kind op = refl

pub instruction_fits : (count : ℕ) (i : Ins) → IsTrue (is_instruction count i) → IsInRange i → OperandFits any_token count (kind i.op) i.operand
instruction_fits count i h r =
    let both = and_parts (fits_kind (operand_kind i.op) i.operand) (are_targets count i.operand) h in
    subst (λ (k : OperandKind). OperandFits any_token count k i.operand) (same_kind i.op) (operand_fits count (operand_kind i.op) i.operand both.0 both.1 r)

-- ---- sizes

joined_long : (first : ℕ) (second : Option ℕ) → length (joined first second) ≡ bytes_in (first, second)
joined_long first None = refl
joined_long first (Some second) = refl

opcode_long : (op : Op) → length (opcode_bytes op) ≡ opcode_size op
unfolding opcode_bytes opcode_size
opcode_long op = joined_long (bytes_of op).0 (bytes_of op).1

-- an operand that fits has as many bytes by both definitions
operand_long : (k : OperandKind) (o : operand.Operand) → IsTrue (fits_kind k o) → size_of k o ≡ tree.operand_size k o
operand_long kinds.Nothing operand.TheVariants.Nothing h = refl
operand_long kinds.Var8 (operand.TheVariants.Var n) h = refl
operand_long kinds.Var16 (operand.TheVariants.Var n) h = refl
operand_long kinds.Num8 (operand.TheVariants.Int n) h = refl
operand_long kinds.Num32 (operand.TheVariants.Int n) h = refl
operand_long kinds.Num64 (operand.TheVariants.Int n) h = refl
operand_long kinds.Byte (operand.TheVariants.Int n) h = refl
operand_long kinds.Real4 (operand.TheVariants.Real bits) h = refl
operand_long kinds.Real8 (operand.TheVariants.Real bits) h = refl
operand_long kinds.Branch8 (operand.TheVariants.Target at) h = refl
operand_long kinds.Branch32 (operand.TheVariants.Target at) h = refl
operand_long kinds.Switch (operand.TheVariants.Targets at) h = refl
operand_long kinds.Method (operand.TheVariants.Method m) h = refl
operand_long kinds.Field (operand.TheVariants.Field f) h = refl
operand_long kinds.Of (operand.TheVariants.Of o) h = refl
operand_long kinds.Text (operand.TheVariants.Text units) h = refl
operand_long kinds.Token (operand.TheVariants.Method m) h = refl
operand_long kinds.Token (operand.TheVariants.Field f) h = refl
operand_long kinds.Token (operand.TheVariants.Of o) h = refl
operand_long k o h = absurd (true≢false (sym h))

pub same_size : (count : ℕ) (i : Ins) → IsTrue (is_instruction count i) → ins_size i ≡ tree.size_of i
unfolding tree.size_of
same_size count i h =
    let both = and_parts (fits_kind (operand_kind i.op) i.operand) (are_targets count i.operand) h in
    let first = opcode_long i.op in
    let next : size_of (kind i.op) i.operand ≡ tree.operand_size (operand_kind i.op) i.operand = subst (λ (k : OperandKind). size_of k i.operand ≡ tree.operand_size (operand_kind i.op) i.operand) (same_kind i.op) (operand_long (operand_kind i.op) i.operand both.0) in
    omega arith

-- no instruction has more bytes than it weighs
operand_light : (k : OperandKind) (o : operand.Operand) → IsTrue (fits_kind k o) → size_of k o ≤ 14 + operand_weight o
unfolding operand_weight
operand_light kinds.Nothing operand.TheVariants.Nothing h = omega arith
operand_light kinds.Var8 (operand.TheVariants.Var n) h = omega arith
operand_light kinds.Var16 (operand.TheVariants.Var n) h = omega arith
operand_light kinds.Num8 (operand.TheVariants.Int n) h = omega arith
operand_light kinds.Num32 (operand.TheVariants.Int n) h = omega arith
operand_light kinds.Num64 (operand.TheVariants.Int n) h = omega arith
operand_light kinds.Byte (operand.TheVariants.Int n) h = omega arith
operand_light kinds.Real4 (operand.TheVariants.Real bits) h = omega arith
operand_light kinds.Real8 (operand.TheVariants.Real bits) h = omega arith
operand_light kinds.Branch8 (operand.TheVariants.Target at) h = omega arith
operand_light kinds.Branch32 (operand.TheVariants.Target at) h = omega arith
operand_light kinds.Switch (operand.TheVariants.Targets at) h = omega arith
operand_light kinds.Method (operand.TheVariants.Method m) h = omega arith
operand_light kinds.Field (operand.TheVariants.Field f) h = omega arith
operand_light kinds.Of (operand.TheVariants.Of o) h = omega arith
operand_light kinds.Text (operand.TheVariants.Text units) h = omega arith
operand_light kinds.Token (operand.TheVariants.Method m) h = omega arith
operand_light kinds.Token (operand.TheVariants.Field f) h = omega arith
operand_light kinds.Token (operand.TheVariants.Of o) h = omega arith
operand_light k o h = absurd (true≢false (sym h))

opcode_short : (first : ℕ) (second : Option ℕ) → bytes_in (first, second) ≤ 2
opcode_short first None = omega arith
opcode_short first (Some second) = omega arith

pub size_light : (count : ℕ) (i : Ins) → IsTrue (is_instruction count i) → ins_size i ≤ instruction_weight i
unfolding instruction_weight opcode_size
size_light count i h =
    let both = and_parts (fits_kind (operand_kind i.op) i.operand) (are_targets count i.operand) h in
    let first = opcode_long i.op in
    let short = opcode_short (bytes_of i.op).0 (bytes_of i.op).1 in
    let next : size_of (kind i.op) i.operand ≤ 14 + operand_weight i.operand = subst (λ (k : OperandKind). size_of k i.operand ≤ 14 + operand_weight i.operand) (same_kind i.op) (operand_light (operand_kind i.op) i.operand both.0) in
    omega arith
