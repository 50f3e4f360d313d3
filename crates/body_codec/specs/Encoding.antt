-- What can be written as a body, and in which form (II.25.4): the tiny header and small clauses wherever they serve.
use Rattle.std.specs.Prelude.{◌≡◌, ◌≢◌, ℕ, ◌+◌, ◌*◌, ◌-◌, ◌^◌, ◌<◌, ◌≤◌, ◌==◌, nat_lt, nat_le, ℤ, pos, ◌-ℤ◌, ◌≤ℤ◌, ◌<ℤ◌, neg_ℤ, Bool, true, false, not, ◌&&◌, List, [], ◌∷◌, length, take, replicate, slice_index, slice_index_or, if◌then◌else◌, Some, IsSome}
use Rattle.std.specs.List.{All, HoldsAt, sum_by, list_all, slice_range}
use Rattle.opcode_table.specs.declared.kind.OperandKind.{OperandKind}
use Rattle.opcode_table.specs.declared.kind.OperandKind.TheVariants as kinds
use Rattle.assembly_tree.specs.declared.body.Body.{Body}
use Rattle.assembly_tree.specs.declared.body.Clause.{Clause}
use Rattle.assembly_tree.specs.declared.body.ClauseKind as handled
use Rattle.assembly_tree.specs.declared.body.Ins.{Ins}
use Rattle.assembly_tree.specs.declared.body.Operand as operand
use Rattle.body_codec.specs.declared.fault.BodyFault.{BodyFault}
use Rattle.body_codec.specs.declared.fault.BodyFault.TheVariants as faults
use Rattle.body_codec.specs.Instruction.{opcode_bytes, operand_size, kind}
use Rattle.body_codec.specs.Names.{TokenMap, Suits, writing}
use Rattle.body_codec.specs.Spelling.{Form, nothing, variable, integer, byte, real, target, targets, form}
use Rattle.body_codec.specs.Header.{number_at, is_tiny, code_end}
use Rattle.body_codec.specs.Sections.{padded, sections, said_size, clause_rows}
use Rattle.body_codec.specs.Bodies.{Spells}

-- ---- lengths and offsets, by the instructions

-- how many bytes an operand of a kind has
abbrev pub size_of : OperandKind → operand.Operand → ℕ
size_of kind (operand.TheVariants.Targets ts) = 4 + 4 * length ts
size_of kind _ = operand_size kind []

abbrev pub ins_size : Ins → ℕ
ins_size ins = length (opcode_bytes ins.op) + size_of (kind ins.op) ins.operand

-- where an instruction begins: the sum of the lengths before it
unfoldable pub offset : List Ins → ℕ → ℕ
offset code k = sum_by ins_size (take k code)

-- how far a branch of instruction `k` to instruction `t` goes
abbrev pub distance : List Ins → ℕ → ℕ → ℤ
distance code k t = pos (offset code t) -ℤ pos (offset code (k + 1))

-- ---- branches

-- the signed numbers of so many bytes
pub record FitsBytes (size : ℕ) (n : ℤ) : Type 0 where
  pub low : neg_ℤ (pos (2 ^ (8 * size - 1))) ≤ℤ n
  pub high : n <ℤ pos (2 ^ (8 * size - 1))

-- instruction `k` is a short branch whose displacement is no signed byte
pub record IsFar (code : List Ins) (k : ℕ) (ins : Ins) : Type 0 where
  pub short : kind ins.op ≡ kinds.Branch8
  pub to : ℕ
  pub branch : ins.operand ≡ operand.TheVariants.Target to
  pub far : FitsBytes 1 (distance code k to) → ⊥

-- the first one is instruction `at`
pub record IsFirstFar (code : List Ins) (at : ℕ) : Type 0 where
  pub within : at < length code
  pub before : (k : ℕ) (i : Ins) → k < at → IsFar code k (slice_index_or code k i) → ⊥
  pub far : HoldsAt (IsFar code at) code at

-- ---- what `encode` asks

abbrev pub IntegerFits : Form → ℕ → ℤ → Type 0
IntegerFits integer size n = FitsBytes size n
IntegerFits byte size n = (m : ℕ) × (n ≡ pos m) × (m < 256)
IntegerFits _ size n = ⊥

-- The operand is of its opcode's kind, its targets are among `count` instructions, and its name has a token.
abbrev pub OperandFits : TokenMap → ℕ → OperandKind → operand.Operand → Type 0
OperandFits numbers count kind operand.TheVariants.Nothing = form kind ≡ nothing
OperandFits numbers count kind (operand.TheVariants.Var n) = (form kind ≡ variable) × (n < 256 ^ operand_size kind [])
OperandFits numbers count kind (operand.TheVariants.Int n) = IntegerFits (form kind) (operand_size kind []) n
OperandFits numbers count kind (operand.TheVariants.Real bits) = (form kind ≡ real) × (bits < 256 ^ operand_size kind [])
OperandFits numbers count kind (operand.TheVariants.Target t) = (form kind ≡ target) × (t < count)
OperandFits numbers count kind (operand.TheVariants.Targets ts) = (form kind ≡ targets) × All (λ t. t < count) ts
OperandFits numbers count kind (operand.TheVariants.Method m) = Suits kind (operand.TheVariants.Method m) × IsSome (numbers.methods m)
OperandFits numbers count kind (operand.TheVariants.Field f) = Suits kind (operand.TheVariants.Field f) × IsSome (numbers.fields f)
OperandFits numbers count kind (operand.TheVariants.Of o) = Suits kind (operand.TheVariants.Of o) × IsSome (numbers.owners o)
OperandFits numbers count kind (operand.TheVariants.Text units) = Suits kind (operand.TheVariants.Text units) × IsSome (numbers.texts units)

abbrev pub KindFits : TokenMap → ℕ → handled.ClauseKind → Type 0
KindFits numbers handler (handled.TheVariants.Catch owner) = IsSome (numbers.owners owner)
KindFits numbers handler (handled.TheVariants.Filter at) = at < handler
KindFits numbers handler handled.TheVariants.Finally = Unit {0}
KindFits numbers handler handled.TheVariants.Fault = Unit {0}

-- The ranges aren't empty and lie in `count` instructions, a filter begins before its handler, and a caught type has a token.
pub record ClauseFits (numbers : TokenMap) (count : ℕ) (clause : Clause) : Type 0 where
  pub try_some : clause.try_start < clause.try_end
  pub try_inside : clause.try_end ≤ count
  pub handler_some : clause.handler_start < clause.handler_end
  pub handler_inside : clause.handler_end ≤ count
  pub kind : KindFits numbers clause.handler_start clause.kind

-- A body that is well formed save for short branches, with fewer than 2 ^ 31 bytes of code, whose names have tokens.
pub record CanBeWritten (numbers : TokenMap) (body : Body) : Type 0 where
  pub some : 0 < length body.code
  pub operands : All (λ ins. OperandFits numbers (length body.code) (kind ins.op) ins.operand) body.code
  pub size : offset body.code (length body.code) < 2 ^ 31
  pub few : length body.clauses ≤ 65535
  pub clauses : All (ClauseFits numbers (length body.code)) body.clauses
  pub locals : body.locals ≢ [] → (token : ℕ) × (numbers.locals body.locals ≡ Some token) × (token ≢ 0)

-- ---- the form

-- the tiny header serves
abbrev pub fits_tiny : Body → Bool
fits_tiny body =
    (body.bound == 8) && not body.init && (length body.locals == 0) && (length body.clauses == 0) && nat_lt (offset body.code (length body.code)) 64

-- the small form of a clause serves
abbrev pub is_small : List Ins → Clause → Bool
is_small code c =
    nat_lt (offset code c.try_start) (2 ^ 16) && nat_lt (offset code c.try_end - offset code c.try_start) (2 ^ 8)
    && nat_lt (offset code c.handler_start) (2 ^ 16) && nat_lt (offset code c.handler_end - offset code c.handler_start) (2 ^ 8)

-- it serves for all of them, and for the section's size, which has one byte
abbrev pub fits_small : Body → Bool
fits_small body = nat_le (length body.clauses) 20 && list_all (is_small body.code) body.clauses

-- the flags and the size of a fat header: 3, and 0x10 and 8 where locals are set to zero and clauses follow; three words
abbrev pub fat_flags : Body → ℕ
fat_flags body = 0x3003 + (if body.init then 0x10 else 0) + (if nat_lt 0 (length body.clauses) then 8 else 0)

-- Clauses stand in one section behind the code, filled up with zeros. It is small where that serves, with two bytes of zeros
-- behind its size, and what no kind of clause uses is 0.
pub record HasSection (body : Body) (bytes : List ℕ) : Type 0 where
  pub one : sections bytes ≡ padded (code_end bytes) ∷ []
  pub filled : slice_range bytes (code_end bytes) (padded (code_end bytes)) ≡ replicate (padded (code_end bytes) - code_end bytes) 0
  pub kind_byte : slice_index bytes (padded (code_end bytes)) ≡ (if fits_small body then 1 else 0x41)
  pub size : padded (code_end bytes) + said_size bytes (padded (code_end bytes)) ≡ length bytes
  pub reserved : fits_small body ≡ true → number_at 2 (padded (code_end bytes) + 2) bytes ≡ 0
  pub unused : All (λ row. 2 ≤ row.kind → row.class_or_filter ≡ 0) (clause_rows bytes)

-- Its header is tiny exactly where that serves, a fat one has no flags but those it needs, and no section stands without clauses.
pub record IsCompact (body : Body) (bytes : List ℕ) : Type 0 where
  pub tiny : is_tiny bytes ≡ fits_tiny body
  pub flags : is_tiny bytes ≡ false → number_at 2 0 bytes ≡ fat_flags body
  pub section : 0 < length body.clauses → HasSection body bytes

-- These bytes are the body's, in its most compact form.
pub record IsWritten (numbers : TokenMap) (body : Body) (bytes : List ℕ) : Type 0 where
  pub spelled : Spells (writing numbers) bytes body (length bytes)
  pub compact : IsCompact body bytes

-- the only fault of a body that can be written
abbrev pub IsFarFault : List Ins → BodyFault → Type 0
IsFarFault code (faults.Far at) = IsFirstFar code at
IsFarFault code faults.NoMemory = Unit {0}
IsFarFault code _ = ⊥
