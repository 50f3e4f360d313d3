-- The opcodes' bytes tell them apart: a second byte stands exactly behind 0xFE, and no two opcodes have the same bytes.
use Rattle.std.proofs.Common.{◌≡◌, ◌∙◌, sym, ap, refl, ℕ, zero, suc, Bool, true, false, not, cond, nat_eq, List, [], ◌∷◌, ◌++◌, slice_index_or, Option, None, Some, arith}
use Rattle.opcode_table.specs.Opcodes.{Row, opcodes, number_of, bytes_of}
use Rattle.opcode_table.specs.declared.kind.OperandKind.TheVariants as kinds
use Rattle.opcode_table.specs.declared.op.Op.{Op}
use Rattle.opcode_table.specs.declared.op.Op.TheVariants.{
  Nop,
  Break,
  Ldarg0,
  Ldarg1,
  Ldarg2,
  Ldarg3,
  Ldloc0,
  Ldloc1,
  Ldloc2,
  Ldloc3,
  Stloc0,
  Stloc1,
  Stloc2,
  Stloc3,
  LdargS,
  LdargaS,
  StargS,
  LdlocS,
  LdlocaS,
  StlocS,
  Ldnull,
  LdcI4M1,
  LdcI40,
  LdcI41,
  LdcI42,
  LdcI43,
  LdcI44,
  LdcI45,
  LdcI46,
  LdcI47,
  LdcI48,
  LdcI4S,
  LdcI4,
  LdcI8,
  LdcR4,
  LdcR8,
  Dup,
  Pop,
  Call,
  Ret,
  BrS,
  BrfalseS,
  BrtrueS,
  BeqS,
  BgeS,
  BgtS,
  BleS,
  BltS,
  BneUnS,
  BgeUnS,
  BgtUnS,
  BleUnS,
  BltUnS,
  Br,
  Brfalse,
  Brtrue,
  Beq,
  Bge,
  Bgt,
  Ble,
  Blt,
  BneUn,
  BgeUn,
  BgtUn,
  BleUn,
  BltUn,
  Switch,
  LdindI1,
  LdindU1,
  LdindI2,
  LdindU2,
  LdindI4,
  LdindU4,
  LdindI8,
  LdindI,
  LdindR4,
  LdindR8,
  LdindRef,
  StindRef,
  StindI1,
  StindI2,
  StindI4,
  StindI8,
  StindR4,
  StindR8,
  Add,
  Sub,
  Mul,
  Div,
  DivUn,
  Rem,
  RemUn,
  And,
  Or,
  Xor,
  Shl,
  Shr,
  ShrUn,
  Neg,
  Not,
  ConvI1,
  ConvI2,
  ConvI4,
  ConvI8,
  ConvR4,
  ConvR8,
  ConvU4,
  ConvU8,
  Callvirt,
  Cpobj,
  Ldobj,
  Ldstr,
  Newobj,
  Castclass,
  Isinst,
  ConvRUn,
  Unbox,
  Throw,
  Ldfld,
  Ldflda,
  Stfld,
  Ldsfld,
  Ldsflda,
  Stsfld,
  Stobj,
  ConvOvfI1Un,
  ConvOvfI2Un,
  ConvOvfI4Un,
  ConvOvfI8Un,
  ConvOvfU1Un,
  ConvOvfU2Un,
  ConvOvfU4Un,
  ConvOvfU8Un,
  ConvOvfIUn,
  ConvOvfUUn,
  Box,
  Newarr,
  Ldlen,
  Ldelema,
  LdelemI1,
  LdelemU1,
  LdelemI2,
  LdelemU2,
  LdelemI4,
  LdelemU4,
  LdelemI8,
  LdelemI,
  LdelemR4,
  LdelemR8,
  LdelemRef,
  StelemI,
  StelemI1,
  StelemI2,
  StelemI4,
  StelemI8,
  StelemR4,
  StelemR8,
  StelemRef,
  Ldelem,
  Stelem,
  UnboxAny,
  ConvOvfI1,
  ConvOvfU1,
  ConvOvfI2,
  ConvOvfU2,
  ConvOvfI4,
  ConvOvfU4,
  ConvOvfI8,
  ConvOvfU8,
  Refanyval,
  Ckfinite,
  Mkrefany,
  Ldtoken,
  ConvU2,
  ConvU1,
  ConvI,
  ConvOvfI,
  ConvOvfU,
  AddOvf,
  AddOvfUn,
  MulOvf,
  MulOvfUn,
  SubOvf,
  SubOvfUn,
  Endfinally,
  Leave,
  LeaveS,
  StindI,
  ConvU,
  Arglist,
  Ceq,
  Cgt,
  CgtUn,
  Clt,
  CltUn,
  Ldftn,
  Ldvirtftn,
  Ldarg,
  Ldarga,
  Starg,
  Ldloc,
  Ldloca,
  Stloc,
  Localloc,
  Endfilter,
  Unaligned,
  Volatile,
  Tail,
  Initobj,
  Constrained,
  Cpblk,
  Initblk,
  Rethrow,
  Sizeof,
  Refanytype,
  Readonly,
}
use Rattle.body_codec.specs.Instruction.{joined, opcode_bytes}

-- ---- by its bytes

abbrev both : Bool → Bool → Bool
both true b = b
both false b = false

abbrev same : Option ℕ → Option ℕ → Bool
same None None = true
same None (Some y) = false
same (Some x) None = false
same (Some x) (Some y) = nat_eq x y

abbrev by_bytes : List Row → ℕ → Option ℕ → Option Op
by_bytes [] first second = None
by_bytes (r ∷ rs) first second = cond (both (nat_eq r.bytes.0 first) (same r.bytes.1 second)) (Some r.op) (by_bytes rs first second)

looked_up : (op : Op) → by_bytes opcodes (bytes_of op).0 (bytes_of op).1 ≡ Some op
looked_up Nop = refl
looked_up Break = refl
looked_up Ldarg0 = refl
looked_up Ldarg1 = refl
looked_up Ldarg2 = refl
looked_up Ldarg3 = refl
looked_up Ldloc0 = refl
looked_up Ldloc1 = refl
looked_up Ldloc2 = refl
looked_up Ldloc3 = refl
looked_up Stloc0 = refl
looked_up Stloc1 = refl
looked_up Stloc2 = refl
looked_up Stloc3 = refl
looked_up LdargS = refl
looked_up LdargaS = refl
looked_up StargS = refl
looked_up LdlocS = refl
looked_up LdlocaS = refl
looked_up StlocS = refl
looked_up Ldnull = refl
looked_up LdcI4M1 = refl
looked_up LdcI40 = refl
looked_up LdcI41 = refl
looked_up LdcI42 = refl
looked_up LdcI43 = refl
looked_up LdcI44 = refl
looked_up LdcI45 = refl
looked_up LdcI46 = refl
looked_up LdcI47 = refl
looked_up LdcI48 = refl
looked_up LdcI4S = refl
looked_up LdcI4 = refl
looked_up LdcI8 = refl
looked_up LdcR4 = refl
looked_up LdcR8 = refl
looked_up Dup = refl
looked_up Pop = refl
looked_up Call = refl
looked_up Ret = refl
looked_up BrS = refl
looked_up BrfalseS = refl
looked_up BrtrueS = refl
looked_up BeqS = refl
looked_up BgeS = refl
looked_up BgtS = refl
looked_up BleS = refl
looked_up BltS = refl
looked_up BneUnS = refl
looked_up BgeUnS = refl
looked_up BgtUnS = refl
looked_up BleUnS = refl
looked_up BltUnS = refl
looked_up Br = refl
looked_up Brfalse = refl
looked_up Brtrue = refl
looked_up Beq = refl
looked_up Bge = refl
looked_up Bgt = refl
looked_up Ble = refl
looked_up Blt = refl
looked_up BneUn = refl
looked_up BgeUn = refl
looked_up BgtUn = refl
looked_up BleUn = refl
looked_up BltUn = refl
looked_up Switch = refl
looked_up LdindI1 = refl
looked_up LdindU1 = refl
looked_up LdindI2 = refl
looked_up LdindU2 = refl
looked_up LdindI4 = refl
looked_up LdindU4 = refl
looked_up LdindI8 = refl
looked_up LdindI = refl
looked_up LdindR4 = refl
looked_up LdindR8 = refl
looked_up LdindRef = refl
looked_up StindRef = refl
looked_up StindI1 = refl
looked_up StindI2 = refl
looked_up StindI4 = refl
looked_up StindI8 = refl
looked_up StindR4 = refl
looked_up StindR8 = refl
looked_up Add = refl
looked_up Sub = refl
looked_up Mul = refl
looked_up Div = refl
looked_up DivUn = refl
looked_up Rem = refl
looked_up RemUn = refl
looked_up And = refl
looked_up Or = refl
looked_up Xor = refl
looked_up Shl = refl
looked_up Shr = refl
looked_up ShrUn = refl
looked_up Neg = refl
looked_up Not = refl
looked_up ConvI1 = refl
looked_up ConvI2 = refl
looked_up ConvI4 = refl
looked_up ConvI8 = refl
looked_up ConvR4 = refl
looked_up ConvR8 = refl
looked_up ConvU4 = refl
looked_up ConvU8 = refl
looked_up Callvirt = refl
looked_up Cpobj = refl
looked_up Ldobj = refl
looked_up Ldstr = refl
looked_up Newobj = refl
looked_up Castclass = refl
looked_up Isinst = refl
looked_up ConvRUn = refl
looked_up Unbox = refl
looked_up Throw = refl
looked_up Ldfld = refl
looked_up Ldflda = refl
looked_up Stfld = refl
looked_up Ldsfld = refl
looked_up Ldsflda = refl
looked_up Stsfld = refl
looked_up Stobj = refl
looked_up ConvOvfI1Un = refl
looked_up ConvOvfI2Un = refl
looked_up ConvOvfI4Un = refl
looked_up ConvOvfI8Un = refl
looked_up ConvOvfU1Un = refl
looked_up ConvOvfU2Un = refl
looked_up ConvOvfU4Un = refl
looked_up ConvOvfU8Un = refl
looked_up ConvOvfIUn = refl
looked_up ConvOvfUUn = refl
looked_up Box = refl
looked_up Newarr = refl
looked_up Ldlen = refl
looked_up Ldelema = refl
looked_up LdelemI1 = refl
looked_up LdelemU1 = refl
looked_up LdelemI2 = refl
looked_up LdelemU2 = refl
looked_up LdelemI4 = refl
looked_up LdelemU4 = refl
looked_up LdelemI8 = refl
looked_up LdelemI = refl
looked_up LdelemR4 = refl
looked_up LdelemR8 = refl
looked_up LdelemRef = refl
looked_up StelemI = refl
looked_up StelemI1 = refl
looked_up StelemI2 = refl
looked_up StelemI4 = refl
looked_up StelemI8 = refl
looked_up StelemR4 = refl
looked_up StelemR8 = refl
looked_up StelemRef = refl
looked_up Ldelem = refl
looked_up Stelem = refl
looked_up UnboxAny = refl
looked_up ConvOvfI1 = refl
looked_up ConvOvfU1 = refl
looked_up ConvOvfI2 = refl
looked_up ConvOvfU2 = refl
looked_up ConvOvfI4 = refl
looked_up ConvOvfU4 = refl
looked_up ConvOvfI8 = refl
looked_up ConvOvfU8 = refl
looked_up Refanyval = refl
looked_up Ckfinite = refl
looked_up Mkrefany = refl
looked_up Ldtoken = refl
looked_up ConvU2 = refl
looked_up ConvU1 = refl
looked_up ConvI = refl
looked_up ConvOvfI = refl
looked_up ConvOvfU = refl
looked_up AddOvf = refl
looked_up AddOvfUn = refl
looked_up MulOvf = refl
looked_up MulOvfUn = refl
looked_up SubOvf = refl
looked_up SubOvfUn = refl
looked_up Endfinally = refl
looked_up Leave = refl
looked_up LeaveS = refl
looked_up StindI = refl
looked_up ConvU = refl
looked_up Arglist = refl
looked_up Ceq = refl
looked_up Cgt = refl
looked_up CgtUn = refl
looked_up Clt = refl
looked_up CltUn = refl
looked_up Ldftn = refl
looked_up Ldvirtftn = refl
looked_up Ldarg = refl
looked_up Ldarga = refl
looked_up Starg = refl
looked_up Ldloc = refl
looked_up Ldloca = refl
looked_up Stloc = refl
looked_up Localloc = refl
looked_up Endfilter = refl
looked_up Unaligned = refl
looked_up Volatile = refl
looked_up Tail = refl
looked_up Initobj = refl
looked_up Constrained = refl
looked_up Cpblk = refl
looked_up Initblk = refl
looked_up Rethrow = refl
looked_up Sizeof = refl
looked_up Refanytype = refl
looked_up Readonly = refl

some_op : (a b : Op) → Some a ≡ Some b → a ≡ b
some_op a b e = cc

pub bytes_tell : (a b : Op) → (bytes_of a).0 ≡ (bytes_of b).0 → (bytes_of a).1 ≡ (bytes_of b).1 → a ≡ b
bytes_tell a b e f =
    some_op a b (sym (looked_up a) ∙ (ap (λ x. by_bytes opcodes x (bytes_of a).1) e ∙ (ap (λ x. by_bytes opcodes (bytes_of b).0 x) f ∙ looked_up b)))

-- ---- 0xFE

abbrev pub is_formed : ℕ → Option ℕ → Bool
is_formed first None = not (nat_eq first 0xFE)
is_formed first (Some second) = nat_eq first 0xFE

abbrev formed_row : Row → Bool
formed_row row = is_formed row.bytes.0 row.bytes.1

both_true : (a b : Bool) → both a b ≡ true → (a ≡ true) × (b ≡ true)
both_true true b e = (refl, e)
both_true false b e = cc

abbrev all_rows : List Row → Bool
all_rows [] = true
all_rows (r ∷ rs) = both (formed_row r) (all_rows rs)

at_any : (rows : List Row) (k : ℕ) (d : Row) → all_rows rows ≡ true → formed_row d ≡ true → formed_row (slice_index_or rows k d) ≡ true
at_any [] k d e f = f
at_any (r ∷ rs) zero d e f = (both_true _ _ e).0
at_any (r ∷ rs) (suc k) d e f = at_any rs k d (both_true _ _ e).1 f

every_row : all_rows opcodes ≡ true
every_row = refl

pub formed : (op : Op) → is_formed (bytes_of op).0 (bytes_of op).1 ≡ true
formed op = at_any opcodes (number_of op) (record { op = Nop; bytes = (0, None); word = []; kind = kinds.Nothing }) every_row refl

-- ---- fronts

joined_tell : (f f' : ℕ) (s s' : Option ℕ) (a b : List ℕ) → is_formed f s ≡ true → is_formed f' s' ≡ true
    → joined f s ++ a ≡ joined f' s' ++ b → (f ≡ f') × (s ≡ s') × (a ≡ b)
joined_tell f f' None None a b h h' e = (cc, refl, cc)
joined_tell f f' (Some s) (Some s') a b h h' e = (cc, cc, cc)
joined_tell f f' None (Some s') a b h h' e = let same_first : f ≡ f' = cc in absurd (grind arith)
joined_tell f f' (Some s) None a b h h' e = let same_first : f ≡ f' = cc in absurd (grind arith)

-- no opcode begins another
pub opcode_tells : (op op' : Op) (a b : List ℕ) → opcode_bytes op ++ a ≡ opcode_bytes op' ++ b → (op ≡ op') × (a ≡ b)
unfolding opcode_bytes
opcode_tells op op' a b e =
    let t = joined_tell _ _ _ _ a b (formed op) (formed op') e in
    (bytes_tell op op' t.0 t.1, t.2)
