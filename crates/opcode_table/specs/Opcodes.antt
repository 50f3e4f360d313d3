-- The opcodes of the standard as one table (III.1.2, III.3, III.4, VI.C.2): bytes, mnemonic, and what follows in a body.
use Rattle.std.specs.Prelude.{ℕ, List, [], ◌∷◌, ◌++◌, map, slice_index_or, codes, Option, None, Some}
use Rattle.opcode_table.specs.declared.kind.OperandKind.{OperandKind}
use Rattle.opcode_table.specs.declared.kind.OperandKind.TheVariants.{Nothing, Var8, Var16, Num8, Num32, Num64, Byte, Real4, Real8, Branch8, Branch32, Switch, Method, Field, Of, Text, Token}
use Rattle.opcode_table.specs.declared.op.Op.{Op}
use Rattle.opcode_table.specs.declared.op.Op.TheVariants.{
  Nop,
  Break,
  Ldarg0,
  Ldarg1,
  Ldarg2,
  Ldarg3,
  Ldloc0,
  Ldloc1,
  Ldloc2,
  Ldloc3,
  Stloc0,
  Stloc1,
  Stloc2,
  Stloc3,
  LdargS,
  LdargaS,
  StargS,
  LdlocS,
  LdlocaS,
  StlocS,
  Ldnull,
  LdcI4M1,
  LdcI40,
  LdcI41,
  LdcI42,
  LdcI43,
  LdcI44,
  LdcI45,
  LdcI46,
  LdcI47,
  LdcI48,
  LdcI4S,
  LdcI4,
  LdcI8,
  LdcR4,
  LdcR8,
  Dup,
  Pop,
  Call,
  Ret,
  BrS,
  BrfalseS,
  BrtrueS,
  BeqS,
  BgeS,
  BgtS,
  BleS,
  BltS,
  BneUnS,
  BgeUnS,
  BgtUnS,
  BleUnS,
  BltUnS,
  Br,
  Brfalse,
  Brtrue,
  Beq,
  Bge,
  Bgt,
  Ble,
  Blt,
  BneUn,
  BgeUn,
  BgtUn,
  BleUn,
  BltUn,
  Switch,
  LdindI1,
  LdindU1,
  LdindI2,
  LdindU2,
  LdindI4,
  LdindU4,
  LdindI8,
  LdindI,
  LdindR4,
  LdindR8,
  LdindRef,
  StindRef,
  StindI1,
  StindI2,
  StindI4,
  StindI8,
  StindR4,
  StindR8,
  Add,
  Sub,
  Mul,
  Div,
  DivUn,
  Rem,
  RemUn,
  And,
  Or,
  Xor,
  Shl,
  Shr,
  ShrUn,
  Neg,
  Not,
  ConvI1,
  ConvI2,
  ConvI4,
  ConvI8,
  ConvR4,
  ConvR8,
  ConvU4,
  ConvU8,
  Callvirt,
  Cpobj,
  Ldobj,
  Ldstr,
  Newobj,
  Castclass,
  Isinst,
  ConvRUn,
  Unbox,
  Throw,
  Ldfld,
  Ldflda,
  Stfld,
  Ldsfld,
  Ldsflda,
  Stsfld,
  Stobj,
  ConvOvfI1Un,
  ConvOvfI2Un,
  ConvOvfI4Un,
  ConvOvfI8Un,
  ConvOvfU1Un,
  ConvOvfU2Un,
  ConvOvfU4Un,
  ConvOvfU8Un,
  ConvOvfIUn,
  ConvOvfUUn,
  Box,
  Newarr,
  Ldlen,
  Ldelema,
  LdelemI1,
  LdelemU1,
  LdelemI2,
  LdelemU2,
  LdelemI4,
  LdelemU4,
  LdelemI8,
  LdelemI,
  LdelemR4,
  LdelemR8,
  LdelemRef,
  StelemI,
  StelemI1,
  StelemI2,
  StelemI4,
  StelemI8,
  StelemR4,
  StelemR8,
  StelemRef,
  Ldelem,
  Stelem,
  UnboxAny,
  ConvOvfI1,
  ConvOvfU1,
  ConvOvfI2,
  ConvOvfU2,
  ConvOvfI4,
  ConvOvfU4,
  ConvOvfI8,
  ConvOvfU8,
  Refanyval,
  Ckfinite,
  Mkrefany,
  Ldtoken,
  ConvU2,
  ConvU1,
  ConvI,
  ConvOvfI,
  ConvOvfU,
  AddOvf,
  AddOvfUn,
  MulOvf,
  MulOvfUn,
  SubOvf,
  SubOvfUn,
  Endfinally,
  Leave,
  LeaveS,
  StindI,
  ConvU,
  Arglist,
  Ceq,
  Cgt,
  CgtUn,
  Clt,
  CltUn,
  Ldftn,
  Ldvirtftn,
  Ldarg,
  Ldarga,
  Starg,
  Ldloc,
  Ldloca,
  Stloc,
  Localloc,
  Endfilter,
  Unaligned,
  Volatile,
  Tail,
  Initobj,
  Constrained,
  Cpblk,
  Initblk,
  Rethrow,
  Sizeof,
  Refanytype,
  Readonly,
}

-- one row: the opcode, its first byte and where that is FE its second, its mnemonic, and the kind of its operand
pub record Row : Type 0 where
  pub op : Op
  pub bytes : ℕ × Option ℕ
  pub word : List ℕ
  pub kind : OperandKind

-- a row with one byte, and a row with two
abbrev one : ℕ → Op → List ℕ → OperandKind → Row
one byte op word kind = record { op = op; bytes = (byte, None); word = word; kind = kind }

abbrev two : ℕ → Op → List ℕ → OperandKind → Row
two byte op word kind = record { op = op; bytes = (0xFE, Some byte); word = word; kind = kind }

-- The rows are made by tools/opcodes.py from tools/opcodes.txt.
-- the rows in the order of their bytes
abbrev pub opcodes : List Row
opcodes =
    one 0x00 Nop (codes "nop") Nothing ∷
    one 0x01 Break (codes "break") Nothing ∷
    one 0x02 Ldarg0 (codes "ldarg.0") Nothing ∷
    one 0x03 Ldarg1 (codes "ldarg.1") Nothing ∷
    one 0x04 Ldarg2 (codes "ldarg.2") Nothing ∷
    one 0x05 Ldarg3 (codes "ldarg.3") Nothing ∷
    one 0x06 Ldloc0 (codes "ldloc.0") Nothing ∷
    one 0x07 Ldloc1 (codes "ldloc.1") Nothing ∷
    one 0x08 Ldloc2 (codes "ldloc.2") Nothing ∷
    one 0x09 Ldloc3 (codes "ldloc.3") Nothing ∷
    one 0x0A Stloc0 (codes "stloc.0") Nothing ∷
    one 0x0B Stloc1 (codes "stloc.1") Nothing ∷
    one 0x0C Stloc2 (codes "stloc.2") Nothing ∷
    one 0x0D Stloc3 (codes "stloc.3") Nothing ∷
    one 0x0E LdargS (codes "ldarg.s") Var8 ∷
    one 0x0F LdargaS (codes "ldarga.s") Var8 ∷
    one 0x10 StargS (codes "starg.s") Var8 ∷
    one 0x11 LdlocS (codes "ldloc.s") Var8 ∷
    one 0x12 LdlocaS (codes "ldloca.s") Var8 ∷
    one 0x13 StlocS (codes "stloc.s") Var8 ∷
    one 0x14 Ldnull (codes "ldnull") Nothing ∷
    one 0x15 LdcI4M1 (codes "ldc.i4.m1") Nothing ∷
    one 0x16 LdcI40 (codes "ldc.i4.0") Nothing ∷
    one 0x17 LdcI41 (codes "ldc.i4.1") Nothing ∷
    one 0x18 LdcI42 (codes "ldc.i4.2") Nothing ∷
    one 0x19 LdcI43 (codes "ldc.i4.3") Nothing ∷
    one 0x1A LdcI44 (codes "ldc.i4.4") Nothing ∷
    one 0x1B LdcI45 (codes "ldc.i4.5") Nothing ∷
    one 0x1C LdcI46 (codes "ldc.i4.6") Nothing ∷
    one 0x1D LdcI47 (codes "ldc.i4.7") Nothing ∷
    one 0x1E LdcI48 (codes "ldc.i4.8") Nothing ∷
    one 0x1F LdcI4S (codes "ldc.i4.s") Num8 ∷
    one 0x20 LdcI4 (codes "ldc.i4") Num32 ∷
    one 0x21 LdcI8 (codes "ldc.i8") Num64 ∷
    one 0x22 LdcR4 (codes "ldc.r4") Real4 ∷
    one 0x23 LdcR8 (codes "ldc.r8") Real8 ∷
    one 0x25 Dup (codes "dup") Nothing ∷
    one 0x26 Pop (codes "pop") Nothing ∷
    one 0x28 Call (codes "call") Method ∷
    one 0x2A Ret (codes "ret") Nothing ∷
    one 0x2B BrS (codes "br.s") Branch8 ∷
    one 0x2C BrfalseS (codes "brfalse.s") Branch8 ∷
    one 0x2D BrtrueS (codes "brtrue.s") Branch8 ∷
    one 0x2E BeqS (codes "beq.s") Branch8 ∷
    one 0x2F BgeS (codes "bge.s") Branch8 ∷
    one 0x30 BgtS (codes "bgt.s") Branch8 ∷
    one 0x31 BleS (codes "ble.s") Branch8 ∷
    one 0x32 BltS (codes "blt.s") Branch8 ∷
    one 0x33 BneUnS (codes "bne.un.s") Branch8 ∷
    one 0x34 BgeUnS (codes "bge.un.s") Branch8 ∷
    one 0x35 BgtUnS (codes "bgt.un.s") Branch8 ∷
    one 0x36 BleUnS (codes "ble.un.s") Branch8 ∷
    one 0x37 BltUnS (codes "blt.un.s") Branch8 ∷
    one 0x38 Br (codes "br") Branch32 ∷
    one 0x39 Brfalse (codes "brfalse") Branch32 ∷
    one 0x3A Brtrue (codes "brtrue") Branch32 ∷
    one 0x3B Beq (codes "beq") Branch32 ∷
    one 0x3C Bge (codes "bge") Branch32 ∷
    one 0x3D Bgt (codes "bgt") Branch32 ∷
    one 0x3E Ble (codes "ble") Branch32 ∷
    one 0x3F Blt (codes "blt") Branch32 ∷
    one 0x40 BneUn (codes "bne.un") Branch32 ∷
    one 0x41 BgeUn (codes "bge.un") Branch32 ∷
    one 0x42 BgtUn (codes "bgt.un") Branch32 ∷
    one 0x43 BleUn (codes "ble.un") Branch32 ∷
    one 0x44 BltUn (codes "blt.un") Branch32 ∷
    one 0x45 Switch (codes "switch") Switch ∷
    one 0x46 LdindI1 (codes "ldind.i1") Nothing ∷
    one 0x47 LdindU1 (codes "ldind.u1") Nothing ∷
    one 0x48 LdindI2 (codes "ldind.i2") Nothing ∷
    one 0x49 LdindU2 (codes "ldind.u2") Nothing ∷
    one 0x4A LdindI4 (codes "ldind.i4") Nothing ∷
    one 0x4B LdindU4 (codes "ldind.u4") Nothing ∷
    one 0x4C LdindI8 (codes "ldind.i8") Nothing ∷
    one 0x4D LdindI (codes "ldind.i") Nothing ∷
    one 0x4E LdindR4 (codes "ldind.r4") Nothing ∷
    one 0x4F LdindR8 (codes "ldind.r8") Nothing ∷
    one 0x50 LdindRef (codes "ldind.ref") Nothing ∷
    one 0x51 StindRef (codes "stind.ref") Nothing ∷
    one 0x52 StindI1 (codes "stind.i1") Nothing ∷
    one 0x53 StindI2 (codes "stind.i2") Nothing ∷
    one 0x54 StindI4 (codes "stind.i4") Nothing ∷
    one 0x55 StindI8 (codes "stind.i8") Nothing ∷
    one 0x56 StindR4 (codes "stind.r4") Nothing ∷
    one 0x57 StindR8 (codes "stind.r8") Nothing ∷
    one 0x58 Add (codes "add") Nothing ∷
    one 0x59 Sub (codes "sub") Nothing ∷
    one 0x5A Mul (codes "mul") Nothing ∷
    one 0x5B Div (codes "div") Nothing ∷
    one 0x5C DivUn (codes "div.un") Nothing ∷
    one 0x5D Rem (codes "rem") Nothing ∷
    one 0x5E RemUn (codes "rem.un") Nothing ∷
    one 0x5F And (codes "and") Nothing ∷
    one 0x60 Or (codes "or") Nothing ∷
    one 0x61 Xor (codes "xor") Nothing ∷
    one 0x62 Shl (codes "shl") Nothing ∷
    one 0x63 Shr (codes "shr") Nothing ∷
    one 0x64 ShrUn (codes "shr.un") Nothing ∷
    one 0x65 Neg (codes "neg") Nothing ∷
    one 0x66 Not (codes "not") Nothing ∷
    one 0x67 ConvI1 (codes "conv.i1") Nothing ∷
    one 0x68 ConvI2 (codes "conv.i2") Nothing ∷
    one 0x69 ConvI4 (codes "conv.i4") Nothing ∷
    one 0x6A ConvI8 (codes "conv.i8") Nothing ∷
    one 0x6B ConvR4 (codes "conv.r4") Nothing ∷
    one 0x6C ConvR8 (codes "conv.r8") Nothing ∷
    one 0x6D ConvU4 (codes "conv.u4") Nothing ∷
    one 0x6E ConvU8 (codes "conv.u8") Nothing ∷
    one 0x6F Callvirt (codes "callvirt") Method ∷
    one 0x70 Cpobj (codes "cpobj") Of ∷
    one 0x71 Ldobj (codes "ldobj") Of ∷
    one 0x72 Ldstr (codes "ldstr") Text ∷
    one 0x73 Newobj (codes "newobj") Method ∷
    one 0x74 Castclass (codes "castclass") Of ∷
    one 0x75 Isinst (codes "isinst") Of ∷
    one 0x76 ConvRUn (codes "conv.r.un") Nothing ∷
    one 0x79 Unbox (codes "unbox") Of ∷
    one 0x7A Throw (codes "throw") Nothing ∷
    one 0x7B Ldfld (codes "ldfld") Field ∷
    one 0x7C Ldflda (codes "ldflda") Field ∷
    one 0x7D Stfld (codes "stfld") Field ∷
    one 0x7E Ldsfld (codes "ldsfld") Field ∷
    one 0x7F Ldsflda (codes "ldsflda") Field ∷
    one 0x80 Stsfld (codes "stsfld") Field ∷
    one 0x81 Stobj (codes "stobj") Of ∷
    one 0x82 ConvOvfI1Un (codes "conv.ovf.i1.un") Nothing ∷
    one 0x83 ConvOvfI2Un (codes "conv.ovf.i2.un") Nothing ∷
    one 0x84 ConvOvfI4Un (codes "conv.ovf.i4.un") Nothing ∷
    one 0x85 ConvOvfI8Un (codes "conv.ovf.i8.un") Nothing ∷
    one 0x86 ConvOvfU1Un (codes "conv.ovf.u1.un") Nothing ∷
    one 0x87 ConvOvfU2Un (codes "conv.ovf.u2.un") Nothing ∷
    one 0x88 ConvOvfU4Un (codes "conv.ovf.u4.un") Nothing ∷
    one 0x89 ConvOvfU8Un (codes "conv.ovf.u8.un") Nothing ∷
    one 0x8A ConvOvfIUn (codes "conv.ovf.i.un") Nothing ∷
    one 0x8B ConvOvfUUn (codes "conv.ovf.u.un") Nothing ∷
    one 0x8C Box (codes "box") Of ∷
    one 0x8D Newarr (codes "newarr") Of ∷
    one 0x8E Ldlen (codes "ldlen") Nothing ∷
    one 0x8F Ldelema (codes "ldelema") Of ∷
    one 0x90 LdelemI1 (codes "ldelem.i1") Nothing ∷
    one 0x91 LdelemU1 (codes "ldelem.u1") Nothing ∷
    one 0x92 LdelemI2 (codes "ldelem.i2") Nothing ∷
    one 0x93 LdelemU2 (codes "ldelem.u2") Nothing ∷
    one 0x94 LdelemI4 (codes "ldelem.i4") Nothing ∷
    one 0x95 LdelemU4 (codes "ldelem.u4") Nothing ∷
    one 0x96 LdelemI8 (codes "ldelem.i8") Nothing ∷
    one 0x97 LdelemI (codes "ldelem.i") Nothing ∷
    one 0x98 LdelemR4 (codes "ldelem.r4") Nothing ∷
    one 0x99 LdelemR8 (codes "ldelem.r8") Nothing ∷
    one 0x9A LdelemRef (codes "ldelem.ref") Nothing ∷
    one 0x9B StelemI (codes "stelem.i") Nothing ∷
    one 0x9C StelemI1 (codes "stelem.i1") Nothing ∷
    one 0x9D StelemI2 (codes "stelem.i2") Nothing ∷
    one 0x9E StelemI4 (codes "stelem.i4") Nothing ∷
    one 0x9F StelemI8 (codes "stelem.i8") Nothing ∷
    one 0xA0 StelemR4 (codes "stelem.r4") Nothing ∷
    one 0xA1 StelemR8 (codes "stelem.r8") Nothing ∷
    one 0xA2 StelemRef (codes "stelem.ref") Nothing ∷
    one 0xA3 Ldelem (codes "ldelem") Of ∷
    one 0xA4 Stelem (codes "stelem") Of ∷
    one 0xA5 UnboxAny (codes "unbox.any") Of ∷
    one 0xB3 ConvOvfI1 (codes "conv.ovf.i1") Nothing ∷
    one 0xB4 ConvOvfU1 (codes "conv.ovf.u1") Nothing ∷
    one 0xB5 ConvOvfI2 (codes "conv.ovf.i2") Nothing ∷
    one 0xB6 ConvOvfU2 (codes "conv.ovf.u2") Nothing ∷
    one 0xB7 ConvOvfI4 (codes "conv.ovf.i4") Nothing ∷
    one 0xB8 ConvOvfU4 (codes "conv.ovf.u4") Nothing ∷
    one 0xB9 ConvOvfI8 (codes "conv.ovf.i8") Nothing ∷
    one 0xBA ConvOvfU8 (codes "conv.ovf.u8") Nothing ∷
    one 0xC2 Refanyval (codes "refanyval") Of ∷
    one 0xC3 Ckfinite (codes "ckfinite") Nothing ∷
    one 0xC6 Mkrefany (codes "mkrefany") Of ∷
    one 0xD0 Ldtoken (codes "ldtoken") Token ∷
    one 0xD1 ConvU2 (codes "conv.u2") Nothing ∷
    one 0xD2 ConvU1 (codes "conv.u1") Nothing ∷
    one 0xD3 ConvI (codes "conv.i") Nothing ∷
    one 0xD4 ConvOvfI (codes "conv.ovf.i") Nothing ∷
    one 0xD5 ConvOvfU (codes "conv.ovf.u") Nothing ∷
    one 0xD6 AddOvf (codes "add.ovf") Nothing ∷
    one 0xD7 AddOvfUn (codes "add.ovf.un") Nothing ∷
    one 0xD8 MulOvf (codes "mul.ovf") Nothing ∷
    one 0xD9 MulOvfUn (codes "mul.ovf.un") Nothing ∷
    one 0xDA SubOvf (codes "sub.ovf") Nothing ∷
    one 0xDB SubOvfUn (codes "sub.ovf.un") Nothing ∷
    one 0xDC Endfinally (codes "endfinally") Nothing ∷
    one 0xDD Leave (codes "leave") Branch32 ∷
    one 0xDE LeaveS (codes "leave.s") Branch8 ∷
    one 0xDF StindI (codes "stind.i") Nothing ∷
    one 0xE0 ConvU (codes "conv.u") Nothing ∷
    two 0x00 Arglist (codes "arglist") Nothing ∷
    two 0x01 Ceq (codes "ceq") Nothing ∷
    two 0x02 Cgt (codes "cgt") Nothing ∷
    two 0x03 CgtUn (codes "cgt.un") Nothing ∷
    two 0x04 Clt (codes "clt") Nothing ∷
    two 0x05 CltUn (codes "clt.un") Nothing ∷
    two 0x06 Ldftn (codes "ldftn") Method ∷
    two 0x07 Ldvirtftn (codes "ldvirtftn") Method ∷
    two 0x09 Ldarg (codes "ldarg") Var16 ∷
    two 0x0A Ldarga (codes "ldarga") Var16 ∷
    two 0x0B Starg (codes "starg") Var16 ∷
    two 0x0C Ldloc (codes "ldloc") Var16 ∷
    two 0x0D Ldloca (codes "ldloca") Var16 ∷
    two 0x0E Stloc (codes "stloc") Var16 ∷
    two 0x0F Localloc (codes "localloc") Nothing ∷
    two 0x11 Endfilter (codes "endfilter") Nothing ∷
    two 0x12 Unaligned (codes "unaligned.") Byte ∷
    two 0x13 Volatile (codes "volatile.") Nothing ∷
    two 0x14 Tail (codes "tail.") Nothing ∷
    two 0x15 Initobj (codes "initobj") Of ∷
    two 0x16 Constrained (codes "constrained.") Of ∷
    two 0x17 Cpblk (codes "cpblk") Nothing ∷
    two 0x18 Initblk (codes "initblk") Nothing ∷
    two 0x1A Rethrow (codes "rethrow") Nothing ∷
    two 0x1C Sizeof (codes "sizeof") Of ∷
    two 0x1D Refanytype (codes "refanytype") Nothing ∷
    two 0x1E Readonly (codes "readonly.") Nothing ∷
    []

-- the number of an opcode's row
abbrev pub number_of : Op → ℕ
number_of Nop = 0
number_of Break = 1
number_of Ldarg0 = 2
number_of Ldarg1 = 3
number_of Ldarg2 = 4
number_of Ldarg3 = 5
number_of Ldloc0 = 6
number_of Ldloc1 = 7
number_of Ldloc2 = 8
number_of Ldloc3 = 9
number_of Stloc0 = 10
number_of Stloc1 = 11
number_of Stloc2 = 12
number_of Stloc3 = 13
number_of LdargS = 14
number_of LdargaS = 15
number_of StargS = 16
number_of LdlocS = 17
number_of LdlocaS = 18
number_of StlocS = 19
number_of Ldnull = 20
number_of LdcI4M1 = 21
number_of LdcI40 = 22
number_of LdcI41 = 23
number_of LdcI42 = 24
number_of LdcI43 = 25
number_of LdcI44 = 26
number_of LdcI45 = 27
number_of LdcI46 = 28
number_of LdcI47 = 29
number_of LdcI48 = 30
number_of LdcI4S = 31
number_of LdcI4 = 32
number_of LdcI8 = 33
number_of LdcR4 = 34
number_of LdcR8 = 35
number_of Dup = 36
number_of Pop = 37
number_of Call = 38
number_of Ret = 39
number_of BrS = 40
number_of BrfalseS = 41
number_of BrtrueS = 42
number_of BeqS = 43
number_of BgeS = 44
number_of BgtS = 45
number_of BleS = 46
number_of BltS = 47
number_of BneUnS = 48
number_of BgeUnS = 49
number_of BgtUnS = 50
number_of BleUnS = 51
number_of BltUnS = 52
number_of Br = 53
number_of Brfalse = 54
number_of Brtrue = 55
number_of Beq = 56
number_of Bge = 57
number_of Bgt = 58
number_of Ble = 59
number_of Blt = 60
number_of BneUn = 61
number_of BgeUn = 62
number_of BgtUn = 63
number_of BleUn = 64
number_of BltUn = 65
number_of Switch = 66
number_of LdindI1 = 67
number_of LdindU1 = 68
number_of LdindI2 = 69
number_of LdindU2 = 70
number_of LdindI4 = 71
number_of LdindU4 = 72
number_of LdindI8 = 73
number_of LdindI = 74
number_of LdindR4 = 75
number_of LdindR8 = 76
number_of LdindRef = 77
number_of StindRef = 78
number_of StindI1 = 79
number_of StindI2 = 80
number_of StindI4 = 81
number_of StindI8 = 82
number_of StindR4 = 83
number_of StindR8 = 84
number_of Add = 85
number_of Sub = 86
number_of Mul = 87
number_of Div = 88
number_of DivUn = 89
number_of Rem = 90
number_of RemUn = 91
number_of And = 92
number_of Or = 93
number_of Xor = 94
number_of Shl = 95
number_of Shr = 96
number_of ShrUn = 97
number_of Neg = 98
number_of Not = 99
number_of ConvI1 = 100
number_of ConvI2 = 101
number_of ConvI4 = 102
number_of ConvI8 = 103
number_of ConvR4 = 104
number_of ConvR8 = 105
number_of ConvU4 = 106
number_of ConvU8 = 107
number_of Callvirt = 108
number_of Cpobj = 109
number_of Ldobj = 110
number_of Ldstr = 111
number_of Newobj = 112
number_of Castclass = 113
number_of Isinst = 114
number_of ConvRUn = 115
number_of Unbox = 116
number_of Throw = 117
number_of Ldfld = 118
number_of Ldflda = 119
number_of Stfld = 120
number_of Ldsfld = 121
number_of Ldsflda = 122
number_of Stsfld = 123
number_of Stobj = 124
number_of ConvOvfI1Un = 125
number_of ConvOvfI2Un = 126
number_of ConvOvfI4Un = 127
number_of ConvOvfI8Un = 128
number_of ConvOvfU1Un = 129
number_of ConvOvfU2Un = 130
number_of ConvOvfU4Un = 131
number_of ConvOvfU8Un = 132
number_of ConvOvfIUn = 133
number_of ConvOvfUUn = 134
number_of Box = 135
number_of Newarr = 136
number_of Ldlen = 137
number_of Ldelema = 138
number_of LdelemI1 = 139
number_of LdelemU1 = 140
number_of LdelemI2 = 141
number_of LdelemU2 = 142
number_of LdelemI4 = 143
number_of LdelemU4 = 144
number_of LdelemI8 = 145
number_of LdelemI = 146
number_of LdelemR4 = 147
number_of LdelemR8 = 148
number_of LdelemRef = 149
number_of StelemI = 150
number_of StelemI1 = 151
number_of StelemI2 = 152
number_of StelemI4 = 153
number_of StelemI8 = 154
number_of StelemR4 = 155
number_of StelemR8 = 156
number_of StelemRef = 157
number_of Ldelem = 158
number_of Stelem = 159
number_of UnboxAny = 160
number_of ConvOvfI1 = 161
number_of ConvOvfU1 = 162
number_of ConvOvfI2 = 163
number_of ConvOvfU2 = 164
number_of ConvOvfI4 = 165
number_of ConvOvfU4 = 166
number_of ConvOvfI8 = 167
number_of ConvOvfU8 = 168
number_of Refanyval = 169
number_of Ckfinite = 170
number_of Mkrefany = 171
number_of Ldtoken = 172
number_of ConvU2 = 173
number_of ConvU1 = 174
number_of ConvI = 175
number_of ConvOvfI = 176
number_of ConvOvfU = 177
number_of AddOvf = 178
number_of AddOvfUn = 179
number_of MulOvf = 180
number_of MulOvfUn = 181
number_of SubOvf = 182
number_of SubOvfUn = 183
number_of Endfinally = 184
number_of Leave = 185
number_of LeaveS = 186
number_of StindI = 187
number_of ConvU = 188
number_of Arglist = 189
number_of Ceq = 190
number_of Cgt = 191
number_of CgtUn = 192
number_of Clt = 193
number_of CltUn = 194
number_of Ldftn = 195
number_of Ldvirtftn = 196
number_of Ldarg = 197
number_of Ldarga = 198
number_of Starg = 199
number_of Ldloc = 200
number_of Ldloca = 201
number_of Stloc = 202
number_of Localloc = 203
number_of Endfilter = 204
number_of Unaligned = 205
number_of Volatile = 206
number_of Tail = 207
number_of Initobj = 208
number_of Constrained = 209
number_of Cpblk = 210
number_of Initblk = 211
number_of Rethrow = 212
number_of Sizeof = 213
number_of Refanytype = 214
number_of Readonly = 215

-- the row of an opcode
abbrev pub row_of : Op → Row
row_of op = slice_index_or opcodes (number_of op) (one 0 Nop [] Nothing)

abbrev pub bytes_of : Op → ℕ × Option ℕ
bytes_of op = (row_of op).bytes

abbrev pub word_of : Op → List ℕ
word_of op = (row_of op).word

abbrev pub kind_of : Op → OperandKind
kind_of op = (row_of op).kind

-- The rows are made by tools/opcodes.py from tools/opcodes.txt.
-- the other words that sources use, each with its opcode
abbrev pub aliases : List (List ℕ × Op)
aliases =
    (codes "brnull", Brfalse) ∷
    (codes "brzero", Brfalse) ∷
    (codes "brinst", Brtrue) ∷
    (codes "brnull.s", BrfalseS) ∷
    (codes "brzero.s", BrfalseS) ∷
    (codes "brinst.s", BrtrueS) ∷
    (codes "endfault", Endfinally) ∷
    (codes "ldind.u8", LdindI8) ∷
    (codes "ldelem.u8", LdelemI8) ∷
    (codes "ldelem.any", Ldelem) ∷
    (codes "stelem.any", Stelem) ∷
    []

-- every word with the opcode that it names: the mnemonics, and the aliases
unfoldable pub names : List (List ℕ × Op)
names = map (λ row. (row.word, row.op)) opcodes ++ aliases
