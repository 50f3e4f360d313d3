-- Made by tools/opcodes.py from tools/opcodes.txt: change that text, and run the script.
-- An opcode's number is the number of its variant.
use Rattle.std.proofs.Common.{◌≡◌, ◌<◌, lit<, refl}
use denote.Enum.Declared.{tag_of}
use Rattle.opcode_table.specs.contracts.op.Op.{the_type}
use Rattle.opcode_table.specs.declared.op.Op.{Op}
use Rattle.opcode_table.specs.declared.op.Op.TheVariants.{
  Nop,
  Break,
  Ldarg0,
  Ldarg1,
  Ldarg2,
  Ldarg3,
  Ldloc0,
  Ldloc1,
  Ldloc2,
  Ldloc3,
  Stloc0,
  Stloc1,
  Stloc2,
  Stloc3,
  LdargS,
  LdargaS,
  StargS,
  LdlocS,
  LdlocaS,
  StlocS,
  Ldnull,
  LdcI4M1,
  LdcI40,
  LdcI41,
  LdcI42,
  LdcI43,
  LdcI44,
  LdcI45,
  LdcI46,
  LdcI47,
  LdcI48,
  LdcI4S,
  LdcI4,
  LdcI8,
  LdcR4,
  LdcR8,
  Dup,
  Pop,
  Call,
  Ret,
  BrS,
  BrfalseS,
  BrtrueS,
  BeqS,
  BgeS,
  BgtS,
  BleS,
  BltS,
  BneUnS,
  BgeUnS,
  BgtUnS,
  BleUnS,
  BltUnS,
  Br,
  Brfalse,
  Brtrue,
  Beq,
  Bge,
  Bgt,
  Ble,
  Blt,
  BneUn,
  BgeUn,
  BgtUn,
  BleUn,
  BltUn,
  Switch,
  LdindI1,
  LdindU1,
  LdindI2,
  LdindU2,
  LdindI4,
  LdindU4,
  LdindI8,
  LdindI,
  LdindR4,
  LdindR8,
  LdindRef,
  StindRef,
  StindI1,
  StindI2,
  StindI4,
  StindI8,
  StindR4,
  StindR8,
  Add,
  Sub,
  Mul,
  Div,
  DivUn,
  Rem,
  RemUn,
  And,
  Or,
  Xor,
  Shl,
  Shr,
  ShrUn,
  Neg,
  Not,
  ConvI1,
  ConvI2,
  ConvI4,
  ConvI8,
  ConvR4,
  ConvR8,
  ConvU4,
  ConvU8,
  Callvirt,
  Cpobj,
  Ldobj,
  Ldstr,
  Newobj,
  Castclass,
  Isinst,
  ConvRUn,
  Unbox,
  Throw,
  Ldfld,
  Ldflda,
  Stfld,
  Ldsfld,
  Ldsflda,
  Stsfld,
  Stobj,
  ConvOvfI1Un,
  ConvOvfI2Un,
  ConvOvfI4Un,
  ConvOvfI8Un,
  ConvOvfU1Un,
  ConvOvfU2Un,
  ConvOvfU4Un,
  ConvOvfU8Un,
  ConvOvfIUn,
  ConvOvfUUn,
  Box,
  Newarr,
  Ldlen,
  Ldelema,
  LdelemI1,
  LdelemU1,
  LdelemI2,
  LdelemU2,
  LdelemI4,
  LdelemU4,
  LdelemI8,
  LdelemI,
  LdelemR4,
  LdelemR8,
  LdelemRef,
  StelemI,
  StelemI1,
  StelemI2,
  StelemI4,
  StelemI8,
  StelemR4,
  StelemR8,
  StelemRef,
  Ldelem,
  Stelem,
  UnboxAny,
  ConvOvfI1,
  ConvOvfU1,
  ConvOvfI2,
  ConvOvfU2,
  ConvOvfI4,
  ConvOvfU4,
  ConvOvfI8,
  ConvOvfU8,
  Refanyval,
  Ckfinite,
  Mkrefany,
  Ldtoken,
  ConvU2,
  ConvU1,
  ConvI,
  ConvOvfI,
  ConvOvfU,
  AddOvf,
  AddOvfUn,
  MulOvf,
  MulOvfUn,
  SubOvf,
  SubOvfUn,
  Endfinally,
  Leave,
  LeaveS,
  StindI,
  ConvU,
  Arglist,
  Ceq,
  Cgt,
  CgtUn,
  Clt,
  CltUn,
  Ldftn,
  Ldvirtftn,
  Ldarg,
  Ldarga,
  Starg,
  Ldloc,
  Ldloca,
  Stloc,
  Localloc,
  Endfilter,
  Unaligned,
  Volatile,
  Tail,
  Initobj,
  Constrained,
  Cpblk,
  Initblk,
  Rethrow,
  Sizeof,
  Refanytype,
  Readonly,
}
use Rattle.opcode_table.specs.Opcodes.{number_of}

pub tag-number : (op : Op) → tag_of the_type op ≡ number_of op
tag-number Nop = refl
tag-number Break = refl
tag-number Ldarg0 = refl
tag-number Ldarg1 = refl
tag-number Ldarg2 = refl
tag-number Ldarg3 = refl
tag-number Ldloc0 = refl
tag-number Ldloc1 = refl
tag-number Ldloc2 = refl
tag-number Ldloc3 = refl
tag-number Stloc0 = refl
tag-number Stloc1 = refl
tag-number Stloc2 = refl
tag-number Stloc3 = refl
tag-number LdargS = refl
tag-number LdargaS = refl
tag-number StargS = refl
tag-number LdlocS = refl
tag-number LdlocaS = refl
tag-number StlocS = refl
tag-number Ldnull = refl
tag-number LdcI4M1 = refl
tag-number LdcI40 = refl
tag-number LdcI41 = refl
tag-number LdcI42 = refl
tag-number LdcI43 = refl
tag-number LdcI44 = refl
tag-number LdcI45 = refl
tag-number LdcI46 = refl
tag-number LdcI47 = refl
tag-number LdcI48 = refl
tag-number LdcI4S = refl
tag-number LdcI4 = refl
tag-number LdcI8 = refl
tag-number LdcR4 = refl
tag-number LdcR8 = refl
tag-number Dup = refl
tag-number Pop = refl
tag-number Call = refl
tag-number Ret = refl
tag-number BrS = refl
tag-number BrfalseS = refl
tag-number BrtrueS = refl
tag-number BeqS = refl
tag-number BgeS = refl
tag-number BgtS = refl
tag-number BleS = refl
tag-number BltS = refl
tag-number BneUnS = refl
tag-number BgeUnS = refl
tag-number BgtUnS = refl
tag-number BleUnS = refl
tag-number BltUnS = refl
tag-number Br = refl
tag-number Brfalse = refl
tag-number Brtrue = refl
tag-number Beq = refl
tag-number Bge = refl
tag-number Bgt = refl
tag-number Ble = refl
tag-number Blt = refl
tag-number BneUn = refl
tag-number BgeUn = refl
tag-number BgtUn = refl
tag-number BleUn = refl
tag-number BltUn = refl
tag-number Switch = refl
tag-number LdindI1 = refl
tag-number LdindU1 = refl
tag-number LdindI2 = refl
tag-number LdindU2 = refl
tag-number LdindI4 = refl
tag-number LdindU4 = refl
tag-number LdindI8 = refl
tag-number LdindI = refl
tag-number LdindR4 = refl
tag-number LdindR8 = refl
tag-number LdindRef = refl
tag-number StindRef = refl
tag-number StindI1 = refl
tag-number StindI2 = refl
tag-number StindI4 = refl
tag-number StindI8 = refl
tag-number StindR4 = refl
tag-number StindR8 = refl
tag-number Add = refl
tag-number Sub = refl
tag-number Mul = refl
tag-number Div = refl
tag-number DivUn = refl
tag-number Rem = refl
tag-number RemUn = refl
tag-number And = refl
tag-number Or = refl
tag-number Xor = refl
tag-number Shl = refl
tag-number Shr = refl
tag-number ShrUn = refl
tag-number Neg = refl
tag-number Not = refl
tag-number ConvI1 = refl
tag-number ConvI2 = refl
tag-number ConvI4 = refl
tag-number ConvI8 = refl
tag-number ConvR4 = refl
tag-number ConvR8 = refl
tag-number ConvU4 = refl
tag-number ConvU8 = refl
tag-number Callvirt = refl
tag-number Cpobj = refl
tag-number Ldobj = refl
tag-number Ldstr = refl
tag-number Newobj = refl
tag-number Castclass = refl
tag-number Isinst = refl
tag-number ConvRUn = refl
tag-number Unbox = refl
tag-number Throw = refl
tag-number Ldfld = refl
tag-number Ldflda = refl
tag-number Stfld = refl
tag-number Ldsfld = refl
tag-number Ldsflda = refl
tag-number Stsfld = refl
tag-number Stobj = refl
tag-number ConvOvfI1Un = refl
tag-number ConvOvfI2Un = refl
tag-number ConvOvfI4Un = refl
tag-number ConvOvfI8Un = refl
tag-number ConvOvfU1Un = refl
tag-number ConvOvfU2Un = refl
tag-number ConvOvfU4Un = refl
tag-number ConvOvfU8Un = refl
tag-number ConvOvfIUn = refl
tag-number ConvOvfUUn = refl
tag-number Box = refl
tag-number Newarr = refl
tag-number Ldlen = refl
tag-number Ldelema = refl
tag-number LdelemI1 = refl
tag-number LdelemU1 = refl
tag-number LdelemI2 = refl
tag-number LdelemU2 = refl
tag-number LdelemI4 = refl
tag-number LdelemU4 = refl
tag-number LdelemI8 = refl
tag-number LdelemI = refl
tag-number LdelemR4 = refl
tag-number LdelemR8 = refl
tag-number LdelemRef = refl
tag-number StelemI = refl
tag-number StelemI1 = refl
tag-number StelemI2 = refl
tag-number StelemI4 = refl
tag-number StelemI8 = refl
tag-number StelemR4 = refl
tag-number StelemR8 = refl
tag-number StelemRef = refl
tag-number Ldelem = refl
tag-number Stelem = refl
tag-number UnboxAny = refl
tag-number ConvOvfI1 = refl
tag-number ConvOvfU1 = refl
tag-number ConvOvfI2 = refl
tag-number ConvOvfU2 = refl
tag-number ConvOvfI4 = refl
tag-number ConvOvfU4 = refl
tag-number ConvOvfI8 = refl
tag-number ConvOvfU8 = refl
tag-number Refanyval = refl
tag-number Ckfinite = refl
tag-number Mkrefany = refl
tag-number Ldtoken = refl
tag-number ConvU2 = refl
tag-number ConvU1 = refl
tag-number ConvI = refl
tag-number ConvOvfI = refl
tag-number ConvOvfU = refl
tag-number AddOvf = refl
tag-number AddOvfUn = refl
tag-number MulOvf = refl
tag-number MulOvfUn = refl
tag-number SubOvf = refl
tag-number SubOvfUn = refl
tag-number Endfinally = refl
tag-number Leave = refl
tag-number LeaveS = refl
tag-number StindI = refl
tag-number ConvU = refl
tag-number Arglist = refl
tag-number Ceq = refl
tag-number Cgt = refl
tag-number CgtUn = refl
tag-number Clt = refl
tag-number CltUn = refl
tag-number Ldftn = refl
tag-number Ldvirtftn = refl
tag-number Ldarg = refl
tag-number Ldarga = refl
tag-number Starg = refl
tag-number Ldloc = refl
tag-number Ldloca = refl
tag-number Stloc = refl
tag-number Localloc = refl
tag-number Endfilter = refl
tag-number Unaligned = refl
tag-number Volatile = refl
tag-number Tail = refl
tag-number Initobj = refl
tag-number Constrained = refl
tag-number Cpblk = refl
tag-number Initblk = refl
tag-number Rethrow = refl
tag-number Sizeof = refl
tag-number Refanytype = refl
tag-number Readonly = refl

pub number-below : (op : Op) → number_of op < 216
number-below Nop = lit< tt
number-below Break = lit< tt
number-below Ldarg0 = lit< tt
number-below Ldarg1 = lit< tt
number-below Ldarg2 = lit< tt
number-below Ldarg3 = lit< tt
number-below Ldloc0 = lit< tt
number-below Ldloc1 = lit< tt
number-below Ldloc2 = lit< tt
number-below Ldloc3 = lit< tt
number-below Stloc0 = lit< tt
number-below Stloc1 = lit< tt
number-below Stloc2 = lit< tt
number-below Stloc3 = lit< tt
number-below LdargS = lit< tt
number-below LdargaS = lit< tt
number-below StargS = lit< tt
number-below LdlocS = lit< tt
number-below LdlocaS = lit< tt
number-below StlocS = lit< tt
number-below Ldnull = lit< tt
number-below LdcI4M1 = lit< tt
number-below LdcI40 = lit< tt
number-below LdcI41 = lit< tt
number-below LdcI42 = lit< tt
number-below LdcI43 = lit< tt
number-below LdcI44 = lit< tt
number-below LdcI45 = lit< tt
number-below LdcI46 = lit< tt
number-below LdcI47 = lit< tt
number-below LdcI48 = lit< tt
number-below LdcI4S = lit< tt
number-below LdcI4 = lit< tt
number-below LdcI8 = lit< tt
number-below LdcR4 = lit< tt
number-below LdcR8 = lit< tt
number-below Dup = lit< tt
number-below Pop = lit< tt
number-below Call = lit< tt
number-below Ret = lit< tt
number-below BrS = lit< tt
number-below BrfalseS = lit< tt
number-below BrtrueS = lit< tt
number-below BeqS = lit< tt
number-below BgeS = lit< tt
number-below BgtS = lit< tt
number-below BleS = lit< tt
number-below BltS = lit< tt
number-below BneUnS = lit< tt
number-below BgeUnS = lit< tt
number-below BgtUnS = lit< tt
number-below BleUnS = lit< tt
number-below BltUnS = lit< tt
number-below Br = lit< tt
number-below Brfalse = lit< tt
number-below Brtrue = lit< tt
number-below Beq = lit< tt
number-below Bge = lit< tt
number-below Bgt = lit< tt
number-below Ble = lit< tt
number-below Blt = lit< tt
number-below BneUn = lit< tt
number-below BgeUn = lit< tt
number-below BgtUn = lit< tt
number-below BleUn = lit< tt
number-below BltUn = lit< tt
number-below Switch = lit< tt
number-below LdindI1 = lit< tt
number-below LdindU1 = lit< tt
number-below LdindI2 = lit< tt
number-below LdindU2 = lit< tt
number-below LdindI4 = lit< tt
number-below LdindU4 = lit< tt
number-below LdindI8 = lit< tt
number-below LdindI = lit< tt
number-below LdindR4 = lit< tt
number-below LdindR8 = lit< tt
number-below LdindRef = lit< tt
number-below StindRef = lit< tt
number-below StindI1 = lit< tt
number-below StindI2 = lit< tt
number-below StindI4 = lit< tt
number-below StindI8 = lit< tt
number-below StindR4 = lit< tt
number-below StindR8 = lit< tt
number-below Add = lit< tt
number-below Sub = lit< tt
number-below Mul = lit< tt
number-below Div = lit< tt
number-below DivUn = lit< tt
number-below Rem = lit< tt
number-below RemUn = lit< tt
number-below And = lit< tt
number-below Or = lit< tt
number-below Xor = lit< tt
number-below Shl = lit< tt
number-below Shr = lit< tt
number-below ShrUn = lit< tt
number-below Neg = lit< tt
number-below Not = lit< tt
number-below ConvI1 = lit< tt
number-below ConvI2 = lit< tt
number-below ConvI4 = lit< tt
number-below ConvI8 = lit< tt
number-below ConvR4 = lit< tt
number-below ConvR8 = lit< tt
number-below ConvU4 = lit< tt
number-below ConvU8 = lit< tt
number-below Callvirt = lit< tt
number-below Cpobj = lit< tt
number-below Ldobj = lit< tt
number-below Ldstr = lit< tt
number-below Newobj = lit< tt
number-below Castclass = lit< tt
number-below Isinst = lit< tt
number-below ConvRUn = lit< tt
number-below Unbox = lit< tt
number-below Throw = lit< tt
number-below Ldfld = lit< tt
number-below Ldflda = lit< tt
number-below Stfld = lit< tt
number-below Ldsfld = lit< tt
number-below Ldsflda = lit< tt
number-below Stsfld = lit< tt
number-below Stobj = lit< tt
number-below ConvOvfI1Un = lit< tt
number-below ConvOvfI2Un = lit< tt
number-below ConvOvfI4Un = lit< tt
number-below ConvOvfI8Un = lit< tt
number-below ConvOvfU1Un = lit< tt
number-below ConvOvfU2Un = lit< tt
number-below ConvOvfU4Un = lit< tt
number-below ConvOvfU8Un = lit< tt
number-below ConvOvfIUn = lit< tt
number-below ConvOvfUUn = lit< tt
number-below Box = lit< tt
number-below Newarr = lit< tt
number-below Ldlen = lit< tt
number-below Ldelema = lit< tt
number-below LdelemI1 = lit< tt
number-below LdelemU1 = lit< tt
number-below LdelemI2 = lit< tt
number-below LdelemU2 = lit< tt
number-below LdelemI4 = lit< tt
number-below LdelemU4 = lit< tt
number-below LdelemI8 = lit< tt
number-below LdelemI = lit< tt
number-below LdelemR4 = lit< tt
number-below LdelemR8 = lit< tt
number-below LdelemRef = lit< tt
number-below StelemI = lit< tt
number-below StelemI1 = lit< tt
number-below StelemI2 = lit< tt
number-below StelemI4 = lit< tt
number-below StelemI8 = lit< tt
number-below StelemR4 = lit< tt
number-below StelemR8 = lit< tt
number-below StelemRef = lit< tt
number-below Ldelem = lit< tt
number-below Stelem = lit< tt
number-below UnboxAny = lit< tt
number-below ConvOvfI1 = lit< tt
number-below ConvOvfU1 = lit< tt
number-below ConvOvfI2 = lit< tt
number-below ConvOvfU2 = lit< tt
number-below ConvOvfI4 = lit< tt
number-below ConvOvfU4 = lit< tt
number-below ConvOvfI8 = lit< tt
number-below ConvOvfU8 = lit< tt
number-below Refanyval = lit< tt
number-below Ckfinite = lit< tt
number-below Mkrefany = lit< tt
number-below Ldtoken = lit< tt
number-below ConvU2 = lit< tt
number-below ConvU1 = lit< tt
number-below ConvI = lit< tt
number-below ConvOvfI = lit< tt
number-below ConvOvfU = lit< tt
number-below AddOvf = lit< tt
number-below AddOvfUn = lit< tt
number-below MulOvf = lit< tt
number-below MulOvfUn = lit< tt
number-below SubOvf = lit< tt
number-below SubOvfUn = lit< tt
number-below Endfinally = lit< tt
number-below Leave = lit< tt
number-below LeaveS = lit< tt
number-below StindI = lit< tt
number-below ConvU = lit< tt
number-below Arglist = lit< tt
number-below Ceq = lit< tt
number-below Cgt = lit< tt
number-below CgtUn = lit< tt
number-below Clt = lit< tt
number-below CltUn = lit< tt
number-below Ldftn = lit< tt
number-below Ldvirtftn = lit< tt
number-below Ldarg = lit< tt
number-below Ldarga = lit< tt
number-below Starg = lit< tt
number-below Ldloc = lit< tt
number-below Ldloca = lit< tt
number-below Stloc = lit< tt
number-below Localloc = lit< tt
number-below Endfilter = lit< tt
number-below Unaligned = lit< tt
number-below Volatile = lit< tt
number-below Tail = lit< tt
number-below Initobj = lit< tt
number-below Constrained = lit< tt
number-below Cpblk = lit< tt
number-below Initblk = lit< tt
number-below Rethrow = lit< tt
number-below Sizeof = lit< tt
number-below Refanytype = lit< tt
number-below Readonly = lit< tt
