-- The branches that have a short form (ECMA-335 III.3.5 to III.3.15, III.3.17, III.3.18, III.3.46): 0x38 to 0x44
-- and 0xDD, whose targets stand in four bytes, and 0x2B to 0x37 and 0xDE, whose targets stand in one.
use Rattle.std.specs.Prelude.{Bool, true, false}
use Rattle.opcode_table.specs.declared.kind.OperandKind.{OperandKind}
use Rattle.opcode_table.specs.declared.kind.OperandKind.TheVariants as kind
use Rattle.opcode_table.specs.declared.op.Op.{Op}
use Rattle.opcode_table.specs.declared.op.Op.TheVariants.{Br, Brfalse, Brtrue, Beq, Bge, Bgt, Ble, Blt, BneUn, BgeUn, BgtUn, BleUn, BltUn, Leave, BrS, BrfalseS, BrtrueS, BeqS, BgeS, BgtS, BleS, BltS, BneUnS, BgeUnS, BgtUnS, BleUnS, BltUnS, LeaveS}

-- the opcode with its target in one byte, where it is a branch with two forms
abbrev pub short_form : Op → Op
short_form Br = BrS
short_form Brfalse = BrfalseS
short_form Brtrue = BrtrueS
short_form Beq = BeqS
short_form Bge = BgeS
short_form Bgt = BgtS
short_form Ble = BleS
short_form Blt = BltS
short_form BneUn = BneUnS
short_form BgeUn = BgeUnS
short_form BgtUn = BgtUnS
short_form BleUn = BleUnS
short_form BltUn = BltUnS
short_form Leave = LeaveS
short_form op = op

-- the opcode with its target in four bytes, where it is a branch with two forms
abbrev pub long_form : Op → Op
long_form BrS = Br
long_form BrfalseS = Brfalse
long_form BrtrueS = Brtrue
long_form BeqS = Beq
long_form BgeS = Bge
long_form BgtS = Bgt
long_form BleS = Ble
long_form BltS = Blt
long_form BneUnS = BneUn
long_form BgeUnS = BgeUn
long_form BgtUnS = BgtUn
long_form BleUnS = BleUn
long_form BltUnS = BltUn
long_form LeaveS = Leave
long_form op = op

-- the target stands in one byte
abbrev pub is_short : Op → Bool
is_short BrS = true
is_short BrfalseS = true
is_short BrtrueS = true
is_short BeqS = true
is_short BgeS = true
is_short BgtS = true
is_short BleS = true
is_short BltS = true
is_short BneUnS = true
is_short BgeUnS = true
is_short BgtUnS = true
is_short BleUnS = true
is_short BltUnS = true
is_short LeaveS = true
is_short op = false

-- the form of the operand where a branch is short
abbrev pub short_kind : OperandKind → OperandKind
short_kind kind.Branch32 = kind.Branch8
short_kind k = k
