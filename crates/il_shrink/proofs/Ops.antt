-- What the table of opcodes says of the branches with two forms.
use Rattle.std.proofs.Common.{◌≡◌, ◌∙◌, sym, ap, refl, ℕ, ◌<◌, Bool, true, false, arith}
use Rattle.opcode_table.specs.declared.kind.OperandKind.{OperandKind}
use Rattle.opcode_table.specs.declared.kind.OperandKind.TheVariants as kind
use Rattle.opcode_table.specs.declared.op.Op.{Op}
use Rattle.opcode_table.specs.declared.op.Op.TheVariants.{Br}
use Rattle.opcode_table.specs.Opcodes.{kind_of}
use Rattle.opcode_table.specs.Sizes.{opcode_size}
use Rattle.il_shrink.specs.Branches.{short_form, long_form, is_short, short_kind}
use Rattle.il_shrink.proofs.OperandKinds.{long_kind, is_short_kind}

pub kind_short : (op : Op) → kind_of (short_form op) ≡ short_kind (kind_of op)
kind_short Br = refl
kind_short op = refl

pub kind_long : (op : Op) → kind_of (long_form op) ≡ long_kind (kind_of op)
kind_long Br = refl
kind_long op = refl

pub short_twice : (op : Op) → short_form (short_form op) ≡ short_form op
short_twice Br = refl
short_twice op = refl

pub short_long : (op : Op) → short_form (long_form op) ≡ short_form op
short_long Br = refl
short_long op = refl

pub short_by_kind : (op : Op) → is_short op ≡ is_short_kind (kind_of op)
short_by_kind Br = refl
short_by_kind op = refl

pub size_short : (op : Op) → opcode_size (short_form op) ≡ opcode_size op
unfolding opcode_size
size_short Br = refl
size_short op = refl

-- a branch has one byte of opcode
abbrev pub kind_size : Op → OperandKind → ℕ
kind_size op kind.Branch8 = 1
kind_size op kind.Branch32 = 1
kind_size op k = opcode_size op

pub size_by_kind : (op : Op) → opcode_size op ≡ kind_size op (kind_of op)
unfolding opcode_size
size_by_kind Br = refl
size_by_kind op = refl

pub some_byte : (op : Op) → 0 < opcode_size op
unfolding opcode_size
some_byte Br = omega arith
some_byte op = omega arith

-- an opcode from its short form
kept_if : Bool → Op → Op
kept_if true op = short_form op
kept_if false op = long_form (short_form op)

known_form : (op : Op) → kept_if (is_short op) op ≡ op
unfolding kept_if
known_form Br = refl
known_form op = refl

pub short_stays : (op : Op) → is_short op ≡ true → short_form op ≡ op
unfolding kept_if
short_stays op h = ap (λ b. kept_if b op) (sym h) ∙ known_form op

pub long_again : (op : Op) → is_short op ≡ false → long_form (short_form op) ≡ op
unfolding kept_if
long_again op h = ap (λ b. kept_if b op) (sym h) ∙ known_form op
