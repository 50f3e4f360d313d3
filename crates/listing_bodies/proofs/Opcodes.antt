-- Each mnemonic names its opcode.
use Rattle.std.proofs.Common.{◌≡◌, ℕ, List, refl}
use Rattle.std.specs.Prelude.{find}
use Rattle.std.specs.Str.{bytes_eq}
use Rattle.il_lexer.specs.WordList.{words}
use Rattle.il_lexer.specs.declared.word.TheConstants as word
use Rattle.opcode_table.specs.Opcodes.{kind_of, names}
use Rattle.opcode_table.specs.declared.kind.OperandKind.{OperandKind}
use Rattle.opcode_table.specs.declared.kind.OperandKind.TheVariants as kind
use Rattle.opcode_table.specs.declared.op.Op.{Op}
use Rattle.opcode_table.specs.declared.op.Op.TheVariants.{Br, Ldstr, Ldtoken, Switch}
use Rattle.source_model.specs.Instructions.{op_or_nop}
use Rattle.listing_model.specs.Bodies.{mnemonic}
use Rattle.listing_model.specs.Shown.{word_text}

-- the opcode that this word names
abbrev pub named_by : List ℕ → Op
named_by text = op_or_nop (find (λ row. bytes_eq row.0 text) names)

-- its mnemonic; `switch`, `ldstr` and `ldtoken` are the only ones of their forms
abbrev pub OpReads : Op → OperandKind → Type 0
OpReads op kind.Switch = (op ≡ Switch) × (named_by (word_text word.SWITCH) ≡ Switch)
OpReads op kind.Text = (op ≡ Ldstr) × (named_by (word_text word.LDSTR) ≡ Ldstr)
OpReads op kind.Token = (op ≡ Ldtoken) × (named_by (word_text word.LDTOKEN) ≡ Ldtoken)
OpReads op k = named_by (word_text (mnemonic op)) ≡ op

pub op_reads : (op : Op) → OpReads op (kind_of op)
unfolding words names
op_reads Switch = (refl, refl)
op_reads Ldstr = (refl, refl)
op_reads Ldtoken = (refl, refl)
op_reads Br = refl
op_reads op = refl
