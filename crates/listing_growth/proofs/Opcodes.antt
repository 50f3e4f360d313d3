-- Each mnemonic stands for the nonterminal of its form.
use Rattle.std.proofs.Common.{ℕ, ◌+◌, refl}
use Rattle.std.specs.Prelude.{⊤}
use Rattle.il_lexer.specs.WordList.{words}
use Rattle.ilasm_grammar.specs.Ilasm.{ilasm, rule_by, picked, picked_by}
use Rattle.ilasm_grammar.specs.declared.nonterminals.TheConstants as n
use Rattle.ilasm_grammar.specs.declared.terminals.TheConstants.{WORDS}
use Rattle.opcode_table.specs.Opcodes.{kind_of}
use Rattle.opcode_table.specs.declared.kind.OperandKind.{OperandKind}
use Rattle.opcode_table.specs.declared.kind.OperandKind.TheVariants as kind
use Rattle.opcode_table.specs.declared.op.Op.{Op}
use Rattle.opcode_table.specs.declared.op.Op.TheVariants.{Br, Ldstr, Ldtoken, Switch}
use Rattle.listing_model.specs.Bodies.{mnemonic}
use Rattle.listing_model.specs.Shown.{none, item, w}
use Rattle.listing_growth.specs.Laws.{Stands}

-- a mnemonic for a nonterminal
abbrev pub StandsFor : ℕ → Op → Type 0
StandsFor x op = Stands x (item (picked x (WORDS + mnemonic op)) (w (mnemonic op) none))

-- the nonterminal by the form of the operand; `switch`, `ldstr` and `ldtoken` have productions of their own
abbrev pub OpStands : Op → OperandKind → Type 0
OpStands op kind.Nothing = StandsFor n.OP_NONE op
OpStands op kind.Var8 = StandsFor n.OP_VAR op
OpStands op kind.Var16 = StandsFor n.OP_VAR op
OpStands op kind.Num8 = StandsFor n.OP_NUM op
OpStands op kind.Num32 = StandsFor n.OP_NUM op
OpStands op kind.Num64 = StandsFor n.OP_NUM op
OpStands op kind.Byte = StandsFor n.OP_NUM op
OpStands op kind.Real4 = StandsFor n.OP_REAL op
OpStands op kind.Real8 = StandsFor n.OP_REAL op
OpStands op kind.Branch8 = StandsFor n.OP_BRANCH op
OpStands op kind.Branch32 = StandsFor n.OP_BRANCH op
OpStands op kind.Switch = ⊤
OpStands op kind.Method = StandsFor n.OP_METHOD op
OpStands op kind.Field = StandsFor n.OP_FIELD op
OpStands op kind.Of = StandsFor n.OP_TYPE op
OpStands op kind.Text = ⊤
OpStands op kind.Token = ⊤

pub op_stands : (op : Op) → OpStands op (kind_of op)
unfolding ilasm rule_by picked picked_by words
op_stands Switch = tt
op_stands Ldstr = tt
op_stands Ldtoken = tt
op_stands Br = (refl, (refl, tt))
op_stands op = (refl, (refl, tt))
