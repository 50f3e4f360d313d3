-- The bodies of methods in a listing: locals, labels, instructions and exception clauses (ECMA-335 II.15.4.1, II.19, III.1.7).
use Rattle.std.specs.Prelude.{ℕ, suc, ◌+◌, ◌==◌, ◌||◌, not, Bool, true, false, if◌then◌else◌, List, [], ◌∷◌, ◌++◌, length, map, Option, None, Some}
use Rattle.std.specs.List.{list_any}
use Rattle.il_lexer.specs.WordList as words
use Rattle.il_lexer.specs.declared.types.TokenKind.TheVariants as kind
use Rattle.il_lexer.specs.declared.word.TheConstants as word
use Rattle.ilasm_grammar.specs.Ilasm.{picked}
use Rattle.ilasm_grammar.specs.declared.nonterminals.TheConstants as n
use Rattle.ilasm_grammar.specs.declared.productions.TheConstants as p
use Rattle.ilasm_grammar.specs.declared.terminals.TheConstants.{WORDS}
use Rattle.opcode_table.specs.Opcodes as opcodes
use Rattle.opcode_table.specs.declared.kind.OperandKind.{OperandKind}
use Rattle.opcode_table.specs.declared.kind.OperandKind.TheVariants as operand_form
use Rattle.opcode_table.specs.declared.op.Op.{Op}
use Rattle.type_terms.specs.declared.term.SigType.{SigType}
use Rattle.assembly_tree.specs.WellFormedBodies.{size_of, offset_of}
use Rattle.assembly_tree.specs.declared.assembly.ExternAssembly.{ExternAssembly}
use Rattle.assembly_tree.specs.declared.body.Body.{Body}
use Rattle.assembly_tree.specs.declared.body.Clause.{Clause}
use Rattle.assembly_tree.specs.declared.body.ClauseKind as handles
use Rattle.assembly_tree.specs.declared.body.Ins.{Ins}
use Rattle.assembly_tree.specs.declared.body.Operand as operand
use Rattle.listing_leaves.specs.Numbers.{natural, integer, hexadecimal, label}
use Rattle.listing_model.specs.Members.{number_in_brackets}
use Rattle.listing_model.specs.References.{method_ref, field_ref}
use Rattle.listing_model.specs.Shown.{Shown, none, leaf, branch, Item, item, put, token, w, line, optional, when, star, commas}
use Rattle.listing_model.specs.Types.{type_of, owner}
use Rattle.listing_model.specs.Values.{string_below, number_in_parentheses}

-- ---- labels

-- the label of an instruction by its number, or of the end by the number of instructions
abbrev pub label_at : List Ins → ℕ → List ℕ
label_at code k = label (offset_of code k)

-- a label within a line
abbrev pub to_label : List Ins → ℕ → Shown → Shown
to_label code k after = token kind.Name (label_at code k) after

-- a label at the begin of a line, with its `:`
abbrev pub label_line : ℕ → Item
label_line offset =
    item p.ITEM_NAME (leaf (record { starts = true; apart = false; kind = kind.Name; text = label offset }) (w word.COLON none))

-- ---- instructions

abbrev pub or_zero : Option ℕ → ℕ
or_zero None = 0
or_zero (Some k) = k

-- the number of an opcode's mnemonic among the words
abbrev pub mnemonic : Op → ℕ
mnemonic op = or_zero (words.word_number (opcodes.word_of op))

-- the mnemonic, below the production of the nonterminal for its form
abbrev pub op_item : ℕ → Op → Shown → Shown
op_item nonterminal op after = branch (picked nonterminal (WORDS + mnemonic op)) (w (mnemonic op) none) after

-- four bytes of a real number as `float32(0x..)`, and eight as `float64(0x..)`
abbrev pub real_bits : Bool → ℕ → Item
real_bits true bits = item p.REAL_BITS_FLOAT32 (w word.FLOAT32 (number_in_parentheses (hexadecimal 8 bits)))
real_bits false bits = item p.REAL_BITS_FLOAT64 (w word.FLOAT64 (number_in_parentheses (hexadecimal 16 bits)))

abbrev pub comma_name : List Ins → ℕ → Item
comma_name code k = item p.COMMA_NAME (w word.COMMA (to_label code k none))

abbrev pub targets : List Ins → List ℕ → Option Shown
targets code [] = None
targets code (k ∷ ks) =
    Some (branch p.NAMES (to_label code k (star p.COMMA_NAME_STAR_MORE p.COMMA_NAME_STAR_END (map (comma_name code) ks) none)) none)

-- the operand is a real number of four bytes, and the token of a method, a field or a type
abbrev pub is_short_real : OperandKind → Bool
is_short_real operand_form.Real4 = true
is_short_real _ = false

abbrev pub is_token : OperandKind → Bool
is_token operand_form.Token = true
is_token _ = false

module _ (externs : List ExternAssembly) (code : List Ins) where
  -- a token that `ldtoken` takes
  abbrev pub token_item : operand.Operand → Item
  token_item (operand.TheVariants.Method m) = item p.TOKEN_OPERAND_METHOD (w word.METHOD (put (method_ref externs m) none))
  token_item (operand.TheVariants.Field f) = item p.TOKEN_OPERAND_FIELD (w word.FIELD (put (field_ref externs f) none))
  token_item (operand.TheVariants.Of o) = item p.TOKEN_OPERAND_SPEC (put (owner externs o) none)
  token_item _ = item p.TOKEN_OPERAND_SPEC none

  abbrev pub operand_item : Op → operand.Operand → Item
  operand_item op operand.TheVariants.Nothing = item p.INSTRUCTION_OP_NONE (op_item n.OP_NONE op none)
  operand_item op (operand.TheVariants.Var k) =
      item p.INSTRUCTION_OP_VAR (op_item n.OP_VAR op (branch p.INDEX_INT (token kind.Int (natural k) none) none))
  operand_item op (operand.TheVariants.Int z) = item p.INSTRUCTION_OP_NUM (op_item n.OP_NUM op (token kind.Int (integer z) none))
  operand_item op (operand.TheVariants.Real bits) =
      item p.INSTRUCTION_OP_REAL (op_item n.OP_REAL op (put (real_bits (is_short_real (opcodes.kind_of op)) bits) none))
  operand_item op (operand.TheVariants.Target k) = item p.INSTRUCTION_OP_BRANCH (op_item n.OP_BRANCH op (to_label code k none))
  operand_item op (operand.TheVariants.Targets ks) =
      item p.INSTRUCTION_SWITCH
      (w word.SWITCH (w word.OPEN_PAREN (optional p.NAMES_OPT_SOME p.NAMES_OPT_NONE (targets code ks) (w word.CLOSE_PAREN none))))
  operand_item op (operand.TheVariants.Method m) =
      item p.INSTRUCTION_OP_METHOD (op_item n.OP_METHOD op (put (method_ref externs m) none))
  operand_item op (operand.TheVariants.Field f) =
      item p.INSTRUCTION_OP_FIELD (op_item n.OP_FIELD op (put (field_ref externs f) none))
  operand_item op (operand.TheVariants.Of o) = item p.INSTRUCTION_OP_TYPE (op_item n.OP_TYPE op (put (owner externs o) none))
  operand_item op (operand.TheVariants.Text units) =
      item p.INSTRUCTION_LDSTR (w word.LDSTR (put (string_below p.STRING_OPERAND_TEXT p.STRING_OPERAND_BYTES units) none))

  -- an instruction; `ldtoken` is the only one that takes a method, a field or a type
  abbrev pub instruction : Ins → Item
  instruction i =
      if is_token (opcodes.kind_of i.op) then item p.INSTRUCTION_LDTOKEN (w word.LDTOKEN (put (token_item i.operand) none))
      else operand_item i.op i.operand

  -- the instructions from this offset on, each behind its label
  abbrev pub instructions : ℕ → List Ins → List Item
  instructions offset [] = []
  instructions offset (i ∷ is) =
      label_line offset ∷ item p.ITEM_INSTRUCTION (put (instruction i) none) ∷ instructions (offset + size_of i) is

  -- ---- exception clauses

  abbrev pub handler : Clause → Shown
  handler c =
      branch p.HANDLER_HANDLER
      (w word.HANDLER (to_label code c.handler_start (w word.TO (to_label code c.handler_end none)))) none

  abbrev pub handled : Clause → handles.ClauseKind → Item
  handled c (handles.TheVariants.Catch o) = item p.CLAUSE_CATCH (w word.CATCH (put (owner externs o) (handler c)))
  handled c (handles.TheVariants.Filter k) =
      item p.CLAUSE_FILTER (w word.FILTER (branch p.FILTER_START_NAME (to_label code k none) (handler c)))
  handled c handles.TheVariants.Finally = item p.CLAUSE_FINALLY (w word.FINALLY (handler c))
  handled c handles.TheVariants.Fault = item p.CLAUSE_FAULT (w word.FAULT (handler c))

  -- `.try A to B`, and what handles it, a line
  abbrev pub clause : Clause → Item
  clause c =
      item p.ITEM_TRY
      (line word.DOT_TRY
      (branch p.TRY_RANGE_NAME (to_label code c.try_start (w word.TO (to_label code c.try_end none)))
      (put (handled c c.kind) (star p.CLAUSE_STAR_MORE p.CLAUSE_STAR_END [] none))))

-- a clause ends where the code ends
abbrev pub ends_last : List Ins → Clause → Bool
ends_last code c = c.try_end == length code || c.handler_end == length code

-- ---- locals

module _ (externs : List ExternAssembly) where
  -- `[k]` and a type
  abbrev pub local : ℕ → SigType → Item
  local k t =
      item p.LOCAL
      (optional p.BRACKETED_INT_OPT_SOME p.BRACKETED_INT_OPT_NONE (Some (branch p.BRACKETED_INT (number_in_brackets k none) none))
      (put (type_of externs t) (optional p.NAME_OPT_SOME p.NAME_OPT_NONE None none)))

  abbrev pub locals_from : ℕ → List SigType → List Item
  locals_from k [] = []
  locals_from k (t ∷ ts) = local k t ∷ locals_from (suc k) ts

  abbrev pub locals_between : List Item → Option Shown
  locals_between [] = None
  locals_between (i ∷ is) =
      Some (branch p.LOCALS (commas p.COMMA_LOCAL_STAR_MORE p.COMMA_LOCAL_STAR_END p.COMMA_LOCAL (i ∷ is) none) none)

  -- the line of locals, where there are some or they are set to zero
  abbrev pub locals : Bool → List SigType → List Item
  locals init ts =
      if init || not (length ts == 0) then
      item p.ITEM_LOCALS
      (line word.DOT_LOCALS
      (optional p.INIT_OPT_SOME p.INIT_OPT_NONE (when init (w word.INIT none))
      (w word.OPEN_PAREN
      (optional p.LOCALS_OPT_SOME p.LOCALS_OPT_NONE (locals_between (locals_from 0 ts)) (w word.CLOSE_PAREN none))))) ∷ []
      else []

  -- ---- bodies

  -- the label of the end, alone, where a clause ends there
  abbrev pub end_label : Body → List Item
  end_label b =
      if list_any (ends_last b.code) b.clauses then label_line (offset_of b.code (length b.code)) ∷ [] else []

  -- the lines of a body: `.maxstack`, locals, instructions, the end's label, and a line for each clause
  unfoldable pub body : Body → List Item
  body b =
      item p.ITEM_MAXSTACK (line word.DOT_MAXSTACK (token kind.Int (natural b.bound) none))
      ∷ (locals b.init b.locals ++ (instructions externs b.code 0 b.code ++ (end_label b ++ map (clause externs b.code) b.clauses)))
