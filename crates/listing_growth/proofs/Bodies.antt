-- Bodies of methods grow.
use Rattle.std.proofs.Common.{◌≡◌, ℕ, ◌+◌, ◌||◌, not, nat_eq, Bool, true, false, cond, List, [], ◌∷◌, map, length, None, Some, refl}
use Rattle.std.proofs.lemmas.Bool.{and_parts, false≢true}
use Rattle.std.specs.List.{list_all, list_any}
use Rattle.ilasm_grammar.specs.Ilasm.{ilasm, rule_by}
use Rattle.ilasm_grammar.specs.declared.nonterminals.TheConstants as n
use Rattle.ilasm_grammar.specs.declared.productions.TheConstants as p
use Rattle.ilasm_grammar.specs.declared.symbol.Symbol.TheVariants.{Nonterminal}
use Rattle.il_lexer.specs.declared.types.TokenKind.TheVariants as kind
use Rattle.il_lexer.specs.declared.word.TheConstants as word
use Rattle.opcode_table.specs.Opcodes.{kind_of}
use Rattle.opcode_table.specs.declared.kind.OperandKind.{OperandKind}
use Rattle.opcode_table.specs.declared.kind.OperandKind.TheVariants as form
use Rattle.opcode_table.specs.declared.op.Op.{Op}
use Rattle.type_terms.specs.declared.term.SigType.{SigType}
use Rattle.assembly_tree.specs.WellFormedBodies.{operand_kind, fits_kind, is_operand, is_instruction, is_handled, offset_of, size_of, is_body}
use Rattle.assembly_tree.specs.declared.assembly.Assembly.{Assembly}
use Rattle.assembly_tree.specs.declared.assembly.ExternAssembly.{ExternAssembly}
use Rattle.assembly_tree.specs.declared.body.Body.{Body}
use Rattle.assembly_tree.specs.declared.body.Clause.{Clause}
use Rattle.assembly_tree.specs.declared.body.ClauseKind as handles
use Rattle.assembly_tree.specs.declared.body.Ins.{Ins}
use Rattle.assembly_tree.specs.declared.body.Operand as operand
use Rattle.assembly_tree.proofs.FormedFacts.{bodies_named}
use Rattle.listing_leaves.specs.Bytes.{byte_array}
use Rattle.listing_leaves.specs.Numbers.{natural}
use Rattle.listing_leaves.specs.Texts.{quoted_units, is_simple_string, unit_bytes}
use Rattle.listing_model.specs.Bodies.{label_line, comma_name, targets, is_token, real_bits, token_item, operand_item, instruction, instructions, handler, handled, clause, ends_last, local, locals_from, locals_between, locals, end_label, body}
use Rattle.listing_model.specs.Grown.{body_of, Grows}
use Rattle.listing_model.specs.Members.{number_in_brackets}
use Rattle.listing_model.specs.Shown.{none, Item, item, put, w, token, branch, line, optional, when}
use Rattle.listing_model.specs.Values.{one_string}
use Rattle.listing_growth.specs.Held.{is_operand_held, is_instruction_held, is_handled_held, is_clause_held, is_body_held}
use Rattle.listing_growth.specs.Laws.{Stands}
use Rattle.listing_growth.specs.Standing.{can_stand, all_stand, owner_can_stand, method_stands, field_stands}
use Rattle.listing_growth.proofs.Formed.{types_may, owner_may_stand, method_ref_may, field_ref_may}
use Rattle.listing_growth.proofs.Members.{offset_option}
use Rattle.listing_growth.proofs.Opcodes.{OpStands, op_stands}
use Rattle.listing_growth.proofs.References.{name_option, method_ref_stands, field_ref_stands}
use Rattle.listing_growth.proofs.Rows.{EachStands, each_append, IsOption, OptionGrows, optional_stands, IsRow, star_stands, IsCommas, commas_grow}
use Rattle.listing_growth.proofs.Types.{types_stand, owners_stand}
use Rattle.listing_growth.proofs.Values.{string_stands}

-- ---- labels

pub label_stands : (offset : ℕ) → Stands n.ITEM (label_line offset)
unfolding ilasm rule_by
label_stands offset = (refl, (refl, (refl, tt)))

names_option : IsOption n.NAMES_OPT p.NAMES_OPT_SOME p.NAMES_OPT_NONE (Nonterminal n.NAMES ∷ [])
unfolding ilasm rule_by
names_option = record { some_head = refl; some_body = refl; none_head = refl; none_body = refl }

names_row : IsRow n.COMMA_NAME_STAR n.COMMA_NAME p.COMMA_NAME_STAR_MORE p.COMMA_NAME_STAR_END
unfolding ilasm rule_by
names_row = record { more_head = refl; more_body = refl; end_head = refl; end_body = refl }

comma_names : (code : List Ins) (ks : List ℕ) → EachStands n.COMMA_NAME (map (comma_name code) ks)
unfolding ilasm rule_by
comma_names code [] = tt
comma_names code (k ∷ ks) = ((refl, (refl, (refl, tt))), comma_names code ks)

targets_grow : (code : List Ins) (ks : List ℕ) → OptionGrows (Nonterminal n.NAMES ∷ []) (targets code ks)
unfolding ilasm rule_by
targets_grow code [] = tt
targets_grow code (k ∷ ks) = let row = star_stands names_row _ (comma_names code ks) in (refl, (refl, (row.0, row.1, tt)), tt)

-- ---- operands

real_stands : (b : Bool) (bits : ℕ) → Stands n.REAL_BITS (real_bits b bits)
unfolding ilasm rule_by
real_stands true bits = (refl, (refl, (refl, (refl, (refl, tt)))))
real_stands false bits = (refl, (refl, (refl, (refl, (refl, tt)))))

text_by : (units : List ℕ) (b : Bool) →
    Stands n.STRING_OPERAND (cond b (item p.STRING_OPERAND_TEXT (put (one_string (quoted_units units)) none)) (item p.STRING_OPERAND_BYTES (token kind.ByteArray (byte_array (unit_bytes units)) none)))
unfolding ilasm rule_by
text_by units true = let s = string_stands (quoted_units units) in (refl, (s.0, s.1, tt))
text_by units false = (refl, (refl, tt))

-- what an operand names can be written
abbrev operand_may : operand.Operand → Bool
operand_may (operand.TheVariants.Method m) = method_stands m
operand_may (operand.TheVariants.Field f) = field_stands f
operand_may (operand.TheVariants.Of o) = owner_can_stand o
operand_may _ = true

module _ (a : Assembly) where
  named_well : (o : operand.Operand) → is_operand a o ≡ true → is_operand_held o ≡ true → operand_may o ≡ true
  named_well (operand.TheVariants.Method r) m h = method_ref_may a r m h
  named_well (operand.TheVariants.Field r) m h = field_ref_may a r m h
  named_well (operand.TheVariants.Of o) m h = owner_may_stand a o m h
  named_well operand.TheVariants.Nothing m h = refl
  named_well (operand.TheVariants.Var k) m h = refl
  named_well (operand.TheVariants.Int k) m h = refl
  named_well (operand.TheVariants.Real bits) m h = refl
  named_well (operand.TheVariants.Target k) m h = refl
  named_well (operand.TheVariants.Targets ks) m h = refl
  named_well (operand.TheVariants.Text units) m h = refl

module _ (externs : List ExternAssembly) (code : List Ins) where
  -- an instruction by the form of its operand
  abbrev by_form : Op → OperandKind → operand.Operand → Item
  by_form op k o = cond (is_token k) (item p.INSTRUCTION_LDTOKEN (w word.LDTOKEN (put (token_item externs code o) none))) (operand_item externs code op o)

  form_stands : (op : Op) (k : OperandKind) (o : operand.Operand) → fits_kind k o ≡ true → OpStands op k → operand_may o ≡ true →
      Stands n.INSTRUCTION (by_form op k o)
  unfolding ilasm rule_by
  form_stands op form.Nothing operand.TheVariants.Nothing f s h = (refl, (s.0, s.1, tt))
  form_stands op form.Var8 (operand.TheVariants.Var k) f s h = (refl, (s.0, s.1, (refl, (refl, tt), tt)))
  form_stands op form.Var16 (operand.TheVariants.Var k) f s h = (refl, (s.0, s.1, (refl, (refl, tt), tt)))
  form_stands op form.Num8 (operand.TheVariants.Int k) f s h = (refl, (s.0, s.1, (refl, tt)))
  form_stands op form.Num32 (operand.TheVariants.Int k) f s h = (refl, (s.0, s.1, (refl, tt)))
  form_stands op form.Num64 (operand.TheVariants.Int k) f s h = (refl, (s.0, s.1, (refl, tt)))
  form_stands op form.Byte (operand.TheVariants.Int k) f s h = (refl, (s.0, s.1, (refl, tt)))
  form_stands op form.Real4 (operand.TheVariants.Real bits) f s h = let r = real_stands _ bits in (refl, (s.0, s.1, (r.0, r.1, tt)))
  form_stands op form.Real8 (operand.TheVariants.Real bits) f s h = let r = real_stands _ bits in (refl, (s.0, s.1, (r.0, r.1, tt)))
  form_stands op form.Branch8 (operand.TheVariants.Target k) f s h = (refl, (s.0, s.1, (refl, tt)))
  form_stands op form.Branch32 (operand.TheVariants.Target k) f s h = (refl, (s.0, s.1, (refl, tt)))
  form_stands op form.Switch (operand.TheVariants.Targets ks) f s h =
      let ts = optional_stands names_option (targets code ks) (targets_grow code ks) in (refl, (refl, (refl, (ts.0, ts.1, (refl, tt)))))
  form_stands op form.Method (operand.TheVariants.Method m) f s h = let r = method_ref_stands externs m h in (refl, (s.0, s.1, (r.0, r.1, tt)))
  form_stands op form.Field (operand.TheVariants.Field m) f s h = let r = field_ref_stands externs m h in (refl, (s.0, s.1, (r.0, r.1, tt)))
  form_stands op form.Of (operand.TheVariants.Of o) f s h = let r = owners_stand externs o h in (refl, (s.0, s.1, (r.0, r.1, tt)))
  form_stands op form.Text (operand.TheVariants.Text units) f s h =
      let r = text_by units (is_simple_string units) in (refl, (refl, (r.0, r.1, tt)))
  form_stands op form.Token (operand.TheVariants.Method m) f s h =
      let r = method_ref_stands externs m h in (refl, (refl, (refl, (refl, (r.0, r.1, tt)), tt)))
  form_stands op form.Token (operand.TheVariants.Field m) f s h =
      let r = field_ref_stands externs m h in (refl, (refl, (refl, (refl, (r.0, r.1, tt)), tt)))
  form_stands op form.Token (operand.TheVariants.Of o) f s h = let r = owners_stand externs o h in (refl, (refl, (refl, (r.0, r.1, tt), tt)))
  form_stands op k o f s h = absurd (false≢true f)

  instruction_stands : (a : Assembly) (i : Ins) → fits_kind (operand_kind i.op) i.operand ≡ true → is_operand a i.operand ≡ true →
      is_instruction_held i ≡ true → Stands n.INSTRUCTION (instruction externs code i)
  unfolding operand_kind is_instruction_held
  instruction_stands a i f m h = form_stands i.op (kind_of i.op) i.operand f (op_stands i.op) (named_well a i.operand m h)

  code_stands : (a : Assembly) (count offset : ℕ) (is : List Ins) → list_all (is_instruction count) is ≡ true →
      list_all (λ i. is_operand a i.operand) is ≡ true → list_all is_instruction_held is ≡ true → EachStands n.ITEM (instructions externs code offset is)
  unfolding ilasm rule_by
  code_stands a count offset [] f m h = tt
  code_stands a count offset (i ∷ is) f m h =
      let fs = and_parts (is_instruction count i) (list_all (is_instruction count) is) f in
      let ms = and_parts (is_operand a i.operand) (list_all (λ j. is_operand a j.operand) is) m in
      let hs = and_parts (is_instruction_held i) (list_all is_instruction_held is) h in
      let s = instruction_stands a i (and_parts _ _ fs.0).0 ms.0 hs.0 in
      (label_stands offset, ((refl, (s.0, s.1, tt)), code_stands a count (offset + size_of i) is fs.1 ms.1 hs.1))

  -- ---- exception clauses

  handler_grows : (c : Clause) → Grows (Nonterminal n.HANDLER ∷ []) (handler externs code c)
  unfolding ilasm rule_by
  handler_grows c = (refl, (refl, (refl, (refl, (refl, tt)))), tt)

  handled_stands : (a : Assembly) (c : Clause) (k : handles.ClauseKind) → is_handled a k ≡ true → is_handled_held k ≡ true →
      Stands n.CLAUSE (handled externs code c k)
  unfolding ilasm rule_by
  handled_stands a c (handles.TheVariants.Catch o) m h =
      let r = owners_stand externs o (owner_may_stand a o m h) in (refl, (refl, (r.0, r.1, handler_grows c)))
  handled_stands a c (handles.TheVariants.Filter k) m h = (refl, (refl, (refl, (refl, tt), handler_grows c)))
  handled_stands a c handles.TheVariants.Finally m h = (refl, (refl, handler_grows c))
  handled_stands a c handles.TheVariants.Fault m h = (refl, (refl, handler_grows c))

  clause_row : IsRow n.CLAUSE_STAR n.CLAUSE p.CLAUSE_STAR_MORE p.CLAUSE_STAR_END
  unfolding ilasm rule_by
  clause_row = record { more_head = refl; more_body = refl; end_head = refl; end_body = refl }

  clause_stands : (a : Assembly) (c : Clause) → is_handled a c.kind ≡ true → is_clause_held c ≡ true → Stands n.ITEM (clause externs code c)
  unfolding ilasm rule_by is_clause_held
  clause_stands a c m h =
      let s = handled_stands a c c.kind m h in
      let row = star_stands clause_row [] tt in
      (refl, (refl, (refl, (refl, (refl, (refl, tt))), (s.0, s.1, (row.0, row.1, tt)))))

  clauses_stand : (a : Assembly) (cs : List Clause) → list_all (λ c. is_handled a c.kind) cs ≡ true → list_all is_clause_held cs ≡ true →
      EachStands n.ITEM (map (clause externs code) cs)
  clauses_stand a [] m h = tt
  clauses_stand a (c ∷ cs) m h =
      let ms = and_parts (is_handled a c.kind) (list_all (λ d. is_handled a d.kind) cs) m in
      let hs = and_parts (is_clause_held c) (list_all is_clause_held cs) h in
      (clause_stands a c ms.0 hs.0, clauses_stand a cs ms.1 hs.1)

-- ---- locals

init_option : IsOption n.INIT_OPT p.INIT_OPT_SOME p.INIT_OPT_NONE (body_of p.INIT_OPT_SOME)
unfolding ilasm rule_by
init_option = record { some_head = refl; some_body = refl; none_head = refl; none_body = refl }

locals_option : IsOption n.LOCALS_OPT p.LOCALS_OPT_SOME p.LOCALS_OPT_NONE (Nonterminal n.LOCALS ∷ [])
unfolding ilasm rule_by
locals_option = record { some_head = refl; some_body = refl; none_head = refl; none_body = refl }

local_commas : IsCommas n.LOCAL n.COMMA_LOCAL_STAR p.COMMA_LOCAL p.COMMA_LOCAL_STAR_MORE p.COMMA_LOCAL_STAR_END n.COMMA_LOCAL
unfolding ilasm rule_by
local_commas = record { row = record { more_head = refl; more_body = refl; end_head = refl; end_body = refl }; head = refl; body = refl }

init_grows : (b : Bool) → OptionGrows (body_of p.INIT_OPT_SOME) (when b (w word.INIT none))
unfolding ilasm rule_by
init_grows true = (refl, tt)
init_grows false = tt

pub brackets_grow : (k : ℕ) → OptionGrows (Nonterminal n.BRACKETED_INT ∷ []) (Some (branch p.BRACKETED_INT (number_in_brackets k none) none))
unfolding ilasm rule_by
brackets_grow k = (refl, (refl, (refl, (refl, tt))), tt)

module _ (externs : List ExternAssembly) where
  local_stands : (k : ℕ) (t : SigType) → can_stand t ≡ true → Stands n.LOCAL (local externs k t)
  unfolding ilasm rule_by
  local_stands k t h =
      let number = optional_stands offset_option (Some (branch p.BRACKETED_INT (number_in_brackets k none) none)) (brackets_grow k) in
      let of = types_stand externs t h in
      let name = optional_stands name_option None tt in
      (refl, (number.0, number.1, (of.0, of.1, (name.0, name.1, tt))))

  each_local : (k : ℕ) (ts : List SigType) → all_stand ts ≡ true → EachStands n.LOCAL (locals_from externs k ts)
  each_local k [] h = tt
  each_local k (t ∷ ts) h = let hs = and_parts (can_stand t) (all_stand ts) h in (local_stands k t hs.0, each_local _ ts hs.1)

  between_grows : (is : List Item) → EachStands n.LOCAL is → OptionGrows (Nonterminal n.LOCALS ∷ []) (locals_between externs is)
  unfolding ilasm rule_by
  between_grows [] h = tt
  between_grows (i ∷ is) h = (refl, commas_grow local_commas i is h [] none tt, tt)

  abbrev locals_line : Bool → List SigType → Item
  locals_line init ts =
      item p.ITEM_LOCALS
      (line word.DOT_LOCALS
      (optional p.INIT_OPT_SOME p.INIT_OPT_NONE (when init (w word.INIT none))
      (w word.OPEN_PAREN
      (optional p.LOCALS_OPT_SOME p.LOCALS_OPT_NONE (locals_between externs (locals_from externs 0 ts)) (w word.CLOSE_PAREN none)))))

  line_stands : (init : Bool) (ts : List SigType) → all_stand ts ≡ true → Stands n.ITEM (locals_line init ts)
  unfolding ilasm rule_by
  line_stands init ts h =
      let zero = optional_stands init_option (when init (w word.INIT none)) (init_grows init) in
      let each = optional_stands locals_option (locals_between externs (locals_from externs 0 ts)) (between_grows (locals_from externs 0 ts) (each_local 0 ts h)) in
      (refl, (refl, (zero.0, zero.1, (refl, (each.0, each.1, (refl, tt))))))

  locals_by : (b : Bool) (init : Bool) (ts : List SigType) → all_stand ts ≡ true → EachStands n.ITEM (cond b (locals_line init ts ∷ []) [])
  locals_by true init ts h = (line_stands init ts h, tt)
  locals_by false init ts h = tt

  locals_stand : (init : Bool) (ts : List SigType) → all_stand ts ≡ true → EachStands n.ITEM (locals externs init ts)
  locals_stand init ts h = locals_by (init || not (nat_eq (length ts) 0)) init ts h

  -- ---- bodies

  end_by : (b : Bool) (offset : ℕ) → EachStands n.ITEM (cond b (label_line offset ∷ []) [])
  end_by true offset = (label_stands offset, tt)
  end_by false offset = tt

  stack_stands : (bound : ℕ) (rest : List Item) → EachStands n.ITEM rest →
      EachStands n.ITEM (item p.ITEM_MAXSTACK (line word.DOT_MAXSTACK (token kind.Int (natural bound) none)) ∷ rest)
  unfolding ilasm rule_by
  stack_stands bound rest h = ((refl, (refl, (refl, tt))), h)

  pub body_stands : (a : Assembly) (b : Body) → is_body a b ≡ true → is_body_held b ≡ true → EachStands n.ITEM (body externs b)
  unfolding body is_body_held
  body_stands a b m h =
      let f = (bodies_named a b).0 m in
      let hs = and_parts _ _ h in
      let ks = and_parts _ _ hs.0 in
      let js = and_parts _ _ ks.0 in
      stack_stands b.bound _
      (each_append n.ITEM (locals externs b.init b.locals) _ (locals_stand b.init b.locals (types_may a b.locals f.locals js.1))
      (each_append n.ITEM (instructions externs b.code 0 b.code) _ (code_stands externs b.code a (length b.code) 0 b.code f.instructions f.operands ks.1)
      (each_append n.ITEM (end_label externs b) _ (end_by (list_any (ends_last b.code) b.clauses) (offset_of b.code (length b.code)))
      (clauses_stand externs b.code a b.clauses f.catches hs.1))))
