-- Instructions are read back, one by one.
use Rattle.std.proofs.Common.{◌≡◌, ℕ, suc, ◌+◌, ◌^◌, ◌<◌, nat_lt, nat_le, Bool, true, false, cond, if◌then◌else◌, ℤ, pos, List, [], ◌∷◌, ◌++◌, map, length, take, refl, ap, sym, subst, ◌∙◌, append-nil, arith}
use Rattle.std.proofs.Math.Nat.{mod-eq_of_lt}
use Rattle.std.proofs.lemmas.Bool.{and_parts, false≢true, ltb-true, leb-true}
use Rattle.std.specs.List.{list_all}
use Rattle.ilasm_grammar.specs.Ilasm.{ilasm, rule_by, has_bit}
use Rattle.ilasm_grammar.specs.declared.nonterminals.TheConstants as n
use Rattle.ilasm_grammar.specs.declared.productions.TheConstants as p
use Rattle.il_lexer.specs.declared.types.TokenKind.TheVariants as kind
use Rattle.il_lexer.specs.declared.word.TheConstants as word
use Rattle.opcode_table.specs.Opcodes.{kind_of}
use Rattle.opcode_table.specs.declared.kind.OperandKind.{OperandKind}
use Rattle.opcode_table.specs.declared.kind.OperandKind.TheVariants as form
use Rattle.opcode_table.specs.declared.op.Op.{Op}
use Rattle.opcode_table.specs.declared.op.Op.TheVariants.{Switch, Ldstr, Ldtoken}
use Rattle.type_terms.specs.declared.reference.FieldRef.{FieldRef}
use Rattle.type_terms.specs.declared.reference.MethodRef.{MethodRef}
use Rattle.type_terms.specs.declared.term.Owner.{Owner}
use Rattle.type_terms.specs.declared.term.Primitive.TheVariants as prim
use Rattle.assembly_tree.specs.WellFormedBodies.{operand_kind, fits_kind, are_targets, is_operand, is_instruction}
use Rattle.assembly_tree.specs.WellFormedTerms.{is_owner, is_method_ref, is_field_ref}
use Rattle.assembly_tree.specs.declared.assembly.Assembly.{Assembly}
use Rattle.assembly_tree.specs.declared.body.Ins.{Ins}
use Rattle.assembly_tree.specs.declared.body.Operand as operand
use Rattle.source_model.specs.Constants.{wrapped}
use Rattle.source_model.specs.Forest as f
use Rattle.source_model.specs.Instructions.{instruction_forms, mnemonic_token, op_of, label_number}
use Rattle.source_model.specs.Nodes.{Around}
use Rattle.source_model.specs.Operands as read
use Rattle.source_model.specs.References as references
use Rattle.source_model.specs.Shapes.{natural}
use Rattle.source_model.specs.Source.{Source, spelling}
use Rattle.source_model.specs.Types.{owners_in, types_in, first_owner, the_owner}
use Rattle.source_model.specs.Values.{or_zero, int_at, integer, little_number, real_bytes}
use Rattle.source_model.specs.Variables.{variable_number, variable_named, variable_token}
use Rattle.listing_constants.specs.Laws.{StringsAreRead, ConstantsAreRead}
use Rattle.listing_formed.specs.Laws.{Knows, FormedAreRead}
use Rattle.listing_growth.specs.Held.{are_units, is_u16, is_u64, is_i64, is_owner_held, is_method_ref_held, is_field_ref_held, is_operand_held, is_instruction_held}
use Rattle.listing_leaves.specs.Bytes.{byte_array}
use Rattle.listing_leaves.specs.Numbers as numbers
use Rattle.listing_leaves.specs.Texts.{quoted_units, is_simple_string, unit_bytes}
use Rattle.listing_model.specs.Bodies as written
use Rattle.listing_model.specs.Bodies.{mnemonic, is_token, is_short_real}
use Rattle.listing_model.specs.Grown.{body_of, Grows}
use Rattle.listing_model.specs.References.{method_ref, field_ref}
use Rattle.listing_model.specs.Shown.{Shown, none, Item, item, put, w, token, branch, size, star_production, star_below, word_text}
use Rattle.listing_model.specs.Values.{one_string}
use Rattle.listing_reading.specs.Below.{below, cant_stand, cant_lead}
use Rattle.listing_reading.specs.BelowMasks.{below_masks}
use Rattle.listing_reading.specs.Laws.{SearchesPass}
use Rattle.listing_reading.specs.Numbered.{numbered, Agrees}
use Rattle.listing_rows.specs.Laws.{WalksPass, owner_parts}
use Rattle.listing_values.specs.Laws.{NumbersAreRead}
use Rattle.listing_bodies.proofs.Opcodes.{OpReads, named_by, op_reads}

-- ---- where what is sought stands

pub record InForms : Type 0 where
  pub variable : cant_stand (p.INDEX_INT ∷ []) (take 1 (body_of p.INSTRUCTION_OP_VAR)) ≡ true
  pub variable_leads : cant_lead (p.INDEX_INT ∷ p.INDEX_NAME ∷ []) (take 1 (body_of p.INSTRUCTION_OP_VAR)) ≡ true
  pub four : cant_stand (p.REAL_BITS_FLOAT32 ∷ []) (take 1 (body_of p.INSTRUCTION_OP_REAL)) ≡ true
  pub eight : cant_stand (p.REAL_BITS_FLOAT64 ∷ []) (take 1 (body_of p.INSTRUCTION_OP_REAL)) ≡ true
  pub method : cant_stand (p.METHOD_REF ∷ []) (take 1 (body_of p.INSTRUCTION_OP_METHOD)) ≡ true
  pub field : cant_stand (p.FIELD_REF ∷ []) (take 1 (body_of p.INSTRUCTION_OP_FIELD)) ≡ true
  pub of : cant_stand owner_parts (take 1 (body_of p.INSTRUCTION_OP_TYPE)) ≡ true
  pub no_method_in_field : cant_stand (p.TOKEN_OPERAND_METHOD ∷ []) (body_of p.TOKEN_OPERAND_FIELD) ≡ true
  pub no_method_in_spec : cant_stand (p.TOKEN_OPERAND_METHOD ∷ []) (body_of p.TOKEN_OPERAND_SPEC) ≡ true
  pub no_field_in_spec : cant_stand (p.TOKEN_OPERAND_FIELD ∷ []) (body_of p.TOKEN_OPERAND_SPEC) ≡ true

in_forms : InForms
unfolding ilasm rule_by has_bit below below_masks
in_forms = record {
  variable = refl;
  variable_leads = refl;
  four = refl;
  eight = refl;
  method = refl;
  field = refl;
  of = refl;
  no_method_in_field = refl;
  no_method_in_spec = refl;
  no_field_in_spec = refl;
}

if_true : {X : Type 0} (c : Bool) (x y : X) → c ≡ true → (if c then x else y) ≡ x
if_true true x y h = refl
if_true false x y h = absurd (false≢true h)

if_false : {X : Type 0} (c : Bool) (x y : X) → c ≡ false → (if c then x else y) ≡ y
if_false true x y h = absurd (false≢true (sym h))
if_false false x y h = refl

small_16 : (k : ℕ) → k < 0x10000 → k < 2 ^ 128
small_16 k h = omega arith

small_32 : (k : ℕ) → k < 2 ^ 32 → k < 2 ^ 128
small_32 k h = omega arith

small_64 : (k : ℕ) → k < 2 ^ 64 → k < 2 ^ 128
small_64 k h = omega arith

-- an instruction by the form of its operand
abbrev pub by_form : Assembly → List Ins → Op → OperandKind → operand.Operand → Item
by_form a code op k o =
    cond (is_token k) (item p.INSTRUCTION_LDTOKEN (w word.LDTOKEN (put (written.token_item a.externs code o) none))) (written.operand_item a.externs code op o)

module _ (numbers_read : NumbersAreRead) (strings : StringsAreRead) (constants : ConstantsAreRead) (formed : FormedAreRead) (searches : SearchesPass) (walks : WalksPass) (s : Source) (around : Around) (a : Assembly) (knows : Knows s a) (method : f.Forest) (code : List Ins) (number_of : (j : ℕ) → j < length code → (k : ℕ) → spelling s k ≡ written.label_at code j → label_number s method k ≡ j) where
  abbrev Reads : Item → Op → operand.Operand → Type 0
  Reads i op o =
      (at : ℕ) → Grows (body_of i.production) i.below → Agrees s at i.below →
      read.instruction s around method (f.part i.production (numbered at i.below)) ≡ record { op = op; operand = o }

  -- the opcode of a mnemonic
  op_is : (op : Op) (text : List ℕ) → named_by text ≡ op → (k : ℕ) → spelling s k ≡ text → named_by (spelling s k) ≡ op
  op_is op text r k e = ap named_by e ∙ r

  nothing_read : (op : Op) → named_by (word_text (mnemonic op)) ≡ op → Reads (written.operand_item a.externs code op operand.TheVariants.Nothing) op operand.TheVariants.Nothing
  nothing_read op r at g ag = let o = op_is op (word_text (mnemonic op)) r at ag.0.0.text in λ i. record { op = o i; operand = operand.TheVariants.Nothing }

  variable_read : (op : Op) (k : ℕ) → named_by (word_text (mnemonic op)) ≡ op → is_u16 k ≡ true → Reads (written.operand_item a.externs code op (operand.TheVariants.Var k)) op (operand.TheVariants.Var k)
  unfolding ilasm rule_by
  variable_read op k r h at g ag =
      let o = op_is op (word_text (mnemonic op)) r at ag.0.0.text in
      let shown = (written.operand_item a.externs code op (operand.TheVariants.Var k)).below in
      let q = f.part p.INSTRUCTION_OP_VAR (numbered at shown) in
      let has_it : f.has p.INDEX_INT q.below ≡ true = ap f.is_any_part (searches.parts (p.INDEX_INT ∷ []) 1 (body_of p.INSTRUCTION_OP_VAR) in_forms.variable shown g at) in
      let token_is : variable_token q ≡ at + 1 = ap (f.leaf_at 0) (searches.child (p.INDEX_INT ∷ p.INDEX_NAME ∷ []) 1 (body_of p.INSTRUCTION_OP_VAR) in_forms.variable_leads shown g at) in
      let number : variable_number s method q ≡ pos k =
      if_true (f.has p.INDEX_INT q.below) (int_at s (variable_token q)) (pos (or_zero (variable_named s method (op_of s q) (variable_token q)))) has_it
      ∙ (ap (int_at s) token_is ∙ (ap (λ t. integer t) ag.1.0.0.text ∙ numbers_read.natural k (small_16 k (ltb-true k 0x10000 h)))) in
      λ i. record { op = o i; operand = operand.TheVariants.Var (natural (number i)) }

  number_read : (op : Op) (k : OperandKind) (z : ℤ) → named_by (word_text (mnemonic op)) ≡ op → operand_kind op ≡ k →
      integer (numbers.integer z) ≡ z → read.number_in k z ≡ z → Reads (written.operand_item a.externs code op (operand.TheVariants.Int z)) op (operand.TheVariants.Int z)
  number_read op k z r of_kind back fits at g ag =
      let o = op_is op (word_text (mnemonic op)) r at ag.0.0.text in
      let kind_is = ap operand_kind o ∙ of_kind in
      let value = ap (λ t. integer t) ag.1.0.text ∙ back in
      let number = ap (λ j. read.number_in j (int_at s (at + 1))) kind_is ∙ (ap (read.number_in k) value ∙ fits) in
      λ i. record { op = o i; operand = operand.TheVariants.Int (number i) }

  abbrev real_shown : Op → Bool → ℕ → Shown
  real_shown op b bits = written.op_item n.OP_REAL op (put (written.real_bits b bits) none)

  four_read : (op : Op) (bits : ℕ) → named_by (word_text (mnemonic op)) ≡ op → bits < 2 ^ 32 → (at : ℕ) → Grows (body_of p.INSTRUCTION_OP_REAL) (real_shown op true bits) →
      Agrees s at (real_shown op true bits) → read.instruction s around method (f.part p.INSTRUCTION_OP_REAL (numbered at (real_shown op true bits))) ≡ record { op = op; operand = operand.TheVariants.Real bits }
  unfolding ilasm rule_by
  four_read op bits r small at g ag =
      let o = op_is op (word_text (mnemonic op)) r at ag.0.0.text in
      let whole = numbered at (real_shown op true bits) in
      let found = searches.parts (p.REAL_BITS_FLOAT32 ∷ []) 1 (body_of p.INSTRUCTION_OP_REAL) in_forms.four (real_shown op true bits) g at in
      let value = if_true (f.has p.REAL_BITS_FLOAT32 whole) (wrapped 32 (int_at s (f.leaf_at 2 (f.the p.REAL_BITS_FLOAT32 whole))))
      (if f.has p.REAL_BITS_FLOAT64 whole then wrapped 64 (int_at s (f.leaf_at 2 (f.the p.REAL_BITS_FLOAT64 whole))) else little_number (real_bytes s (f.leaf_at 0 (f.the p.REAL_BITS_REAL_BYTES whole))))
      (ap f.is_any_part found)
      ∙ (ap (λ ps. wrapped 32 (int_at s (f.leaf_at 2 (f.first_or f.none (f.below_each ps))))) found
      ∙ (ap (λ t. wrapped 32 (integer t)) ag.1.0.1.1.0.text ∙ (ap (wrapped 32) (numbers_read.hexadecimal 8 bits (small_32 bits small)) ∙ mod-eq_of_lt small))) in
      λ i. record { op = o i; operand = operand.TheVariants.Real (value i) }

  eight_read : (op : Op) (bits : ℕ) → named_by (word_text (mnemonic op)) ≡ op → bits < 2 ^ 64 → (at : ℕ) → Grows (body_of p.INSTRUCTION_OP_REAL) (real_shown op false bits) →
      Agrees s at (real_shown op false bits) → read.instruction s around method (f.part p.INSTRUCTION_OP_REAL (numbered at (real_shown op false bits))) ≡ record { op = op; operand = operand.TheVariants.Real bits }
  unfolding ilasm rule_by
  eight_read op bits r small at g ag =
      let o = op_is op (word_text (mnemonic op)) r at ag.0.0.text in
      let whole = numbered at (real_shown op false bits) in
      let not_four = searches.parts (p.REAL_BITS_FLOAT32 ∷ []) 1 (body_of p.INSTRUCTION_OP_REAL) in_forms.four (real_shown op false bits) g at in
      let found = searches.parts (p.REAL_BITS_FLOAT64 ∷ []) 1 (body_of p.INSTRUCTION_OP_REAL) in_forms.eight (real_shown op false bits) g at in
      let other = if f.has p.REAL_BITS_FLOAT64 whole then wrapped 64 (int_at s (f.leaf_at 2 (f.the p.REAL_BITS_FLOAT64 whole))) else little_number (real_bytes s (f.leaf_at 0 (f.the p.REAL_BITS_REAL_BYTES whole))) in
      let value = if_false (f.has p.REAL_BITS_FLOAT32 whole) (wrapped 32 (int_at s (f.leaf_at 2 (f.the p.REAL_BITS_FLOAT32 whole)))) other (ap f.is_any_part not_four)
      ∙ (if_true (f.has p.REAL_BITS_FLOAT64 whole) (wrapped 64 (int_at s (f.leaf_at 2 (f.the p.REAL_BITS_FLOAT64 whole)))) (little_number (real_bytes s (f.leaf_at 0 (f.the p.REAL_BITS_REAL_BYTES whole)))) (ap f.is_any_part found)
      ∙ (ap (λ ps. wrapped 64 (int_at s (f.leaf_at 2 (f.first_or f.none (f.below_each ps))))) found
      ∙ (ap (λ t. wrapped 64 (integer t)) ag.1.0.1.1.0.text ∙ (ap (wrapped 64) (numbers_read.hexadecimal 16 bits (small_64 bits small)) ∙ mod-eq_of_lt small)))) in
      λ i. record { op = o i; operand = operand.TheVariants.Real (value i) }

  branch_read : (op : Op) (j : ℕ) → named_by (word_text (mnemonic op)) ≡ op → j < length code → Reads (written.operand_item a.externs code op (operand.TheVariants.Target j)) op (operand.TheVariants.Target j)
  branch_read op j r h at g ag =
      let o = op_is op (word_text (mnemonic op)) r at ag.0.0.text in
      let target = number_of j h (at + 1) ag.1.0.text in
      λ i. record { op = o i; operand = operand.TheVariants.Target (target i) }

  -- ---- switch

  names_row : (js : List ℕ) → list_all (λ t. nat_lt t (length code)) js ≡ true → (at : ℕ) →
      Agrees s at (star_below p.COMMA_NAME_STAR_MORE p.COMMA_NAME_STAR_END (map (written.comma_name code) js)) → (after : f.Forest) →
      map (label_number s method) (map (f.leaf_at 1) (f.below_each (f.parts (p.COMMA_NAME ∷ []) (f.branch (star_production p.COMMA_NAME_STAR_MORE p.COMMA_NAME_STAR_END (map (written.comma_name code) js)) (numbered at (star_below p.COMMA_NAME_STAR_MORE p.COMMA_NAME_STAR_END (map (written.comma_name code) js))) f.none)))) ≡ js
  names_row [] h at ag after = refl
  names_row (j ∷ js) h at ag after =
      let hs = and_parts (nat_lt j (length code)) (list_all (λ t. nat_lt t (length code)) js) h in
      let next = at + size (written.comma_name code j).below in
      let row = f.branch (star_production p.COMMA_NAME_STAR_MORE p.COMMA_NAME_STAR_END (map (written.comma_name code) js)) (numbered next (star_below p.COMMA_NAME_STAR_MORE p.COMMA_NAME_STAR_END (map (written.comma_name code) js))) f.none in
      let one = f.part p.COMMA_NAME (numbered at (written.comma_name code j).below) in
      ap (λ ps. map (label_number s method) (map (f.leaf_at 1) (f.below_each ps))) (append-nil (one ∷ f.parts (p.COMMA_NAME ∷ []) row))
      ∙ (ap (λ k. k ∷ map (label_number s method) (map (f.leaf_at 1) (f.below_each (f.parts (p.COMMA_NAME ∷ []) row)))) (number_of j (ltb-true j (length code) hs.0) (suc at) ag.0.1.0.text)
      ∙ ap (λ ks. j ∷ ks) (names_row js hs.1 next ag.1.0 after))

  switch_read : (js : List ℕ) → named_by (word_text word.SWITCH) ≡ Switch → list_all (λ t. nat_lt t (length code)) js ≡ true →
      Reads (written.operand_item a.externs code Switch (operand.TheVariants.Targets js)) Switch (operand.TheVariants.Targets js)
  switch_read [] r h at g ag = let o = op_is Switch (word_text word.SWITCH) r at ag.0.text in λ i. record { op = o i; operand = operand.TheVariants.Targets [] }
  switch_read (j ∷ js) r h at g ag =
      let o = op_is Switch (word_text word.SWITCH) r at ag.0.text in
      let hs = and_parts (nat_lt j (length code)) (list_all (λ t. nat_lt t (length code)) js) h in
      let from = suc (suc at) in
      let row = f.branch (star_production p.COMMA_NAME_STAR_MORE p.COMMA_NAME_STAR_END (map (written.comma_name code) js)) (numbered (suc from) (star_below p.COMMA_NAME_STAR_MORE p.COMMA_NAME_STAR_END (map (written.comma_name code) js))) f.none in
      let tokens = map (f.leaf_at 1) (f.below_each (f.parts (p.COMMA_NAME ∷ []) row)) in
      let labels_are = ap (map (label_number s method)) (append-nil (from ∷ tokens))
      ∙ (ap (λ k. k ∷ map (label_number s method) tokens) (number_of j (ltb-true j (length code) hs.0) from ag.1.1.0.0.0.text)
      ∙ ap (λ ks. j ∷ ks) (names_row js hs.1 (suc from) ag.1.1.0.0.1.0 f.none)) in
      λ i. record { op = o i; operand = operand.TheVariants.Targets (labels_are i) }

  -- ---- methods, fields and types

  method_read : (op : Op) (m : MethodRef) → named_by (word_text (mnemonic op)) ≡ op → is_method_ref a m ≡ true → is_method_ref_held m ≡ true →
      Reads (written.operand_item a.externs code op (operand.TheVariants.Method m)) op (operand.TheVariants.Method m)
  unfolding ilasm rule_by method_ref
  method_read op m r h k at g ag =
      let o = op_is op (word_text (mnemonic op)) r at ag.0.0.text in
      let shown = (written.operand_item a.externs code op (operand.TheVariants.Method m)).below in
      let is = ap (λ ps. references.method_ref s around (f.first_or f.none (f.below_each ps))) (searches.parts (p.METHOD_REF ∷ []) 1 (body_of p.INSTRUCTION_OP_METHOD) in_forms.method shown g at)
      ∙ formed.methods s around a knows m h k (at + 1) ag.1.0 in
      λ i. record { op = o i; operand = operand.TheVariants.Method (is i) }

  field_read : (op : Op) (m : FieldRef) → named_by (word_text (mnemonic op)) ≡ op → is_field_ref a m ≡ true → is_field_ref_held m ≡ true →
      Reads (written.operand_item a.externs code op (operand.TheVariants.Field m)) op (operand.TheVariants.Field m)
  unfolding ilasm rule_by field_ref
  field_read op m r h k at g ag =
      let o = op_is op (word_text (mnemonic op)) r at ag.0.0.text in
      let shown = (written.operand_item a.externs code op (operand.TheVariants.Field m)).below in
      let is = ap (λ ps. references.field_ref s around (f.first_or f.none (f.below_each ps))) (searches.parts (p.FIELD_REF ∷ []) 1 (body_of p.INSTRUCTION_OP_FIELD) in_forms.field shown g at)
      ∙ formed.fields s around a knows m h k (at + 1) ag.1.0 in
      λ i. record { op = o i; operand = operand.TheVariants.Field (is i) }

  none_left : owners_in s around f.none ≡ []
  unfolding types_in
  none_left = refl

  type_read : (op : Op) (t : Owner) → named_by (word_text (mnemonic op)) ≡ op → is_owner a t ≡ true → is_owner_held t ≡ true →
      Reads (written.operand_item a.externs code op (operand.TheVariants.Of t)) op (operand.TheVariants.Of t)
  unfolding ilasm rule_by
  type_read op t r h k at g ag =
      let o = op_is op (word_text (mnemonic op)) r at ag.0.0.text in
      let shown = (written.operand_item a.externs code op (operand.TheVariants.Of t)).below in
      let is = ap first_owner (walks.owners s around 1 (body_of p.INSTRUCTION_OP_TYPE) in_forms.of shown g at ∙ formed.owners s around a knows t h k (at + 1) ag.1.0 f.none) in
      λ i. record { op = o i; operand = operand.TheVariants.Of (is i) }

  -- ---- strings

  abbrev string_item : List ℕ → Bool → Item
  string_item us b = cond b (item p.STRING_OPERAND_TEXT (put (one_string (quoted_units us)) none)) (item p.STRING_OPERAND_BYTES (token kind.ByteArray (byte_array (unit_bytes us)) none))

  string_by : (us : List ℕ) → named_by (word_text word.LDSTR) ≡ Ldstr → are_units us ≡ true → (b : Bool) → is_simple_string us ≡ b →
      Reads (item p.INSTRUCTION_LDSTR (w word.LDSTR (put (string_item us b) none))) Ldstr (operand.TheVariants.Text us)
  string_by us r h true e at g ag =
      let o = op_is Ldstr (word_text word.LDSTR) r at ag.0.text in
      let is = strings.simple s us e (suc at) ag.1.0 in
      λ i. record { op = o i; operand = operand.TheVariants.Text (is i) }
  string_by us r h false e at g ag =
      let o = op_is Ldstr (word_text word.LDSTR) r at ag.0.text in
      let is = strings.bytes s us h (suc at) ag.1.0.0.text in
      λ i. record { op = o i; operand = operand.TheVariants.Text (is i) }

  -- ---- what `ldtoken` takes

  abbrev token_shown : operand.Operand → Item
  token_shown o = item p.INSTRUCTION_LDTOKEN (w word.LDTOKEN (put (written.token_item a.externs code o) none))

  method_token : (m : MethodRef) → named_by (word_text word.LDTOKEN) ≡ Ldtoken → is_method_ref a m ≡ true → is_method_ref_held m ≡ true →
      Reads (token_shown (operand.TheVariants.Method m)) Ldtoken (operand.TheVariants.Method m)
  unfolding method_ref
  method_token m r h k at g ag =
      let o = op_is Ldtoken (word_text word.LDTOKEN) r at ag.0.text in
      let is = formed.methods s around a knows m h k (suc (suc at)) ag.1.0.1.0 in
      λ i. record { op = o i; operand = operand.TheVariants.Method (is i) }

  field_token : (m : FieldRef) → named_by (word_text word.LDTOKEN) ≡ Ldtoken → is_field_ref a m ≡ true → is_field_ref_held m ≡ true →
      Reads (token_shown (operand.TheVariants.Field m)) Ldtoken (operand.TheVariants.Field m)
  unfolding ilasm rule_by field_ref
  field_token m r h k at g ag =
      let o = op_is Ldtoken (word_text word.LDTOKEN) r at ag.0.text in
      let whole = numbered at (token_shown (operand.TheVariants.Field m)).below in
      let inner = (written.token_item a.externs code (operand.TheVariants.Field m)).below in
      let no_method = ap (λ ps. f.is_any_part (ps ++ [])) (searches.nothing (p.TOKEN_OPERAND_METHOD ∷ []) (body_of p.TOKEN_OPERAND_FIELD) in_forms.no_method_in_field inner g.1.1 (suc at)) in
      let is = formed.fields s around a knows m h k (suc (suc at)) ag.1.0.1.0 in
      let token_is = if_false (f.has p.TOKEN_OPERAND_METHOD whole) (operand.TheVariants.Method (references.method_ref s around (f.the p.METHOD_REF whole)))
      (if f.has p.TOKEN_OPERAND_FIELD whole then operand.TheVariants.Field (references.field_ref s around (f.the p.FIELD_REF whole)) else operand.TheVariants.Of (the_owner s around whole)) no_method
      ∙ ap operand.TheVariants.Field is in
      λ i. record { op = o i; operand = token_is i }

  type_token : (t : Owner) → named_by (word_text word.LDTOKEN) ≡ Ldtoken → is_owner a t ≡ true → is_owner_held t ≡ true →
      Reads (token_shown (operand.TheVariants.Of t)) Ldtoken (operand.TheVariants.Of t)
  unfolding ilasm rule_by types_in
  type_token t r h k at g ag =
      let o = op_is Ldtoken (word_text word.LDTOKEN) r at ag.0.text in
      let whole = numbered at (token_shown (operand.TheVariants.Of t)).below in
      let inner = (written.token_item a.externs code (operand.TheVariants.Of t)).below in
      let no_method = ap (λ ps. f.is_any_part (ps ++ [])) (searches.nothing (p.TOKEN_OPERAND_METHOD ∷ []) (body_of p.TOKEN_OPERAND_SPEC) in_forms.no_method_in_spec inner g.1.1 (suc at)) in
      let no_field = ap (λ ps. f.is_any_part (ps ++ [])) (searches.nothing (p.TOKEN_OPERAND_FIELD ∷ []) (body_of p.TOKEN_OPERAND_SPEC) in_forms.no_field_in_spec inner g.1.1 (suc at)) in
      let found = formed.owners s around a knows t h k (suc at) ag.1.0.0 f.none in
      let owner_is = ap (λ os. first_owner (os ++ [])) found in
      let rest_is = if f.has p.TOKEN_OPERAND_FIELD whole then operand.TheVariants.Field (references.field_ref s around (f.the p.FIELD_REF whole)) else operand.TheVariants.Of (the_owner s around whole) in
      let token_is = if_false (f.has p.TOKEN_OPERAND_METHOD whole) (operand.TheVariants.Method (references.method_ref s around (f.the p.METHOD_REF whole))) rest_is no_method
      ∙ (if_false (f.has p.TOKEN_OPERAND_FIELD whole) (operand.TheVariants.Field (references.field_ref s around (f.the p.FIELD_REF whole))) (operand.TheVariants.Of (the_owner s around whole)) no_field
      ∙ ap operand.TheVariants.Of owner_is) in
      λ i. record { op = o i; operand = token_is i }

  -- ---- any of them

  integer_of_kind : (k : OperandKind) (z : ℤ) → fits_kind k (operand.TheVariants.Int z) ≡ true → is_i64 z ≡ true → (integer (numbers.integer z) ≡ z) × (read.number_in k z ≡ z)
  integer_of_kind form.Num8 z h l = (numbers_read.integer z (constants.small prim.I1 z h), constants.integers prim.I1 z h)
  integer_of_kind form.Num32 z h l = (numbers_read.integer z (constants.small prim.I4 z h), constants.integers prim.I4 z h)
  integer_of_kind form.Num64 z h l = (numbers_read.integer z (constants.small prim.I8 z l), constants.integers prim.I8 z l)
  integer_of_kind form.Byte z h l = (numbers_read.integer z (constants.small prim.U1 z h), constants.integers prim.U1 z h)
  integer_of_kind k z h l = absurd (false≢true h)

  at_most_four : (bits : ℕ) → nat_le bits 0xFFFFFFFF ≡ true → bits < 2 ^ 32
  at_most_four bits h = let low = leb-true bits 0xFFFFFFFF h in omega arith

  at_most_eight : (bits : ℕ) → is_u64 bits ≡ true → bits < 2 ^ 64
  at_most_eight bits h = let low = ltb-true bits 0x10000000000000000 h in omega arith

  number_form : (op : Op) (k : OperandKind) (z : ℤ) → named_by (word_text (mnemonic op)) ≡ op → operand_kind op ≡ k → fits_kind k (operand.TheVariants.Int z) ≡ true → is_i64 z ≡ true →
      Reads (written.operand_item a.externs code op (operand.TheVariants.Int z)) op (operand.TheVariants.Int z)
  number_form op k z r e h l = let both = integer_of_kind k z h l in number_read op k z r e both.0 both.1

  real_form : (op : Op) (bits : ℕ) (b : Bool) → is_short_real (kind_of op) ≡ b → Reads (item p.INSTRUCTION_OP_REAL (real_shown op b bits)) op (operand.TheVariants.Real bits) →
      Reads (written.operand_item a.externs code op (operand.TheVariants.Real bits)) op (operand.TheVariants.Real bits)
  real_form op bits b e h = subst (λ c. Reads (item p.INSTRUCTION_OP_REAL (real_shown op c bits)) op (operand.TheVariants.Real bits)) (sym e) h

  pub form_read : (op : Op) (k : OperandKind) (o : operand.Operand) → kind_of op ≡ k → operand_kind op ≡ k → fits_kind k o ≡ true → OpReads op k → is_operand a o ≡ true →
      is_operand_held o ≡ true → are_targets (length code) o ≡ true → Reads (by_form a code op k o) op o
  form_read op form.Nothing operand.TheVariants.Nothing e q h r m l t = nothing_read op r
  form_read op form.Var8 (operand.TheVariants.Var v) e q h r m l t = variable_read op v r l
  form_read op form.Var16 (operand.TheVariants.Var v) e q h r m l t = variable_read op v r l
  form_read op form.Num8 (operand.TheVariants.Int z) e q h r m l t = number_form op form.Num8 z r q h l
  form_read op form.Num32 (operand.TheVariants.Int z) e q h r m l t = number_form op form.Num32 z r q h l
  form_read op form.Num64 (operand.TheVariants.Int z) e q h r m l t = number_form op form.Num64 z r q h l
  form_read op form.Byte (operand.TheVariants.Int z) e q h r m l t = number_form op form.Byte z r q h l
  form_read op form.Real4 (operand.TheVariants.Real bits) e q h r m l t = real_form op bits true (ap is_short_real e) (four_read op bits r (at_most_four bits h))
  form_read op form.Real8 (operand.TheVariants.Real bits) e q h r m l t = real_form op bits false (ap is_short_real e) (eight_read op bits r (at_most_eight bits l))
  form_read op form.Branch8 (operand.TheVariants.Target j) e q h r m l t = branch_read op j r (ltb-true j (length code) t)
  form_read op form.Branch32 (operand.TheVariants.Target j) e q h r m l t = branch_read op j r (ltb-true j (length code) t)
  form_read op form.Switch (operand.TheVariants.Targets js) e q h r m l t =
      subst (λ x. Reads (by_form a code x form.Switch (operand.TheVariants.Targets js)) x (operand.TheVariants.Targets js)) (sym r.0) (switch_read js r.1 t)
  form_read op form.Method (operand.TheVariants.Method x) e q h r m l t = method_read op x r m l
  form_read op form.Field (operand.TheVariants.Field x) e q h r m l t = field_read op x r m l
  form_read op form.Of (operand.TheVariants.Of x) e q h r m l t = type_read op x r m l
  form_read op form.Text (operand.TheVariants.Text us) e q h r m l t =
      subst (λ x. Reads (by_form a code x form.Text (operand.TheVariants.Text us)) x (operand.TheVariants.Text us)) (sym r.0) (string_by us r.1 l (is_simple_string us) refl)
  form_read op form.Token (operand.TheVariants.Method x) e q h r m l t =
      subst (λ y. Reads (by_form a code y form.Token (operand.TheVariants.Method x)) y (operand.TheVariants.Method x)) (sym r.0) (method_token x r.1 m l)
  form_read op form.Token (operand.TheVariants.Field x) e q h r m l t =
      subst (λ y. Reads (by_form a code y form.Token (operand.TheVariants.Field x)) y (operand.TheVariants.Field x)) (sym r.0) (field_token x r.1 m l)
  form_read op form.Token (operand.TheVariants.Of x) e q h r m l t =
      subst (λ y. Reads (by_form a code y form.Token (operand.TheVariants.Of x)) y (operand.TheVariants.Of x)) (sym r.0) (type_token x r.1 m l)
  form_read op k o e q h r m l t = absurd (false≢true h)

  pub instruction_read : (i : Ins) → is_instruction (length code) i ≡ true → is_operand a i.operand ≡ true → is_instruction_held i ≡ true →
      Reads (written.instruction a.externs code i) i.op i.operand
  unfolding operand_kind is_instruction_held
  instruction_read i h m l =
      let hs = and_parts (fits_kind (operand_kind i.op) i.operand) (are_targets (length code) i.operand) h in
      form_read i.op (kind_of i.op) i.operand refl refl hs.0 (op_reads i.op) m l hs.1

-- ---- where they begin, and that they are instructions

-- the first token of an instruction is its mnemonic
pub form_begins : (a : Assembly) (code : List Ins) (op : Op) (k : OperandKind) (o : operand.Operand) → fits_kind k o ≡ true → (at : ℕ) →
    mnemonic_token (f.part (by_form a code op k o).production (numbered at (by_form a code op k o).below)) ≡ at
form_begins a code op form.Nothing operand.TheVariants.Nothing h at = refl
form_begins a code op form.Var8 (operand.TheVariants.Var v) h at = refl
form_begins a code op form.Var16 (operand.TheVariants.Var v) h at = refl
form_begins a code op form.Num8 (operand.TheVariants.Int z) h at = refl
form_begins a code op form.Num32 (operand.TheVariants.Int z) h at = refl
form_begins a code op form.Num64 (operand.TheVariants.Int z) h at = refl
form_begins a code op form.Byte (operand.TheVariants.Int z) h at = refl
form_begins a code op form.Real4 (operand.TheVariants.Real bits) h at = refl
form_begins a code op form.Real8 (operand.TheVariants.Real bits) h at = refl
form_begins a code op form.Branch8 (operand.TheVariants.Target j) h at = refl
form_begins a code op form.Branch32 (operand.TheVariants.Target j) h at = refl
form_begins a code op form.Switch (operand.TheVariants.Targets js) h at = refl
form_begins a code op form.Method (operand.TheVariants.Method x) h at = refl
form_begins a code op form.Field (operand.TheVariants.Field x) h at = refl
form_begins a code op form.Of (operand.TheVariants.Of x) h at = refl
form_begins a code op form.Text (operand.TheVariants.Text us) h at = refl
form_begins a code op form.Token (operand.TheVariants.Method x) h at = refl
form_begins a code op form.Token (operand.TheVariants.Field x) h at = refl
form_begins a code op form.Token (operand.TheVariants.Of x) h at = refl
form_begins a code op k o h at = absurd (false≢true h)

pub form_among : (a : Assembly) (code : List Ins) (op : Op) (k : OperandKind) (o : operand.Operand) → fits_kind k o ≡ true → f.is_among instruction_forms (by_form a code op k o).production ≡ true
form_among a code op form.Nothing operand.TheVariants.Nothing h = refl
form_among a code op form.Var8 (operand.TheVariants.Var v) h = refl
form_among a code op form.Var16 (operand.TheVariants.Var v) h = refl
form_among a code op form.Num8 (operand.TheVariants.Int z) h = refl
form_among a code op form.Num32 (operand.TheVariants.Int z) h = refl
form_among a code op form.Num64 (operand.TheVariants.Int z) h = refl
form_among a code op form.Byte (operand.TheVariants.Int z) h = refl
form_among a code op form.Real4 (operand.TheVariants.Real bits) h = refl
form_among a code op form.Real8 (operand.TheVariants.Real bits) h = refl
form_among a code op form.Branch8 (operand.TheVariants.Target j) h = refl
form_among a code op form.Branch32 (operand.TheVariants.Target j) h = refl
form_among a code op form.Switch (operand.TheVariants.Targets js) h = refl
form_among a code op form.Method (operand.TheVariants.Method x) h = refl
form_among a code op form.Field (operand.TheVariants.Field x) h = refl
form_among a code op form.Of (operand.TheVariants.Of x) h = refl
form_among a code op form.Text (operand.TheVariants.Text us) h = refl
form_among a code op form.Token (operand.TheVariants.Method x) h = refl
form_among a code op form.Token (operand.TheVariants.Field x) h = refl
form_among a code op form.Token (operand.TheVariants.Of x) h = refl
form_among a code op k o h = absurd (false≢true h)

-- it has a token
pub form_some : (a : Assembly) (code : List Ins) (op : Op) (k : OperandKind) (o : operand.Operand) → fits_kind k o ≡ true → 0 < size (by_form a code op k o).below
form_some a code op form.Nothing operand.TheVariants.Nothing h = omega arith
form_some a code op form.Var8 (operand.TheVariants.Var v) h = omega arith
form_some a code op form.Var16 (operand.TheVariants.Var v) h = omega arith
form_some a code op form.Num8 (operand.TheVariants.Int z) h = omega arith
form_some a code op form.Num32 (operand.TheVariants.Int z) h = omega arith
form_some a code op form.Num64 (operand.TheVariants.Int z) h = omega arith
form_some a code op form.Byte (operand.TheVariants.Int z) h = omega arith
form_some a code op form.Real4 (operand.TheVariants.Real bits) h = omega arith
form_some a code op form.Real8 (operand.TheVariants.Real bits) h = omega arith
form_some a code op form.Branch8 (operand.TheVariants.Target j) h = omega arith
form_some a code op form.Branch32 (operand.TheVariants.Target j) h = omega arith
form_some a code op form.Switch (operand.TheVariants.Targets js) h = omega arith
form_some a code op form.Method (operand.TheVariants.Method x) h = omega arith
form_some a code op form.Field (operand.TheVariants.Field x) h = omega arith
form_some a code op form.Of (operand.TheVariants.Of x) h = omega arith
form_some a code op form.Text (operand.TheVariants.Text us) h = omega arith
form_some a code op form.Token (operand.TheVariants.Method x) h = omega arith
form_some a code op form.Token (operand.TheVariants.Field x) h = omega arith
form_some a code op form.Token (operand.TheVariants.Of x) h = omega arith
form_some a code op k o h = absurd (false≢true h)
