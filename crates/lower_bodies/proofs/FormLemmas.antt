-- The operands of instructions, from their productions.
use Rattle.std.proofs.Common.{◌≡◌, ℕ, ap, sym, ◌∙◌, refl}
use Rattle.std.specs.Prelude.{Bool, true, false, ◌==◌, if◌then◌else◌, map}
use Rattle.std.proofs.lemmas.Bool.Decides.{Decides-eqb}
use Rattle.opcode_table.specs.Opcodes as opcodes
use Rattle.opcode_table.specs.declared.kind.OperandKind.{OperandKind}
use Rattle.opcode_table.specs.declared.op.Op.{Op}
use Rattle.assembly_tree.specs.WellFormedBodies.{operand_kind}
use Rattle.assembly_tree.specs.declared.body.Operand.{Operand}
use Rattle.assembly_tree.specs.declared.body.Operand.TheVariants as operand
use Rattle.ilasm_grammar.specs.declared.productions.TheConstants.{
  FIELD_REF,
  INSTRUCTION_LDSTR,
  INSTRUCTION_OP_BRANCH,
  INSTRUCTION_OP_FIELD,
  INSTRUCTION_OP_METHOD,
  INSTRUCTION_OP_NONE,
  INSTRUCTION_OP_NUM,
  INSTRUCTION_OP_REAL,
  INSTRUCTION_OP_TYPE,
  INSTRUCTION_OP_VAR,
  INSTRUCTION_SWITCH,
  METHOD_REF,
}
use Rattle.source_model.specs.Forest.{Forest, Part, leaf_at, the}
use Rattle.source_model.specs.Instructions.{label_number, op_of, targets}
use Rattle.source_model.specs.Nodes.{Around}
use Rattle.source_model.specs.Operands.{number_in, number_token, operand_of, real_bits, string_units, token_operand}
use Rattle.source_model.specs.References.{field_ref, method_ref}
use Rattle.source_model.specs.Shapes.{natural}
use Rattle.source_model.specs.Source.{Source}
use Rattle.source_model.specs.Types.{the_owner}
use Rattle.source_model.specs.Values.{int_at}
use Rattle.source_model.specs.Variables.{variable_number}
use Rattle.lower_bodies.specs.Operands.{other_operand, reference_operand}

-- a production that isn't that of a form
pub other_form : {q p : ℕ} (form : ℕ) → q ≡ p → (q ≡ form → ⊥) → (p == form) ≡ false
other_form {q} {p} form e h = go (p == form) refl
  where
    go : (c : Bool) → (p == form) ≡ c → c ≡ false
    go true is = absurd (h (e ∙ (Decides-eqb p form).0 is))
    go false is = refl

-- the kind of an operand, from the opcode that was read
pub kind_is : (k : OperandKind) (o op : Op) → k ≡ opcodes.kind_of o → o ≡ op → k ≡ operand_kind op
unfolding operand_kind
kind_is k o op is same = is ∙ ap opcodes.kind_of same

module _ (s : Source) (a : Around) (f : Forest) (p : Part) where
  -- what each form gives, and what is left of the other forms
  abbrev to_method : Operand
  to_method = operand.Method (method_ref s a (the METHOD_REF p.below))

  abbrev to_field : Operand
  to_field = operand.Field (field_ref s a (the FIELD_REF p.below))

  abbrev to_owner : Operand
  to_owner = operand.Of (the_owner s a p.below)

  abbrev to_label : Operand
  to_label = operand.Target (label_number s f (leaf_at 0 p.below))

  abbrev to_labels : Operand
  to_labels = operand.Targets (map (label_number s f) (targets p))

  abbrev to_text : Operand
  to_text = operand.Text (string_units s p.below)

  abbrev to_token : Operand
  to_token = token_operand s a p.below

  abbrev refers : ℕ → Operand
  refers q =
      if q == INSTRUCTION_OP_METHOD then to_method else if q == INSTRUCTION_OP_FIELD then to_field else if q == INSTRUCTION_OP_TYPE then to_owner
      else to_token

  pub refers_at : (q : ℕ) → q ≡ p.production → refers q ≡ reference_operand s a p
  refers_at q e = ap refers e

  pub refers_else : (p.production == INSTRUCTION_OP_METHOD) ≡ false → (p.production == INSTRUCTION_OP_FIELD) ≡ false → (p.production == INSTRUCTION_OP_TYPE) ≡ false
      → to_token ≡ reference_operand s a p
  refers_else m d o =
      sym
      (ap (λ (c : Bool). if c then to_method else if p.production == INSTRUCTION_OP_FIELD then to_field else if p.production == INSTRUCTION_OP_TYPE then to_owner else to_token) m
      ∙ ap (λ (c : Bool). if c then to_field else if p.production == INSTRUCTION_OP_TYPE then to_owner else to_token) d
      ∙ ap (λ (c : Bool). if c then to_owner else to_token) o)

  abbrev other_at : ℕ → Operand
  other_at q =
      if q == INSTRUCTION_OP_BRANCH then to_label else if q == INSTRUCTION_SWITCH then to_labels else if q == INSTRUCTION_LDSTR then to_text
      else refers q

  pub is_other_at : (q : ℕ) → q ≡ p.production → other_at q ≡ other_operand s a f p
  is_other_at q e = ap other_at e

  pub is_other_else : (p.production == INSTRUCTION_OP_BRANCH) ≡ false → (p.production == INSTRUCTION_SWITCH) ≡ false → (p.production == INSTRUCTION_LDSTR) ≡ false
      → reference_operand s a p ≡ other_operand s a f p
  is_other_else b w t =
      sym
      (ap (λ (c : Bool). if c then to_label else if p.production == INSTRUCTION_SWITCH then to_labels else if p.production == INSTRUCTION_LDSTR then to_text else refers p.production) b
      ∙ ap (λ (c : Bool). if c then to_labels else if p.production == INSTRUCTION_LDSTR then to_text else refers p.production) w
      ∙ ap (λ (c : Bool). if c then to_text else refers p.production) t)

  -- as the definition has them in their order
  abbrev to_variable : Operand
  to_variable = operand.Var (natural (variable_number s f p))

  abbrev to_number : Operand
  to_number = operand.Int (number_in (operand_kind (op_of s p)) (int_at s (number_token p)))

  abbrev to_real : Operand
  to_real = operand.Real (real_bits s p.below)

  abbrev rest_at : ℕ → Operand
  rest_at q =
      if q == INSTRUCTION_OP_BRANCH then to_label else if q == INSTRUCTION_OP_METHOD then to_method else if q == INSTRUCTION_OP_FIELD then to_field
      else if q == INSTRUCTION_OP_TYPE then to_owner else if q == INSTRUCTION_SWITCH then to_labels else if q == INSTRUCTION_LDSTR then to_text
      else to_token

  abbrev form_at : ℕ → Operand
  form_at q =
      if q == INSTRUCTION_OP_NONE then operand.Nothing else if q == INSTRUCTION_OP_VAR then to_variable else if q == INSTRUCTION_OP_NUM then to_number
      else if q == INSTRUCTION_OP_REAL then to_real else rest_at q

  pub is_form_at : (q : ℕ) → q ≡ p.production → form_at q ≡ operand_of s a f p
  is_form_at q e = ap form_at e

  -- where an instruction takes neither nothing nor a number, the order of the other forms says nothing
  same_rest : other_operand s a f p ≡ rest_at p.production
  same_rest =
      go (p.production == INSTRUCTION_OP_METHOD) (p.production == INSTRUCTION_OP_FIELD) (p.production == INSTRUCTION_OP_TYPE) refl refl refl
    where
      both : (x y : ℕ) → (x == y) ≡ false → (p.production == x) ≡ true → (p.production == y) ≡ false
      both x y apart is = ap (λ q. q == y) ((Decides-eqb p.production x).0 is) ∙ apart

      chosen : (m d o w t : Bool) → Operand
      chosen m d o w t = if w then to_labels else if t then to_text else if m then to_method else if d then to_field else if o then to_owner else to_token

      ordered : (m d o w t : Bool) → Operand
      ordered m d o w t = if m then to_method else if d then to_field else if o then to_owner else if w then to_labels else if t then to_text else to_token

      outer : {u v : Operand} → u ≡ v → (if p.production == INSTRUCTION_OP_BRANCH then to_label else u) ≡ (if p.production == INSTRUCTION_OP_BRANCH then to_label else v)
      outer e = ap (λ z. if p.production == INSTRUCTION_OP_BRANCH then to_label else z) e

      settled : (m d o w t : Bool) → (p.production == INSTRUCTION_OP_METHOD) ≡ m → (p.production == INSTRUCTION_OP_FIELD) ≡ d → (p.production == INSTRUCTION_OP_TYPE) ≡ o
          → (p.production == INSTRUCTION_SWITCH) ≡ w → (p.production == INSTRUCTION_LDSTR) ≡ t → chosen m d o w t ≡ ordered m d o w t
          → other_operand s a f p ≡ rest_at p.production
      settled m d o w t em ed eo ew et same =
          outer
          (ap (λ c. chosen c (p.production == INSTRUCTION_OP_FIELD) (p.production == INSTRUCTION_OP_TYPE) (p.production == INSTRUCTION_SWITCH) (p.production == INSTRUCTION_LDSTR)) em
          ∙ ap (λ c. chosen m c (p.production == INSTRUCTION_OP_TYPE) (p.production == INSTRUCTION_SWITCH) (p.production == INSTRUCTION_LDSTR)) ed
          ∙ ap (λ c. chosen m d c (p.production == INSTRUCTION_SWITCH) (p.production == INSTRUCTION_LDSTR)) eo
          ∙ ap (λ c. chosen m d o c (p.production == INSTRUCTION_LDSTR)) ew
          ∙ ap (λ c. chosen m d o w c) et
          ∙ same
          ∙ sym (ap (λ c. ordered m d o w c) et)
          ∙ sym (ap (λ c. ordered m d o c (p.production == INSTRUCTION_LDSTR)) ew)
          ∙ sym (ap (λ c. ordered m d c (p.production == INSTRUCTION_SWITCH) (p.production == INSTRUCTION_LDSTR)) eo)
          ∙ sym (ap (λ c. ordered m c (p.production == INSTRUCTION_OP_TYPE) (p.production == INSTRUCTION_SWITCH) (p.production == INSTRUCTION_LDSTR)) ed)
          ∙ sym (ap (λ c. ordered c (p.production == INSTRUCTION_OP_FIELD) (p.production == INSTRUCTION_OP_TYPE) (p.production == INSTRUCTION_SWITCH) (p.production == INSTRUCTION_LDSTR)) em))

      go : (m d o : Bool) → (p.production == INSTRUCTION_OP_METHOD) ≡ m → (p.production == INSTRUCTION_OP_FIELD) ≡ d → (p.production == INSTRUCTION_OP_TYPE) ≡ o
          → other_operand s a f p ≡ rest_at p.production
      go true d o em ed eo =
          settled true d o false false em ed eo (both INSTRUCTION_OP_METHOD INSTRUCTION_SWITCH refl em) (both INSTRUCTION_OP_METHOD INSTRUCTION_LDSTR refl em) refl
      go false true o em ed eo =
          settled false true o false false em ed eo (both INSTRUCTION_OP_FIELD INSTRUCTION_SWITCH refl ed) (both INSTRUCTION_OP_FIELD INSTRUCTION_LDSTR refl ed) refl
      go false false true em ed eo =
          settled false false true false false em ed eo (both INSTRUCTION_OP_TYPE INSTRUCTION_SWITCH refl eo) (both INSTRUCTION_OP_TYPE INSTRUCTION_LDSTR refl eo) refl
      go false false false em ed eo =
          settled false false false (p.production == INSTRUCTION_SWITCH) (p.production == INSTRUCTION_LDSTR) em ed eo refl refl refl

  pub is_form_else : (p.production == INSTRUCTION_OP_NONE) ≡ false → (p.production == INSTRUCTION_OP_VAR) ≡ false → (p.production == INSTRUCTION_OP_NUM) ≡ false
      → (p.production == INSTRUCTION_OP_REAL) ≡ false → other_operand s a f p ≡ operand_of s a f p
  is_form_else o v n r =
      same_rest
      ∙ sym
      (ap
      (λ (c : Bool). if c then operand.Nothing else if p.production == INSTRUCTION_OP_VAR then to_variable else if p.production == INSTRUCTION_OP_NUM then to_number
      else if p.production == INSTRUCTION_OP_REAL then to_real else rest_at p.production) o
      ∙ ap
      (λ (c : Bool). if c then to_variable else if p.production == INSTRUCTION_OP_NUM then to_number else if p.production == INSTRUCTION_OP_REAL then to_real
      else rest_at p.production) v
      ∙ ap (λ (c : Bool). if c then to_number else if p.production == INSTRUCTION_OP_REAL then to_real else rest_at p.production) n
      ∙ ap (λ (c : Bool). if c then to_real else rest_at p.production) r)
