-- The operand of each instruction fits its opcode, in a source that breaks no rule (ECMA-335 III.1.7).
use Rattle.std.proofs.Common.{◌≡◌, ℕ, ◌+◌, inl, inr, List, [], ◌∷◌, Some, refl, ap, sym, ◌∙◌}
use Rattle.std.specs.Prelude.{Bool, true, false, if◌then◌else◌, pos}
use Rattle.std.specs.List.{flat_map}
use Rattle.std.proofs.lemmas.Bool.{cases_Bool}
use Rattle.il_lexer.specs.Lexing.{Lexes}
use Rattle.il_lexer.specs.Longest.{LongestSpelling}
use Rattle.il_lexer.specs.Unplaced.{ReadsAsItLexes}
use Rattle.il_lexer.specs.declared.word.TheConstants.{CLOSE_PAREN, LDSTR, LDTOKEN, OPEN_PAREN, SWITCH}
use Rattle.opcode_table.specs.declared.kind.OperandKind.{OperandKind}
use Rattle.opcode_table.specs.declared.kind.OperandKind.TheVariants as takes
use Rattle.assembly_tree.specs.WellFormedBodies.{fits_kind, operand_kind}
use Rattle.assembly_tree.specs.declared.body.Operand.TheVariants as operand
use Rattle.ilasm_grammar.specs.Grammar.{rule_of}
use Rattle.ilasm_grammar.specs.Ilasm.{ilasm, rule_by}
use Rattle.ilasm_grammar.specs.declared.nonterminals.TheConstants as n
use Rattle.ilasm_grammar.specs.declared.productions.TheConstants.{FIELD_REF, INSTRUCTION_OP_NONE, INSTRUCTION_OP_VAR, INSTRUCTION_OP_NUM, INSTRUCTION_OP_REAL, INSTRUCTION_OP_BRANCH, INSTRUCTION_OP_METHOD, INSTRUCTION_OP_FIELD, INSTRUCTION_OP_TYPE, INSTRUCTION_SWITCH, INSTRUCTION_LDSTR, INSTRUCTION_LDTOKEN, METHOD_REF, TOKEN_OPERAND_FIELD, TOKEN_OPERAND_METHOD}
use Rattle.ilasm_grammar.specs.declared.symbol.Symbol.{Symbol}
use Rattle.ilasm_grammar.specs.declared.symbol.Symbol.TheVariants.{Terminal, Nonterminal}
use Rattle.ilasm_grammar.specs.declared.terminals.TheConstants as t
use Rattle.source_model.specs.BodyNumbers.{greatest_variable, real_bits_out_of_range, real_out_of_range, variable_out_of_range}
use Rattle.source_model.specs.Forest.{Forest, Part, has, is_among, leaf_at, part, parts, the}
use Rattle.source_model.specs.Instructions.{instruction_forms, label_number, op_of}
use Rattle.source_model.specs.Nodes.{Around}
use Rattle.source_model.specs.Operands.{number_token, operand_of, real_bits, token_operand}
use Rattle.source_model.specs.References.{field_ref, method_ref}
use Rattle.source_model.specs.Source.{Source}
use Rattle.source_model.specs.TypeRules.{is_within}
use Rattle.source_model.specs.Types.{the_owner}
use Rattle.source_model.specs.Values.{int_at}
use Rattle.source_model.specs.Variables.{variable_number, variable_token}
use Rattle.source_nodes.specs.Derived.{FitsBody, HasBodies}
use Rattle.source_nodes.proofs.WrittenNames.{fits_rule}
use Rattle.check_bodies.proofs.RealParts.{has_real, real_forms}
use Rattle.laws_formed_sources.proofs.sources.Rules.{for_each}
use Rattle.laws_formed_sources.proofs.bodies.Fitting.{field_fits, method_fits, nothing_fits, number_fits, owner_fits, real_fits, target_fits, variable_fits}
use Rattle.laws_formed_sources.proofs.bodies.Reals.{bits_small}
use Rattle.laws_formed_sources.proofs.bodies.Words.{class_is, ldstr_is, ldtoken_is, switch_is}

-- ---- the bodies of instructions

abbrev pub none_body : List Symbol
none_body = Nonterminal n.OP_NONE ∷ []

rule_none : ilasm INSTRUCTION_OP_NONE ≡ Some (rule_of n.INSTRUCTION none_body)
unfolding ilasm rule_by
rule_none = refl

abbrev pub var_body : List Symbol
var_body = Nonterminal n.OP_VAR ∷ Nonterminal n.INDEX ∷ []

rule_var : ilasm INSTRUCTION_OP_VAR ≡ Some (rule_of n.INSTRUCTION var_body)
unfolding ilasm rule_by
rule_var = refl

abbrev pub num_body : List Symbol
num_body = Nonterminal n.OP_NUM ∷ Terminal t.INT ∷ []

rule_num : ilasm INSTRUCTION_OP_NUM ≡ Some (rule_of n.INSTRUCTION num_body)
unfolding ilasm rule_by
rule_num = refl

abbrev pub real_body : List Symbol
real_body = Nonterminal n.OP_REAL ∷ Nonterminal n.REAL_BITS ∷ []

rule_real : ilasm INSTRUCTION_OP_REAL ≡ Some (rule_of n.INSTRUCTION real_body)
unfolding ilasm rule_by
rule_real = refl

abbrev pub branch_body : List Symbol
branch_body = Nonterminal n.OP_BRANCH ∷ Terminal t.NAME ∷ []

rule_branch : ilasm INSTRUCTION_OP_BRANCH ≡ Some (rule_of n.INSTRUCTION branch_body)
unfolding ilasm rule_by
rule_branch = refl

abbrev pub method_body : List Symbol
method_body = Nonterminal n.OP_METHOD ∷ Nonterminal n.METHOD_REF ∷ []

rule_method : ilasm INSTRUCTION_OP_METHOD ≡ Some (rule_of n.INSTRUCTION method_body)
unfolding ilasm rule_by
rule_method = refl

abbrev pub field_body : List Symbol
field_body = Nonterminal n.OP_FIELD ∷ Nonterminal n.FIELD_REF ∷ []

rule_field : ilasm INSTRUCTION_OP_FIELD ≡ Some (rule_of n.INSTRUCTION field_body)
unfolding ilasm rule_by
rule_field = refl

abbrev pub type_body : List Symbol
type_body = Nonterminal n.OP_TYPE ∷ Nonterminal n.SPEC ∷ []

rule_type : ilasm INSTRUCTION_OP_TYPE ≡ Some (rule_of n.INSTRUCTION type_body)
unfolding ilasm rule_by
rule_type = refl

abbrev pub switch_body : List Symbol
switch_body = Terminal (t.WORDS + SWITCH) ∷ Terminal (t.WORDS + OPEN_PAREN) ∷ Nonterminal n.NAMES_OPT ∷ Terminal (t.WORDS + CLOSE_PAREN) ∷ []

rule_switch : ilasm INSTRUCTION_SWITCH ≡ Some (rule_of n.INSTRUCTION switch_body)
unfolding ilasm rule_by
rule_switch = refl

abbrev pub ldstr_body : List Symbol
ldstr_body = Terminal (t.WORDS + LDSTR) ∷ Nonterminal n.STRING_OPERAND ∷ []

rule_ldstr : ilasm INSTRUCTION_LDSTR ≡ Some (rule_of n.INSTRUCTION ldstr_body)
unfolding ilasm rule_by
rule_ldstr = refl

abbrev pub ldtoken_body : List Symbol
ldtoken_body = Terminal (t.WORDS + LDTOKEN) ∷ Nonterminal n.TOKEN_OPERAND ∷ []

rule_ldtoken : ilasm INSTRUCTION_LDTOKEN ≡ Some (rule_of n.INSTRUCTION ldtoken_body)
unfolding ilasm rule_by
rule_ldtoken = refl

holds : (c : Bool) (k : ℕ) → (if c then [] else k ∷ []) ≡ [] → c ≡ true
holds true k e = refl
holds false k e = absurd cc

-- ---- operands

module _ (longest : LongestSpelling) (reads : ReadsAsItLexes) (s : Source) (lexes : Lexes s.bytes s.tokens) (a : Around) (f : Forest) where
  abbrev kind_at : ℕ → Forest → OperandKind
  kind_at q b = operand_kind (op_of s (part q b))

  abbrev pub OperandFits : Part → Type 0
  OperandFits p = fits_kind (operand_kind (op_of s p)) (operand_of s a f p) ≡ true

  -- what the rules on numbers say of an instruction
  pub record NumbersFit (p : Part) : Type 0 where
    pub real : p.production ≡ INSTRUCTION_OP_REAL → real_out_of_range s p ≡ []
    pub variable : p.production ≡ INSTRUCTION_OP_VAR → variable_out_of_range s f p ≡ []

  abbrev At : Forest → ℕ → Type 0
  At b q = FitsBody s q b → HasBodies s b → NumbersFit (part q b) → OperandFits (part q b)

  module _ (b : Forest) where
    none_at : At b INSTRUCTION_OP_NONE
    none_at fits each rules = nothing_fits (kind_at INSTRUCTION_OP_NONE b) (class_is longest reads s lexes n.OP_NONE [] b refl (fits_rule s INSTRUCTION_OP_NONE n.INSTRUCTION none_body b rule_none fits) each)

    var_at : At b INSTRUCTION_OP_VAR
    var_at fits each rules =
        let p = part INSTRUCTION_OP_VAR b in
        let k = kind_at INSTRUCTION_OP_VAR b in
        variable_fits (variable_number s f p) k (class_is longest reads s lexes n.OP_VAR (Nonterminal n.INDEX ∷ []) b refl (fits_rule s INSTRUCTION_OP_VAR n.INSTRUCTION var_body b rule_var fits) each)
        (holds (is_within (pos 0) (pos (greatest_variable k)) (variable_number s f p)) (variable_token p) (rules.variable refl))

    num_at : At b INSTRUCTION_OP_NUM
    num_at fits each rules =
        number_fits (int_at s (number_token (part INSTRUCTION_OP_NUM b))) (kind_at INSTRUCTION_OP_NUM b)
        (class_is longest reads s lexes n.OP_NUM (Terminal t.INT ∷ []) b refl (fits_rule s INSTRUCTION_OP_NUM n.INSTRUCTION num_body b rule_num fits) each)

    real_at : At b INSTRUCTION_OP_REAL
    real_at fits each rules =
        let k = kind_at INSTRUCTION_OP_REAL b in
        real_fits (real_bits s b) k (class_is longest reads s lexes n.OP_REAL (Nonterminal n.REAL_BITS ∷ []) b refl (fits_rule s INSTRUCTION_OP_REAL n.INSTRUCTION real_body b rule_real fits) each)
        (λ wide.
        bits_small longest reads s lexes b (has_real s b fits each)
        (ap (λ w. flat_map (real_bits_out_of_range s w) (parts real_forms b)) (sym wide) ∙ rules.real refl))

    branch_at : At b INSTRUCTION_OP_BRANCH
    branch_at fits each rules =
        target_fits (label_number s f (leaf_at 0 b)) (kind_at INSTRUCTION_OP_BRANCH b)
        (class_is longest reads s lexes n.OP_BRANCH (Terminal t.NAME ∷ []) b refl (fits_rule s INSTRUCTION_OP_BRANCH n.INSTRUCTION branch_body b rule_branch fits) each)

    method_at : At b INSTRUCTION_OP_METHOD
    method_at fits each rules =
        method_fits (method_ref s a (the METHOD_REF b)) (kind_at INSTRUCTION_OP_METHOD b)
        (class_is longest reads s lexes n.OP_METHOD (Nonterminal n.METHOD_REF ∷ []) b refl (fits_rule s INSTRUCTION_OP_METHOD n.INSTRUCTION method_body b rule_method fits) each)

    field_at : At b INSTRUCTION_OP_FIELD
    field_at fits each rules =
        field_fits (field_ref s a (the FIELD_REF b)) (kind_at INSTRUCTION_OP_FIELD b)
        (class_is longest reads s lexes n.OP_FIELD (Nonterminal n.FIELD_REF ∷ []) b refl (fits_rule s INSTRUCTION_OP_FIELD n.INSTRUCTION field_body b rule_field fits) each)

    type_at : At b INSTRUCTION_OP_TYPE
    type_at fits each rules =
        owner_fits (the_owner s a b) (kind_at INSTRUCTION_OP_TYPE b)
        (class_is longest reads s lexes n.OP_TYPE (Nonterminal n.SPEC ∷ []) b refl (fits_rule s INSTRUCTION_OP_TYPE n.INSTRUCTION type_body b rule_type fits) each)

    switch_at : At b INSTRUCTION_SWITCH
    switch_at fits each rules =
        ap (λ k. fits_kind k (operand_of s a f (part INSTRUCTION_SWITCH b)))
        (switch_is longest reads s lexes (Terminal (t.WORDS + OPEN_PAREN) ∷ Nonterminal n.NAMES_OPT ∷ Terminal (t.WORDS + CLOSE_PAREN) ∷ []) b (fits_rule s INSTRUCTION_SWITCH n.INSTRUCTION switch_body b rule_switch fits))

    ldstr_at : At b INSTRUCTION_LDSTR
    ldstr_at fits each rules =
        ap (λ k. fits_kind k (operand_of s a f (part INSTRUCTION_LDSTR b)))
        (ldstr_is longest reads s lexes (Nonterminal n.STRING_OPERAND ∷ []) b (fits_rule s INSTRUCTION_LDSTR n.INSTRUCTION ldstr_body b rule_ldstr fits))

    ldtoken_at : At b INSTRUCTION_LDTOKEN
    ldtoken_at fits each rules =
        ap (λ k. fits_kind k (token_operand s a b)) (ldtoken_is longest reads s lexes (Nonterminal n.TOKEN_OPERAND ∷ []) b (fits_rule s INSTRUCTION_LDTOKEN n.INSTRUCTION ldtoken_body b rule_ldtoken fits))
        ∙ elim (cases_Bool (has TOKEN_OPERAND_METHOD b)) [
          | inl method ↦ ap (λ (c : Bool). fits_kind takes.Token (if c then operand.Method (method_ref s a (the METHOD_REF b)) else if has TOKEN_OPERAND_FIELD b then operand.Field (field_ref s a (the FIELD_REF b)) else operand.Of (the_owner s a b))) method
          | inr other ↦
              ap (λ (c : Bool). fits_kind takes.Token (if c then operand.Method (method_ref s a (the METHOD_REF b)) else if has TOKEN_OPERAND_FIELD b then operand.Field (field_ref s a (the FIELD_REF b)) else operand.Of (the_owner s a b))) other
              ∙ elim (cases_Bool (has TOKEN_OPERAND_FIELD b)) [
                | inl field ↦ ap (λ (c : Bool). fits_kind takes.Token (if c then operand.Field (field_ref s a (the FIELD_REF b)) else operand.Of (the_owner s a b))) field
                | inr neither ↦ ap (λ (c : Bool). fits_kind takes.Token (if c then operand.Field (field_ref s a (the FIELD_REF b)) else operand.Of (the_owner s a b))) neither
              ]
        ]

  pub operand_fits : (p : Part) → is_among instruction_forms p.production ≡ true → FitsBody s p.production p.below → HasBodies s p.below → NumbersFit p → OperandFits p
  operand_fits p among fits each rules =
      let b = p.below in
      for_each (At b) instruction_forms
      (none_at b, (var_at b, (num_at b, (real_at b, (branch_at b, (method_at b, (field_at b, (type_at b, (switch_at b, (ldstr_at b, (ldtoken_at b, tt)))))))))))
      p.production among fits each rules
