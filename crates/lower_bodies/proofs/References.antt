-- Which instructions hold references, strings and numbers, from the bodies of their productions (ECMA-335 III.1.7, III.4).
use Rattle.std.proofs.Common.{◌≡◌, ℕ, ◌+◌, ◌⊎◌, inl, inr, List, [], ◌∷◌, Some, refl, subst, arith}
use Rattle.std.specs.Prelude.{Bool, true, false, ◌==◌, nat_lt, slice_get}
use Rattle.std.proofs.lemmas.Bool.{ltb-true}
use Rattle.std.proofs.lemmas.Bool.Decides.{Decides-eqb}
use Rattle.il_lexer.specs.declared.types.TokenKind.TheVariants as kind
use Rattle.il_lexer.specs.declared.word.TheConstants as word
use Rattle.ilasm_grammar.specs.Grammar.{rule_of}
use Rattle.ilasm_grammar.specs.Ilasm.{ilasm, rule_by}
use Rattle.ilasm_grammar.specs.declared.nonterminals.TheConstants as n
use Rattle.ilasm_grammar.specs.declared.productions.TheConstants.{
  FIELD_REF,
  INSTRUCTION_LDSTR,
  INSTRUCTION_OP_BRANCH,
  INSTRUCTION_OP_FIELD,
  INSTRUCTION_OP_METHOD,
  METHOD_REF,
  STRING_OPERAND_BYTES,
  STRING_OPERAND_TEXT,
  TEXT,
  TOKEN_OPERAND_FIELD,
  TOKEN_OPERAND_METHOD,
}
use Rattle.ilasm_grammar.specs.declared.symbol.Symbol.{Symbol}
use Rattle.ilasm_grammar.specs.declared.symbol.Symbol.TheVariants.{Nonterminal, Terminal}
use Rattle.ilasm_grammar.specs.declared.terminals.TheConstants as t
use Rattle.source_model.specs.Forest.{Forest, none, leaf, branch, has, leaf_at, the}
use Rattle.source_model.specs.Source.{Source}
use Rattle.source_nodes.specs.Derived.{Fits, FitsBody, HasBodies, head_of}
use Rattle.source_nodes.specs.Readers.{IsOf}
use Rattle.source_syntax.proofs.BodyLemmas.{fits_has, has_own}
use Rattle.source_syntax.proofs.NameTokens.{IsBody, name_at, terminals_of_rule, the_body}
use Rattle.source_syntax.proofs.ReferenceLemmas.{sound_part}
use Rattle.source_syntax.proofs.VariableLemmas.{within_in}
use Rattle.source_nodes.proofs.WrittenNames.{fits_rule, one_in}
use Rattle.source_flags.specs.InRange.{AllInRange, IsInRange}
use Rattle.lower_manifest.proofs.ConstantLemmas.{the_has}
use Rattle.lower_manifest.proofs.Tokens.{array_at}

-- ---- references

one_method : (p : ℕ) → head_of p ≡ Some n.METHOD_REF → p ≡ METHOD_REF
unfolding ilasm
one_method p e = one_in _ _ _ n.METHOD_REF METHOD_REF p e refl

one_field : (p : ℕ) → head_of p ≡ Some n.FIELD_REF → p ≡ FIELD_REF
unfolding ilasm
one_field p e = one_in _ _ _ n.FIELD_REF FIELD_REF p e refl

abbrev method_body : List Symbol
method_body = Nonterminal n.OP_METHOD ∷ Nonterminal n.METHOD_REF ∷ []

abbrev field_body : List Symbol
field_body = Nonterminal n.OP_FIELD ∷ Nonterminal n.FIELD_REF ∷ []

abbrev method_token : List Symbol
method_token = Terminal (t.WORDS + word.METHOD) ∷ Nonterminal n.METHOD_REF ∷ []

abbrev field_token : List Symbol
field_token = Terminal (t.WORDS + word.FIELD) ∷ Nonterminal n.FIELD_REF ∷ []

rule_method : ilasm INSTRUCTION_OP_METHOD ≡ Some (rule_of n.INSTRUCTION method_body)
unfolding ilasm rule_by
rule_method = refl

rule_field : ilasm INSTRUCTION_OP_FIELD ≡ Some (rule_of n.INSTRUCTION field_body)
unfolding ilasm rule_by
rule_field = refl

rule_method_token : ilasm TOKEN_OPERAND_METHOD ≡ Some (rule_of n.TOKEN_OPERAND method_token)
unfolding ilasm rule_by
rule_method_token = refl

rule_field_token : ilasm TOKEN_OPERAND_FIELD ≡ Some (rule_of n.TOKEN_OPERAND field_token)
unfolding ilasm rule_by
rule_field_token = refl

module _ (s : Source) (f : Forest) where
  pub method_held : FitsBody s INSTRUCTION_OP_METHOD f → has METHOD_REF f ≡ true
  method_held h = fits_has s method_body f n.METHOD_REF METHOD_REF (fits_rule s INSTRUCTION_OP_METHOD n.INSTRUCTION method_body f rule_method h) refl one_method

  pub field_held : FitsBody s INSTRUCTION_OP_FIELD f → has FIELD_REF f ≡ true
  field_held h = fits_has s field_body f n.FIELD_REF FIELD_REF (fits_rule s INSTRUCTION_OP_FIELD n.INSTRUCTION field_body f rule_field h) refl one_field

  pub method_in_token : AllInRange s f → has TOKEN_OPERAND_METHOD f ≡ true → has METHOD_REF f ≡ true
  method_in_token each some =
      let own = sound_part (IsInRange s) TOKEN_OPERAND_METHOD f each some in
      let g = the TOKEN_OPERAND_METHOD f in
      the_has METHOD_REF TOKEN_OPERAND_METHOD f
      (fits_has s method_token g n.METHOD_REF METHOD_REF (fits_rule s TOKEN_OPERAND_METHOD n.TOKEN_OPERAND method_token g rule_method_token own.0.fits) refl one_method)

  pub field_in_token : AllInRange s f → has TOKEN_OPERAND_FIELD f ≡ true → has FIELD_REF f ≡ true
  field_in_token each some =
      let own = sound_part (IsInRange s) TOKEN_OPERAND_FIELD f each some in
      let g = the TOKEN_OPERAND_FIELD f in
      the_has FIELD_REF TOKEN_OPERAND_FIELD f
      (fits_has s field_token g n.FIELD_REF FIELD_REF (fits_rule s TOKEN_OPERAND_FIELD n.TOKEN_OPERAND field_token g rule_field_token own.0.fits) refl one_field)

-- ---- branches

first_label : slice_get (terminals_of_rule (ilasm INSTRUCTION_OP_BRANCH)) 0 ≡ Some t.NAME
unfolding ilasm rule_by
first_label = refl

pub branch_named : (s : Source) (f : Forest) → FitsBody s INSTRUCTION_OP_BRANCH f → IsOf s kind.Name (leaf_at 0 f)
branch_named s f h = name_at s INSTRUCTION_OP_BRANCH 0 f first_label h

-- ---- strings

one_text : (p : ℕ) → head_of p ≡ Some n.TEXT → p ≡ TEXT
unfolding ilasm
one_text p e = one_in _ _ _ n.TEXT TEXT p e refl

abbrev text_body : List Symbol
text_body = Nonterminal n.TEXT ∷ []

rule_text : ilasm STRING_OPERAND_TEXT ≡ Some (rule_of n.STRING_OPERAND text_body)
unfolding ilasm rule_by
rule_text = refl

abbrev string_body : List Symbol
string_body = Terminal (t.WORDS + word.LDSTR) ∷ Nonterminal n.STRING_OPERAND ∷ []

rule_string : ilasm INSTRUCTION_LDSTR ≡ Some (rule_of n.INSTRUCTION string_body)
unfolding ilasm rule_by
rule_string = refl

first_bytes : slice_get (terminals_of_rule (ilasm STRING_OPERAND_BYTES)) 0 ≡ Some t.BYTE_ARRAY
unfolding ilasm rule_by
first_bytes = refl

string_within : (p : ℕ) → head_of p ≡ Some n.STRING_OPERAND → (nat_lt STRING_OPERAND_TEXT (1 + (0 + p)) ≡ true) × (nat_lt (0 + p) (1 + STRING_OPERAND_BYTES) ≡ true)
unfolding ilasm
string_within p e = within_in _ _ _ n.STRING_OPERAND STRING_OPERAND_TEXT STRING_OPERAND_BYTES p e refl

text_or_bytes : (p : ℕ) → head_of p ≡ Some n.STRING_OPERAND → (p ≡ STRING_OPERAND_TEXT) ⊎ (p ≡ STRING_OPERAND_BYTES)
text_or_bytes p e = go (p == STRING_OPERAND_TEXT) refl
  where
    go : (c : Bool) → (p == STRING_OPERAND_TEXT) ≡ c → (p ≡ STRING_OPERAND_TEXT) ⊎ (p ≡ STRING_OPERAND_BYTES)
    go true is = inl ((Decides-eqb p STRING_OPERAND_TEXT).0 is)
    go false apart =
        let w = string_within p e in
        let low = ltb-true STRING_OPERAND_TEXT (1 + (0 + p)) w.0 in
        let high = ltb-true (0 + p) (1 + STRING_OPERAND_BYTES) w.1 in
        let other : p ≡ STRING_OPERAND_TEXT → ⊥ = λ is. let also = (Decides-eqb p STRING_OPERAND_TEXT).1 is in absurd cc in
        inr (omega (arith, low, high, other))

bytes_else : (s : Source) (x : ℕ) (f : Forest) → Fits s (Terminal x ∷ Nonterminal n.STRING_OPERAND ∷ []) f → has STRING_OPERAND_TEXT f ≡ false → has STRING_OPERAND_BYTES f ≡ true
bytes_else s x none h e = absurd h
bytes_else s x (leaf k none) h e = absurd h.1
bytes_else s x (leaf k (leaf l a)) h e = absurd h.1
bytes_else s x (leaf k (branch q b a)) h e = go (text_or_bytes q h.1.0)
  where
    go : (q ≡ STRING_OPERAND_TEXT) ⊎ (q ≡ STRING_OPERAND_BYTES) → has STRING_OPERAND_BYTES (leaf k (branch q b a)) ≡ true
    go (inl is) = let own : has STRING_OPERAND_TEXT (branch q b a) ≡ true = subst (λ p. has p (branch q b a) ≡ true) is (has_own q b a) in absurd cc
    go (inr is) = subst (λ p. has p (branch q b a) ≡ true) is (has_own q b a)
bytes_else s x (branch q b a) h e = absurd h

module _ (s : Source) (f : Forest) (bodies : HasBodies s f) where
  pub text_in_string : has STRING_OPERAND_TEXT f ≡ true → IsBody s TEXT (the TEXT (the STRING_OPERAND_TEXT f))
  text_in_string some =
      let own = the_body s STRING_OPERAND_TEXT f some bodies in
      let g = the STRING_OPERAND_TEXT f in
      the_body s TEXT g (fits_has s text_body g n.TEXT TEXT (fits_rule s STRING_OPERAND_TEXT n.STRING_OPERAND text_body g rule_text own.0) refl one_text) own.1

  pub bytes_in_string : FitsBody s INSTRUCTION_LDSTR f → has STRING_OPERAND_TEXT f ≡ false → IsOf s kind.ByteArray (leaf_at 0 (the STRING_OPERAND_BYTES f))
  bytes_in_string h other =
      let some = bytes_else s (t.WORDS + word.LDSTR) f (fits_rule s INSTRUCTION_LDSTR n.INSTRUCTION string_body f rule_string h) other in
      array_at s STRING_OPERAND_BYTES 0 (the STRING_OPERAND_BYTES f) first_bytes (the_body s STRING_OPERAND_BYTES f some bodies).0
