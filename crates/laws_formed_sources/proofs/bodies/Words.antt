-- What a mnemonic's operand is, by the class of mnemonics that it is of (ECMA-335 III.1.7, VI.C.2).
use Rattle.std.proofs.Common.{◌≡◌, ℕ, ◌+◌, ◌-◌, inl, inr, List, [], ◌∷◌, Option, None, Some, cond, refl, ap, sym, subst, ◌∙◌, arith}
use Rattle.std.specs.Prelude.{Bool, true, false, not, ◌==◌, ◌||◌, ◌&&◌, bytes_eq, find, nat_lt, option_map, slice_get, slice_index_or}
use Rattle.std.proofs.lemmas.Bool.{cases_Bool}
use Rattle.std.proofs.lemmas.Bool.Decides.{Decides-eqb}
use Rattle.std.proofs.lemmas.Option.{same_Some}
use Rattle.il_lexer.specs.Lexing.{Lexes}
use Rattle.il_lexer.specs.Longest.{LongestSpelling}
use Rattle.il_lexer.specs.Unplaced.{ReadsAsItLexes}
use Rattle.il_lexer.specs.WordList.{words}
use Rattle.il_lexer.specs.declared.types.Token.{Token}
use Rattle.il_lexer.specs.declared.word.TheConstants.{LDSTR, LDTOKEN, SWITCH}
use Rattle.il_lexer.specs.declared.types.TokenKind.{TokenKind}
use Rattle.il_lexer.specs.declared.types.TokenKind.TheVariants as kind
use Rattle.opcode_table.specs.Opcodes as opcodes
use Rattle.opcode_table.specs.Opcodes.{names}
use Rattle.opcode_table.specs.declared.kind.OperandKind.{OperandKind}
use Rattle.opcode_table.specs.declared.kind.OperandKind.TheVariants as takes
use Rattle.opcode_table.specs.declared.op.Op.{Op}
use Rattle.assembly_tree.specs.WellFormedBodies.{operand_kind}
use Rattle.ilasm_grammar.specs.Grammar.{Rule}
use Rattle.ilasm_grammar.specs.Ilasm.{ilasm}
use Rattle.ilasm_grammar.specs.Terminals.{terminal_of}
use Rattle.ilasm_grammar.specs.declared.nonterminals.TheConstants as n
use Rattle.ilasm_grammar.specs.declared.symbol.Symbol.{Symbol}
use Rattle.ilasm_grammar.specs.declared.symbol.Symbol.TheVariants.{Terminal, Nonterminal}
use Rattle.ilasm_grammar.specs.declared.terminals.TheConstants as t
use Rattle.source_model.specs.Forest.{Forest, none, leaf, branch, first_token, is_among}
use Rattle.source_model.specs.Instructions.{op_or_nop}
use Rattle.source_model.specs.Source.{Source, spelling}
use Rattle.source_nodes.specs.Derived.{Fits, FitsBody, FitsRule, HasBodies, head_of, terminal_at}
use Rattle.source_nodes.specs.Readers.{IsOf}
use Rattle.source_nodes.proofs.ReaderLemmas.{token_spelled}
use Rattle.source_nodes.proofs.WrittenNames.{both_true, other_true}
use Rattle.laws_formed_sources.proofs.sources.Rules.{rule_passes}

-- ---- words

kind_word : (w : ℕ) (k : TokenKind) → terminal_of k ≡ t.WORDS + w → k ≡ kind.Word w
kind_word w kind.Name e = absurd (omega (arith, e))
kind_word w kind.Scope e = absurd (omega (arith, e))
kind_word w kind.Int e = absurd (omega (arith, e))
kind_word w kind.QString e = absurd (omega (arith, e))
kind_word w kind.EqBytes e = absurd (omega (arith, e))
kind_word w kind.ByteArray e = absurd (omega (arith, e))
kind_word w kind.RealBytes e = absurd (omega (arith, e))
kind_word w kind.Hash e = absurd (omega (arith, e))
kind_word w kind.Unused e = absurd (omega (arith, e))
kind_word w (kind.Word j) e = elim (cases_Bool (nat_lt (t.WORDS + j) t.END)) [
  | inl known ↦
      let is : t.WORDS + j ≡ t.WORDS + w = sym (ap (λ b. cond b (t.WORDS + j) t.UNUSED) known) ∙ e in
      let same : j ≡ w = omega (arith, is) in ap (λ i. kind.Word i) same
  | inr over ↦ let is : t.UNUSED ≡ t.WORDS + w = sym (ap (λ b. cond b (t.WORDS + j) t.UNUSED) over) ∙ e in absurd (omega (arith, is))
]

is_word : (s : Source) (k w : ℕ) → terminal_at s k ≡ Some (t.WORDS + w) → IsOf s (kind.Word w) k
is_word s k w e = go (slice_get s.tokens k) e
  where
    go : (o : Option Token) → option_map (λ (x : Token). terminal_of x.kind) o ≡ Some (t.WORDS + w) → option_map (λ (x : Token). x.kind) o ≡ Some (kind.Word w)
    go None e = absurd cc
    go (Some x) e = let same : terminal_of x.kind ≡ t.WORDS + w = cc in ap (λ y. Some y) (kind_word w x.kind same)

pub word_spelled : LongestSpelling → ReadsAsItLexes → (s : Source) (k w : ℕ) → Lexes s.bytes s.tokens → terminal_at s k ≡ Some (t.WORDS + w)
    → slice_index_or words w [] ≡ spelling s k
word_spelled longest reads s k w lexes e = (token_spelled longest reads s lexes (kind.Word w) k (is_word s k w e)).1

-- ---- classes of mnemonics

abbrev pub op_spelled : List ℕ → Op
op_spelled word = op_or_nop (find (λ row. bytes_eq row.0 word) names)

-- the nonterminal of the mnemonics with this operand, and that of instructions where a production has the mnemonic
abbrev pub class_of : OperandKind → ℕ
class_of takes.Nothing = n.OP_NONE
class_of takes.Var8 = n.OP_VAR
class_of takes.Var16 = n.OP_VAR
class_of takes.Num8 = n.OP_NUM
class_of takes.Num32 = n.OP_NUM
class_of takes.Num64 = n.OP_NUM
class_of takes.Byte = n.OP_NUM
class_of takes.Real4 = n.OP_REAL
class_of takes.Real8 = n.OP_REAL
class_of takes.Branch8 = n.OP_BRANCH
class_of takes.Branch32 = n.OP_BRANCH
class_of takes.Switch = n.INSTRUCTION
class_of takes.Method = n.OP_METHOD
class_of takes.Field = n.OP_FIELD
class_of takes.Of = n.OP_TYPE
class_of takes.Text = n.INSTRUCTION
class_of takes.Token = n.INSTRUCTION

abbrev pub is_op : ℕ → Bool
is_op h =
    is_among
    (n.OP_NONE ∷ n.OP_VAR ∷ n.OP_NUM ∷ n.OP_REAL ∷ n.OP_BRANCH ∷ n.OP_METHOD ∷ n.OP_FIELD ∷ n.OP_TYPE ∷ []) h

-- the word with this number is of the class
abbrev is_word_of : ℕ → ℕ → Bool
is_word_of h w = class_of (opcodes.kind_of (op_spelled (slice_index_or words w []))) == h

abbrev is_terminal_of : ℕ → ℕ → Bool
is_terminal_of h x = (t.WORDS + (x - t.WORDS) == x) && is_word_of h (x - t.WORDS)

abbrev is_one_word : ℕ → List Symbol → Bool
is_one_word h [] = false
is_one_word h (Nonterminal m ∷ more) = false
is_one_word h (Terminal x ∷ []) = is_terminal_of h x
is_one_word h (Terminal x ∷ y ∷ more) = false

abbrev is_classed : ℕ → ℕ → List Symbol → Bool
is_classed p h body = not (is_op h) || is_one_word h body

classed : (p : ℕ) (r : Rule) → ilasm p ≡ Some r → is_classed p r.head r.body ≡ true
unfolding ilasm names words
classed p r is = rule_passes is_classed _ _ _ p r is refl

switch_takes : operand_kind (op_spelled (slice_index_or words SWITCH [])) ≡ takes.Switch
unfolding operand_kind names words
switch_takes = refl

ldstr_takes : operand_kind (op_spelled (slice_index_or words LDSTR [])) ≡ takes.Text
unfolding operand_kind names words
ldstr_takes = refl

ldtoken_takes : operand_kind (op_spelled (slice_index_or words LDTOKEN [])) ≡ takes.Token
unfolding operand_kind names words
ldtoken_takes = refl

-- below a mnemonic of the class stands its word alone
record IsWordOf (s : Source) (h : ℕ) (f : Forest) : Type 0 where
  token : ℕ
  is : f ≡ leaf token none
  number : ℕ
  stands : terminal_at s token ≡ Some (t.WORDS + number)
  suits : is_word_of h number ≡ true

one_word : (s : Source) (h : ℕ) (body : List Symbol) (f : Forest) → is_one_word h body ≡ true → Fits s body f → IsWordOf s h f
one_word s h [] f e fits = absurd cc
one_word s h (Nonterminal m ∷ more) f e fits = absurd cc
one_word s h (Terminal x ∷ y ∷ more) f e fits = absurd cc
one_word s h (Terminal x ∷ []) none e fits = absurd fits
one_word s h (Terminal x ∷ []) (branch p b a) e fits = absurd fits
one_word s h (Terminal x ∷ []) (leaf k (leaf l a)) e fits = absurd fits.1
one_word s h (Terminal x ∷ []) (leaf k (branch p b a)) e fits = absurd fits.1
one_word s h (Terminal x ∷ []) (leaf k none) e fits =
    let both = both_true (t.WORDS + (x - t.WORDS) == x) (is_word_of h (x - t.WORDS)) e in
    record {
      token = k;
      is = refl;
      number = x - t.WORDS;
      stands = fits.0 ∙ ap (λ y. Some y) (sym ((Decides-eqb (t.WORDS + (x - t.WORDS)) x).0 both.0));
      suits = both.1;
    }

word_below : (s : Source) (m h : ℕ) (f : Forest) → head_of m ≡ Some h → is_op h ≡ true → FitsBody s m f → IsWordOf s h f
word_below s m h f head op fits = go (ilasm m) refl fits
  where
    go : (o : Option Rule) → ilasm m ≡ o → FitsRule s o f → IsWordOf s h f
    go None is fit = absurd fit
    go (Some r) is fit =
        let heads : r.head ≡ h = same_Some r.head h (sym (ap (option_map (λ (x : Rule). x.head)) is) ∙ head) in
        subst (λ y. IsWordOf s y f) heads
        (one_word s r.head r.body f (other_true (is_op r.head) (is_one_word r.head r.body) (classed m r is) (ap is_op heads ∙ op)) fit)

module _ (longest : LongestSpelling) (reads : ReadsAsItLexes) (s : Source) (lexes : Lexes s.bytes s.tokens) where
  -- what an instruction takes that begins with a mnemonic of the class
  pub class_is : (h : ℕ) (more : List Symbol) (f : Forest) → is_op h ≡ true → Fits s (Nonterminal h ∷ more) f → HasBodies s f
      → class_of (operand_kind (op_spelled (spelling s (first_token f)))) ≡ h
  unfolding operand_kind
  class_is h more none op fits each = absurd fits
  class_is h more (leaf k a) op fits each = absurd fits
  class_is h more (branch m w a) op fits each =
      let x = word_below s m h w fits.0 op each.0 in
      let word = word_spelled longest reads s x.token x.number lexes x.stands in
      let token : first_token (branch m w a) ≡ x.token = ap (λ g. first_token (branch m g a)) x.is in
      ap (λ k. class_of (opcodes.kind_of (op_spelled (spelling s k)))) token
      ∙ ap (λ y. class_of (opcodes.kind_of (op_spelled y))) (sym word) ∙ (Decides-eqb (class_of (opcodes.kind_of (op_spelled (slice_index_or words x.number [])))) h).0 x.suits

  -- and one that begins with a word of its own
  own_word : (w : ℕ) (more : List Symbol) (f : Forest) → Fits s (Terminal (t.WORDS + w) ∷ more) f → slice_index_or words w [] ≡ spelling s (first_token f)
  own_word w more none fits = absurd fits
  own_word w more (branch m b a) fits = absurd fits
  own_word w more (leaf k a) fits = word_spelled longest reads s k w lexes fits.0

  pub switch_is : (more : List Symbol) (f : Forest) → Fits s (Terminal (t.WORDS + SWITCH) ∷ more) f → operand_kind (op_spelled (spelling s (first_token f))) ≡ takes.Switch
  switch_is more f fits = ap (λ y. operand_kind (op_spelled y)) (sym (own_word SWITCH more f fits)) ∙ switch_takes

  pub ldstr_is : (more : List Symbol) (f : Forest) → Fits s (Terminal (t.WORDS + LDSTR) ∷ more) f → operand_kind (op_spelled (spelling s (first_token f))) ≡ takes.Text
  ldstr_is more f fits = ap (λ y. operand_kind (op_spelled y)) (sym (own_word LDSTR more f fits)) ∙ ldstr_takes

  pub ldtoken_is : (more : List Symbol) (f : Forest) → Fits s (Terminal (t.WORDS + LDTOKEN) ∷ more) f → operand_kind (op_spelled (spelling s (first_token f))) ≡ takes.Token
  ldtoken_is more f fits = ap (λ y. operand_kind (op_spelled y)) (sym (own_word LDTOKEN more f fits)) ∙ ldtoken_takes
