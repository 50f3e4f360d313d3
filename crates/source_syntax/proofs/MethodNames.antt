-- The names of methods.
use Rattle.std.proofs.Common.{◌≡◌, ℕ, ◌+◌, inl, inr, List, [], ◌∷◌, ◌++◌, Option, None, Some, cond, refl, ap, sym, subst, ◌∙◌, arith}
use Rattle.std.specs.Prelude.{Bool, true, false, ◌==◌, ◌||◌, if◌then◌else◌, codes, nat_lt, option_map, slice_get, slice_index_or}
use Rattle.std.proofs.lemmas.Bool.{cases_Bool}
use Rattle.il_lexer.specs.Lexing.{Lexes}
use Rattle.il_lexer.specs.Longest.{LongestSpelling}
use Rattle.il_lexer.specs.Unplaced.{ReadsAsItLexes}
use Rattle.il_lexer.specs.WordList.{words}
use Rattle.il_lexer.specs.declared.types.Token.{Token}
use Rattle.il_lexer.specs.declared.types.TokenKind.{TokenKind}
use Rattle.il_lexer.specs.declared.types.TokenKind.TheVariants as kind
use Rattle.il_lexer.specs.declared.word.TheConstants.{DOT_CCTOR, DOT_CTOR}
use Rattle.ilasm_grammar.specs.Grammar.{rule_of}
use Rattle.ilasm_grammar.specs.Ilasm.{ilasm, rule_by}
use Rattle.ilasm_grammar.specs.Terminals.{terminal_of}
use Rattle.ilasm_grammar.specs.declared.nonterminals.TheConstants as n
use Rattle.ilasm_grammar.specs.declared.productions.TheConstants.{METHOD_NAME_CCTOR, METHOD_NAME_CTOR, METHOD_NAME_NAME}
use Rattle.ilasm_grammar.specs.declared.symbol.Symbol.TheVariants.{Terminal}
use Rattle.ilasm_grammar.specs.declared.terminals.TheConstants as t
use Rattle.ilasm_grammar.specs.declared.tree.TreeNode.{TreeNode}
use Rattle.ilasm_grammar.specs.declared.tree.TreeNode.TheVariants.{Branch}
use Rattle.source_model.specs.Forest.{Forest, branch, is_among, joined, leaf_at, part, preorder}
use Rattle.source_model.specs.Laws.{ForestsJoin}
use Rattle.source_model.specs.References.{method_name, method_name_parts, text_of_method_name}
use Rattle.source_model.specs.Source.{Source, spelling}
use Rattle.source_model.specs.Values.{name_text}
use Rattle.source_nodes.specs.Derived.{FitsBody, HasBodies, terminal_at}
use Rattle.source_nodes.specs.Readers.{IsOf}
use Rattle.source_nodes.specs.Walk.{Opens, is_of}
use Rattle.source_nodes.specs.declared.walk.Opened.{Opened}
use Rattle.source_nodes.proofs.Collecting.{SoFar, ends, goes_in, is_other, starts}
use Rattle.source_nodes.proofs.ReaderLemmas.{token_spelled}
use Rattle.source_nodes.proofs.WrittenNames.{first_terminal, fits_rule, is_name}

-- ---- words

kind_word : (w : ℕ) (k : TokenKind) → terminal_of k ≡ t.WORDS + w → k ≡ kind.Word w
kind_word w kind.Name e = absurd (omega (arith, e))
kind_word w kind.Scope e = absurd (omega (arith, e))
kind_word w kind.Int e = absurd (omega (arith, e))
kind_word w kind.QString e = absurd (omega (arith, e))
kind_word w kind.EqBytes e = absurd (omega (arith, e))
kind_word w kind.ByteArray e = absurd (omega (arith, e))
kind_word w kind.RealBytes e = absurd (omega (arith, e))
kind_word w kind.Hash e = absurd (omega (arith, e))
kind_word w kind.Unused e = absurd (omega (arith, e))
kind_word w (kind.Word j) e = elim (cases_Bool (nat_lt (t.WORDS + j) t.END)) [
  | inl known ↦
      let is : t.WORDS + j ≡ t.WORDS + w = sym (ap (λ b. cond b (t.WORDS + j) t.UNUSED) known) ∙ e in
      let same : j ≡ w = omega (arith, is) in ap (λ i. kind.Word i) same
  | inr over ↦ let is : t.UNUSED ≡ t.WORDS + w = sym (ap (λ b. cond b (t.WORDS + j) t.UNUSED) over) ∙ e in absurd (omega (arith, is))
]

is_word : (s : Source) (k w : ℕ) → terminal_at s k ≡ Some (t.WORDS + w) → IsOf s (kind.Word w) k
is_word s k w e = go (slice_get s.tokens k) e
  where
    go : (o : Option Token) → option_map (λ (x : Token). terminal_of x.kind) o ≡ Some (t.WORDS + w) → option_map (λ (x : Token). x.kind) o ≡ Some (kind.Word w)
    go None e = absurd cc
    go (Some x) e = let same : terminal_of x.kind ≡ t.WORDS + w = cc in ap (λ y. Some y) (kind_word w x.kind same)

word_spelled : LongestSpelling → ReadsAsItLexes → (s : Source) (k w : ℕ) → Lexes s.bytes s.tokens → terminal_at s k ≡ Some (t.WORDS + w)
    → slice_index_or words w [] ≡ spelling s k
word_spelled longest reads s k w lexes e = (token_spelled longest reads s lexes (kind.Word w) k (is_word s k w e)).1

ctor_word : codes ".ctor" ≡ slice_index_or words DOT_CTOR []
unfolding words
ctor_word = refl

cctor_word : codes ".cctor" ≡ slice_index_or words DOT_CCTOR []
unfolding words
cctor_word = refl

-- ---- the first name in a forest

-- a node that is none of the three is not one of them
pub apart_names : (node : TreeNode) → (is_of METHOD_NAME_NAME node || (is_of METHOD_NAME_CTOR node || is_of METHOD_NAME_CCTOR node)) ≡ false
    → (is_of METHOD_NAME_NAME node ≡ false) × ((is_of METHOD_NAME_CTOR node ≡ false) × (is_of METHOD_NAME_CCTOR node ≡ false))
apart_names node e = go (is_of METHOD_NAME_NAME node) (is_of METHOD_NAME_CTOR node) (is_of METHOD_NAME_CCTOR node) e
  where
    go : (x y z : Bool) → (x || (y || z)) ≡ false → (x ≡ false) × ((y ≡ false) × (z ≡ false))
    go false false false e = (refl, (refl, refl))
    go false false true e = absurd cc
    go false true z e = absurd cc
    go true y z e = absurd cc

abbrev sought : List ℕ
sought = METHOD_NAME_NAME ∷ METHOD_NAME_CTOR ∷ METHOD_NAME_CCTOR ∷ []

abbrev pub Named : Source → Forest → List TreeNode → Type 0
Named s f left = SoFar (FitsBody s) method_name_parts (method_name_parts f) left []

pub record NameFound (s : Source) (f : Forest) (p : ℕ) (below : List TreeNode) : Type 0 where
  pub inner : Forest
  pub inner-is : preorder inner ≡ below
  pub fits : FitsBody s p inner
  pub is : (if p == METHOD_NAME_NAME then name_text s (leaf_at 0 inner) else spelling s (leaf_at 0 inner)) ≡ method_name s f

pub name_found : (s : Source) (f : Forest) (left : List TreeNode) (x : Opened) (p count : ℕ) → Opens left x → x.node ≡ Branch p count
    → is_among sought p ≡ true → Named s f left → NameFound s f p x.below.now
name_found s f left x p count o is known sf =
    let b = o.branch sf.rest p count sf.is is in
    let h : HasBodies s (branch p b.inner b.rest) = subst (HasBodies s) b.is sf.each in
    let own : method_name_parts (branch p b.inner b.rest) ≡ part p b.inner ∷ method_name_parts b.rest =
    ap (λ (c : Bool). (if c then part p b.inner ∷ [] else method_name_parts b.inner) ++ method_name_parts b.rest) known in
    record {
      inner = b.inner;
      inner-is = b.inner-is;
      fits = h.0;
      is = ap (text_of_method_name s) (sym (sym sf.same ∙ ap method_name_parts b.is ∙ own));
    }

pub names_start : (s : Source) (f : Forest) (nodes : List TreeNode) → preorder f ≡ nodes → HasBodies s f → Named s f nodes
names_start s f nodes e bodies = starts (FitsBody s) method_name_parts (method_name_parts f) f nodes [] e bodies refl

pub names_go_in : ForestsJoin → (s : Source) (f : Forest) (left : List TreeNode) (x : Opened) → Opens left x → is_of METHOD_NAME_NAME x.node ≡ false
    → is_of METHOD_NAME_CTOR x.node ≡ false → is_of METHOD_NAME_CCTOR x.node ≡ false → Named s f left → Named s f x.behind.now
names_go_in joins s f left x o l m k sf = goes_in (FitsBody s) method_name_parts (method_name_parts f) left x [] o (λ j a. refl) into sf
  where
    into : (q count : ℕ) (b a : Forest) → x.node ≡ Branch q count → method_name_parts (branch q b a) ≡ method_name_parts (joined b a)
    into q count b a is =
        ap (λ (c : Bool). (if c || ((METHOD_NAME_CTOR == q) || ((METHOD_NAME_CCTOR == q) || false)) then part q b ∷ [] else method_name_parts b) ++ method_name_parts a)
        (is_other METHOD_NAME_NAME x.node q count l is)
        ∙ ap (λ (c : Bool). (if c || ((METHOD_NAME_CCTOR == q) || false) then part q b ∷ [] else method_name_parts b) ++ method_name_parts a)
        (is_other METHOD_NAME_CTOR x.node q count m is)
        ∙ ap (λ (c : Bool). (if c || false then part q b ∷ [] else method_name_parts b) ++ method_name_parts a) (is_other METHOD_NAME_CCTOR x.node q count k is)
        ∙ sym (joins.parts [] sought b a)

pub no_name : (s : Source) (f : Forest) (left : List TreeNode) → left ≡ [] → Named s f left → [] ≡ method_name s f
no_name s f left e sf = ap (text_of_method_name s) (ends (FitsBody s) method_name_parts (method_name_parts f) left [] e refl sf)

-- ---- each kind of name

rule_name : ilasm METHOD_NAME_NAME ≡ Some (rule_of n.METHOD_NAME (Terminal t.NAME ∷ []))
unfolding ilasm rule_by
rule_name = refl

rule_ctor : ilasm METHOD_NAME_CTOR ≡ Some (rule_of n.METHOD_NAME (Terminal (t.WORDS + DOT_CTOR) ∷ []))
unfolding ilasm rule_by
rule_ctor = refl

rule_cctor : ilasm METHOD_NAME_CCTOR ≡ Some (rule_of n.METHOD_NAME (Terminal (t.WORDS + DOT_CCTOR) ∷ []))
unfolding ilasm rule_by
rule_cctor = refl

pub is_named : (s : Source) (f : Forest) → FitsBody s METHOD_NAME_NAME f → IsOf s kind.Name (leaf_at 0 f)
is_named s f fits = is_name s (leaf_at 0 f) (first_terminal s t.NAME [] f (fits_rule s METHOD_NAME_NAME n.METHOD_NAME (Terminal t.NAME ∷ []) f rule_name fits))

pub is_ctor : LongestSpelling → ReadsAsItLexes → (s : Source) (f : Forest) → Lexes s.bytes s.tokens → FitsBody s METHOD_NAME_CTOR f
    → codes ".ctor" ≡ spelling s (leaf_at 0 f)
is_ctor longest reads s f lexes fits =
    ctor_word
    ∙ word_spelled longest reads s (leaf_at 0 f) DOT_CTOR lexes
    (first_terminal s (t.WORDS + DOT_CTOR) [] f (fits_rule s METHOD_NAME_CTOR n.METHOD_NAME (Terminal (t.WORDS + DOT_CTOR) ∷ []) f rule_ctor fits))

pub is_cctor : LongestSpelling → ReadsAsItLexes → (s : Source) (f : Forest) → Lexes s.bytes s.tokens → FitsBody s METHOD_NAME_CCTOR f
    → codes ".cctor" ≡ spelling s (leaf_at 0 f)
is_cctor longest reads s f lexes fits =
    cctor_word
    ∙ word_spelled longest reads s (leaf_at 0 f) DOT_CCTOR lexes
    (first_terminal s (t.WORDS + DOT_CCTOR) [] f (fits_rule s METHOD_NAME_CCTOR n.METHOD_NAME (Terminal (t.WORDS + DOT_CCTOR) ∷ []) f rule_cctor fits))
