-- The bits of a real number in an instruction, from the bodies of its productions (ECMA-335 III.3.40).
use Rattle.std.proofs.Common.{◌≡◌, ℕ, ◌+◌, ◌⊎◌, inl, inr, List, [], ◌∷◌, ◌++◌, Option, None, Some, refl, ap, sym, subst, ◌∙◌, arith}
use Rattle.std.specs.Prelude.{Bool, true, false, ◌==◌, ◌||◌, nat_lt, slice_get, option_map, if◌then◌else◌}
use Rattle.std.proofs.lemmas.Bool.{ltb-true}
use Rattle.std.proofs.lemmas.Bool.Decides.{Decides-eqb}
use Rattle.il_lexer.specs.declared.types.Token.{Token}
use Rattle.il_lexer.specs.declared.types.TokenKind.{TokenKind}
use Rattle.il_lexer.specs.declared.types.TokenKind.TheVariants as kind
use Rattle.ilasm_grammar.specs.Grammar.{Rule, rule_of}
use Rattle.ilasm_grammar.specs.Ilasm.{ilasm, rule_by}
use Rattle.ilasm_grammar.specs.Terminals.{terminal_of}
use Rattle.ilasm_grammar.specs.declared.nonterminals.TheConstants as n
use Rattle.ilasm_grammar.specs.declared.productions.TheConstants.{INSTRUCTION_OP_REAL, REAL_BITS_FLOAT32, REAL_BITS_FLOAT64, REAL_BITS_REAL_BYTES}
use Rattle.ilasm_grammar.specs.declared.symbol.Symbol.{Symbol}
use Rattle.ilasm_grammar.specs.declared.symbol.Symbol.TheVariants.{Terminal, Nonterminal}
use Rattle.ilasm_grammar.specs.declared.terminals.TheConstants as t
use Rattle.source_model.specs.Forest.{Forest, none, leaf, branch, below_each, first_or, has, is_any_part, leaf_at, part, parts, the}
use Rattle.source_model.specs.Source.{Source}
use Rattle.source_nodes.specs.Derived.{Fits, FitsBody, FitsRule, HasBodies, head_of, terminal_at}
use Rattle.source_nodes.specs.Readers.{IsOf}
use Rattle.source_syntax.proofs.BodyLemmas.{StaysChosen, all_in, closed_rule, fits_leaf}
use Rattle.source_syntax.proofs.VariableLemmas.{within_in}
use Rattle.source_nodes.proofs.WrittenNames.{fits_rule, word_is_more}
use Rattle.lower_bodies.proofs.VariableParts.{Operated, different, nothing_in, operated}

-- ---- bodies of tokens alone

no_parts : (s : Source) (sought : List ℕ) (body : List Symbol) (f : Forest) → Fits s body f → all_in nothing_in body ≡ true → parts sought f ≡ []
no_parts s sought [] none h e = refl
no_parts s sought [] (leaf k a) h e = absurd h
no_parts s sought [] (branch p b a) h e = absurd h
no_parts s sought (Terminal x ∷ more) none h e = absurd h
no_parts s sought (Terminal x ∷ more) (leaf k a) h e = no_parts s sought more a h.1 e
no_parts s sought (Terminal x ∷ more) (branch p b a) h e = absurd h
no_parts s sought (Nonterminal m ∷ more) f h e = absurd cc

-- below a mnemonic of real numbers stands no production
real_stays : StaysChosen nothing_in n.OP_REAL
unfolding ilasm
real_stays p r is c = closed_rule nothing_in n.OP_REAL _ _ _ p r is c refl

bare : (s : Source) (sought : List ℕ) (m : ℕ) (w : Forest) → head_of m ≡ Some n.OP_REAL → FitsBody s m w → parts sought w ≡ []
bare s sought m w head fits = go (ilasm m) refl head fits
  where
    go : (o : Option Rule) → ilasm m ≡ o → head_of m ≡ Some n.OP_REAL → FitsRule s o w → parts sought w ≡ []
    go None is h fit = absurd fit
    go (Some r) is h fit =
        let heads : Some r.head ≡ Some n.OP_REAL = sym (ap (option_map (λ (x : Rule). x.head)) is) ∙ h in
        let same : r.head ≡ n.OP_REAL = cc in
        no_parts s sought r.body w fit (real_stays m r is (ap (λ x. (x == n.OP_REAL) || nothing_in x) same))

-- ---- tokens of bytes

kind_real : (k : TokenKind) → terminal_of k ≡ t.REAL_BYTES → k ≡ kind.RealBytes
kind_real kind.Name e = absurd cc
kind_real kind.Scope e = absurd cc
kind_real kind.Int e = absurd cc
kind_real kind.QString e = absurd cc
kind_real kind.EqBytes e = absurd cc
kind_real kind.ByteArray e = absurd cc
kind_real kind.RealBytes e = refl
kind_real kind.Hash e = absurd cc
kind_real kind.Unused e = absurd cc
kind_real (kind.Word k) e = absurd (word_is_more k t.REAL_BYTES (omega arith) e)

is_real : (s : Source) (k : ℕ) → terminal_at s k ≡ Some t.REAL_BYTES → IsOf s kind.RealBytes k
is_real s k e = go (slice_get s.tokens k) e
  where
    go : (o : Option Token) → option_map (λ (x : Token). terminal_of x.kind) o ≡ Some t.REAL_BYTES → option_map (λ (x : Token). x.kind) o ≡ Some kind.RealBytes
    go None h = absurd cc
    go (Some x) h = let same : terminal_of x.kind ≡ t.REAL_BYTES = cc in ap (λ y. Some y) (kind_real x.kind same)

-- ---- the bits in an instruction

abbrev pub real_forms : List ℕ
real_forms = REAL_BITS_FLOAT32 ∷ REAL_BITS_FLOAT64 ∷ REAL_BITS_REAL_BYTES ∷ []

-- they are a number of 32 or of 64 bits, or bytes
pub record HasReal (s : Source) (f : Forest) : Type 0 where
  pub single : has REAL_BITS_FLOAT32 f ≡ true → parts real_forms f ≡ part REAL_BITS_FLOAT32 (the REAL_BITS_FLOAT32 f) ∷ []
  pub double : has REAL_BITS_FLOAT32 f ≡ false → has REAL_BITS_FLOAT64 f ≡ true → parts real_forms f ≡ part REAL_BITS_FLOAT64 (the REAL_BITS_FLOAT64 f) ∷ []
  pub bytes : has REAL_BITS_FLOAT32 f ≡ false → has REAL_BITS_FLOAT64 f ≡ false → parts real_forms f ≡ part REAL_BITS_REAL_BYTES (the REAL_BITS_REAL_BYTES f) ∷ []
  pub token : has REAL_BITS_FLOAT32 f ≡ false → has REAL_BITS_FLOAT64 f ≡ false → IsOf s kind.RealBytes (leaf_at 0 (the REAL_BITS_REAL_BYTES f))

single_head : head_of REAL_BITS_FLOAT32 ≡ Some n.REAL_BITS
unfolding ilasm rule_by
single_head = refl

double_head : head_of REAL_BITS_FLOAT64 ≡ Some n.REAL_BITS
unfolding ilasm rule_by
double_head = refl

bytes_head : head_of REAL_BITS_REAL_BYTES ≡ Some n.REAL_BITS
unfolding ilasm rule_by
bytes_head = refl

module _ (s : Source) (m : ℕ) (w : Forest) (op : head_of m ≡ Some n.OP_REAL) (fits : FitsBody s m w) where
  apart : (r : ℕ) → head_of r ≡ Some n.REAL_BITS → (r == m) ≡ false
  apart r head = different m r n.OP_REAL n.REAL_BITS op head refl

  -- what is asked of what stands behind the mnemonic
  one_behind : (r : ℕ) (a : Forest) → head_of r ≡ Some n.REAL_BITS → parts (r ∷ []) (branch m w a) ≡ parts (r ∷ []) a
  one_behind r a head =
      ap (λ (x : Bool). (if x || false then part m w ∷ [] else parts (r ∷ []) w) ++ parts (r ∷ []) a) (apart r head)
      ∙ ap (λ ps. ps ++ parts (r ∷ []) a) (bare s (r ∷ []) m w op fits)

  all_behind : (a : Forest) → parts real_forms (branch m w a) ≡ parts real_forms a
  all_behind a =
      ap (λ (x : Bool). (if x || ((REAL_BITS_FLOAT64 == m) || ((REAL_BITS_REAL_BYTES == m) || false)) then part m w ∷ [] else parts real_forms w) ++ parts real_forms a) (apart REAL_BITS_FLOAT32 single_head)
      ∙ ap (λ (x : Bool). (if x || ((REAL_BITS_REAL_BYTES == m) || false) then part m w ∷ [] else parts real_forms w) ++ parts real_forms a) (apart REAL_BITS_FLOAT64 double_head)
      ∙ ap (λ (x : Bool). (if x || false then part m w ∷ [] else parts real_forms w) ++ parts real_forms a) (apart REAL_BITS_REAL_BYTES bytes_head)
      ∙ ap (λ ps. ps ++ parts real_forms a) (bare s real_forms m w op fits)

  module _ (d : Forest) (inside : (sought : List ℕ) → parts sought d ≡ []) where
    abbrev with_bits : ℕ → Forest
    with_bits r = branch m w (branch r d none)

    has_not : (r q : ℕ) → head_of q ≡ Some n.REAL_BITS → (q == r) ≡ false → has q (with_bits r) ≡ false
    has_not r q head other =
        ap is_any_part (one_behind q (branch r d none) head
        ∙ ap (λ (x : Bool). (if x || false then part r d ∷ [] else parts (q ∷ []) d) ++ []) other ∙ ap (λ ps. ps ++ []) (inside (q ∷ [])))

    by_single : HasReal s (with_bits REAL_BITS_FLOAT32)
    by_single =
        let own = one_behind REAL_BITS_FLOAT32 (branch REAL_BITS_FLOAT32 d none) single_head in
        let yes : has REAL_BITS_FLOAT32 (with_bits REAL_BITS_FLOAT32) ≡ true = ap is_any_part own in
        record {
          single = λ _. all_behind (branch REAL_BITS_FLOAT32 d none) ∙ sym (ap (λ ps. part REAL_BITS_FLOAT32 (first_or none (below_each ps)) ∷ []) own);
          double = λ e _. absurd cc;
          bytes = λ e _. absurd cc;
          token = λ e _. absurd cc;
        }

    by_double : HasReal s (with_bits REAL_BITS_FLOAT64)
    by_double =
        let own = one_behind REAL_BITS_FLOAT64 (branch REAL_BITS_FLOAT64 d none) double_head in
        let no : has REAL_BITS_FLOAT32 (with_bits REAL_BITS_FLOAT64) ≡ false = has_not REAL_BITS_FLOAT64 REAL_BITS_FLOAT32 single_head refl in
        let yes : has REAL_BITS_FLOAT64 (with_bits REAL_BITS_FLOAT64) ≡ true = ap is_any_part own in
        record {
          single = λ e. absurd cc;
          double = λ _ _. all_behind (branch REAL_BITS_FLOAT64 d none) ∙ sym (ap (λ ps. part REAL_BITS_FLOAT64 (first_or none (below_each ps)) ∷ []) own);
          bytes = λ _ e. absurd cc;
          token = λ _ e. absurd cc;
        }

    by_bytes : IsOf s kind.RealBytes (leaf_at 0 d) → HasReal s (with_bits REAL_BITS_REAL_BYTES)
    by_bytes token =
        let own = one_behind REAL_BITS_REAL_BYTES (branch REAL_BITS_REAL_BYTES d none) bytes_head in
        let no : has REAL_BITS_FLOAT32 (with_bits REAL_BITS_REAL_BYTES) ≡ false = has_not REAL_BITS_REAL_BYTES REAL_BITS_FLOAT32 single_head refl in
        let neither : has REAL_BITS_FLOAT64 (with_bits REAL_BITS_REAL_BYTES) ≡ false = has_not REAL_BITS_REAL_BYTES REAL_BITS_FLOAT64 double_head refl in
        record {
          single = λ e. absurd cc;
          double = λ _ e. absurd cc;
          bytes = λ _ _. all_behind (branch REAL_BITS_REAL_BYTES d none) ∙ sym (ap (λ ps. part REAL_BITS_REAL_BYTES (first_or none (below_each ps)) ∷ []) own);
          token = λ _ _. subst (λ ps. IsOf s kind.RealBytes (leaf_at 0 (first_or none (below_each ps)))) (sym own) token;
        }

-- ---- their forms

abbrev bare_in : Option Rule → Bool
bare_in None = false
bare_in (Some r) = all_in nothing_in r.body

single_bare : bare_in (ilasm REAL_BITS_FLOAT32) ≡ true
unfolding ilasm rule_by
single_bare = refl

double_bare : bare_in (ilasm REAL_BITS_FLOAT64) ≡ true
unfolding ilasm rule_by
double_bare = refl

bytes_bare : bare_in (ilasm REAL_BITS_REAL_BYTES) ≡ true
unfolding ilasm rule_by
bytes_bare = refl

inside_of : (s : Source) (r : ℕ) (d : Forest) → bare_in (ilasm r) ≡ true → FitsBody s r d → (sought : List ℕ) → parts sought d ≡ []
inside_of s r d e fits sought = go (ilasm r) e fits
  where
    go : (o : Option Rule) → bare_in o ≡ true → FitsRule s o d → parts sought d ≡ []
    go None h fit = absurd fit
    go (Some x) h fit = no_parts s sought x.body d fit h

rule_bytes : ilasm REAL_BITS_REAL_BYTES ≡ Some (rule_of n.REAL_BITS (Terminal t.REAL_BYTES ∷ []))
unfolding ilasm rule_by
rule_bytes = refl

rule_real : ilasm INSTRUCTION_OP_REAL ≡ Some (rule_of n.INSTRUCTION (Nonterminal n.OP_REAL ∷ Nonterminal n.REAL_BITS ∷ []))
unfolding ilasm rule_by
rule_real = refl

bits_within : (p : ℕ) → head_of p ≡ Some n.REAL_BITS → (nat_lt REAL_BITS_FLOAT32 (1 + (0 + p)) ≡ true) × (nat_lt (0 + p) (1 + REAL_BITS_REAL_BYTES) ≡ true)
unfolding ilasm
bits_within p e = within_in _ _ _ n.REAL_BITS REAL_BITS_FLOAT32 REAL_BITS_REAL_BYTES p e refl

bits_are : (p : ℕ) → head_of p ≡ Some n.REAL_BITS → (p ≡ REAL_BITS_FLOAT32) ⊎ ((p ≡ REAL_BITS_FLOAT64) ⊎ (p ≡ REAL_BITS_REAL_BYTES))
bits_are p e = go (p == REAL_BITS_FLOAT32) (p == REAL_BITS_FLOAT64) refl refl
  where
    go : (c d : Bool) → (p == REAL_BITS_FLOAT32) ≡ c → (p == REAL_BITS_FLOAT64) ≡ d → (p ≡ REAL_BITS_FLOAT32) ⊎ ((p ≡ REAL_BITS_FLOAT64) ⊎ (p ≡ REAL_BITS_REAL_BYTES))
    go true d same i = inl ((Decides-eqb p REAL_BITS_FLOAT32).0 same)
    go false true apart same = inr (inl ((Decides-eqb p REAL_BITS_FLOAT64).0 same))
    go false false apart other =
        let w = bits_within p e in
        let low = ltb-true REAL_BITS_FLOAT32 (1 + (0 + p)) w.0 in
        let high = ltb-true (0 + p) (1 + REAL_BITS_REAL_BYTES) w.1 in
        let not_single : p ≡ REAL_BITS_FLOAT32 → ⊥ = λ is. let also = (Decides-eqb p REAL_BITS_FLOAT32).1 is in absurd cc in
        let not_double : p ≡ REAL_BITS_FLOAT64 → ⊥ = λ is. let also = (Decides-eqb p REAL_BITS_FLOAT64).1 is in absurd cc in
        inr (inr (omega (arith, low, high, not_single, not_double)))

pub has_real : (s : Source) (f : Forest) → FitsBody s INSTRUCTION_OP_REAL f → HasBodies s f → HasReal s f
has_real s f h bodies =
    let o = operated s n.OP_REAL n.REAL_BITS f (fits_rule s INSTRUCTION_OP_REAL n.INSTRUCTION _ f rule_real h) bodies in
    subst (HasReal s) (sym o.is) (go o (bits_are o.production o.head))
  where
    go : (o : Operated s n.OP_REAL n.REAL_BITS f) → (o.production ≡ REAL_BITS_FLOAT32) ⊎ ((o.production ≡ REAL_BITS_FLOAT64) ⊎ (o.production ≡ REAL_BITS_REAL_BYTES))
        → HasReal s (branch o.mnemonic o.word (branch o.production o.operand none))
    go o (inl is) =
        let fit : FitsBody s REAL_BITS_FLOAT32 o.operand = subst (λ r. FitsBody s r o.operand) is o.fits in
        subst (λ r. HasReal s (branch o.mnemonic o.word (branch r o.operand none))) (sym is)
        (by_single s o.mnemonic o.word o.op-head o.word-fits o.operand (inside_of s REAL_BITS_FLOAT32 o.operand single_bare fit))
    go o (inr (inl is)) =
        let fit : FitsBody s REAL_BITS_FLOAT64 o.operand = subst (λ r. FitsBody s r o.operand) is o.fits in
        subst (λ r. HasReal s (branch o.mnemonic o.word (branch r o.operand none))) (sym is)
        (by_double s o.mnemonic o.word o.op-head o.word-fits o.operand (inside_of s REAL_BITS_FLOAT64 o.operand double_bare fit))
    go o (inr (inr is)) =
        let fit : FitsBody s REAL_BITS_REAL_BYTES o.operand = subst (λ r. FitsBody s r o.operand) is o.fits in
        let token = is_real s (leaf_at 0 o.operand) (fits_leaf s (Terminal t.REAL_BYTES ∷ []) o.operand (fits_rule s REAL_BITS_REAL_BYTES n.REAL_BITS _ o.operand rule_bytes fit) 0 t.REAL_BYTES refl) in
        subst (λ r. HasReal s (branch o.mnemonic o.word (branch r o.operand none))) (sym is)
        (by_bytes s o.mnemonic o.word o.op-head o.word-fits o.operand (inside_of s REAL_BITS_REAL_BYTES o.operand bytes_bare fit) token)
