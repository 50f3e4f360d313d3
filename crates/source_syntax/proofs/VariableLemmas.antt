-- The numbers of generic parameters, from the bodies of their productions.
use Rattle.std.proofs.Common.{◌≡◌, ℕ, zero, suc, ◌+◌, ◌<◌, ◌≤◌, ◌^◌, ◌⊎◌, inl, inr, List, [], ◌∷◌, Option, None, Some, length, refl, ap, sym, subst, ◌∙◌, arith}
use Rattle.std.specs.Prelude.{Bool, true, false, not, ◌==◌, ◌||◌, ◌&&◌, ℤ, pos, negsuc, slice_get, option_map, position, bytes_eq, nat_lt, int_le, if◌then◌else◌}
use Rattle.std.proofs.lemmas.Bool.{cases_Bool, ltb-true}
use Rattle.std.proofs.lemmas.List.Quantifiers.{position-Some}
use Rattle.std.proofs.lemmas.Bool.Decides.{Decides-eqb}
use Rattle.il_lexer.specs.declared.types.TokenKind.TheVariants as kind
use Rattle.il_lexer.specs.declared.word.TheConstants.{BANG, DOUBLE_BANG}
use Rattle.ilasm_grammar.specs.Grammar.{Rule, rule_of}
use Rattle.ilasm_grammar.specs.Ilasm.{ilasm, rule_by, body_by}
use Rattle.ilasm_grammar.specs.declared.nonterminals.TheConstants as n
use Rattle.ilasm_grammar.specs.declared.productions.TheConstants.{TYPE_BASE_VOID, TYPE_BASE_BANG, TYPE_BASE_DOUBLE_BANG, INDEX_INT, INDEX_NAME}
use Rattle.ilasm_grammar.specs.declared.symbol.Symbol.{Symbol}
use Rattle.ilasm_grammar.specs.declared.symbol.Symbol.TheVariants.{Terminal, Nonterminal}
use Rattle.ilasm_grammar.specs.declared.terminals.TheConstants as t
use Rattle.source_model.specs.Forest.{Forest, none, leaf, branch, leaf_at, has, the}
use Rattle.source_model.specs.Shapes.{natural}
use Rattle.source_model.specs.Source.{Source}
use Rattle.source_model.specs.TypeRules.{is_within, out_of}
use Rattle.source_model.specs.Types.{number_of, or_length, variable_number}
use Rattle.source_model.specs.Values.{int_at, name_text}
use Rattle.source_nodes.specs.Derived.{head_of, Fits, FitsBody, HasBodies}
use Rattle.source_syntax.specs.Indexes.{HasIndex}
use Rattle.source_syntax.specs.Places.{IsSound, IsReadable, signature_numbers_out_of_range}
use Rattle.source_nodes.specs.Readers.{IsOf}
use Rattle.source_syntax.proofs.SoundLemmas.{index_fits}
use Rattle.source_syntax.proofs.TypeWalks.{has_bodies}
use Rattle.source_nodes.proofs.WrittenNames.{fits_rule, is_name, first_terminal, both_true, other_true}

-- ---- a nonterminal whose productions follow one another

-- in this list, from this place on, the number stands only from one place to another
abbrev pub stands_within : ℕ → ℕ → ℕ → ℕ → List ℕ → Bool
stands_within x low high at [] = true
stands_within x low high at (y ∷ ys) = (not (y == x) || (nat_lt low (1 + at) && nat_lt at (1 + high))) && stands_within x low high (1 + at) ys

within : (x low high at : ℕ) (ys : List ℕ) → stands_within x low high at ys ≡ true → (q : ℕ) → slice_get ys q ≡ Some x
    → (nat_lt low (1 + (at + q)) ≡ true) × (nat_lt (at + q) (1 + high) ≡ true)
within x low high at [] e q h = absurd cc
within x low high at (y ∷ ys) e zero h =
    let here = other_true (y == x) (nat_lt low (1 + at) && nat_lt at (1 + high))
    (both_true (not (y == x) || (nat_lt low (1 + at) && nat_lt at (1 + high))) (stands_within x low high (1 + at) ys) e).0 ((Decides-eqb y x).1 cc) in
    let same : at ≡ at + 0 = omega arith in
    subst (λ k. (nat_lt low (1 + k) ≡ true) × (nat_lt k (1 + high) ≡ true)) same (both_true (nat_lt low (1 + at)) (nat_lt at (1 + high)) here)
within x low high at (y ∷ ys) e (suc q) h =
    let same : 1 + at + q ≡ at + suc q = omega arith in
    subst (λ k. (nat_lt low (1 + k) ≡ true) × (nat_lt k (1 + high) ≡ true)) same
    (within x low high (1 + at) ys (both_true (not (y == x) || (nat_lt low (1 + at) && nat_lt at (1 + high))) (stands_within x low high (1 + at) ys) e).1 q h)

pub within_in : (heads starts : List ℕ) (bodies : List Symbol) (x low high p : ℕ) → option_map (λ (r : Rule). r.head) (rule_by heads starts bodies p) ≡ Some x
    → stands_within x low high 0 heads ≡ true → (nat_lt low (1 + (0 + p)) ≡ true) × (nat_lt (0 + p) (1 + high) ≡ true)
unfolding rule_by
within_in heads starts bodies x low high p e test = within x low high 0 heads test p (headed (slice_get heads p) e)
  where
    headed : (o : Option ℕ) → option_map (λ (r : Rule). r.head) (option_map (λ (h : ℕ). rule_of h (body_by starts bodies p)) o) ≡ Some x → o ≡ Some x
    headed None h = absurd cc
    headed (Some y) h = h

base_within : (p : ℕ) → head_of p ≡ Some n.TYPE_BASE → (nat_lt TYPE_BASE_VOID (1 + (0 + p)) ≡ true) × (nat_lt (0 + p) (1 + TYPE_BASE_DOUBLE_BANG) ≡ true)
unfolding ilasm
base_within p e = within_in _ _ _ n.TYPE_BASE TYPE_BASE_VOID TYPE_BASE_DOUBLE_BANG p e refl

index_within : (p : ℕ) → head_of p ≡ Some n.INDEX → (nat_lt INDEX_INT (1 + (0 + p)) ≡ true) × (nat_lt (0 + p) (1 + INDEX_NAME) ≡ true)
unfolding ilasm
index_within p e = within_in _ _ _ n.INDEX INDEX_INT INDEX_NAME p e refl

pub base_is : (p : ℕ) → head_of p ≡ Some n.TYPE_BASE → (TYPE_BASE_VOID ≤ p) × (p ≤ TYPE_BASE_DOUBLE_BANG)
base_is p e =
    let w = base_within p e in
    let low = ltb-true TYPE_BASE_VOID (1 + (0 + p)) w.0 in
    let high = ltb-true (0 + p) (1 + TYPE_BASE_DOUBLE_BANG) w.1 in
    (omega (arith, low), omega (arith, high))

pub index_is : (p : ℕ) → head_of p ≡ Some n.INDEX → (p ≡ INDEX_INT) ⊎ (p ≡ INDEX_NAME)
index_is p e = go (p == INDEX_INT) refl
  where
    go : (b : Bool) → (p == INDEX_INT) ≡ b → (p ≡ INDEX_INT) ⊎ (p ≡ INDEX_NAME)
    go true same = inl ((Decides-eqb p INDEX_INT).0 same)
    go false apart =
        let w = index_within p e in
        let low = ltb-true INDEX_INT (1 + (0 + p)) w.0 in
        let high = ltb-true (0 + p) (1 + INDEX_NAME) w.1 in
        let differs : p ≡ INDEX_INT → ⊥ = λ is. let also = (Decides-eqb p INDEX_INT).1 is in absurd cc in
        inr (omega (arith, low, high, differs))

-- ---- below `!` and `!!`

rule_bang : ilasm TYPE_BASE_BANG ≡ Some (rule_of n.TYPE_BASE (Terminal (t.WORDS + BANG) ∷ Nonterminal n.INDEX ∷ []))
unfolding ilasm rule_by
rule_bang = refl

rule_double_bang : ilasm TYPE_BASE_DOUBLE_BANG ≡ Some (rule_of n.TYPE_BASE (Terminal (t.WORDS + DOUBLE_BANG) ∷ Nonterminal n.INDEX ∷ []))
unfolding ilasm rule_by
rule_double_bang = refl

rule_index_name : ilasm INDEX_NAME ≡ Some (rule_of n.INDEX (Terminal t.NAME ∷ []))
unfolding ilasm rule_by
rule_index_name = refl

index_name : (s : Source) (x : ℕ) (f : Forest) → Fits s (Terminal x ∷ Nonterminal n.INDEX ∷ []) f → HasBodies s f → has INDEX_INT f ≡ false
    → IsOf s kind.Name (leaf_at 0 (the INDEX_NAME f))
index_name s x none i h named = absurd i
index_name s x (branch p b a) i h named = absurd i
index_name s x (leaf k none) i h named = absurd i.1
index_name s x (leaf k (leaf l a)) i h named = absurd i.1
index_name s x (leaf k (branch p b a)) i h named = elim (index_is p i.1.0) [
  | inl is ↦
      let some : has INDEX_INT (leaf k (branch p b a)) ≡ true = subst (λ q. has INDEX_INT (leaf k (branch q b a)) ≡ true) (sym is) refl in
      absurd cc
  | inr is ↦
      subst (λ q. FitsBody s q b → IsOf s kind.Name (leaf_at 0 (the INDEX_NAME (leaf k (branch q b a))))) (sym is)
      (λ fit. is_name s (leaf_at 0 b) (first_terminal s t.NAME [] b (fits_rule s INDEX_NAME n.INDEX (Terminal t.NAME ∷ []) b rule_index_name fit))) h.0
]

pub class_index : (s : Source) (f : Forest) → FitsBody s TYPE_BASE_BANG f → HasBodies s f → has INDEX_INT f ≡ false → IsOf s kind.Name (leaf_at 0 (the INDEX_NAME f))
class_index s f fits h named =
    index_name s (t.WORDS + BANG) f (fits_rule s TYPE_BASE_BANG n.TYPE_BASE (Terminal (t.WORDS + BANG) ∷ Nonterminal n.INDEX ∷ []) f rule_bang fits) h named

pub method_index : (s : Source) (f : Forest) → FitsBody s TYPE_BASE_DOUBLE_BANG f → HasBodies s f → has INDEX_INT f ≡ false → IsOf s kind.Name (leaf_at 0 (the INDEX_NAME f))
method_index s f fits h named =
    index_name s (t.WORDS + DOUBLE_BANG) f (fits_rule s TYPE_BASE_DOUBLE_BANG n.TYPE_BASE (Terminal (t.WORDS + DOUBLE_BANG) ∷ Nonterminal n.INDEX ∷ []) f rule_double_bang fits) h named

-- ---- the number of a name

pub found_number : (names : List (List ℕ)) (text : List ℕ) (k m : ℕ) → position (bytes_eq text) names ≡ Some k → (k < 2 ^ 32 → m ≡ k) → length names < 2 ^ 32
    → m ≡ number_of names text
found_number names text k m at same few =
    let less = (position-Some (bytes_eq text) names k [] at).0 in
    same (omega (arith, less, few)) ∙ sym (ap (λ o. or_length o names) at)

pub no_number : (names : List (List ℕ)) (text : List ℕ) (long m : ℕ) → position (bytes_eq text) names ≡ None → long ≡ length names → (long < 2 ^ 32 → m ≡ long)
    → length names < 2 ^ 32 → m ≡ number_of names text
no_number names text long m at is same few = same (omega (arith, is, few)) ∙ is ∙ sym (ap (λ o. or_length o names) at)

-- ---- the index of a generic parameter

-- a number of 32 bits
abbrev pub IsWord : ℤ → Type 0
IsWord z = (m : ℕ) × (z ≡ pos m) × (m < 2 ^ 32)

in_range : (z : ℤ) → is_within (pos 0) (pos 65535) z ≡ true → IsWord z
in_range (pos m) e = (m, refl, go m (both_true (int_le (pos 0) (pos m)) (int_le (pos m) (pos 65535)) e).1)
  where
    go : (m : ℕ) → int_le (pos m) (pos 65535) ≡ true → m < 2 ^ 32
    go m e = search (arith, e)
in_range (negsuc m) e = absurd cc

unless_nothing : (s : Source) (k : ℕ) → out_of (pos 0) (pos 65535) s k ≡ [] → IsWord (int_at s k)
unless_nothing s k e = elim (cases_Bool (is_within (pos 0) (pos 65535) (int_at s k))) [
  | inl fits ↦ in_range (int_at s k) fits
  | inr over ↦ let none : k ∷ [] ≡ [] = sym (ap (λ (b : Bool). if b then [] else k ∷ []) over) ∙ e in absurd cc
]

numbered : (s : Source) (p : ℕ) (f : Forest) → ((p == TYPE_BASE_BANG) || (p == TYPE_BASE_DOUBLE_BANG)) ≡ true → signature_numbers_out_of_range s p f ≡ []
    → has INDEX_INT f ≡ true → IsWord (int_at s (leaf_at 0 (the INDEX_INT f)))
numbered s p f is e some =
    unless_nothing s (leaf_at 0 (the INDEX_INT f))
    (sym (ap (λ (b : Bool). if b && has INDEX_INT f then out_of (pos 0) (pos 65535) s (leaf_at 0 (the INDEX_INT f)) else []) is
    ∙ ap (λ (b : Bool). if b then out_of (pos 0) (pos 65535) s (leaf_at 0 (the INDEX_INT f)) else []) some)
    ∙ index_fits s p f e)

pub class_has_index : (s : Source) (f : Forest) → IsSound s TYPE_BASE_BANG f → IsReadable s f → HasIndex s f
class_has_index s f sound each = record {
  numbered = numbered s TYPE_BASE_BANG f refl sound.1;
  named = class_index s f sound.0 (has_bodies s f each);
}

pub method_has_index : (s : Source) (p : ℕ) (f : Forest) → p ≡ TYPE_BASE_DOUBLE_BANG → IsSound s p f → IsReadable s f → HasIndex s f
method_has_index s p f is sound each =
    let own : IsSound s TYPE_BASE_DOUBLE_BANG f = subst (λ q. IsSound s q f) is sound in
    record {
      numbered = numbered s TYPE_BASE_DOUBLE_BANG f refl own.1;
      named = method_index s f own.0 (has_bodies s f each);
    }

pub written_number : (s : Source) (names : List (List ℕ)) (f : Forest) (token m n : ℕ) → has INDEX_INT f ≡ true → token ≡ leaf_at 0 (the INDEX_INT f)
    → int_at s (leaf_at 0 (the INDEX_INT f)) ≡ pos n → (int_at s token ≡ pos n → m ≡ n) → m ≡ variable_number s names f
written_number s names f token m n some at word is =
    is (ap (int_at s) at ∙ word) ∙ sym (ap natural word)
    ∙ sym (ap (λ (b : Bool). if b then natural (int_at s (leaf_at 0 (the INDEX_INT f))) else number_of names (name_text s (leaf_at 0 (the INDEX_NAME f)))) some)

pub written_name : (s : Source) (names : List (List ℕ)) (f : Forest) (token : ℕ) → has INDEX_INT f ≡ false → token ≡ leaf_at 0 (the INDEX_NAME f)
    → number_of names (name_text s token) ≡ variable_number s names f
written_name s names f token absent at =
    ap (λ k. number_of names (name_text s k)) at
    ∙ sym (ap (λ (b : Bool). if b then natural (int_at s (leaf_at 0 (the INDEX_INT f))) else number_of names (name_text s (leaf_at 0 (the INDEX_NAME f)))) absent)
