-- What the grammar says of types, their suffixes and modifiers.
use Rattle.std.proofs.Common.{◌≡◌, ℕ, List, [], ◌∷◌, ◌++◌, length, ap, sym, subst, ◌∙◌, refl, arith}
use Rattle.std.specs.Prelude.{Bool, true, false, not, ◌==◌, ◌&&◌, ◌||◌, if◌then◌else◌, option_map, ⊤, Option, None, Some}
use Rattle.std.proofs.lemmas.Bool.Decides.{Decides-eqb}
use Rattle.std.proofs.lemmas.Option.{same_Some}
use Rattle.ilasm_grammar.specs.Grammar.{Rule}
use Rattle.ilasm_grammar.specs.Ilasm.{ilasm, rule_by}
use Rattle.ilasm_grammar.specs.declared.nonterminals.TheConstants as n
use Rattle.ilasm_grammar.specs.declared.productions.TheConstants.{SPEC_TYPE, SPEC_TYPE_NAME, TYPE}
use Rattle.ilasm_grammar.specs.declared.symbol.Symbol.{Symbol}
use Rattle.ilasm_grammar.specs.declared.symbol.Symbol.TheVariants.{Terminal, Nonterminal}
use Rattle.ilasm_grammar.specs.declared.tree.TreeNode.{TreeNode}
use Rattle.ilasm_grammar.specs.declared.tree.TreeNode.TheVariants.{Branch, Leaf}
use Rattle.source_model.specs.Forest.{Forest, none, leaf, branch, is_among, part, parts_outside}
use Rattle.source_model.specs.Source.{Source}
use Rattle.source_model.specs.Types.{suffixes}
use Rattle.source_nodes.specs.Derived.{Fits, FitsBody, FitsRule, HasBodies, head_of}
use Rattle.source_syntax.specs.Suffixes.{is_suffix}
use Rattle.source_syntax.proofs.TypeWalks.{flipped}
use Rattle.source_nodes.proofs.WrittenNames.{both_true, other_true}
use Rattle.check_names.proofs.SignatureParts.{everywhere, all_rules}

-- ---- what the grammar says of types

abbrev is_symbol : ℕ → Symbol → Bool
is_symbol m (Terminal x) = false
is_symbol m (Nonterminal l) = l == m

abbrev are_symbols : List ℕ → List Symbol → Bool
are_symbols [] [] = true
are_symbols [] (x ∷ xs) = false
are_symbols (m ∷ ms) [] = false
are_symbols (m ∷ ms) (x ∷ xs) = is_symbol m x && are_symbols ms xs

-- a list of suffixes is empty, or a suffix and such a list
abbrev star_is : ℕ → Option Rule → Bool
star_is p None = true
star_is p (Some r) = not (r.head == n.TYPE_SUFFIX_STAR) || (are_symbols [] r.body || are_symbols (n.TYPE_SUFFIX ∷ n.TYPE_SUFFIX_STAR ∷ []) r.body)

stars : all_rules star_is 641 ≡ true
unfolding ilasm rule_by
stars = refl

abbrev suffix_among : ℕ → Option Rule → Bool
suffix_among p None = true
suffix_among p (Some r) = not (r.head == n.TYPE_SUFFIX) || is_among suffixes p

suffix_rules : all_rules suffix_among 641 ≡ true
unfolding ilasm rule_by
suffix_rules = refl

abbrev spec_is : ℕ → Option Rule → Bool
spec_is p None = true
spec_is p (Some r) = not (r.head == n.SPEC) || ((p == SPEC_TYPE_NAME) || (p == SPEC_TYPE))

spec_rules : all_rules spec_is 641 ≡ true
unfolding ilasm rule_by
spec_rules = refl

abbrev is_no_type : ℕ → Option Rule → Bool
is_no_type p None = true
is_no_type p (Some r) = (r.head == n.TYPE) || not (p == TYPE)

type_rules : all_rules is_no_type 641 ≡ true
unfolding ilasm rule_by
type_rules = refl

headed : (test : ℕ → Option Rule → Bool) (P : Rule → Bool) (p m : ℕ) (o : Option Rule) → option_map (λ (r : Rule). r.head) o ≡ Some m → (r : Rule) × (o ≡ Some r) × (r.head ≡ m)
headed test P p m None e = absurd cc
headed test P p m (Some r) e = (r, refl, same_Some r.head m e)

rule_at : (p m : ℕ) → head_of p ≡ Some m → (r : Rule) × (ilasm p ≡ Some r) × (r.head ≡ m)
rule_at p m e = headed star_is (λ r. true) p m (ilasm p) e

-- a production of this nonterminal is one of these
by_head : (test : ℕ → Bool) (m p : ℕ) (r : Rule) → (not (r.head == m) || test p) ≡ true → r.head ≡ m → test p ≡ true
by_head test m p r e same = other_true (r.head == m) (test p) e ((Decides-eqb r.head m).1 same)

is_a_suffix : (p : ℕ) → head_of p ≡ Some n.TYPE_SUFFIX → is_among suffixes p ≡ true
is_a_suffix p e =
    let r = rule_at p n.TYPE_SUFFIX e in
    by_head (λ q. is_among suffixes q) n.TYPE_SUFFIX p r.0 (sym (ap (suffix_among p) r.1) ∙ everywhere suffix_among (λ q. refl) suffix_rules p) r.2

pub is_a_spec : (p : ℕ) → head_of p ≡ Some n.SPEC → ((p == SPEC_TYPE_NAME) || (p == SPEC_TYPE)) ≡ true
is_a_spec p e =
    let r = rule_at p n.SPEC e in
    by_head (λ q. (q == SPEC_TYPE_NAME) || (q == SPEC_TYPE)) n.SPEC p r.0 (sym (ap (spec_is p) r.1) ∙ everywhere spec_is (λ q. refl) spec_rules p) r.2

-- a production of another nonterminal is no type
pub no_type : (p m : ℕ) → head_of p ≡ Some m → (m == n.TYPE) ≡ false → (p == TYPE) ≡ false
no_type p m e other =
    let r = rule_at p m e in
    let test : ((r.0.head == n.TYPE) || not (p == TYPE)) ≡ true = sym (ap (is_no_type p) r.1) ∙ everywhere is_no_type (λ q. refl) type_rules p in
    go (p == TYPE) (sym (ap (λ (c : Bool). c || not (p == TYPE)) (ap (λ k. k == n.TYPE) r.2 ∙ other)) ∙ test)
  where
    go : (c : Bool) → not c ≡ true → c ≡ false
    go true h = absurd cc
    go false h = refl

pub is_suffix_there : (node : TreeNode) → is_suffix node ≡ true → (p : ℕ) × (count : ℕ) × (node ≡ Branch p count) × (is_among suffixes p ≡ true)
is_suffix_there (Branch p count) e = (p, count, refl, e)
is_suffix_there (Leaf token) e = absurd cc

pub empty_nodes : (xs : List TreeNode) → (length xs == 0) ≡ true → xs ≡ []
empty_nodes [] e = refl
empty_nodes (x ∷ xs) e = let none_there : length (x ∷ xs) ≡ 0 = (Decides-eqb (length (x ∷ xs)) 0).0 e in absurd (omega (arith, none_there))

pub some_nodes : (xs : List TreeNode) → (length xs == 0) ≡ false → xs ≡ [] → ⊥
some_nodes xs e empty = let clash : true ≡ false = sym (ap (λ (ys : List TreeNode). length ys == 0) empty) ∙ e in cc

-- the types in a list of suffixes all stand in its suffixes
abbrev pub OnlyInSuffixes : Forest → Type 0
OnlyInSuffixes f = parts_outside suffixes (TYPE ∷ []) f ≡ []

module _ (s : Source) where
  none_at : (p : ℕ) (b a : Forest) → (p == TYPE) ≡ false → is_among suffixes p ≡ true → OnlyInSuffixes a → OnlyInSuffixes (branch p b a)
  none_at p b a other shut rest =
      ap (λ (c : Bool). (if c || false then part p b ∷ [] else if is_among suffixes p then [] else parts_outside suffixes (TYPE ∷ []) b) ++ parts_outside suffixes (TYPE ∷ []) a) (flipped p TYPE other)
      ∙ ap (λ (c : Bool). (if c then [] else parts_outside suffixes (TYPE ∷ []) b) ++ parts_outside suffixes (TYPE ∷ []) a) shut
      ∙ rest

  none_in : (p : ℕ) (b a : Forest) → (p == TYPE) ≡ false → OnlyInSuffixes b → OnlyInSuffixes a → OnlyInSuffixes (branch p b a)
  none_in p b a other below rest =
      ap (λ (c : Bool). (if c || false then part p b ∷ [] else if is_among suffixes p then [] else parts_outside suffixes (TYPE ∷ []) b) ++ parts_outside suffixes (TYPE ∷ []) a) (flipped p TYPE other)
      ∙ go (is_among suffixes p)
    where
      go : (c : Bool) → (if c then [] else parts_outside suffixes (TYPE ∷ []) b) ++ parts_outside suffixes (TYPE ∷ []) a ≡ []
      go true = rest
      go false = ap (λ ps. ps ++ parts_outside suffixes (TYPE ∷ []) a) below ∙ rest

  -- a list of suffixes begins with a suffix, where it isn't empty
  abbrev Begins : Forest → Type 0
  Begins none = ⊤
  Begins (leaf k a) = ⊥
  Begins (branch p b a) = (head_of p ≡ Some n.TYPE_SUFFIX) × Fits s (Nonterminal n.TYPE_SUFFIX_STAR ∷ []) a

  two_symbols : (l m : ℕ) (g : Forest) → Fits s (Nonterminal l ∷ Nonterminal m ∷ []) g → l ≡ n.TYPE_SUFFIX → m ≡ n.TYPE_SUFFIX_STAR → Begins g
  two_symbols l m none h e f = absurd h
  two_symbols l m (leaf k a) h e f = absurd h
  two_symbols l m (branch p b a) h e f = (h.0 ∙ ap (λ k. Some k) e, subst (λ k. Fits s (Nonterminal k ∷ []) a) f h.1)

  no_symbols : (g : Forest) → Fits s [] g → Begins g
  no_symbols none h = tt
  no_symbols (leaf k a) h = absurd h
  no_symbols (branch p b a) h = absurd h

  begins : (body : List Symbol) (g : Forest) → Fits s body g → (are_symbols [] body || are_symbols (n.TYPE_SUFFIX ∷ n.TYPE_SUFFIX_STAR ∷ []) body) ≡ true → Begins g
  begins [] g h e = no_symbols g h
  begins (Terminal x ∷ more) g h e = absurd cc
  begins (Nonterminal l ∷ []) g h e = let last = (both_true (l == n.TYPE_SUFFIX) false e).1 in absurd cc
  begins (Nonterminal l ∷ Terminal x ∷ more) g h e = let last = (both_true (l == n.TYPE_SUFFIX) false e).1 in absurd cc
  begins (Nonterminal l ∷ Nonterminal m ∷ []) g h e =
      let both = both_true (l == n.TYPE_SUFFIX) ((m == n.TYPE_SUFFIX_STAR) && true) e in
      two_symbols l m g h ((Decides-eqb l n.TYPE_SUFFIX).0 both.0) ((Decides-eqb m n.TYPE_SUFFIX_STAR).0 (both_true (m == n.TYPE_SUFFIX_STAR) true both.1).0)
  begins (Nonterminal l ∷ Nonterminal m ∷ x ∷ more) g h e =
      let both = both_true (l == n.TYPE_SUFFIX) ((m == n.TYPE_SUFFIX_STAR) && false) e in
      let last = (both_true (m == n.TYPE_SUFFIX_STAR) false both.1).1 in absurd cc

  star_begins : (p : ℕ) (g : Forest) → head_of p ≡ Some n.TYPE_SUFFIX_STAR → FitsBody s p g → Begins g
  star_begins p g head fits =
      let r = rule_at p n.TYPE_SUFFIX_STAR head in
      begins r.0.body g (subst (λ o. FitsRule s o g) r.1 fits)
      (other_true (r.0.head == n.TYPE_SUFFIX_STAR) (are_symbols [] r.0.body || are_symbols (n.TYPE_SUFFIX ∷ n.TYPE_SUFFIX_STAR ∷ []) r.0.body)
      (sym (ap (star_is p) r.1) ∙ everywhere star_is (λ q. refl) stars p) ((Decides-eqb r.0.head n.TYPE_SUFFIX_STAR).1 r.2))

  pub only_in_suffixes : (f : Forest) → Fits s (Nonterminal n.TYPE_SUFFIX_STAR ∷ []) f → HasBodies s f → OnlyInSuffixes f
  only_in_suffixes none h each = absurd h
  only_in_suffixes (leaf k a) h each = absurd h
  only_in_suffixes (branch p b (leaf k a)) h each = absurd h.1
  only_in_suffixes (branch p b (branch q c a)) h each = absurd h.1
  only_in_suffixes (branch p none none) h each = none_in p none none (no_type p n.TYPE_SUFFIX_STAR h.0 refl) refl refl
  only_in_suffixes (branch p (leaf k a) none) h each = absurd (star_begins p (leaf k a) h.0 each.0)
  only_in_suffixes (branch p (branch q c a) none) h each =
      let own = star_begins p (branch q c a) h.0 each.0 in
      none_in p (branch q c a) none (no_type p n.TYPE_SUFFIX_STAR h.0 refl)
      (none_at q c a (no_type q n.TYPE_SUFFIX own.0 refl) (is_a_suffix q own.0) (only_in_suffixes a own.1 each.1.2)) refl
