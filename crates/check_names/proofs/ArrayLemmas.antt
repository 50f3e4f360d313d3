-- The bounds and ranks of arrays, one after the other.
use Rattle.std.proofs.Common.{◌≡◌, ℕ, zero, suc, ◌-◌, ◌≤◌, ◌^◌, List, [], ◌∷◌, ◌++◌, cond, map, ap, sym, ◌∙◌, refl, arith}
use Rattle.std.specs.Prelude.{Bool, true, false, if◌then◌else◌, ℤ, pos, negsuc, ◌+ℤ◌, ◌-ℤ◌, drop, filter, Option, None, Some}
use Rattle.std.specs.List.{flat_map}
use Rattle.std.proofs.lemmas.Int.{ints}
use Rattle.il_lexer.specs.declared.word.TheConstants.{COMMA}
use Rattle.ilasm_grammar.specs.declared.tree.TreeNode.{TreeNode}
use Rattle.ilasm_grammar.specs.declared.tree.TreeNode.TheVariants.{Leaf}
use Rattle.source_model.specs.Forest as tree
use Rattle.source_model.specs.Forest.{Forest, joined, preorder, tokens_of}
use Rattle.source_model.specs.Laws.{ForestOpens, ForestsJoin}
use Rattle.source_model.specs.Shapes.{commas}
use Rattle.source_model.specs.Source.{Source, is_word}
use Rattle.source_model.specs.TypeRules.{comma_past_rank, is_within}
use Rattle.source_nodes.specs.Dimensions.{bound_of}
use Rattle.source_nodes.specs.Integers.{distance}
use Rattle.source_nodes.specs.Least.{least, sooner}
use Rattle.source_nodes.specs.Readers.{Reads}
use Rattle.source_nodes.specs.declared.reader.Reader.{Reader}
use Rattle.source_nodes.specs.declared.shapes.Dimension.{Dimension}
use Rattle.source_syntax.proofs.LeastLemmas.{least_append, sooner_assoc}
use Rattle.source_syntax.proofs.Stepping.{Steps}
use Rattle.check_names.specs.ArrayNumbers.{dimension_number, or_else}

-- ---- the first of two lists that has a token

pub chosen_first : (k : ℕ) (xs ys : List ℕ) → Some k ≡ least xs → Some k ≡ least (or_else xs ys)
chosen_first k [] ys e = absurd cc
chosen_first k (x ∷ xs) ys e = e

pub nothing_least : (xs : List ℕ) → None ≡ least xs → xs ≡ []
nothing_least [] e = refl
nothing_least (x ∷ xs) e = absurd (go (least xs) e)
  where
    go : (o : Option ℕ) → None ≡ sooner (Some x) o → ⊥
    go None f = cc
    go (Some y) f = cc

pub chosen_second : (o : Option ℕ) (xs ys : List ℕ) → xs ≡ [] → o ≡ least ys → o ≡ least (or_else xs ys)
chosen_second o xs ys e h = h ∙ ap (λ zs. least (or_else zs ys)) (sym e)

-- what rules find, one after the other
pub next_rule : (c a b : Option ℕ) (xs ys : List ℕ) → c ≡ sooner a b → a ≡ least xs → b ≡ least ys → c ≡ least (xs ++ ys)
next_rule c a b xs ys e f g = e ∙ ap (λ x. sooner x b) f ∙ ap (sooner (least xs)) g ∙ sym (least_append xs ys)

-- ---- bounds

pub holds : (c : Bool) (k : ℕ) → (if c then [] else k ∷ []) ≡ [] → c ≡ true
holds true k e = refl
holds false k e = absurd cc

-- the size from a lower to an upper bound
pub size_between : (low high : ℤ) → is_within (negsuc 0xFFFFFFF) (pos 0xFFFFFFF) low ≡ true
    → is_within (low -ℤ pos 1) (low +ℤ pos 0x1FFFFFFE) high ≡ is_within (pos 0) (pos 0x1FFFFFFF) ((high -ℤ low) +ℤ pos 1)
size_between low high e = grind (arith, ints)

-- an upper bound beyond all numbers gives no size
pub beyond_size : (low high : ℤ) → is_within (negsuc 0xFFFFFFF) (pos 0xFFFFFFF) low ≡ true → 2 ^ 64 ≤ distance high
    → false ≡ is_within (pos 0) (pos 0x1FFFFFFF) ((high -ℤ low) +ℤ pos 1)
beyond_size low (pos n) e far = grind (arith, ints)
beyond_size low (negsuc n) e far = grind (arith, ints)

-- ---- dimensions

-- the least of what was found and of what the other dimensions have
abbrev pub bounds_after : Source → Option ℕ → List Dimension → Option ℕ
bounds_after s found ds = sooner found (least (flat_map (dimension_number s) (map bound_of ds)))

pub bounds_next : (s : Source) (found here : Option ℕ) (d : Dimension) (ds : List Dimension) → here ≡ least (dimension_number s (bound_of d))
    → bounds_after s (sooner found here) ds ≡ bounds_after s found (d ∷ ds)
bounds_next s found here d ds h =
    let rest = flat_map (dimension_number s) (map bound_of ds) in
    sooner_assoc found here (least rest) ∙ ap (λ x. sooner found (sooner x (least rest))) h
    ∙ ap (sooner found) (sym (least_append (dimension_number s (bound_of d)) rest))

-- ---- commas

-- the comma past so many of them
abbrev pub past_rank : ℕ → (r : Reader) → ((s : Source) × Reads r s) → Forest → Option ℕ
past_rank more r i f = least (comma_past_rank (drop more (commas i.0 f)))

module _ (s : Source) where
  comma_own : (k : ℕ) (a : Forest) → is_word s COMMA k ≡ true → commas s (tree.leaf k a) ≡ k ∷ commas s a
  comma_own k a e = ap (λ (c : Bool). cond c (k ∷ commas s a) (commas s a)) e

  comma_other : (k : ℕ) (a : Forest) → is_word s COMMA k ≡ false → commas s (tree.leaf k a) ≡ commas s a
  comma_other k a e = ap (λ (c : Bool). cond c (k ∷ commas s a) (commas s a)) e

  pub rank_first : (more k : ℕ) (a : Forest) → is_word s COMMA k ≡ true → more ≡ 0 → Some k ≡ least (comma_past_rank (drop more (commas s (tree.leaf k a))))
  rank_first more k a e none =
      ap (λ ks. least (comma_past_rank ks)) (sym (comma_own k a e)) ∙ ap (λ n. least (comma_past_rank (drop n (commas s (tree.leaf k a))))) (sym none)

  one_less : (more k : ℕ) (ks : List ℕ) → (more ≡ 0 → ⊥) → drop (more - 1) ks ≡ drop more (k ∷ ks)
  one_less zero k ks some = absurd (some refl)
  one_less (suc more) k ks some = let same : suc more - 1 ≡ more = omega arith in ap (λ n. drop n ks) same

  pub rank_own : (more k : ℕ) (a : Forest) → is_word s COMMA k ≡ true → (more ≡ 0 → ⊥)
      → least (comma_past_rank (drop (more - 1) (commas s a))) ≡ least (comma_past_rank (drop more (commas s (tree.leaf k a))))
  rank_own more k a e some =
      ap (λ ks. least (comma_past_rank ks)) (one_less more k (commas s a) some ∙ ap (drop more) (sym (comma_own k a e)))

  pub rank_other : (more k : ℕ) (a : Forest) → is_word s COMMA k ≡ false
      → least (comma_past_rank (drop more (commas s a))) ≡ least (comma_past_rank (drop more (commas s (tree.leaf k a))))
  rank_other more k a e = ap (λ ks. least (comma_past_rank (drop more ks))) (sym (comma_other k a e))

  pub rank_into : ForestsJoin → (more p : ℕ) (b a : Forest)
      → least (comma_past_rank (drop more (commas s (joined b a)))) ≡ least (comma_past_rank (drop more (commas s (tree.branch p b a))))
  rank_into joins more p b a = ap (λ ks. least (comma_past_rank (drop more (filter (is_word s COMMA) ks)))) (joins.tokens b a)

drop_nothing : (more : ℕ) → comma_past_rank (drop more []) ≡ []
drop_nothing zero = refl
drop_nothing (suc more) = refl

pub rank_none : (more : ℕ) → None ≡ least (comma_past_rank (drop more []))
rank_none more = ap least (sym (drop_nothing more))

-- at a leaf, which decides what is asked
pub at_leaf : {I Y : Type 0} (opens : ForestOpens) (now whole : I → Forest → Y) (nodes : List TreeNode) (value : Y) (token : ℕ) (left rest : List TreeNode)
    → ((i : I) (a : Forest) → value ≡ now i (tree.leaf token a))
    → left ≡ Leaf token ∷ rest → Steps now whole nodes left → (i : I) (f : Forest) → preorder f ≡ nodes → value ≡ whole i f
at_leaf opens now whole nodes value token left rest decides e l i f h =
    let b = opens.leaf l.forest token rest (l.is ∙ e) in
    decides i b.after ∙ ap (now i) (sym b.is) ∙ l.same i f h
