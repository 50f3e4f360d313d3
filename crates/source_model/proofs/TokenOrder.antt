-- How tokens stand in a derivation, and the parts among them.
use Rattle.std.proofs.Common.{◌≡◌, ℕ, zero, suc, ◌+◌, ◌<◌, ◌≤◌, List, [], ◌∷◌, ◌++◌, length, length-append, ap, sym, ◌∙◌, refl, arith}
use Rattle.std.specs.Prelude.{Bool, true, false, if◌then◌else◌, slice_index_or, All}
use Rattle.std.proofs.lemmas.List.Elements.{All-nil, All-cons, All-append}
use Rattle.ilasm_grammar.specs.Grammar.{Grammar, Derives}
use Rattle.ilasm_grammar.specs.declared.symbol.Symbol.{Symbol}
use Rattle.ilasm_grammar.specs.declared.tree.TreeNode.{TreeNode}
use Rattle.ilasm_grammar.specs.declared.tree.TreeNode.TheVariants.{Branch, Leaf}
use Rattle.source_model.specs.Forest as tree
use Rattle.source_model.specs.Forest.{Forest, preorder, tokens_of, Part, part, is_among, parts_outside, first_token}
use Rattle.source_model.specs.TokenOrder.{numbers_from, StandsWithin, TokensStandInOrder}
use Rattle.source_model.proofs.Forests.{one_forest}

numbers_join : (at m n : ℕ) → numbers_from at m ++ numbers_from (at + m) n ≡ numbers_from at (m + n)
numbers_join at zero n =
    let next : at + 0 ≡ at = omega arith in
    let count : n ≡ 0 + n = omega arith in
    ap (λ k. numbers_from k n) next ∙ ap (numbers_from at) count
numbers_join at (suc m) n =
    let next : at + suc m ≡ suc at + m = omega arith in
    let count : suc (m + n) ≡ suc m + n = omega arith in
    ap (λ k. at ∷ (numbers_from (suc at) m ++ numbers_from k n)) next ∙ ap (λ xs. at ∷ xs) (numbers_join (suc at) m n)
    ∙ ap (numbers_from at) count

-- a forest with these nodes, whose tokens are so many from `at` on
abbrev in_order : ℕ → List ℕ → List TreeNode → Type 0
in_order at kinds nodes = (f : Forest) × (preorder f ≡ nodes) × (tokens_of f ≡ numbers_from at (length kinds))

joined_tokens : (at : ℕ) (front back kinds a b : List ℕ) → kinds ≡ front ++ back → a ≡ numbers_from at (length front) →
    b ≡ numbers_from (at + length front) (length back) → a ++ b ≡ numbers_from at (length kinds)
joined_tokens at front back kinds a b k x y =
    ap (λ xs. xs ++ b) x ∙ ap (λ ys. numbers_from at (length front) ++ ys) y ∙ numbers_join at (length front) (length back)
    ∙ ap (numbers_from at) (sym (length-append front back) ∙ sym (ap length k))

in_order_branch : (p at count : ℕ) (front back kinds : List ℕ) (below after nodes : List TreeNode) → count ≡ length below →
    kinds ≡ front ++ back → nodes ≡ below ++ after → in_order at front below → in_order (at + length front) back after →
    in_order at kinds (Branch p count ∷ nodes)
in_order_branch p at count front back kinds below after nodes c k n f g = (
  tree.branch p f.0 g.0,
  ap (λ j. Branch p j ∷ (preorder f.0 ++ preorder g.0)) (ap length f.1 ∙ sym c)
      ∙ ap (λ ns. Branch p count ∷ ns) (ap (λ xs. xs ++ preorder g.0) f.1 ∙ ap (λ xs. below ++ xs) g.1 ∙ sym n),
  joined_tokens at front back kinds (tokens_of f.0) (tokens_of g.0) k f.2 g.2,
)

derivation_in_order : (g : Grammar) {at : ℕ} {symbols : List Symbol} {kinds : List ℕ} {nodes : List TreeNode} →
    Derives g at symbols kinds nodes → in_order at kinds nodes
derivation_in_order g Derives.none = (tree.none, refl, refl)
derivation_in_order g (Derives.leaf {at = at} {kinds = kinds} d) =
    let h : in_order (suc at) kinds _ = derivation_in_order g d in
    (tree.leaf at h.0, ap (λ ns. Leaf at ∷ ns) h.1, ap (λ ks. at ∷ ks) h.2)
derivation_in_order g (Derives.branch {at = at} {production = p} {count = count} {front = front} {back = back} {kinds = kinds} {below = below} {after = after} {nodes = nodes} e d s c k m) =
    in_order_branch p at count front back kinds below after nodes c k m (derivation_in_order g d) (derivation_in_order g s)

-- its forest is the only one
consecutive : (g : Grammar) (at : ℕ) (symbols : List Symbol) (kinds : List ℕ) (nodes : List TreeNode) (f : Forest) →
    Derives g at symbols kinds nodes → preorder f ≡ nodes → tokens_of f ≡ numbers_from at (length kinds)
consecutive g at symbols kinds nodes f d e =
    let h = derivation_in_order g d in ap tokens_of (one_forest.one f h.0 (e ∙ sym h.1)) ∙ h.2

-- ---- parts among them

no_number : (x : ℕ) (xs : List ℕ) → x ∷ xs ≡ [] → ⊥
no_number x xs e = grind arith

same_number : (x y : ℕ) (xs ys : List ℕ) → x ∷ xs ≡ y ∷ ys → (x ≡ y) × (xs ≡ ys)
same_number x y xs ys e = (grind arith, grind arith)

how_many : (at count : ℕ) → length (numbers_from at count) ≡ count
how_many at zero = refl
how_many at (suc count) = let h : length (numbers_from (suc at) count) ≡ count = how_many (suc at) count in omega (arith, h)

record Splits (a b : List ℕ) (at count : ℕ) : Type 0 where
  front : a ≡ numbers_from at (length a)
  back : b ≡ numbers_from (at + length a) (length b)
  counts : length a + length b ≡ count

split_back : (b : List ℕ) (at count : ℕ) → b ≡ numbers_from at count → Splits [] b at count
split_back b at count e =
    let n : length b ≡ count = ap length e ∙ how_many at count in
    let from : at ≡ at + 0 = omega arith in
    record {
      front = refl;
      back = e ∙ ap (numbers_from at) (sym n) ∙ ap (λ k. numbers_from k (length b)) from;
      counts = omega (arith, n);
    }

split_next : (x : ℕ) (a b : List ℕ) (at count : ℕ) → x ≡ at → Splits a b (suc at) count → Splits (x ∷ a) b at (suc count)
split_next x a b at count e s =
    let from : suc at + length a ≡ at + suc (length a) = omega arith in
    record {
      front = ap (λ k. k ∷ a) e ∙ ap (λ xs. at ∷ xs) s.front;
      back = s.back ∙ ap (λ k. numbers_from k (length b)) from;
      counts = omega (arith, s.counts);
    }

split : (a b : List ℕ) (at count : ℕ) → a ++ b ≡ numbers_from at count → Splits a b at count
split [] b at count e = split_back b at count e
split (x ∷ a) b at zero e = absurd (no_number x (a ++ b) e)
split (x ∷ a) b at (suc count) e =
    let h = same_number x at (a ++ b) (numbers_from (suc at) count) e in split_next x a b at count h.0 (split a b (suc at) count h.1)

first_is : (xs : List ℕ) (at : ℕ) → xs ≡ numbers_from at (length xs) → 0 < length xs → slice_index_or xs 0 0 ≡ at
first_is [] at e less = absurd (omega arith)
first_is (x ∷ xs) at e less = (same_number x at xs (numbers_from (suc at) (length xs)) e).0

one_part : (low high : ℕ) (shut sought : List ℕ) (p : ℕ) (below : Forest) (among closed : Bool) → StandsWithin low high (part p below)
    → All (StandsWithin low high) (parts_outside shut sought below)
    → All (StandsWithin low high) (if among then part p below ∷ [] else if closed then [] else parts_outside shut sought below)
one_part low high shut sought p below true closed w h =
    All-cons (StandsWithin low high) (part p below) [] w (All-nil (StandsWithin low high))
one_part low high shut sought p below false true w h = All-nil (StandsWithin low high)
one_part low high shut sought p below false false w h = h

its_own : (low high : ℕ) (p : ℕ) (below : Forest) (at : ℕ) → tokens_of below ≡ numbers_from at (length (tokens_of below)) → low ≤ at →
    at + length (tokens_of below) ≤ high → StandsWithin low high (part p below)
its_own low high p below at e l h less =
    let first : first_token below ≡ at = first_is (tokens_of below) at e less in
    (omega (arith, first, l), omega (arith, first, h, less))

stand_within : (low high : ℕ) (shut sought : List ℕ) (f : Forest) (at count : ℕ) → tokens_of f ≡ numbers_from at count → low ≤ at →
    at + count ≤ high → All (StandsWithin low high) (parts_outside shut sought f)
stand_within low high shut sought tree.none at count e l h = All-nil (StandsWithin low high)
stand_within low high shut sought (tree.leaf token after) at zero e l h = absurd (no_number token (tokens_of after) e)
stand_within low high shut sought (tree.leaf token after) at (suc count) e l h =
    stand_within low high shut sought after (suc at) count
    (same_number token at (tokens_of after) (numbers_from (suc at) count) e).1
    (omega (arith, l))
    (omega (arith, h))
stand_within low high shut sought (tree.branch p below after) at count e l h =
    let s = split (tokens_of below) (tokens_of after) at count e in
    let front : at + length (tokens_of below) ≤ high = omega (arith, s.counts, h) in
    let back : at + length (tokens_of below) + length (tokens_of after) ≤ high = omega (arith, s.counts, h) in
    let from : low ≤ at + length (tokens_of below) = omega (arith, l) in
    All-append (StandsWithin low high)
    (if is_among sought p then part p below ∷ [] else if is_among shut p then [] else parts_outside shut sought below)
    (parts_outside shut sought after)
    (one_part low high shut sought p below (is_among sought p) (is_among shut p)
    (its_own low high p below at s.front l front)
    (stand_within low high shut sought below at (length (tokens_of below)) s.front l front))
    (stand_within low high shut sought after (at + length (tokens_of below)) (length (tokens_of after)) s.back from back)

within : (shut sought : List ℕ) (f : Forest) (at count : ℕ) → tokens_of f ≡ numbers_from at count →
    All (StandsWithin at (at + count)) (parts_outside shut sought f)
within shut sought f at count e = stand_within at (at + count) shut sought f at count e (omega arith) (omega arith)

pub tokens_stand_in_order : TokensStandInOrder
tokens_stand_in_order = record { consecutive = consecutive; within = within }
