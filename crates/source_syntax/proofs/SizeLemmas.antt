-- How many nodes, parts and types there are in a forest.
use Rattle.std.proofs.Common.{◌≡◌, ℕ, suc, ◌+◌, ◌≤◌, List, [], ◌∷◌, ◌++◌, length, ap, ◌∙◌, refl, arith, length-append}
use Rattle.std.specs.Prelude.{Bool, true, false, ◌==◌, if◌then◌else◌}
use Rattle.ilasm_grammar.specs.declared.productions.TheConstants.{TYPE}
use Rattle.source_model.specs.Forest.{Forest, Part, none, leaf, branch, part, parts, each, below_each, child, first_or, is_among, preorder, the}
use Rattle.source_model.specs.Nodes.{Around}
use Rattle.source_model.specs.Source.{Source}
use Rattle.source_model.specs.Types.{type_of, types_in}
use Rattle.source_nodes.proofs.NestingLemmas.{below_length}
use Rattle.source_nodes.proofs.ShapeLemmas.{few_parts}
use Rattle.source_syntax.proofs.TypeLemmas as type

pub few_each : (p : ℕ) (f : Forest) → length (each p f) ≤ length (preorder f)
few_each p f = omega (arith, below_length (parts (p ∷ []) f), few_parts (p ∷ []) f)

-- ---- what stands below a part

-- what stands below the first of some parts has at most so many nodes
abbrev IsSmall : ℕ → List Part → Type 0
IsSmall n ps = length (preorder (first_or none (below_each ps))) ≤ n

small_joined : (n : ℕ) (ps qs : List Part) → IsSmall n ps → IsSmall n qs → IsSmall n (ps ++ qs)
small_joined n [] qs h i = i
small_joined n (p ∷ ps) qs h i = h

first_small : (sought : List ℕ) (f : Forest) → IsSmall (length (preorder f)) (parts sought f)
first_small sought none = omega arith
first_small sought (leaf k a) = let h = first_small sought a in omega (arith, h)
first_small sought (branch p b a) = go (is_among sought p) refl (first_small sought b) (first_small sought a)
  where
    size : length (preorder (branch p b a)) ≡ suc (length (preorder b) + length (preorder a))
    size = ap suc (length-append (preorder b) (preorder a))

    go : (c : Bool) → is_among sought p ≡ c → IsSmall (length (preorder b)) (parts sought b) → IsSmall (length (preorder a)) (parts sought a)
        → IsSmall (length (preorder (branch p b a))) (parts sought (branch p b a))
    go true is below after =
        let e : length (preorder (first_or none (below_each (parts sought (branch p b a))))) ≡ length (preorder b) =
        ap (λ (c : Bool). length (preorder (first_or none (below_each ((if c then part p b ∷ [] else parts sought b) ++ parts sought a))))) is in
        omega (arith, e, size)
    go false is below after =
        let e : length (preorder (first_or none (below_each (parts sought (branch p b a))))) ≡ length (preorder (first_or none (below_each (parts sought b ++ parts sought a)))) =
        ap (λ (c : Bool). length (preorder (first_or none (below_each ((if c then part p b ∷ [] else parts sought b) ++ parts sought a))))) is in
        let both : IsSmall (length (preorder (branch p b a))) (parts sought b ++ parts sought a) =
        small_joined (length (preorder (branch p b a))) (parts sought b) (parts sought a) (omega (arith, below, size)) (omega (arith, after, size)) in
        omega (arith, e, both)

pub the_smaller : (p : ℕ) (f : Forest) → length (preorder (the p f)) ≤ length (preorder f)
the_smaller p f = first_small (p ∷ []) f

pub child_smaller : (sought : List ℕ) (f : Forest) → length (preorder (child sought f)) ≤ length (preorder f)
child_smaller sought none = omega arith
child_smaller sought (leaf k a) = let h = child_smaller sought a in omega (arith, h)
child_smaller sought (branch p b a) = go (is_among sought p) refl (child_smaller sought a)
  where
    size : length (preorder (branch p b a)) ≡ suc (length (preorder b) + length (preorder a))
    size = ap suc (length-append (preorder b) (preorder a))

    go : (c : Bool) → is_among sought p ≡ c → length (preorder (child sought a)) ≤ length (preorder a)
        → length (preorder (child sought (branch p b a))) ≤ length (preorder (branch p b a))
    go true is after = let e = ap (λ (c : Bool). length (preorder (if c then b else child sought a))) is in omega (arith, e, size)
    go false is after = let e = ap (λ (c : Bool). length (preorder (if c then b else child sought a))) is in omega (arith, e, after, size)

-- ---- types

module _ (s : Source) (a : Around) where
  pub few_types : (f : Forest) → length (types_in s a f) ≤ length (preorder f)
  few_types none = let e = ap length (type.types_none s a) in omega (arith, e)
  few_types (leaf k f) = let h = few_types f in let e = ap length (type.types_leaf s a k f) in omega (arith, e, h)
  few_types (branch p b f) = go (p == TYPE) refl (few_types b) (few_types f)
    where
      size : length (preorder (branch p b f)) ≡ suc (length (preorder b) + length (preorder f))
      size = ap suc (length-append (preorder b) (preorder f))

      go : (c : Bool) → (p == TYPE) ≡ c → length (types_in s a b) ≤ length (preorder b) → length (types_in s a f) ≤ length (preorder f)
          → length (types_in s a (branch p b f)) ≤ length (preorder (branch p b f))
      go true is below after =
          let e = ap length (type.types_at s a p b f) ∙ ap (λ (c : Bool). length ((if c then type_of s a b ∷ [] else types_in s a b) ++ types_in s a f)) is in
          omega (arith, e, after, size)
      go false is below after =
          let e = ap length (type.types_at s a p b f) ∙ ap (λ (c : Bool). length ((if c then type_of s a b ∷ [] else types_in s a b) ++ types_in s a f)) is in
          omega (arith, e, below, after, size, length-append (types_in s a b) (types_in s a f))
