-- What stands nowhere in a derivation, since no node has it.
use Rattle.std.proofs.Common.{◌≡◌, ℕ, ◌+◌, List, [], ◌∷◌, ◌++◌, refl, ap, sym, ◌∙◌, count_by, arith}
use Rattle.std.specs.Prelude.{Bool, true, false, ◌||◌, ◌==◌, if◌then◌else◌}
use Rattle.ilasm_grammar.specs.declared.tree.TreeNode.TheVariants.{Leaf}
use Rattle.source_model.specs.Forest as tree
use Rattle.source_model.specs.Forest.{Forest, Part, is_among, is_any_part, part, parts_outside, preorder}
use Rattle.check_source.proofs.CensusLemmas.{count_of, count_branch, count_first, one_if}
use Rattle.elaborate.specs.Standing.{IsStanding, HaveNeither, passed_forms, stands_outside}
use Rattle.elaborate.specs.declared.standing.Standing.{Standing}

module _ (shut : List ℕ) (p : ℕ) where
  none_outside : (f : Forest) → count_of p (preorder f) ≡ 0 → parts_outside shut (p ∷ []) f ≡ []
  none_outside tree.none e = refl
  none_outside (tree.leaf k a) e =
      let first = count_first p (Leaf k) (preorder a) in
      none_outside a (omega (arith, e, first))
  none_outside (tree.branch q b a) e = go (p == q) refl (λ none. none_outside b none) (λ none. none_outside a none)
    where
      all : count_of p (preorder (tree.branch q b a)) ≡ one_if (p == q) + (count_of p (preorder b) + count_of p (preorder a))
      all = count_branch p q b a

      inner : List Part
      inner = parts_outside shut (p ∷ []) b

      later : List Part
      later = parts_outside shut (p ∷ []) a

      either : inner ≡ [] → (c : Bool) → (if c then [] else inner) ≡ []
      either none true = refl
      either none false = none

      go : (c : Bool) → (p == q) ≡ c → (count_of p (preorder b) ≡ 0 → inner ≡ []) → (count_of p (preorder a) ≡ 0 → later ≡ [])
          → parts_outside shut (p ∷ []) (tree.branch q b a) ≡ []
      go true is below behind = let one : one_if (p == q) ≡ 1 = ap one_if is in absurd (omega (arith, e, all, one))
      go false is below behind =
          ap (λ (c : Bool). (if c || false then part q b ∷ [] else if is_among shut q then [] else inner) ++ later) is
          ∙ ap (λ ps. ps ++ later) (either (below (omega (arith, e, all))) (is_among shut q))
          ∙ behind (omega (arith, e, all))

stands_nowhere : (p : ℕ) (f : Forest) → count_of p (preorder f) ≡ 0 → stands_outside p f ≡ false
stands_nowhere p f e = ap is_any_part (none_outside passed_forms p f e)

pub none_stands : (first second : ℕ) (f : Forest) (x : Standing) → x.first ≡ false → x.second ≡ false
    → HaveNeither first second (preorder f) → IsStanding first second f x
none_stands first second f x no-first no-second h = record {
  first-is = no-first ∙ sym (stands_nowhere first f h.no-first);
  second-is = no-second ∙ sym (stands_nowhere second f h.no-second);
}
