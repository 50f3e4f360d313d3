-- Whether a rule finds something at the trees at the top of a forest that are chosen.
use Rattle.std.proofs.Common.{◌≡◌, ℕ, suc, ◌+◌, ◌≤◌, List, [], ◌∷◌, ◌++◌, Option, None, Some, length, take, drop, refl, ap, sym, subst, ◌∙◌, arith, append-nil}
use Rattle.std.specs.Prelude.{Bool, true, false, not, ◌==◌, ◌&&◌, if◌then◌else◌, is_some}
use Rattle.std.specs.List.{flat_map}
use Rattle.std.proofs.lemmas.Grind.{flat_map-append}
use Rattle.std.proofs.lemmas.List.{length-take}
use Rattle.ilasm_grammar.specs.declared.tree.TreeNode.{TreeNode}
use Rattle.ilasm_grammar.specs.declared.tree.TreeNode.TheVariants.{Branch, Leaf}
use Rattle.source_model.specs.Forest as tree
use Rattle.source_model.specs.Forest.{Forest, chosen, is_among, preorder}
use Rattle.source_model.specs.Laws.{ForestOpens}
use Rattle.source_model.specs.Nodes.{Around, Node, entered, nodes_in}
use Rattle.source_model.specs.Source.{Source}
use Rattle.source_model.specs.TypeRules.{is_nothing}
use Rattle.source_nodes.specs.Derived.{HasBodies}
use Rattle.source_nodes.specs.Least.{least, sooner}
use Rattle.source_nodes.specs.Walk.{IsForest}
use Rattle.source_nodes.proofs.Collecting.{no_forest}
use Rattle.check_visitor.specs.Surroundings.{found_in}

-- ---- nothing

something : (n : ℕ) → (suc n == 0) ≡ false
something n = grind arith

pub some_found : (ks : List ℕ) → is_some (least ks) ≡ not (is_nothing ks)
some_found [] = refl
some_found (k ∷ ks) = go (least ks) ∙ sym (ap not (something (length ks)))
  where
    go : (o : Option ℕ) → is_some (sooner (Some k) o) ≡ true
    go None = refl
    go (Some j) = refl

pub nothing_both : (ks js : List ℕ) → is_nothing (ks ++ js) ≡ (is_nothing ks && is_nothing js)
nothing_both [] js = refl
nothing_both (k ∷ ks) js = something (length (ks ++ js)) ∙ sym (ap (λ b. b && is_nothing js) (something (length ks)))

-- two rules that find something at the same productions
pub nothing_same : (f g : Node → List ℕ) → ((n : Node) → is_nothing (f n) ≡ is_nothing (g n)) → (ns : List Node)
    → is_nothing (flat_map f ns) ≡ is_nothing (flat_map g ns)
nothing_same f g same [] = refl
nothing_same f g same (n ∷ ns) =
    nothing_both (f n) (flat_map f ns) ∙ ap (λ b. b && is_nothing (flat_map f ns)) (same n)
    ∙ ap (λ b. is_nothing (g n) && b) (nothing_same f g same ns) ∙ sym (nothing_both (g n) (flat_map g ns))

-- ---- the first tree of a forest

pub record FirstTree (f : Forest) (p count : ℕ) (rest : List TreeNode) : Type 0 where
  pub below : Forest
  pub after : Forest
  pub is : f ≡ tree.branch p below after
  pub tree-is : preorder (tree.branch p below tree.none) ≡ Branch p count ∷ take count rest
  pub after-is : preorder after ≡ drop count rest

pub first_tree : ForestOpens → (f : Forest) (p count : ℕ) (rest : List TreeNode) → preorder f ≡ Branch p count ∷ rest → FirstTree f p count rest
first_tree opens f p count rest e =
    let b = opens.branch f p count rest e in
    let within = b.within in
    let long : length (preorder b.below) ≡ length (take count rest) = ap length b.inner in
    let many : length (preorder b.below) ≡ count = omega (arith, long, within, length-take count rest) in
    record {
      below = b.below;
      after = b.after;
      is = b.is;
      tree-is = ap (λ n. Branch p n ∷ (preorder b.below ++ [])) many ∙ ap (λ ns. Branch p count ∷ ns) (append-nil (preorder b.below) ∙ b.inner);
      after-is = b.rest;
    }

-- its nodes are cut off
pub cut_front : (node : TreeNode) (rest left : List TreeNode) (count : ℕ) → left ≡ node ∷ rest → take (1 + count) left ≡ node ∷ take count rest
cut_front node rest left count e = let one_more : 1 + count ≡ suc count = omega arith in ap (λ n. take n left) one_more ∙ ap (take (suc count)) e

pub cut_back : (node : TreeNode) (rest left : List TreeNode) (count : ℕ) → left ≡ node ∷ rest → drop (1 + count) left ≡ drop count rest
cut_back node rest left count e = let one_more : 1 + count ≡ suc count = omega arith in ap (λ n. drop n left) one_more ∙ ap (drop (suc count)) e

pub cut_fits : ForestOpens → (p count : ℕ) (left rest : List TreeNode) → left ≡ Branch p count ∷ rest → IsForest left → 1 + count ≤ length left
cut_fits opens p count left rest e f =
    let b = opens.branch f.0 p count rest (f.1 ∙ e) in
    let within = b.within in
    let long : length left ≡ suc (length rest) = ap length e in
    omega (arith, within, long)

pub front_is_forest : ForestOpens → (p count : ℕ) (left rest : List TreeNode) → left ≡ Branch p count ∷ rest → IsForest left
    → IsForest (Branch p count ∷ take count rest)
front_is_forest opens p count left rest e f =
    let t = first_tree opens f.0 p count rest (f.1 ∙ e) in (tree.branch p t.below tree.none, t.tree-is)

pub back_is_forest : ForestOpens → (p count : ℕ) (left rest : List TreeNode) → left ≡ Branch p count ∷ rest → IsForest left → IsForest (drop count rest)
back_is_forest opens p count left rest e f = let t = first_tree opens f.0 p count rest (f.1 ∙ e) in (t.after, t.after-is)

pub rest_is_forest : ForestOpens → (token : ℕ) (left rest : List TreeNode) → left ≡ Leaf token ∷ rest → IsForest left → IsForest rest
rest_is_forest opens token left rest e f = let b = opens.leaf f.0 token rest (f.1 ∙ e) in (b.after, b.rest)

-- ---- what is left of the trees at the top

pub record Left (broken : Source → Node → List ℕ) (s : Source) (a : Around) (sought : List ℕ) (f : Forest) (left : List TreeNode) : Type 0 where
  pub rest : Forest
  pub is : preorder rest ≡ left
  pub bodies : HasBodies s rest
  pub same : is_nothing (found_in broken s a (chosen sought f)) ≡ is_nothing (found_in broken s a (chosen sought rest))

module _ (broken : Source → Node → List ℕ) (s : Source) (a : Around) (sought : List ℕ) where
  -- the trees with the first of them
  found_first : (p : ℕ) (b after : Forest) → is_among sought p ≡ true
      → is_nothing (found_in broken s a (chosen sought (tree.branch p b after)))
      ≡ (is_nothing (found_in broken s a (tree.branch p b tree.none)) && is_nothing (found_in broken s a (chosen sought after)))
  found_first p b after known =
      let own = record { production = p; below = b; around = entered s a p b } ∷ nodes_in s (entered s a p b) b in
      let rest = nodes_in s a (chosen sought after) in
      ap (λ (c : Bool). is_nothing (found_in broken s a (if c then tree.branch p b (chosen sought after) else chosen sought after))) known
      ∙ ap is_nothing (flat_map-append (broken s) own rest)
      ∙ nothing_both (flat_map (broken s) own) (flat_map (broken s) rest)
      ∙ ap (λ (ns : List Node). is_nothing (flat_map (broken s) ns) && is_nothing (flat_map (broken s) rest)) (sym (append-nil own))

  found_other : (p : ℕ) (b after : Forest) → is_among sought p ≡ false
      → is_nothing (found_in broken s a (chosen sought (tree.branch p b after))) ≡ is_nothing (found_in broken s a (chosen sought after))
  found_other p b after other =
      ap (λ (c : Bool). is_nothing (found_in broken s a (if c then tree.branch p b (chosen sought after) else chosen sought after))) other

  module _ (opens : ForestOpens) (f : Forest) (left rest : List TreeNode) where
    pub past_leaf : (token : ℕ) → left ≡ Leaf token ∷ rest → Left broken s a sought f left → Left broken s a sought f rest
    past_leaf token e l =
        let b = opens.leaf l.rest token rest (l.is ∙ e) in
        record {
          rest = b.after;
          is = b.rest;
          bodies = subst (HasBodies s) b.is l.bodies;
          same = l.same ∙ ap (λ (g : Forest). is_nothing (found_in broken s a (chosen sought g))) b.is;
        }

    module _ (p count : ℕ) (e : left ≡ Branch p count ∷ rest) (l : Left broken s a sought f left) where
      pub past_other : is_among sought p ≡ false → Left broken s a sought f (drop count rest)
      past_other other =
          let t = first_tree opens l.rest p count rest (l.is ∙ e) in
          record {
            rest = t.after;
            is = t.after-is;
            bodies = (subst (HasBodies s) t.is l.bodies).2;
            same = l.same ∙ ap (λ (g : Forest). is_nothing (found_in broken s a (chosen sought g))) t.is ∙ found_other p t.below t.after other;
          }

      pub past_kept : (b : Bool) → is_among sought p ≡ true → ((t : Forest) → preorder t ≡ Branch p count ∷ take count rest → HasBodies s t → b ≡ not (is_nothing (found_in broken s a t)))
          → b ≡ false → Left broken s a sought f (drop count rest)
      past_kept b known broke kept =
          let t = first_tree opens l.rest p count rest (l.is ∙ e) in
          let h = subst (HasBodies s) t.is l.bodies in
          let nothing : is_nothing (found_in broken s a (tree.branch p t.below tree.none)) ≡ true =
          denied (is_nothing (found_in broken s a (tree.branch p t.below tree.none))) (sym (broke (tree.branch p t.below tree.none) t.tree-is (h.0, h.1, tt)) ∙ kept) in
          record {
            rest = t.after;
            is = t.after-is;
            bodies = h.2;
            same = l.same ∙ ap (λ (g : Forest). is_nothing (found_in broken s a (chosen sought g))) t.is ∙ found_first p t.below t.after known
                ∙ ap (λ (c : Bool). c && is_nothing (found_in broken s a (chosen sought t.after))) nothing;
          }
        where
          denied : (c : Bool) → not c ≡ false → c ≡ true
          denied true d = refl
          denied false d = absurd cc

      pub broken_first : (b : Bool) → is_among sought p ≡ true → ((t : Forest) → preorder t ≡ Branch p count ∷ take count rest → HasBodies s t → b ≡ not (is_nothing (found_in broken s a t)))
          → b ≡ true → false ≡ is_nothing (found_in broken s a (chosen sought f))
      broken_first b known broke some =
          let t = first_tree opens l.rest p count rest (l.is ∙ e) in
          let h = subst (HasBodies s) t.is l.bodies in
          let any : is_nothing (found_in broken s a (tree.branch p t.below tree.none)) ≡ false =
          denied (is_nothing (found_in broken s a (tree.branch p t.below tree.none))) (sym (broke (tree.branch p t.below tree.none) t.tree-is (h.0, h.1, tt)) ∙ some) in
          sym (l.same ∙ ap (λ (g : Forest). is_nothing (found_in broken s a (chosen sought g))) t.is ∙ found_first p t.below t.after known
          ∙ ap (λ (c : Bool). c && is_nothing (found_in broken s a (chosen sought t.after))) any)
        where
          denied : (c : Bool) → not c ≡ true → c ≡ false
          denied true d = absurd cc
          denied false d = refl

    pub at_end : left ≡ [] → Left broken s a sought f left → true ≡ is_nothing (found_in broken s a (chosen sought f))
    at_end e l = sym (l.same ∙ ap (λ (g : Forest). is_nothing (found_in broken s a (chosen sought g))) (no_forest l.rest (l.is ∙ e)))
