-- The classes of a forest, one by one.
use Rattle.std.proofs.Common.{◌≡◌, ℕ, List, [], ◌∷◌, ◌++◌, take, drop, refl, ap, sym, subst, ◌∙◌, append_assoc, append-nil}
use Rattle.std.specs.Prelude.{Bool, true, false, ◌==◌, ◌||◌, if◌then◌else◌}
use Rattle.std.proofs.lemmas.Bool.Decides.{Decides-eqb}
use Rattle.std.proofs.lemmas.List.{take-append-drop}
use Rattle.assembly_tree.specs.declared.typedef.TypeDef.{TypeDef}
use Rattle.ilasm_grammar.specs.declared.productions.TheConstants.{CLASS, METHOD}
use Rattle.ilasm_grammar.specs.declared.tree.TreeNode.{TreeNode}
use Rattle.ilasm_grammar.specs.declared.tree.TreeNode.TheVariants.{Branch, Leaf}
use Rattle.source_model.specs.Classes.{class_from, classes_in}
use Rattle.source_model.specs.Forest as tree
use Rattle.source_model.specs.Forest.{Forest, joined, part, parts, preorder}
use Rattle.source_model.specs.Laws.{ForestOpens, ForestsJoin}
use Rattle.source_model.specs.Nodes.{Around, entered}
use Rattle.source_model.specs.Source.{Source}
use Rattle.source_flags.specs.InRange.{IsInRange}
use Rattle.source_flags.specs.declared.outside.Shut.TheVariants.{Methods}
use Rattle.source_flags.proofs.Apart.{is_past, mask_of, same_outside}
use Rattle.source_flags.proofs.Gathered.{has_bodies}
use Rattle.ilasm_grammar.specs.Ilasm.{has_bit}
use Rattle.ilasm_grammar.proofs.TableCheck.{ilasm_tables}
use Rattle.source_nodes.specs.Derived.{FitsBody, HasBodies}
use Rattle.elaborate.proofs.ClassLemmas.{all_ranged}
use Rattle.source_nodes.proofs.Collecting.{no_forest, of_joined}
use Rattle.elaborate.specs.ClassParts.{inner}
use Rattle.elaborate.specs.WholeParts.{AllWhole, IsWhole}

-- no class stands in a method
class_past : is_past Methods (CLASS ∷ []) ≡ true
unfolding is_past mask_of ilasm_tables has_bit
class_past = refl

nothing_both : {X : Type 0} (xs ys : List X) → xs ++ ys ≡ [] → (xs ≡ []) × (ys ≡ [])
nothing_both [] ys e = (refl, e)
nothing_both (x ∷ xs) ys e = absurd cc

pub turned : (q p : ℕ) → (q == p) ≡ false → (p == q) ≡ false
turned q p e = go (p == q) refl
  where
    go : (c : Bool) → (p == q) ≡ c → c ≡ false
    go false h = refl
    go true h =
        let same : (q == p) ≡ true = (Decides-eqb q p).1 (sym ((Decides-eqb p q).0 h)) in
        let no : true ≡ false = sym same ∙ e in absurd cc

module _ (s : Source) (a : Around) where
  classes_none : classes_in s a tree.none ≡ []
  unfolding classes_in
  classes_none = refl

  classes_leaf : (k : ℕ) (f : Forest) → classes_in s a (tree.leaf k f) ≡ classes_in s a f
  unfolding classes_in
  classes_leaf k f = refl

  abbrev one : ℕ → Forest → List TypeDef
  one p b = if p == CLASS then class_from s (entered s a p b) b (classes_in s (entered s a p b) b) ∷ [] else classes_in s a b

  classes_branch : (p : ℕ) (b f : Forest) → classes_in s a (tree.branch p b f) ≡ one p b ++ classes_in s a f
  unfolding classes_in
  classes_branch p b f = refl

  classes_joined : (f g : Forest) → classes_in s a (joined f g) ≡ classes_in s a f ++ classes_in s a g
  classes_joined tree.none g = ap (λ cs. cs ++ classes_in s a g) (sym classes_none)
  classes_joined (tree.leaf k f) g =
      classes_leaf k (joined f g) ∙ classes_joined f g ∙ ap (λ cs. cs ++ classes_in s a g) (sym (classes_leaf k f))
  classes_joined (tree.branch p b f) g =
      classes_branch p b (joined f g) ∙ ap (λ cs. one p b ++ cs) (classes_joined f g)
      ∙ sym (append_assoc (one p b) (classes_in s a f) (classes_in s a g)) ∙ ap (λ cs. cs ++ classes_in s a g) (sym (classes_branch p b f))

  classes_other : (p : ℕ) (b f : Forest) → (p == CLASS) ≡ false → classes_in s a (tree.branch p b f) ≡ classes_in s a (joined b f)
  classes_other p b f e =
      classes_branch p b f
      ∙ ap (λ (c : Bool). (if c then class_from s (entered s a p b) b (classes_in s (entered s a p b) b) ∷ [] else classes_in s a b) ++ classes_in s a f) e
      ∙ sym (classes_joined b f)

  entered_class : (p : ℕ) (b : Forest) → (p == CLASS) ≡ true → entered s a p b ≡ inner s a b
  entered_class p b e =
      ap (λ (c : Bool). if c then inner s a b else if p == METHOD then record { path = a.path; class = a.class; method = b } else a) e

  classes_class : (p : ℕ) (b f : Forest) → (p == CLASS) ≡ true
      → classes_in s a (tree.branch p b f) ≡ class_from s (inner s a b) b (classes_in s (inner s a b) b) ∷ classes_in s a f
  classes_class p b f e =
      classes_branch p b f
      ∙ ap (λ (c : Bool). (if c then class_from s (entered s a p b) b (classes_in s (entered s a p b) b) ∷ [] else classes_in s a b) ++ classes_in s a f) e
      ∙ ap (λ x. class_from s x b (classes_in s x b) ∷ classes_in s a f) (entered_class p b e)

  -- where no class stands
  pub none_in : (f : Forest) → parts (CLASS ∷ []) f ≡ [] → classes_in s a f ≡ []
  none_in tree.none e = classes_none
  none_in (tree.leaf k f) e = classes_leaf k f ∙ none_in f e
  none_in (tree.branch p b f) e = go (CLASS == p) refl (λ k. none_in b k) (λ k. none_in f k)
    where
      go : (c : Bool) → (CLASS == p) ≡ c → (parts (CLASS ∷ []) b ≡ [] → classes_in s a b ≡ []) → (parts (CLASS ∷ []) f ≡ [] → classes_in s a f ≡ [])
          → classes_in s a (tree.branch p b f) ≡ []
      go true is below after =
          let wrong : part p b ∷ parts (CLASS ∷ []) f ≡ [] =
          sym (ap (λ (c : Bool). (if c || false then part p b ∷ [] else parts (CLASS ∷ []) b) ++ parts (CLASS ∷ []) f) is) ∙ e in absurd cc
      go false is below after =
          let h = nothing_both (parts (CLASS ∷ []) b) (parts (CLASS ∷ []) f)
          (sym (ap (λ (c : Bool). (if c || false then part p b ∷ [] else parts (CLASS ∷ []) b) ++ parts (CLASS ∷ []) f) is) ∙ e) in
          let other : (p == CLASS) ≡ false = turned CLASS p is in
          classes_branch p b f
          ∙ ap (λ (c : Bool). (if c then class_from s (entered s a p b) b (classes_in s (entered s a p b) b) ∷ [] else classes_in s a b) ++ classes_in s a f) other
          ∙ ap (λ cs. cs ++ classes_in s a f) (below h.0) ∙ after h.1

  classes_past : (b f : Forest) → FitsBody s METHOD b → HasBodies s b → classes_in s a (tree.branch METHOD b f) ≡ classes_in s a f
  classes_past b f fits bodies =
      let apart : [] ≡ parts (CLASS ∷ []) b ++ [] = same_outside Methods (CLASS ∷ []) class_past s (tree.branch METHOD b tree.none) (fits, bodies, tt) in
      classes_branch METHOD b f ∙ ap (λ cs. cs ++ classes_in s a f) (none_in b (sym (append-nil (parts (CLASS ∷ []) b)) ∙ sym apart))

  -- so far these were read: with those of the rest they are those of the whole
  pub record Walked (f : Forest) (left : List TreeNode) (found : List TypeDef) : Type 0 where
    pub rest : Forest
    pub is : preorder rest ≡ left
    pub each : AllWhole s rest
    pub same : found ++ classes_in s a rest ≡ classes_in s a f

  pub walked_start : (f : Forest) (nodes : List TreeNode) → preorder f ≡ nodes → AllWhole s f → Walked f nodes []
  walked_start f nodes e each = record { rest = f; is = e; each = each; same = refl }

  pub walked_end : (f : Forest) (left : List TreeNode) (found : List TypeDef) → left ≡ [] → Walked f left found → found ≡ classes_in s a f
  walked_end f left found e w =
      sym (append-nil found) ∙ ap (λ cs. found ++ cs) (sym classes_none)
      ∙ ap (λ (g : Forest). found ++ classes_in s a g) (sym (no_forest w.rest (w.is ∙ e))) ∙ w.same

  module _ (opens : ForestOpens) (f : Forest) (left rest : List TreeNode) (found : List TypeDef) (w : Walked f left found) where
    pub walked_leaf : (token : ℕ) → left ≡ Leaf token ∷ rest → Walked f rest found
    walked_leaf token e =
        let b = opens.leaf w.rest token rest (w.is ∙ e) in
        record {
          rest = b.after;
          is = b.rest;
          each = subst (AllWhole s) b.is w.each;
          same = ap (λ cs. found ++ cs) (sym (classes_leaf token b.after)) ∙ ap (λ (g : Forest). found ++ classes_in s a g) (sym b.is) ∙ w.same;
        }

    module _ (p count : ℕ) (e : left ≡ Branch p count ∷ rest) where
      pub walked_other : ForestsJoin → (p == CLASS) ≡ false → Walked f rest found
      walked_other joins other =
          let b = opens.branch w.rest p count rest (w.is ∙ e) in
          let h = subst (AllWhole s) b.is w.each in
          record {
            rest = joined b.below b.after;
            is = joins.nodes b.below b.after ∙ ap (λ ns. ns ++ preorder b.after) b.inner ∙ ap (λ ns. take count rest ++ ns) b.rest ∙ take-append-drop count rest;
            each = of_joined (IsWhole s) b.below b.after h.1 h.2;
            same = ap (λ cs. found ++ cs) (sym (classes_other p b.below b.after other))
                ∙ ap (λ (g : Forest). found ++ classes_in s a g) (sym b.is) ∙ w.same;
          }

      pub walked_method : (p == METHOD) ≡ true → Walked f (drop count rest) found
      walked_method own =
          let b = opens.branch w.rest p count rest (w.is ∙ e) in
          let h = subst (AllWhole s) b.is w.each in
          let is : p ≡ METHOD = (Decides-eqb p METHOD).0 own in
          let past : classes_in s a (tree.branch p b.below b.after) ≡ classes_in s a b.after =
          ap (λ q. classes_in s a (tree.branch q b.below b.after)) is
          ∙ classes_past b.below b.after (subst (λ q. FitsBody s q b.below) is h.0.0.fits) (has_bodies s b.below (all_ranged s b.below h.1)) in
          record {
            rest = b.after;
            is = b.rest;
            each = h.2;
            same = ap (λ cs. found ++ cs) (sym past) ∙ ap (λ (g : Forest). found ++ classes_in s a g) (sym b.is) ∙ w.same;
          }

      pub walked_class : (more : List TypeDef) → (p == CLASS) ≡ true
          → ((b : Forest) → preorder b ≡ take count rest → IsInRange s CLASS b → AllWhole s b
          → more ≡ found ++ class_from s (inner s a b) b (classes_in s (inner s a b) b) ∷ [])
          → Walked f (drop count rest) more
      walked_class more own read =
          let b = opens.branch w.rest p count rest (w.is ∙ e) in
          let h = subst (AllWhole s) b.is w.each in
          let ranged = subst (λ q. IsInRange s q b.below) ((Decides-eqb p CLASS).0 own) h.0.0 in
          let one = class_from s (inner s a b.below) b.below (classes_in s (inner s a b.below) b.below) in
          record {
            rest = b.after;
            is = b.rest;
            each = h.2;
            same = ap (λ cs. cs ++ classes_in s a b.after) (read b.below b.inner ranged h.1)
                ∙ append_assoc found (one ∷ []) (classes_in s a b.after)
                ∙ ap (λ cs. found ++ cs) (sym (classes_class p b.below b.after own))
                ∙ ap (λ (g : Forest). found ++ classes_in s a g) (sym b.is) ∙ w.same;
          }
