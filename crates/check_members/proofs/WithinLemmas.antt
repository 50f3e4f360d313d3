-- What is declared twice in the classes of a forest, class by class.
use Rattle.std.proofs.Common.{◌≡◌, ℕ, ◌+◌, List, [], ◌∷◌, ◌++◌, Option, None, Some, length, take, drop, refl, ap, sym, subst, ◌∙◌, append_assoc, length-append}
use Rattle.std.specs.Prelude.{Bool, true, false, ◌==◌, if◌then◌else◌, min}
use Rattle.std.proofs.lemmas.Bool.Decides.{Decides-eqb}
use Rattle.std.proofs.lemmas.List.{take-append-drop}
use Rattle.type_terms.specs.declared.name.TypeId.{TypeId}
use Rattle.ilasm_grammar.specs.declared.productions.TheConstants.{CLASS, MEMBER_CLASS, METHOD}
use Rattle.ilasm_grammar.specs.declared.tree.TreeNode.{TreeNode}
use Rattle.ilasm_grammar.specs.declared.tree.TreeNode.TheVariants.{Branch, Leaf}
use Rattle.source_model.specs.DeclaredTwice.{members_twice_in}
use Rattle.source_model.specs.Forest as tree
use Rattle.source_model.specs.Forest.{Forest, is_among, joined, preorder}
use Rattle.source_model.specs.Items.{members}
use Rattle.source_model.specs.Laws.{ForestOpens, ForestsJoin}
use Rattle.source_model.specs.Source.{Source}
use Rattle.source_nodes.specs.Derived.{FitsBody, HasBodies}
use Rattle.source_nodes.specs.Least.{least, sooner}
use Rattle.source_nodes.proofs.Collecting.{no_forest, of_joined}
use Rattle.source_syntax.proofs.LeastLemmas.{least_append, sooner_assoc}
use Rattle.check_names.specs.DeclaredClasses.{inner_path}
use Rattle.check_names.proofs.Classless.{Classless, method_classless}
use Rattle.check_members.specs.MemberKinds.{class_around, places, twice_within}
use Rattle.check_members.specs.declared.member_kinds.Level.TheVariants as level
use Rattle.check_members.proofs.MemberClassless.{member_classless}

pub inner_deeper : (s : Source) (path : List TypeId) (b : Forest) (depth inner : ℕ) → ((n : ℕ) → depth ≡ min n 101 → inner ≡ min (n + 1) 101) → depth ≡ min (length path) 101
    → inner ≡ min (length (inner_path s path b)) 101
inner_deeper s path b depth inner one_more e = one_more (length path) e ∙ ap (λ n. min n 101) (sym (length-append path _))

not_class : (p : ℕ) → is_among (places level.Class) p ≡ true → (p == CLASS) ≡ false
not_class p place = go (p == CLASS) refl
  where
    go : (c : Bool) → (p == CLASS) ≡ c → c ≡ false
    go false e = refl
    go true e =
        let same : p ≡ CLASS = (Decides-eqb p CLASS).0 e in
        let bad : is_among (places level.Class) CLASS ≡ true = ap (is_among (places level.Class)) (sym same) ∙ place in
        absurd cc

module _ (s : Source) (path : List TypeId) where
  within_joined : (f g : Forest) → twice_within s path (joined f g) ≡ twice_within s path f ++ twice_within s path g
  within_joined tree.none g = refl
  within_joined (tree.leaf k a) g = within_joined a g
  within_joined (tree.branch p b a) g =
      let own = if p == CLASS then members_twice_in s (class_around s path b) (members b) ++ twice_within s (inner_path s path b) b else twice_within s path b in
      ap (λ ks. own ++ ks) (within_joined a g) ∙ sym (append_assoc own (twice_within s path a) (twice_within s path g))

  within_other : (p : ℕ) (b a : Forest) → (p == CLASS) ≡ false → twice_within s path (tree.branch p b a) ≡ twice_within s path (joined b a)
  within_other p b a e =
      ap (λ (c : Bool). (if c then members_twice_in s (class_around s path b) (members b) ++ twice_within s (inner_path s path b) b else twice_within s path b)
      ++ twice_within s path a) e
      ∙ sym (within_joined b a)

  within_class : (p : ℕ) (b a : Forest) → (p == CLASS) ≡ true → twice_within s path (tree.branch p b a)
      ≡ (members_twice_in s (class_around s path b) (members b) ++ twice_within s (inner_path s path b) b) ++ twice_within s path a
  within_class p b a e =
      ap (λ (c : Bool). (if c then members_twice_in s (class_around s path b) (members b) ++ twice_within s (inner_path s path b) b else twice_within s path b)
      ++ twice_within s path a) e

  within_none : (f : Forest) → Classless f → twice_within s path f ≡ []
  within_none tree.none h = refl
  within_none (tree.leaf k a) h = within_none a h
  within_none (tree.branch p b a) h =
      within_other p b a h.0 ∙ within_joined b a ∙ ap (λ ks. ks ++ twice_within s path a) (within_none b h.1) ∙ within_none a h.2

  -- so far this was found: with what the rest has it is the least of the whole
  pub record Walked (f : Forest) (left : List TreeNode) (found : Option ℕ) : Type 0 where
    pub rest : Forest
    pub is : preorder rest ≡ left
    pub bodies : HasBodies s rest
    pub same : sooner found (least (twice_within s path rest)) ≡ least (twice_within s path f)

  pub walked_start : (f : Forest) (nodes : List TreeNode) → preorder f ≡ nodes → HasBodies s f → Walked f nodes None
  walked_start f nodes e bodies = record { rest = f; is = e; bodies = bodies; same = refl }

  pub walked_end : (f : Forest) (left : List TreeNode) (found : Option ℕ) → left ≡ [] → Walked f left found → found ≡ least (twice_within s path f)
  walked_end f left found e w =
      nothing found ∙ ap (λ (g : Forest). sooner found (least (twice_within s path g))) (sym (no_forest w.rest (w.is ∙ e))) ∙ w.same
    where
      nothing : (o : Option ℕ) → o ≡ sooner o None
      nothing None = refl
      nothing (Some k) = refl

  module _ (opens : ForestOpens) (f : Forest) (left rest : List TreeNode) (found : Option ℕ) (w : Walked f left found) where
    pub walked_leaf : (token : ℕ) → left ≡ Leaf token ∷ rest → Walked f rest found
    walked_leaf token e =
        let b = opens.leaf w.rest token rest (w.is ∙ e) in
        record {
          rest = b.after;
          is = b.rest;
          bodies = subst (HasBodies s) b.is w.bodies;
          same = ap (λ (g : Forest). sooner found (least (twice_within s path g))) (sym b.is) ∙ w.same;
        }

    module _ (p count : ℕ) (e : left ≡ Branch p count ∷ rest) where
      pub walked_other : ForestsJoin → (p == CLASS) ≡ false → Walked f rest found
      walked_other joins other =
          let b = opens.branch w.rest p count rest (w.is ∙ e) in
          let h = subst (HasBodies s) b.is w.bodies in
          record {
            rest = joined b.below b.after;
            is = joins.nodes b.below b.after ∙ ap (λ ns. ns ++ preorder b.after) b.inner ∙ ap (λ ns. take count rest ++ ns) b.rest ∙ take-append-drop count rest;
            bodies = of_joined (FitsBody s) b.below b.after h.1 h.2;
            same = ap (λ ks. sooner found (least ks)) (sym (within_other p b.below b.after other))
                ∙ ap (λ (g : Forest). sooner found (least (twice_within s path g))) (sym b.is) ∙ w.same;
          }

      -- past what has no class below it
      pub walked_past : (p == CLASS) ≡ false → ((b : Forest) → FitsBody s p b → HasBodies s b → Classless b) → Walked f (drop count rest) found
      walked_past other classless =
          let b = opens.branch w.rest p count rest (w.is ∙ e) in
          let h = subst (HasBodies s) b.is w.bodies in
          let nothing : twice_within s path b.below ≡ [] = within_none b.below (classless b.below h.0 h.1) in
          let same : twice_within s path b.after ≡ twice_within s path w.rest =
          ap (λ ks. ks ++ twice_within s path b.after) (sym nothing) ∙ sym (within_joined b.below b.after) ∙ sym (within_other p b.below b.after other)
          ∙ ap (twice_within s path) (sym b.is) in
          record { rest = b.after; is = b.rest; bodies = h.2; same = ap (λ ks. sooner found (least ks)) same ∙ w.same }

      pub walked_method : p ≡ METHOD → Walked f (drop count rest) found
      walked_method method = walked_past (ap (λ q. q == CLASS) method) (λ b fits h. method_classless s p b method fits h)

      pub walked_member : is_among (places level.Class) p ≡ true → (p == MEMBER_CLASS) ≡ false → Walked f (drop count rest) found
      walked_member place other = walked_past (not_class p place) (λ b fits h. member_classless s p b place other fits h)

      pub walked_class : (here within more : Option ℕ) → (p == CLASS) ≡ true → more ≡ sooner found (sooner here within)
          → ((b : Forest) → preorder b ≡ take count rest → HasBodies s b → (here ≡ least (members_twice_in s (class_around s path b) (members b))) × (within ≡ least (twice_within s (inner_path s path b) b)))
          → Walked f (drop count rest) more
      walked_class here within more own is asked =
          let b = opens.branch w.rest p count rest (w.is ∙ e) in
          let h = subst (HasBodies s) b.is w.bodies in
          let both = asked b.below b.inner h.1 in
          let twice = members_twice_in s (class_around s path b.below) (members b.below) in
          let inner = twice_within s (inner_path s path b.below) b.below in
          record {
            rest = b.after;
            is = b.rest;
            bodies = h.2;
            same = ap (λ o. sooner o (least (twice_within s path b.after))) is
                ∙ sooner_assoc found (sooner here within) (least (twice_within s path b.after))
                ∙ ap (λ o. sooner found (sooner (sooner o within) (least (twice_within s path b.after)))) both.0
                ∙ ap (λ o. sooner found (sooner (sooner (least twice) o) (least (twice_within s path b.after)))) both.1
                ∙ ap (λ o. sooner found (sooner o (least (twice_within s path b.after)))) (sym (least_append twice inner))
                ∙ ap (sooner found) (sym (least_append (twice ++ inner) (twice_within s path b.after)))
                ∙ ap (λ ks. sooner found (least ks)) (sym (within_class p b.below b.after own))
                ∙ ap (λ (g : Forest). sooner found (least (twice_within s path g))) (sym b.is) ∙ w.same;
          }
