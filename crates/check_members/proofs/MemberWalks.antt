-- Members of one kind that stand side by side, one after another.
use Rattle.std.proofs.Common.{◌≡◌, ℕ, List, [], ◌∷◌, ◌++◌, Option, None, Some, map, refl, ap, sym, subst, ◌∙◌, arith}
use Rattle.std.specs.Prelude.{Bool, true, false, if◌then◌else◌, filter}
use Rattle.ilasm_grammar.specs.declared.tree.TreeNode.{TreeNode}
use Rattle.ilasm_grammar.specs.declared.tree.TreeNode.TheVariants.{Branch, Leaf}
use Rattle.source_model.specs.Forest as tree
use Rattle.source_model.specs.Forest.{Forest, Part, part, is_among, joined, parts, preorder, the}
use Rattle.source_model.specs.Laws.{ForestsJoin}
use Rattle.source_model.specs.Nodes.{Around}
use Rattle.source_model.specs.Source.{Source}
use Rattle.source_nodes.specs.Derived.{FitsBody, HasBodies}
use Rattle.source_nodes.specs.Least.{least, sooner}
use Rattle.source_nodes.specs.Walk.{Opens}
use Rattle.source_nodes.specs.declared.walk.Opened.{Opened}
use Rattle.source_nodes.proofs.Collecting.{no_forest, of_joined}
use Rattle.source_syntax.proofs.LeastLemmas.{least_append, sooner_assoc}
use Rattle.check_members.proofs.MemberParts.{member_body}
use Rattle.check_members.specs.MemberKinds.{again_after, again_in, again_with, declarers, declares, forests_of, is_chosen, parts_at, places, production_of, token_of, unbroken_member, with_member, IsPut}
use Rattle.check_members.specs.declared.member_kinds.Kind.{Kind}
use Rattle.check_members.specs.declared.member_kinds.Kind.TheVariants.{Field, Method, Property, Event}
use Rattle.check_members.specs.declared.member_kinds.Level.{Level}
use Rattle.check_members.specs.declared.member_sets.Member.{Member}

-- ---- which parts are declared

declared_is : (kind : Kind) (p : ℕ) (b : Forest) → declares kind (part p b) ≡ is_among (declarers kind) p
declared_is Field p b = grind arith
declared_is Method p b = grind arith
declared_is Property p b = grind arith
declared_is Event p b = grind arith

pub forests_own : (kind : Kind) (p : ℕ) (b : Forest) (ps : List Part) → is_among (declarers kind) p ≡ true
    → forests_of kind (part p b ∷ ps) ≡ the (production_of kind) b ∷ forests_of kind ps
forests_own kind p b ps e =
    ap (λ (c : Bool). map (λ (q : Part). the (production_of kind) q.below) (if c then part p b ∷ filter (declares kind) ps else filter (declares kind) ps))
    (declared_is kind p b ∙ e)

pub forests_other : (kind : Kind) (p : ℕ) (b : Forest) (ps : List Part) → is_among (declarers kind) p ≡ false → forests_of kind (part p b ∷ ps) ≡ forests_of kind ps
forests_other kind p b ps e =
    ap (λ (c : Bool). map (λ (q : Part). the (production_of kind) q.below) (if c then part p b ∷ filter (declares kind) ps else filter (declares kind) ps))
    (declared_is kind p b ∙ e)

-- ---- what is left of them

module _ (s : Source) (a : Around) (kind : Kind) (level : Level) where
  abbrev rest_of : List Member → Forest → List ℕ
  rest_of before f = again_after s a kind before (forests_of kind (parts_at level f))

  pub record LeftOf (f : Forest) (left : List TreeNode) (found : Option ℕ) (before : List Member) : Type 0 where
    pub rest : Forest
    pub is : preorder rest ≡ left
    pub bodies : HasBodies s rest
    pub same : sooner found (least (rest_of before rest)) ≡ least (again_in s a kind (parts_at level f))

  module _ (f : Forest) where
    pub at_start : (nodes : List TreeNode) → preorder f ≡ nodes → HasBodies s f → LeftOf f nodes None []
    at_start nodes e bodies = record { rest = f; is = e; bodies = bodies; same = refl }

    pub at_end : (left : List TreeNode) (found : Option ℕ) (before : List Member) → left ≡ [] → LeftOf f left found before
        → found ≡ least (again_in s a kind (parts_at level f))
    at_end left found before e l =
        nothing found ∙ ap (λ (g : Forest). sooner found (least (rest_of before g))) (sym (no_forest l.rest (l.is ∙ e))) ∙ l.same
      where
        nothing : (o : Option ℕ) → o ≡ sooner o None
        nothing None = refl
        nothing (Some k) = refl

    module _ (left : List TreeNode) (found : Option ℕ) (before : List Member) (x : Opened) (o : Opens left x) (l : LeftOf f left found before) where
      -- into what is none of them
      pub goes_in : ForestsJoin → is_chosen (places level) x.node ≡ false → LeftOf f x.behind.now found before
      goes_in joins other = go x.node refl
        where
          go : (node : TreeNode) → x.node ≡ node → LeftOf f x.behind.now found before
          go (Leaf token) is =
              let b = o.leaf l.rest token l.is is in
              record {
                rest = b.after;
                is = b.rest;
                bodies = subst (HasBodies s) b.is l.bodies;
                same = ap (λ (g : Forest). sooner found (least (rest_of before g))) (sym b.is) ∙ l.same;
              }
          go (Branch p count) is =
              let b = o.branch l.rest p count l.is is in
              let h = subst (HasBodies s) b.is l.bodies in
              let plain : is_among (places level) p ≡ false = ap (is_chosen (places level)) (sym is) ∙ other in
              let same : parts_at level (joined b.inner b.rest) ≡ parts_at level (tree.branch p b.inner b.rest) =
              joins.parts [] (places level) b.inner b.rest
              ∙ sym (ap (λ (c : Bool). (if c then part p b.inner ∷ [] else parts (places level) b.inner) ++ parts (places level) b.rest) plain) in
              record {
                rest = joined b.inner b.rest;
                is = b.behind-is;
                bodies = of_joined (FitsBody s) b.inner b.rest h.1 h.2;
                same = ap (λ ps. sooner found (least (again_after s a kind before (forests_of kind ps)))) same
                    ∙ ap (λ (g : Forest). sooner found (least (rest_of before g))) (sym b.is) ∙ l.same;
              }

      -- a branch of those that stand side by side
      record First : Type 0 where
        p : ℕ
        count : ℕ
        is : x.node ≡ Branch p count
        known : is_among (places level) p ≡ true

      first_of : is_chosen (places level) x.node ≡ true → First
      first_of place = go x.node refl
        where
          go : (node : TreeNode) → x.node ≡ node → First
          go (Leaf token) is = let no : false ≡ true = ap (is_chosen (places level)) (sym is) ∙ place in absurd cc
          go (Branch p count) is = record { p = p; count = count; is = is; known = ap (is_chosen (places level)) (sym is) ∙ place }

      parts_first : (p : ℕ) (b after : Forest) → is_among (places level) p ≡ true → parts_at level (tree.branch p b after) ≡ part p b ∷ parts_at level after
      parts_first p b after known = ap (λ (c : Bool). (if c then part p b ∷ [] else parts (places level) b) ++ parts (places level) after) known

      -- past one of another kind
      pub goes_past : is_chosen (places level) x.node ≡ true → is_chosen (declarers kind) x.node ≡ false → LeftOf f x.after.now found before
      goes_past place other =
          let w = first_of place in
          let b = o.branch l.rest w.p w.count l.is w.is in
          let apart : is_among (declarers kind) w.p ≡ false = ap (is_chosen (declarers kind)) (sym w.is) ∙ other in
          record {
            rest = b.rest;
            is = b.rest-is;
            bodies = (subst (HasBodies s) b.is l.bodies).2;
            same = ap (λ fs. sooner found (least (again_after s a kind before fs)))
                (sym (ap (forests_of kind) (parts_first w.p b.inner b.rest w.known) ∙ forests_other kind w.p b.inner (parts_at level b.rest) apart))
                ∙ ap (λ (g : Forest). sooner found (least (rest_of before g))) (sym b.is) ∙ l.same;
          }

      -- the member that a declaration says
      pub record Said : Type 0 where
        pub below : Forest
        pub below-is : preorder below ≡ x.below.now
        pub fits : FitsBody s (production_of kind) (the (production_of kind) below)
        pub bodies : HasBodies s (the (production_of kind) below)
        pub next : (again k : Option ℕ) (later : List Member)
            → IsPut (token_of kind (the (production_of kind) below)) (unbroken_member s a kind (the (production_of kind) below)) before later again
            → k ≡ sooner found again → LeftOf f x.after.now k later

      pub said : is_chosen (places level) x.node ≡ true → is_chosen (declarers kind) x.node ≡ true → Said
      said place own =
          let w = first_of place in
          let b = o.branch l.rest w.p w.count l.is w.is in
          let h = subst (HasBodies s) b.is l.bodies in
          let known : is_among (declarers kind) w.p ≡ true = ap (is_chosen (declarers kind)) (sym w.is) ∙ own in
          let body = member_body s w.p b.inner h.0 h.1 kind known in
          let member = the (production_of kind) b.inner in
          let fs = forests_of kind (parts_at level b.rest) in
          record {
            below = b.inner;
            below-is = b.inner-is;
            fits = body.0;
            bodies = body.1;
            next = λ again k later put is. record {
              rest = b.rest;
              is = b.rest-is;
              bodies = h.2;
              same = ap (λ o. sooner o (least (again_after s a kind later fs))) is
                  ∙ sooner_assoc found again (least (again_after s a kind later fs))
                  ∙ ap (λ o. sooner found (sooner o (least (again_after s a kind later fs)))) put.again
                  ∙ ap (λ ms. sooner found (sooner (least (again_with (token_of kind member) (unbroken_member s a kind member) before)) (least (again_after s a kind ms fs)))) put.members
                  ∙ ap (sooner found) (sym (least_append (again_with (token_of kind member) (unbroken_member s a kind member) before)
                  (again_after s a kind (with_member (unbroken_member s a kind member) before) fs)))
                  ∙ ap (λ gs. sooner found (least (again_after s a kind before gs)))
                  (sym (ap (forests_of kind) (parts_first w.p b.inner b.rest w.known) ∙ forests_own kind w.p b.inner (parts_at level b.rest) known))
                  ∙ ap (λ (g : Forest). sooner found (least (rest_of before g))) (sym b.is) ∙ l.same;
            };
          }
