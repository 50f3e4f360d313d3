-- How far the walk for what stands in a derivation has come.
use Rattle.std.proofs.Common.{◌≡◌, ℕ, List, [], ◌∷◌, ◌++◌, take, drop, refl, ap, sym, ◌∙◌}
use Rattle.std.specs.Prelude.{Bool, true, false, ◌||◌, ◌==◌, if◌then◌else◌}
use Rattle.std.proofs.lemmas.Bool.Decides.{Decides-eqb}
use Rattle.std.proofs.lemmas.List.{take-append-drop}
use Rattle.ilasm_grammar.specs.declared.tree.TreeNode.{TreeNode}
use Rattle.ilasm_grammar.specs.declared.tree.TreeNode.TheVariants.{Branch, Leaf}
use Rattle.source_model.specs.Forest as tree
use Rattle.source_model.specs.Forest.{Forest, Part, is_among, is_any_part, joined, part, parts_outside, preorder}
use Rattle.source_model.specs.Laws.{ForestOpens, ForestsJoin, OneForest}
use Rattle.source_nodes.specs.Walk.{IsForest}
use Rattle.source_nodes.proofs.Collecting.{no_forest}
use Rattle.elaborate.specs.Standing.{IsStanding, passed_forms, stands_outside}
use Rattle.elaborate.specs.declared.standing.Standing.{Standing}

-- what is known, with what stands in the rest, is what stands in the whole
abbrev pub Says : ℕ → Bool → Forest → Forest → Type 0
Says q known rest f = stands_outside q f ≡ (known || stands_outside q rest)

pub record Walked (first second : ℕ) (nodes left : List TreeNode) (x : Standing) : Type 0 where
  pub rest : Forest
  pub is : preorder rest ≡ left
  pub says : (f : Forest) → preorder f ≡ nodes → Says first x.first rest f × Says second x.second rest f

or_or : (a b c : Bool) → (a || (b || c)) ≡ ((a || b) || c)
or_or true b c = refl
or_or false b c = refl

or_false : (a : Bool) → (a || false) ≡ a
or_false true = refl
or_false false = refl

same_test : (p q : ℕ) → (p == q) ≡ (q == p)
same_test p q = go (p == q) (q == p) refl refl
  where
    go : (c d : Bool) → (p == q) ≡ c → (q == p) ≡ d → c ≡ d
    go true true e h = refl
    go false false e h = refl
    go true false e h = sym ((Decides-eqb q p).1 (sym ((Decides-eqb p q).0 e))) ∙ h
    go false true e h = sym e ∙ (Decides-eqb p q).1 (sym ((Decides-eqb q p).0 h))

module _ (q : ℕ) where
  -- a branch that isn't shut: it is that, or it stands in it or after it
  into : ForestsJoin → (p : ℕ) (b a : Forest) → is_among passed_forms p ≡ false → stands_outside q (tree.branch p b a) ≡ ((q == p) || stands_outside q (joined b a))
  into joins p b a unshut = go (q == p) refl
    where
      inner : List Part
      inner = parts_outside passed_forms (q ∷ []) b

      later : List Part
      later = parts_outside passed_forms (q ∷ []) a

      go : (c : Bool) → (q == p) ≡ c → stands_outside q (tree.branch p b a) ≡ (c || stands_outside q (joined b a))
      go true e = ap (λ (c : Bool). is_any_part ((if c || false then part p b ∷ [] else if is_among passed_forms p then [] else inner) ++ later)) e
      go false e =
          ap (λ (c : Bool). is_any_part ((if c || false then part p b ∷ [] else if is_among passed_forms p then [] else inner) ++ later)) e
          ∙ ap (λ (c : Bool). is_any_part ((if c then [] else inner) ++ later)) unshut
          ∙ ap is_any_part (sym (joins.parts passed_forms (q ∷ []) b a))

  -- one that is shut: it is that, or it stands after it
  past : (p : ℕ) (b a : Forest) → is_among passed_forms p ≡ true → stands_outside q (tree.branch p b a) ≡ ((q == p) || stands_outside q a)
  past p b a closed = go (q == p) refl
    where
      inner : List Part
      inner = parts_outside passed_forms (q ∷ []) b

      later : List Part
      later = parts_outside passed_forms (q ∷ []) a

      go : (c : Bool) → (q == p) ≡ c → stands_outside q (tree.branch p b a) ≡ (c || stands_outside q a)
      go true e = ap (λ (c : Bool). is_any_part ((if c || false then part p b ∷ [] else if is_among passed_forms p then [] else inner) ++ later)) e
      go false e =
          ap (λ (c : Bool). is_any_part ((if c || false then part p b ∷ [] else if is_among passed_forms p then [] else inner) ++ later)) e
          ∙ ap (λ (c : Bool). is_any_part ((if c then [] else inner) ++ later)) closed

  next : (known more : Bool) (p : ℕ) (g h f : Forest) → more ≡ (known || p == q) → Says q known g f
      → stands_outside q g ≡ ((q == p) || stands_outside q h) → Says q more h f
  next known more p g h f adds says step =
      says ∙ ap (λ c. known || c) step ∙ or_or known (q == p) (stands_outside q h)
      ∙ ap (λ c. (known || c) || stands_outside q h) (same_test q p) ∙ ap (λ c. c || stands_outside q h) (sym adds)

-- what is known, and what a production is
pub record With (first second : ℕ) (x : Standing) (p : ℕ) (y : Standing) : Type 0 where
  pub first-is : y.first ≡ (x.first || p == first)
  pub second-is : y.second ≡ (x.second || p == second)

module _ (one : OneForest) (opens : ForestOpens) (joins : ForestsJoin) (nodes : List TreeNode) (first second : ℕ) where
  pub begins : IsForest nodes → Walked first second nodes nodes (record { first = false; second = false })
  begins g = record {
    rest = g.0;
    is = g.1;
    says = λ f e.
        let same : f ≡ g.0 = one.one f g.0 (e ∙ sym g.1) in
        (ap (stands_outside first) same, ap (stands_outside second) same);
  }

  pub past_leaf : (left rest : List TreeNode) (x : Standing) (token : ℕ) → left ≡ Leaf token ∷ rest → Walked first second nodes left x
      → Walked first second nodes rest x
  past_leaf left rest x token e w =
      let b = opens.leaf w.rest token rest (w.is ∙ e) in
      record {
        rest = b.after;
        is = b.rest;
        says = λ f whole.
            let s = w.says f whole in
            (s.0 ∙ ap (λ g. x.first || stands_outside first g) b.is, s.1 ∙ ap (λ g. x.second || stands_outside second g) b.is);
      }

  pub past_shut : (left rest : List TreeNode) (x y : Standing) (p count : ℕ) → left ≡ Branch p count ∷ rest → is_among passed_forms p ≡ true → With first second x p y
      → Walked first second nodes left x → Walked first second nodes (drop count rest) y
  past_shut left rest x y p count e closed adds w =
      let b = opens.branch w.rest p count rest (w.is ∙ e) in
      record {
        rest = b.after;
        is = b.rest;
        says = λ f whole.
            let s = w.says f whole in (
              next first x.first y.first p w.rest b.after f adds.first-is s.0 (ap (stands_outside first) b.is ∙ past first p b.below b.after closed),
              next second x.second y.second p w.rest b.after f adds.second-is s.1 (ap (stands_outside second) b.is ∙ past second p b.below b.after closed),
            );
      }

  pub into_branch : (left rest : List TreeNode) (x y : Standing) (p count : ℕ) → left ≡ Branch p count ∷ rest → is_among passed_forms p ≡ false → With first second x p y
      → Walked first second nodes left x → Walked first second nodes rest y
  into_branch left rest x y p count e unshut adds w =
      let b = opens.branch w.rest p count rest (w.is ∙ e) in
      let inside = joined b.below b.after in
      record {
        rest = inside;
        is = joins.nodes b.below b.after ∙ ap (λ ns. ns ++ preorder b.after) b.inner ∙ ap (λ ns. take count rest ++ ns) b.rest ∙ take-append-drop count rest;
        says = λ f whole.
            let s = w.says f whole in (
              next first x.first y.first p w.rest inside f adds.first-is s.0 (ap (stands_outside first) b.is ∙ into first joins p b.below b.after unshut),
              next second x.second y.second p w.rest inside f adds.second-is s.1 (ap (stands_outside second) b.is ∙ into second joins p b.below b.after unshut),
            );
      }

  pub ends : (left : List TreeNode) (x : Standing) → left ≡ [] → Walked first second nodes left x → (f : Forest) → preorder f ≡ nodes → IsStanding first second f x
  ends left x e w f whole =
      let s = w.says f whole in
      let over = no_forest w.rest (w.is ∙ e) in
      record {
        first-is = sym (s.0 ∙ ap (λ g. x.first || stands_outside first g) over ∙ or_false x.first);
        second-is = sym (s.1 ∙ ap (λ g. x.second || stands_outside second g) over ∙ or_false x.second);
      }
