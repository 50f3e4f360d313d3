-- A walk through a forest that collects what its parts give.
use Rattle.std.proofs.Common.{◌≡◌, ℕ, suc, inl, inr, List, [], ◌∷◌, ◌++◌, length, refl, ap, sym, subst, ◌∙◌, append_assoc, append-nil}
use Rattle.std.specs.Prelude.{Bool, true, false, ◌==◌, ◌||◌, if◌then◌else◌}
use Rattle.std.proofs.lemmas.Bool.Decides.{Decides-eqb}
use Rattle.ilasm_grammar.specs.declared.tree.TreeNode.{TreeNode}
use Rattle.ilasm_grammar.specs.declared.tree.TreeNode.TheVariants.{Branch, Leaf}
use Rattle.source_model.specs.Forest as tree
use Rattle.source_model.specs.Forest.{Forest, Part, part, preorder, parts, each, below_each, is_among, joined}
use Rattle.source_model.specs.Laws.{ForestsJoin}
use Rattle.source_nodes.specs.Derived.{OfEach}
use Rattle.source_nodes.specs.Walk.{Opens, BeginsWith, IsForest, is_of}
use Rattle.source_nodes.specs.declared.walk.Opened.{Opened}

-- ---- forests

pub no_forest : (f : Forest) → preorder f ≡ [] → f ≡ tree.none
no_forest tree.none e = refl
no_forest (tree.leaf k a) e = absurd cc
no_forest (tree.branch p b a) e = absurd cc

pub of_joined : (P : ℕ → Forest → Type 0) (f g : Forest) → OfEach P f → OfEach P g → OfEach P (joined f g)
of_joined P tree.none g h i = i
of_joined P (tree.leaf k a) g h i = of_joined P a g h i
of_joined P (tree.branch p b a) g h i = (h.0, h.1, of_joined P a g h.2 i)

pub is_branch : (p : ℕ) (node : TreeNode) → is_of p node ≡ true → (count : ℕ) × (node ≡ Branch p count)
is_branch p (Branch q count) e = (count, ap (λ r. Branch r count) (sym ((Decides-eqb p q).0 e)))
is_branch p (Leaf token) e = absurd cc

-- ---- what stands below the first node, after it and behind it is a forest

pub below_is : (left : List TreeNode) (x : Opened) (p count : ℕ) → Opens left x → x.node ≡ Branch p count → IsForest left → IsForest x.below.now
below_is left x p count o is f = let b = o.branch f.0 p count f.1 is in (b.inner, b.inner-is)

pub after_is : (left : List TreeNode) (x : Opened) (p count : ℕ) → Opens left x → x.node ≡ Branch p count → IsForest left → IsForest x.after.now
after_is left x p count o is f = let b = o.branch f.0 p count f.1 is in (b.rest, b.rest-is)

pub behind_is : (left : List TreeNode) (x : Opened) → Opens left x → IsForest left → IsForest x.behind.now
behind_is left x o f = go x.node refl
  where
    go : (node : TreeNode) → x.node ≡ node → IsForest x.behind.now
    go (Branch p count) is = let b = o.branch f.0 p count f.1 is in (joined b.inner b.rest, b.behind-is)
    go (Leaf token) is = let b = o.leaf f.0 token f.1 is in (b.after, b.rest)

-- ---- the walk

-- so far this was found: with what the rest gives it is the whole
pub record SoFar {X : Type 0} (P : ℕ → Forest → Type 0) (value : Forest → List X) (whole : List X) (left : List TreeNode) (found : List X) : Type 0 where
  pub rest : Forest
  pub is : preorder rest ≡ left
  pub each : OfEach P rest
  pub same : found ++ value rest ≡ whole

module _ {X : Type 0} (P : ℕ → Forest → Type 0) (value : Forest → List X) (whole : List X) where
  pub starts : (f : Forest) (nodes : List TreeNode) (found : List X) → preorder f ≡ nodes → OfEach P f → found ++ value f ≡ whole
      → SoFar P value whole nodes found
  starts f nodes found e h same = record { rest = f; is = e; each = h; same = same }

  -- at a node of which nothing is taken
  pub goes_in : (left : List TreeNode) (x : Opened) (found : List X) → Opens left x
      → ((k : ℕ) (a : Forest) → value (tree.leaf k a) ≡ value a)
      → ((q count : ℕ) (b a : Forest) → x.node ≡ Branch q count → value (tree.branch q b a) ≡ value (joined b a))
      → SoFar P value whole left found → SoFar P value whole x.behind.now found
  goes_in left x found o past into sf = go x.node refl
    where
      go : (node : TreeNode) → x.node ≡ node → SoFar P value whole x.behind.now found
      go (Leaf token) is =
          let b = o.leaf sf.rest token sf.is is in
          record {
            rest = b.after;
            is = b.rest;
            each = subst (OfEach P) b.is sf.each;
            same = ap (λ xs. found ++ xs) (sym (past token b.after) ∙ ap value (sym b.is)) ∙ sf.same;
          }
      go (Branch q count) is =
          let b = o.branch sf.rest q count sf.is is in
          let h : OfEach P (tree.branch q b.inner b.rest) = subst (OfEach P) b.is sf.each in
          record {
            rest = joined b.inner b.rest;
            is = b.behind-is;
            each = of_joined P b.inner b.rest h.1 h.2;
            same = ap (λ xs. found ++ xs) (sym (into q count b.inner b.rest is) ∙ ap value (sym b.is)) ∙ sf.same;
          }

  -- at a production of which something is taken
  pub goes_past : (left : List TreeNode) (x : Opened) (found more : List X) (p count : ℕ) → Opens left x → x.node ≡ Branch p count
      → ((b a : Forest) → preorder b ≡ x.below.now → P p b → OfEach P b → value (tree.branch p b a) ≡ more ++ value a)
      → SoFar P value whole left found → SoFar P value whole x.after.now (found ++ more)
  goes_past left x found more p count o is takes sf =
      let b = o.branch sf.rest p count sf.is is in
      let h : OfEach P (tree.branch p b.inner b.rest) = subst (OfEach P) b.is sf.each in
      record {
        rest = b.rest;
        is = b.rest-is;
        each = h.2;
        same = append_assoc found more (value b.rest)
            ∙ ap (λ xs. found ++ xs) (sym (takes b.inner b.rest b.inner-is h.0 h.1) ∙ ap value (sym b.is)) ∙ sf.same;
      }

  -- at the end
  pub ends : (left : List TreeNode) (found : List X) → left ≡ [] → value tree.none ≡ [] → SoFar P value whole left found → found ≡ whole
  ends left found e nothing sf =
      let n = no_forest sf.rest (sf.is ∙ e) in
      sym (append-nil found) ∙ ap (λ xs. found ++ xs) (sym nothing ∙ ap value (sym n)) ∙ sf.same

-- ---- the parts of one production

module _ (p : ℕ) where
  pub each_own : (b a : Forest) → each p (tree.branch p b a) ≡ b ∷ each p a
  each_own b a = ap (λ (c : Bool). below_each ((if c || false then part p b ∷ [] else parts (p ∷ []) b) ++ parts (p ∷ []) a)) ((Decides-eqb p p).1 refl)

  below_append : (ps qs : List Part) → below_each (ps ++ qs) ≡ below_each ps ++ below_each qs
  below_append [] qs = refl
  below_append (x ∷ ps) qs = ap (λ fs. x.below ∷ fs) (below_append ps qs)

  pub each_other : ForestsJoin → (q : ℕ) (b a : Forest) → (p == q) ≡ false → each p (tree.branch q b a) ≡ each p (joined b a)
  each_other joins q b a e =
      ap (λ (c : Bool). below_each ((if c || false then part q b ∷ [] else parts (p ∷ []) b) ++ parts (p ∷ []) a)) e
      ∙ ap below_each (sym (joins.parts [] (p ∷ []) b a))

  pub is_other : (node : TreeNode) (q count : ℕ) → is_of p node ≡ false → node ≡ Branch q count → (p == q) ≡ false
  is_other node q count n is = ap (is_of p) (sym is) ∙ n
