-- Walks for the arguments of signatures.
use Rattle.std.proofs.Common.{◌≡◌, ℕ, ◌+◌, List, [], ◌∷◌, ◌++◌, Option, None, Some, map, refl, ap, sym, subst, ◌∙◌, arith}
use Rattle.std.specs.Prelude.{Bool, false, ◌==◌, ◌||◌, if◌then◌else◌, option_map}
use Rattle.type_terms.specs.declared.reference.MethodSig.{MethodSig}
use Rattle.type_terms.specs.declared.term.SigType.{SigType}
use Rattle.ilasm_grammar.specs.declared.productions.TheConstants.{SIG_ARG_ELLIPSIS, DEF_ARG}
use Rattle.ilasm_grammar.specs.declared.tree.TreeNode.{TreeNode}
use Rattle.ilasm_grammar.specs.declared.tree.TreeNode.TheVariants.{Branch, Leaf}
use Rattle.source_model.specs.Forest.{Forest, branch, part, each, preorder, joined}
use Rattle.source_model.specs.Laws.{ForestsJoin}
use Rattle.source_model.specs.Nodes.{Around}
use Rattle.source_model.specs.References.{arguments, before_ellipsis}
use Rattle.source_model.specs.Source.{Source}
use Rattle.source_model.specs.Types.{the_type}
use Rattle.source_syntax.specs.Places.{IsSound, IsReadable}
use Rattle.source_nodes.specs.Walk.{Opens, is_of}
use Rattle.source_nodes.specs.declared.walk.Opened.{Opened}
use Rattle.source_nodes.proofs.Collecting.{SoFar, starts, goes_in, goes_past, ends, each_own, each_other, is_other, no_forest}

-- ---- types

module _ (s : Source) (a : Around) (p : ℕ) where
  abbrev pub types_of : Forest → List SigType
  types_of f = map (the_type s a) (each p f)

  abbrev pub Arguments : Forest → List TreeNode → List SigType → Type 0
  Arguments f left types = SoFar (IsSound s) types_of (types_of f) left types

  pub arguments_start : (f : Forest) (nodes : List TreeNode) (types : List SigType) → preorder f ≡ nodes → IsReadable s f → types ≡ [] → Arguments f nodes types
  arguments_start f nodes types e h empty = starts (IsSound s) types_of (types_of f) f nodes types e h (ap (λ ts. ts ++ types_of f) empty)

  pub argument_taken : (f : Forest) (left : List TreeNode) (x : Opened) (types longer : List SigType) (count : ℕ) (of : SigType) → Opens left x
      → x.node ≡ Branch p count → ((b : Forest) → preorder b ≡ x.below.now → IsReadable s b → of ≡ the_type s a b) → longer ≡ types ++ of ∷ []
      → Arguments f left types → Arguments f x.after.now longer
  argument_taken f left x types longer count of o is typed more sf =
      subst (Arguments f x.after.now) (sym more)
      (goes_past (IsSound s) types_of (types_of f) left x types (of ∷ []) p count o is
      (λ b after e sound h. ap (map (the_type s a)) (each_own p b after) ∙ ap (λ t. t ∷ types_of after) (sym (typed b e h))) sf)

  pub arguments_go_in : ForestsJoin → (f : Forest) (left : List TreeNode) (x : Opened) (types : List SigType) → Opens left x → is_of p x.node ≡ false
      → Arguments f left types → Arguments f x.behind.now types
  arguments_go_in joins f left x types o other sf =
      goes_in (IsSound s) types_of (types_of f) left x types o (λ k b. refl)
      (λ q count b after is. ap (map (the_type s a)) (each_other p joins q b after (is_other p x.node q count other is))) sf

  pub arguments_end : (f : Forest) (left : List TreeNode) (types : List SigType) → left ≡ [] → Arguments f left types → types ≡ types_of f
  arguments_end f left types e sf = ends (IsSound s) types_of (types_of f) left types e refl sf

-- ---- the `...`

abbrev so_many : ℕ → Option ℕ → Option ℕ
so_many m o = option_map (λ k. m + k) o

-- so many arguments were passed, and no `...`
pub record Passed (f : Forest) (left : List TreeNode) (before : ℕ) : Type 0 where
  pub rest : Forest
  pub is : preorder rest ≡ left
  pub same : so_many before (before_ellipsis (arguments rest)) ≡ before_ellipsis (arguments f)

none_more : (o : Option ℕ) → so_many 0 o ≡ o
none_more None = refl
none_more (Some k) = let e : 0 + k ≡ k = omega arith in ap Some e

one_more : (m : ℕ) (o : Option ℕ) → so_many (m + 1) o ≡ so_many m (option_map (λ k. 1 + k) o)
one_more m None = refl
one_more m (Some k) = let e : m + 1 + k ≡ m + (1 + k) = omega arith in ap Some e

pub passed_start : (f : Forest) (nodes : List TreeNode) → preorder f ≡ nodes → Passed f nodes 0
passed_start f nodes e = record { rest = f; is = e; same = none_more (before_ellipsis (arguments f)) }

pub passed_argument : (f : Forest) (left : List TreeNode) (x : Opened) (count before : ℕ) → Opens left x → x.node ≡ Branch DEF_ARG count
    → Passed f left before → Passed f x.after.now (before + 1)
passed_argument f left x count before o is p =
    let b = o.branch p.rest DEF_ARG count p.is is in
    record {
      rest = b.rest;
      is = b.rest-is;
      same = one_more before (before_ellipsis (arguments b.rest)) ∙ ap (λ g. so_many before (before_ellipsis (arguments g))) (sym b.is) ∙ p.same;
    }

pub passed_ellipsis : (f : Forest) (left : List TreeNode) (x : Opened) (count before : ℕ) → Opens left x → x.node ≡ Branch SIG_ARG_ELLIPSIS count
    → Passed f left before → Some before ≡ before_ellipsis (arguments f)
passed_ellipsis f left x count before o is p =
    let b = o.branch p.rest SIG_ARG_ELLIPSIS count p.is is in
    let e : before ≡ before + 0 = omega arith in
    ap Some e ∙ ap (λ g. so_many before (before_ellipsis (arguments g))) (sym b.is) ∙ p.same

pub passed_other : ForestsJoin → (f : Forest) (left : List TreeNode) (x : Opened) (before : ℕ) → Opens left x → is_of SIG_ARG_ELLIPSIS x.node ≡ false
    → is_of DEF_ARG x.node ≡ false → Passed f left before → Passed f x.behind.now before
passed_other joins f left x before o m k p = go x.node refl
  where
    go : (node : TreeNode) → x.node ≡ node → Passed f x.behind.now before
    go (Leaf token) is =
        let b = o.leaf p.rest token p.is is in
        record { rest = b.after; is = b.rest; same = ap (λ g. so_many before (before_ellipsis (arguments g))) (sym b.is) ∙ p.same }
    go (Branch q count) is =
        let b = o.branch p.rest q count p.is is in
        let apart : arguments (branch q b.inner b.rest) ≡ arguments (joined b.inner b.rest) =
        ap (λ (c : Bool). (if c || ((DEF_ARG == q) || false) then part q b.inner ∷ [] else arguments b.inner) ++ arguments b.rest) (is_other SIG_ARG_ELLIPSIS x.node q count m is)
        ∙ ap (λ (c : Bool). (if c || false then part q b.inner ∷ [] else arguments b.inner) ++ arguments b.rest) (is_other DEF_ARG x.node q count k is)
        ∙ sym (joins.parts [] (SIG_ARG_ELLIPSIS ∷ DEF_ARG ∷ []) b.inner b.rest) in
        record {
          rest = joined b.inner b.rest;
          is = b.behind-is;
          same = ap (λ ps. so_many before (before_ellipsis ps)) (sym apart) ∙ ap (λ g. so_many before (before_ellipsis (arguments g))) (sym b.is) ∙ p.same;
        }

pub passed_all : (f : Forest) (left : List TreeNode) (before : ℕ) → left ≡ [] → Passed f left before → None ≡ before_ellipsis (arguments f)
passed_all f left before e p = ap (λ g. so_many before (before_ellipsis (arguments g))) (sym (no_forest p.rest (p.is ∙ e))) ∙ p.same

-- ---- the parts of a signature

abbrev signature : Bool → Bool → Bool → ℕ → SigType → List SigType → Option ℕ → MethodSig
signature h e v g r ps o = record { has_this = h; explicit_this = e; vararg = v; generic = g; ret = r; params = ps; sentinel = o }

pub same_signature : (h h' e e' v v' : Bool) (g g' : ℕ) (r r' : SigType) (ps ps' : List SigType) (o o' : Option ℕ) → h ≡ h' → e ≡ e' → v ≡ v' → g ≡ g' → r ≡ r'
    → ps ≡ ps' → o ≡ o' → signature h e v g r ps o ≡ signature h' e' v' g' r' ps' o'
same_signature h h' e e' v v' g g' r r' ps ps' o o' a b c d i j k =
    ap (λ x. signature x e v g r ps o) a ∙ ap (λ x. signature h' x v g r ps o) b ∙ ap (λ x. signature h' e' x g r ps o) c ∙ ap (λ x. signature h' e' v' x r ps o) d
    ∙ ap (λ x. signature h' e' v' g' x ps o) i ∙ ap (λ x. signature h' e' v' g' r' x o) j ∙ ap (λ x. signature h' e' v' g' r' ps' x) k
