-- The dimensions of an array, from the productions of their bounds.
use Rattle.std.proofs.Common.{◌≡◌, ℕ, suc, ◌+◌, ◌≤◌, List, [], ◌∷◌, ◌++◌, map, length, refl, ap, sym, subst, ◌∙◌, arith, None, Some, length-append}
use Rattle.std.specs.Prelude.{Bool, true, false, ◌==◌, ◌||◌, if◌then◌else◌, ⊤}
use Rattle.std.proofs.lemmas.List.{map-append}
use Rattle.il_lexer.specs.declared.word.TheConstants.{OPEN_BRACKET}
use Rattle.ilasm_grammar.specs.Grammar.{rule_of}
use Rattle.ilasm_grammar.specs.Ilasm.{ilasm, rule_by}
use Rattle.ilasm_grammar.specs.declared.nonterminals.TheConstants as n
use Rattle.ilasm_grammar.specs.declared.productions.TheConstants.{SHAPE_COMMA, BOUND_OPT_NONE, BOUND_ELLIPSIS, BOUND_INT, BOUND_END, INT_OPT_SOME, TYPE_SUFFIX_BRACKET}
use Rattle.ilasm_grammar.specs.declared.symbol.Symbol.TheVariants.{Terminal, Nonterminal}
use Rattle.ilasm_grammar.specs.declared.terminals.TheConstants as t
use Rattle.ilasm_grammar.specs.declared.tree.TreeNode.{TreeNode}
use Rattle.ilasm_grammar.specs.declared.tree.TreeNode.TheVariants.{Branch}
use Rattle.source_model.specs.Forest.{Forest, none, leaf, branch, part, parts, has, the, leaf_at, preorder, joined, is_among}
use Rattle.source_model.specs.Laws.{ForestsJoin}
use Rattle.source_model.specs.Shapes.{Bound, bound, no_bound, bounds_in, dimensions}
use Rattle.source_model.specs.Source.{Source}
use Rattle.source_nodes.specs.Derived.{Fits, FitsBody, OfEach}
use Rattle.source_nodes.specs.Dimensions.{bound_of}
use Rattle.source_nodes.specs.Walk.{Opens, is_of}
use Rattle.source_nodes.specs.declared.shapes.Dimension.{Dimension}
use Rattle.source_nodes.specs.declared.walk.Opened.{Opened}
use Rattle.source_nodes.proofs.Collecting.{SoFar, starts, goes_in, goes_past, ends, is_branch, is_other}
use Rattle.source_nodes.proofs.WrittenNames.{fits_rule}

-- the bound of a number, and what may stand behind it
abbrev written : Bool → Bool → ℕ → ℕ → Bound
written ended sized first last =
    if ended then (if sized then record { lower = Some first; size = Some last } else record { lower = Some first; size = None })
    else record { lower = None; size = Some first }

pub a_size : (f : Forest) (first : ℕ) → has BOUND_END f ≡ false → first ≡ leaf_at 0 f → record { lower = None; size = Some first } ≡ bound (part BOUND_INT f)
a_size f first e at =
    ap (λ k. written false (has INT_OPT_SOME f) k (leaf_at 0 (the INT_OPT_SOME f))) at
    ∙ sym (ap (λ b. written b (has INT_OPT_SOME f) (leaf_at 0 f) (leaf_at 0 (the INT_OPT_SOME f))) e)

pub a_lower : (f : Forest) (first : ℕ) → has BOUND_END f ≡ true → has INT_OPT_SOME f ≡ false → first ≡ leaf_at 0 f
    → record { lower = Some first; size = None } ≡ bound (part BOUND_INT f)
a_lower f first e o at =
    ap (λ k. written true false k (leaf_at 0 (the INT_OPT_SOME f))) at
    ∙ sym (ap (λ b. written b (has INT_OPT_SOME f) (leaf_at 0 f) (leaf_at 0 (the INT_OPT_SOME f))) e
    ∙ ap (λ b. written true b (leaf_at 0 f) (leaf_at 0 (the INT_OPT_SOME f))) o)

pub both_bounds : (f : Forest) (first last : ℕ) → has BOUND_END f ≡ true → has INT_OPT_SOME f ≡ true → first ≡ leaf_at 0 f
    → last ≡ leaf_at 0 (the INT_OPT_SOME f) → record { lower = Some first; size = Some last } ≡ bound (part BOUND_INT f)
both_bounds f first last e o at to =
    ap (λ k. written true true k last) at ∙ ap (λ k. written true true (leaf_at 0 f) k) to
    ∙ sym (ap (λ b. written b (has INT_OPT_SOME f) (leaf_at 0 f) (leaf_at 0 (the INT_OPT_SOME f))) e
    ∙ ap (λ b. written true b (leaf_at 0 f) (leaf_at 0 (the INT_OPT_SOME f))) o)

-- ---- the walk

-- which asks nothing of the productions
abbrev Any : ℕ → Forest → Type 0
Any p f = ⊤

any : (f : Forest) → OfEach Any f
any none = tt
any (leaf k a) = any a
any (branch p b a) = (tt, any b, any a)

abbrev bounds : List ℕ
bounds = BOUND_OPT_NONE ∷ BOUND_ELLIPSIS ∷ BOUND_INT ∷ []

abbrev pub Dimensions : Forest → List TreeNode → List Dimension → Type 0
Dimensions f left found = SoFar Any bounds_in (dimensions f) left (map bound_of found)

pub dimensions_start : (f : Forest) (nodes : List TreeNode) (found : List Dimension) → preorder f ≡ nodes → map bound_of found ++ bounds_in f ≡ dimensions f
    → Dimensions f nodes found
dimensions_start f nodes found e h = starts Any bounds_in (dimensions f) f nodes (map bound_of found) e (any f) h

dimensions_take : (f : Forest) (left : List TreeNode) (x : Opened) (found longer : List Dimension) (p count : ℕ) (d : Dimension) → Opens left x → x.node ≡ Branch p count
    → is_among bounds p ≡ true → ((b : Forest) → preorder b ≡ x.below.now → bound_of d ≡ bound (part p b)) → longer ≡ found ++ d ∷ []
    → Dimensions f left found → Dimensions f x.after.now longer
dimensions_take f left x found longer p count d o is known same more sf =
    subst (SoFar Any bounds_in (dimensions f) x.after.now) (sym (ap (map bound_of) more ∙ map-append bound_of found (d ∷ [])))
    (goes_past Any bounds_in (dimensions f) left x (map bound_of found) (bound_of d ∷ []) p count o is taken sf)
  where
    taken : (b a : Forest) → preorder b ≡ x.below.now → ⊤ → OfEach Any b → bounds_in (branch p b a) ≡ bound_of d ∷ [] ++ bounds_in a
    taken b a e t each =
        ap (λ (c : Bool). map bound ((if c then part p b ∷ [] else parts bounds b) ++ parts bounds a)) known ∙ ap (λ y. y ∷ bounds_in a) (sym (same b e))

pub number_taken : (f : Forest) (left : List TreeNode) (x : Opened) (found longer : List Dimension) (count : ℕ) (d : Dimension) → Opens left x
    → x.node ≡ Branch BOUND_INT count → ((b : Forest) → preorder b ≡ x.below.now → bound_of d ≡ bound (part BOUND_INT b)) → longer ≡ found ++ d ∷ []
    → Dimensions f left found → Dimensions f x.after.now longer
number_taken f left x found longer count d o is same more sf = dimensions_take f left x found longer BOUND_INT count d o is refl same more sf

-- a bound that gives none
pub unbounded_branch : (node : TreeNode) → (is_of BOUND_OPT_NONE node || is_of BOUND_ELLIPSIS node) ≡ true
    → (p : ℕ) × (count : ℕ) × (node ≡ Branch p count) × (is_among bounds p ≡ true) × ((b : Forest) → no_bound ≡ bound (part p b))
unbounded_branch node e = go (is_of BOUND_OPT_NONE node) refl
  where
    go : (c : Bool) → is_of BOUND_OPT_NONE node ≡ c → (p : ℕ) × (count : ℕ) × (node ≡ Branch p count) × (is_among bounds p ≡ true) × ((b : Forest) → no_bound ≡ bound (part p b))
    go true is = let b = is_branch BOUND_OPT_NONE node is in (BOUND_OPT_NONE, b.0, b.1, refl, λ _. refl)
    go false is =
        let b = is_branch BOUND_ELLIPSIS node (sym (ap (λ (c : Bool). c || is_of BOUND_ELLIPSIS node) is) ∙ e) in
        (BOUND_ELLIPSIS, b.0, b.1, refl, λ _. refl)

pub unbounded_taken : (f : Forest) (left : List TreeNode) (x : Opened) (found longer : List Dimension) (d : Dimension) → Opens left x
    → (is_of BOUND_OPT_NONE x.node || is_of BOUND_ELLIPSIS x.node) ≡ true → bound_of d ≡ no_bound → longer ≡ found ++ d ∷ []
    → Dimensions f left found → Dimensions f x.after.now longer
unbounded_taken f left x found longer d o e empty more sf =
    let b = unbounded_branch x.node e in
    dimensions_take f left x found longer b.0 b.1 d o b.2 b.3 (λ g i. empty ∙ b.4 g) more sf

no_bound_there : (q : ℕ) → (BOUND_OPT_NONE == q) ≡ false → (BOUND_ELLIPSIS == q) ≡ false → (BOUND_INT == q) ≡ false → is_among bounds q ≡ false
no_bound_there q a b c =
    ap (λ (x : Bool). x || ((BOUND_ELLIPSIS == q) || ((BOUND_INT == q) || false))) a ∙ ap (λ (x : Bool). x || ((BOUND_INT == q) || false)) b
    ∙ ap (λ (x : Bool). x || false) c

neither : (x y : Bool) → (x || y) ≡ false → (x ≡ false) × (y ≡ false)
neither true y e = absurd cc
neither false y e = (refl, e)

pub dimensions_go_in : ForestsJoin → (f : Forest) (left : List TreeNode) (x : Opened) (found : List Dimension) → Opens left x → is_of BOUND_INT x.node ≡ false
    → (is_of BOUND_OPT_NONE x.node || is_of BOUND_ELLIPSIS x.node) ≡ false → Dimensions f left found → Dimensions f x.behind.now found
dimensions_go_in joins f left x found o numbered unbounded sf =
    goes_in Any bounds_in (dimensions f) left x (map bound_of found) o (λ k a. refl) into sf
  where
    into : (q count : ℕ) (b a : Forest) → x.node ≡ Branch q count → bounds_in (branch q b a) ≡ bounds_in (joined b a)
    into q count b a is =
        let n = neither (is_of BOUND_OPT_NONE x.node) (is_of BOUND_ELLIPSIS x.node) unbounded in
        let apart = no_bound_there q (is_other BOUND_OPT_NONE x.node q count n.0 is) (is_other BOUND_ELLIPSIS x.node q count n.1 is) (is_other BOUND_INT x.node q count numbered is) in
        ap (λ (c : Bool). map bound ((if c then part q b ∷ [] else parts bounds b) ++ parts bounds a)) apart
        ∙ ap (map bound) (sym (joins.parts [] bounds b a))

pub dimensions_end : (f : Forest) (left : List TreeNode) (found : List Dimension) → left ≡ [] → Dimensions f left found → map bound_of found ≡ dimensions f
dimensions_end f left found e sf = ends Any bounds_in (dimensions f) left (map bound_of found) e refl sf

-- ---- how many there are

pub few_parts : (sought : List ℕ) (f : Forest) → length (parts sought f) ≤ length (preorder f)
few_parts sought none = omega arith
few_parts sought (leaf k a) = let h = few_parts sought a in omega (arith, h)
few_parts sought (branch p b a) = go (is_among sought p) refl (few_parts sought b) (few_parts sought a)
  where
    go : (c : Bool) → is_among sought p ≡ c → length (parts sought b) ≤ length (preorder b) → length (parts sought a) ≤ length (preorder a)
        → length (parts sought (branch p b a)) ≤ length (preorder (branch p b a))
    go true is below after =
        let e : length (parts sought (branch p b a)) ≡ suc (length (parts sought a)) =
        ap (λ (c : Bool). length ((if c then part p b ∷ [] else parts sought b) ++ parts sought a)) is in
        omega (arith, e, below, after, length-append (preorder b) (preorder a))
    go false is below after =
        let e : length (parts sought (branch p b a)) ≡ length (parts sought b ++ parts sought a) =
        ap (λ (c : Bool). length ((if c then part p b ∷ [] else parts sought b) ++ parts sought a)) is in
        omega (arith, e, below, after, length-append (parts sought b) (parts sought a), length-append (preorder b) (preorder a))

pub mapped_length : {X Y : Type 0} (g : X → Y) (xs : List X) → length (map g xs) ≡ length xs
mapped_length g [] = refl
mapped_length g (x ∷ xs) = ap suc (mapped_length g xs)

at_most_one_more : (c : Bool) (bs : List Bound) → length (if c then no_bound ∷ bs else bs) ≤ 1 + length bs
at_most_one_more true bs = omega arith
at_most_one_more false bs = omega arith

rule_bracket : ilasm TYPE_SUFFIX_BRACKET ≡ Some (rule_of n.TYPE_SUFFIX (Terminal (t.WORDS + OPEN_BRACKET) ∷ Nonterminal n.SHAPE ∷ []))
unfolding ilasm rule_by
rule_bracket = refl

-- a shape stands behind its `[`, so that it has no more dimensions than nodes
pub few_dimensions : (s : Source) (f : Forest) (found : List Dimension) → FitsBody s TYPE_SUFFIX_BRACKET f → map bound_of found ≡ dimensions f
    → length found ≤ length (preorder f)
few_dimensions s f found fits same =
    let e : length found ≡ length (dimensions f) = sym (mapped_length bound_of found) ∙ ap length same in
    omega (arith, e, below f (fits_rule s TYPE_SUFFIX_BRACKET n.TYPE_SUFFIX _ f rule_bracket fits))
  where
    below : (g : Forest) → Fits s (Terminal (t.WORDS + OPEN_BRACKET) ∷ Nonterminal n.SHAPE ∷ []) g → length (dimensions g) ≤ length (preorder g)
    below none h = absurd h
    below (branch p b a) h = absurd h
    below (leaf k a) h =
        omega (arith, at_most_one_more (has SHAPE_COMMA (leaf k a)) (bounds_in (leaf k a)), mapped_length bound (parts bounds a), few_parts bounds a)
