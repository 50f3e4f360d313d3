-- What a rule finds at the productions of a forest, piece by piece.
use Rattle.std.proofs.Common.{◌≡◌, ℕ, zero, suc, ◌+◌, ◌<◌, ◌≤◌, List, [], ◌∷◌, ◌++◌, length, map, take, drop, ap, sym, ◌∙◌, refl, subst, arith, length-drop}
use Rattle.std.specs.Prelude.{Bool, true, false, ◌==◌, ◌||◌, if◌then◌else◌, Option, None, Some}
use Rattle.std.specs.List.{AllByRecursion, flat_map}
use Rattle.std.proofs.lemmas.Bool.{eqb-true}
use Rattle.std.proofs.Math.Seq.{take-add}
use Rattle.std.proofs.lemmas.List.{drop-drop, length-map, length-take, take-append-drop}
use Rattle.ilasm_grammar.specs.declared.productions.TheConstants.{CLASS, METHOD, TYPAR, TYPARS_OPT_SOME}
use Rattle.ilasm_grammar.specs.declared.tree.TreeNode.{TreeNode}
use Rattle.ilasm_grammar.specs.declared.tree.TreeNode.TheVariants.{Branch, Leaf}
use Rattle.source_model.specs.Forest as tree
use Rattle.source_model.specs.Forest.{Forest, child, each, joined, leaf_at, preorder}
use Rattle.source_model.specs.Laws.{ForestOpens, ForestsJoin, OneForest}
use Rattle.source_model.specs.Nodes.{Around, Node, entered, nodes_in, class_token, type_id, typar_names, typars}
use Rattle.source_model.specs.Source.{Source}
use Rattle.source_model.specs.Values.{name_text}
use Rattle.source_nodes.specs.Derived.{FitsBody, HasBodies}
use Rattle.source_nodes.specs.Least.{least, sooner}
use Rattle.check_visitor.specs.Surroundings.{found_in, is_scope, HasParameters, IsQuiet, IsSurrounding, PassesQuiet}
use Rattle.source_nodes.specs.Readers.{Reads}
use Rattle.source_nodes.specs.Walk.{IsForest}
use Rattle.check_visitor.specs.declared.asking.Surrounding.{Surrounding}
use Rattle.source_nodes.specs.declared.reader.Reader.{Reader}
use Rattle.source_nodes.proofs.Collecting.{of_joined}
use Rattle.source_syntax.proofs.LabelTokens.{all_append}
use Rattle.source_syntax.proofs.LeastLemmas.{flat_append, least_append, sooner_assoc}
use Rattle.source_syntax.proofs.SizeLemmas.{child_smaller, few_each}
use Rattle.source_syntax.proofs.Stepping.{Steps, step_into_branch, step_past_leaf}

-- below each production of the forest that has these nodes stands its body
abbrev pub Bodied : Source → List TreeNode → Type 0
Bodied s nodes = (f : Forest) → preorder f ≡ nodes → HasBodies s f

-- a source that is read, in which these nodes stand, what stands around a place, and an empty list of names
pub record At (r : Reader) (p : Surrounding) (none : List (List ℕ)) (nodes : List TreeNode) : Type 0 where
  pub source : Source
  pub empty : none ≡ []
  pub around : Around
  pub reads : Reads r source
  pub place : IsSurrounding p around
  pub bodied : Bodied source nodes
  pub parameters : HasParameters source p around

module _ (opens : ForestOpens) (joins : ForestsJoin) (one : OneForest) (s : Source) where
  pub bodied_by : (f : Forest) (nodes : List TreeNode) → preorder f ≡ nodes → HasBodies s f → Bodied s nodes
  bodied_by f nodes e h g is = subst (HasBodies s) (one.one f g (e ∙ sym is)) h

  pub bodied_past_leaf : (token : ℕ) (left rest : List TreeNode) → left ≡ Leaf token ∷ rest → IsForest left → Bodied s left → Bodied s rest
  bodied_past_leaf token left rest e f h =
      let b = opens.leaf f.0 token rest (f.1 ∙ e) in
      bodied_by b.after rest b.rest (subst (HasBodies s) b.is (h f.0 f.1))

  module _ (p count : ℕ) (left rest : List TreeNode) (e : left ≡ Branch p count ∷ rest) (f : IsForest left) (h : Bodied s left) where
    pub bodied_below : (b : Forest) → preorder b ≡ take count rest → FitsBody s p b × HasBodies s b
    bodied_below g is =
        let b = opens.branch f.0 p count rest (f.1 ∙ e) in
        let both = subst (HasBodies s) b.is (h f.0 f.1) in
        subst (λ x. FitsBody s p x × HasBodies s x) (one.one b.below g (b.inner ∙ sym is)) (both.0, both.1)

    pub bodied_after : Bodied s (drop count rest)
    bodied_after =
        let b = opens.branch f.0 p count rest (f.1 ∙ e) in
        bodied_by b.after (drop count rest) b.rest (subst (HasBodies s) b.is (h f.0 f.1)).2

    pub bodied_behind : Bodied s rest
    bodied_behind =
        let b = opens.branch f.0 p count rest (f.1 ∙ e) in
        let both = subst (HasBodies s) b.is (h f.0 f.1) in
        bodied_by (joined b.below b.after) rest
        (joins.nodes b.below b.after ∙ ap (λ ns. ns ++ preorder b.after) b.inner ∙ ap (λ ns. take count rest ++ ns) b.rest ∙ take-append-drop count rest)
        (of_joined (FitsBody s) b.below b.after both.1 both.2)

module _ (broken : Source → Node → List ℕ) where
  -- the least of what was found and of what the rest has
  abbrev pub sought : (r : Reader) (p : Surrounding) (none : List (List ℕ)) (nodes : List TreeNode) → Option ℕ → At r p none nodes → Forest → Option ℕ
  sought r p none nodes found i f = sooner found (least (found_in broken i.source i.around f))

  module _ (s : Source) (a : Around) where
    abbrev pub node_of : ℕ → Forest → Node
    node_of p b = record { production = p; below = b; around = entered s a p b }

    pub at_branch : (p : ℕ) (b f : Forest) → least (found_in broken s a (tree.branch p b f))
        ≡ sooner (sooner (least (broken s (node_of p b))) (least (found_in broken s (entered s a p b) b))) (least (found_in broken s a f))
    at_branch p b f =
        let n = node_of p b in
        let inner = nodes_in s (entered s a p b) b in
        ap least (flat_append (broken s) (n ∷ inner) (nodes_in s a f))
        ∙ least_append (broken s n ++ flat_map (broken s) inner) (flat_map (broken s) (nodes_in s a f))
        ∙ ap (λ x. sooner x (least (found_in broken s a f))) (least_append (broken s n) (flat_map (broken s) inner))

    -- past a class or a method, whose parts were asked
    pub past_scope : (p : ℕ) (b f : Forest) (found here within : Option ℕ)
        → here ≡ least (broken s (node_of p b)) → within ≡ least (found_in broken s (entered s a p b) b)
        → sooner (sooner found (sooner here within)) (least (found_in broken s a f)) ≡ sooner found (least (found_in broken s a (tree.branch p b f)))
    past_scope p b f found here within h w =
        sooner_assoc found (sooner here within) (least (found_in broken s a f))
        ∙ ap (λ x. sooner found (sooner (sooner x within) (least (found_in broken s a f)))) h
        ∙ ap (λ x. sooner found (sooner (sooner (least (broken s (node_of p b))) x) (least (found_in broken s a f)))) w
        ∙ ap (sooner found) (sym (at_branch p b f))

    pub same_around : (p : ℕ) (b : Forest) → is_scope p ≡ false → entered s a p b ≡ a
    same_around p b e = go (p == CLASS) (p == METHOD) e
      where
        go : (c m : Bool) → (c || m) ≡ false
            → (if c then record { path = a.path ++ type_id s (class_token b) ∷ []; class = b; method = tree.none }
            else if m then record { path = a.path; class = a.class; method = b }
            else a) ≡ a
        go true m e = absurd cc
        go false true e = absurd cc
        go false false e = refl

    -- into any other production
    pub into_parts : ForestsJoin → (p : ℕ) (b f : Forest) (found here : Option ℕ) → is_scope p ≡ false → here ≡ least (broken s (node_of p b))
        → sooner (sooner found here) (least (found_in broken s a (joined b f))) ≡ sooner found (least (found_in broken s a (tree.branch p b f)))
    into_parts joins p b f found here scope h =
        let same = same_around p b scope in
        let both : least (found_in broken s a (joined b f)) ≡ sooner (least (found_in broken s a b)) (least (found_in broken s a f)) =
        ap (λ ns. least (flat_map (broken s) ns)) (joins.productions s a b f)
        ∙ ap least (flat_append (broken s) (nodes_in s a b) (nodes_in s a f))
        ∙ least_append (flat_map (broken s) (nodes_in s a b)) (flat_map (broken s) (nodes_in s a f)) in
        sooner_assoc found here (least (found_in broken s a (joined b f)))
        ∙ ap (λ x. sooner found (sooner here x)) both
        ∙ ap (sooner found) (sym (sooner_assoc here (least (found_in broken s a b)) (least (found_in broken s a f))))
        ∙ ap (λ x. sooner found (sooner (sooner x (least (found_in broken s a b))) (least (found_in broken s a f)))) h
        ∙ ap (λ (x : Around). sooner found (sooner (sooner (least (broken s (node_of p b))) (least (found_in broken s x b))) (least (found_in broken s a f)))) (sym same)
        ∙ ap (sooner found) (sym (at_branch p b f))

-- ---- lengths

length_is : {xs ys : List TreeNode} → xs ≡ ys → length xs ≡ length ys
length_is e = ap length e

pub below_shorter : (p count : ℕ) (left rest nodes below : List TreeNode) (t : ℕ) → left ≡ Branch p count ∷ rest → below ≡ take count rest
    → length left ≤ length nodes → length nodes ≡ t → length below < t
below_shorter p count left rest nodes below t e h within is =
    let whole : length left ≡ suc (length rest) = length_is e in
    let front : length below ≡ length (take count rest) = length_is h in
    omega (arith, whole, front, length-take count rest)

pub rest_shorter : (p count : ℕ) (left rest nodes after : List TreeNode) → left ≡ Branch p count ∷ rest → after ≡ drop count rest
    → length left ≤ length nodes → length after ≤ length nodes
rest_shorter p count left rest nodes after e h within =
    let whole : length left ≡ suc (length rest) = length_is e in
    let back : length after ≡ length (drop count rest) = length_is h in
    omega (arith, whole, back, length-drop count rest)

pub next_shorter : (left rest nodes : List TreeNode) (node : TreeNode) → left ≡ node ∷ rest → length left ≤ length nodes → length rest ≤ length nodes
next_shorter left rest nodes node e within = let whole : length left ≡ suc (length rest) = length_is e in omega (arith, whole)

pub nothing_more : (found : Option ℕ) → found ≡ sooner found None
nothing_more None = refl
nothing_more (Some x) = refl

-- past what a rule doesn't speak of
module _ (opens : ForestOpens) (joins : ForestsJoin) (one : OneForest) (broken : Source → Node → List ℕ) (r : Reader) (p : Surrounding)
    (none : List (List ℕ)) (nodes : List TreeNode) (found : Option ℕ) where
  abbrev now : At r p none nodes → Forest → Option ℕ
  now = sought broken r p none nodes found

  abbrev whole : At r p none nodes → Forest → Option ℕ
  whole = sought broken r p none nodes None

  pub quiet_past : (k : ℕ) (left : List TreeNode) → AllByRecursion (IsQuiet broken) (take k left) → Steps now whole nodes left
      → ((s : Source) → Bodied s nodes → Bodied s left) → Steps now whole nodes (drop k left) × ((s : Source) → Bodied s nodes → Bodied s (drop k left))
  quiet_past zero left quiet steps bodied = (steps, bodied)
  quiet_past (suc k) [] quiet steps bodied = (steps, bodied)
  quiet_past (suc k) (Leaf token ∷ rest) quiet steps bodied =
      quiet_past k rest quiet.1 (step_past_leaf opens now now whole nodes token (Leaf token ∷ rest) rest (λ i a. refl) refl steps)
      (λ s h. bodied_past_leaf opens joins one s token (Leaf token ∷ rest) rest refl (steps.forest, steps.is) (bodied s h))
  quiet_past (suc k) (Branch q count ∷ rest) quiet steps bodied =
      quiet_past k rest quiet.1
      (step_into_branch opens now now whole nodes joins q count (Branch q count ∷ rest) rest
      (λ i b a e.
      ap (λ o. sooner o (least (found_in broken i.source i.around (joined b a)))) (nothing_more found)
      ∙ into_parts broken i.source i.around joins q b a found None quiet.0.0 (quiet.0.1 i.source (node_of broken i.source i.around q b) refl))
      refl steps)
      (λ s h. bodied_behind opens joins one s q count (Branch q count ∷ rest) rest refl (steps.forest, steps.is) (bodied s h))

  pub quiet_left : (left behind : List TreeNode) → PassesQuiet broken left behind → Steps now whole nodes left
      → ((s : Source) → Bodied s nodes → Bodied s left) → Steps now whole nodes behind × ((s : Source) → Bodied s nodes → Bodied s behind)
  quiet_left left behind passes steps bodied =
      let far = quiet_past passes.many left passes.quiet steps bodied in
      (subst (Steps now whole nodes) (sym passes.left-is) far.0, λ s h. subst (Bodied s) (sym passes.left-is) (far.1 s h))

-- further past it
pub quiet_further : (broken : Source → Node → List ℕ) (nodes left behind : List TreeNode) (n : ℕ) → PassesQuiet broken nodes left
    → AllByRecursion (IsQuiet broken) (take n left) → behind ≡ drop n left → PassesQuiet broken nodes behind
quiet_further broken nodes left behind n passes quiet e = record {
  many = passes.many + n;
  quiet = subst (AllByRecursion (IsQuiet broken)) (sym (take-add passes.many n nodes))
      (all_append (IsQuiet broken) (take passes.many nodes) (take n (drop passes.many nodes)) passes.quiet
      (subst (λ ns. AllByRecursion (IsQuiet broken) (take n ns)) passes.left-is quiet));
  left-is = e ∙ ap (drop n) passes.left-is ∙ drop-drop n passes.many nodes;
}

pub left_shorter : (k : ℕ) (left nodes rest : List TreeNode) → rest ≡ drop k left → length left ≤ length nodes → length rest ≤ length nodes
left_shorter k left nodes rest e within =
    let back : length rest ≡ length (drop k left) = length_is e in
    omega (arith, back, length-drop k left)

-- ---- generic parameters

-- there are fewer than nodes below a branch, which are less than 2^32
pub few_typars : (s : Source) (f : Forest) (count n : ℕ) (rest : List TreeNode) → preorder f ≡ take count rest → count < n → length (typar_names s f) < n
few_typars s f count n rest e few =
    let names : length (typar_names s f) ≡ length (typars f) = length-map (typars f) (λ (g : Forest). name_text s (leaf_at 0 g)) in
    let parts = few_each TYPAR (child (TYPARS_OPT_SOME ∷ []) f) in
    let smaller = child_smaller (TYPARS_OPT_SOME ∷ []) f in
    let whole : length (preorder f) ≡ length (take count rest) = ap length e in
    omega (arith, names, parts, smaller, whole, few, length-take count rest)

-- none where no list of them stands
pub no_typars : (s : Source) (f : Forest) → child (TYPARS_OPT_SOME ∷ []) f ≡ tree.none → typar_names s f ≡ []
no_typars s f e = ap (λ g. map (λ (h : Forest). name_text s (leaf_at 0 h)) (each TYPAR g)) e

pub from_empty : (xs : List TreeNode) (b : Bool) → b ≡ true → b ≡ (length xs == 0) → xs ≡ []
from_empty [] b on is = refl
from_empty (x ∷ xs) b on is = let e = eqb-true (length (x ∷ xs)) 0 (sym is ∙ on) in absurd (omega arith)
