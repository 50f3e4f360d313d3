-- Where no names stand for labels but those behind branches and `switch`, they are the targets of the instructions.
use Rattle.std.proofs.Common.{◌≡◌, ℕ, ◌+◌, ◌≤◌, List, [], ◌∷◌, ◌++◌, length, map, cond, count_by, ap, sym, ◌∙◌, refl, arith}
use Rattle.std.proofs.lemmas.Bool.Decides.{Decides-eqb}
use Rattle.std.proofs.lemmas.Grind.{flat_map-append}
use Rattle.std.proofs.lemmas.List.Sums.{sum_by-append, sum_by-cons}
use Rattle.std.specs.Prelude.{Bool, true, false, ◌==◌, if◌then◌else◌}
use Rattle.std.specs.List.{flat_map}
use Rattle.ilasm_grammar.specs.declared.tree.TreeNode.{TreeNode}
use Rattle.ilasm_grammar.specs.declared.tree.TreeNode.TheVariants.{Branch, Leaf}
use Rattle.ilasm_grammar.specs.declared.productions.TheConstants.{INSTRUCTION_OP_BRANCH, INSTRUCTION_SWITCH, TRY_RANGE_NAME, HANDLER_HANDLER, FILTER_START_NAME, NAMES}
use Rattle.source_model.specs.BodyFaults.{label_names, label_names_in}
use Rattle.source_model.specs.Forest as tree
use Rattle.source_model.specs.Forest.{Forest, Part, part, each, is_among, leaf_at, parts, preorder}
use Rattle.source_model.specs.Instructions.{instruction_forms, instructions_of, names_in, targets}
use Rattle.source_nodes.specs.Pieces.{ArePieces, piece_of, productions_of, written}
use Rattle.source_nodes.specs.declared.pieces.Piece.{Piece}
use Rattle.source_nodes.specs.declared.pieces.Sought.TheVariants.{LabelNames}
use Rattle.check_bodies.specs.NamingNodes.{is_naming}

abbrev pub naming : List ℕ
naming = productions_of LabelNames

abbrev names : Part → Bool
names p = is_among naming p.production

-- nodes and parts that name labels
abbrev nodes_of : Forest → ℕ
nodes_of f = count_by is_naming (preorder f)

abbrev parts_of : Forest → ℕ
parts_of f = count_by names (parts instruction_forms f)

abbrev one_if : Bool → ℕ
one_if b = cond b 1 0

nodes_at : (q : ℕ) (b a : Forest) → nodes_of (tree.branch q b a) ≡ one_if (is_among naming q) + (nodes_of b + nodes_of a)
nodes_at q b a =
    sum_by-cons (λ (x : TreeNode). one_if (is_naming x)) (Branch q (length (preorder b))) (preorder b ++ preorder a)
    ∙ ap (λ n. one_if (is_among naming q) + n) (sum_by-append (λ (x : TreeNode). one_if (is_naming x)) (preorder b) (preorder a))

nodes_behind : (k : ℕ) (a : Forest) → nodes_of (tree.leaf k a) ≡ nodes_of a
nodes_behind k a = let e = sum_by-cons (λ (x : TreeNode). one_if (is_naming x)) (Leaf k) (preorder a) in omega (arith, e)

parts_own : (q : ℕ) (b a : Forest) → is_among instruction_forms q ≡ true → parts_of (tree.branch q b a) ≡ one_if (is_among naming q) + parts_of a
parts_own q b a own =
    ap (λ (c : Bool). count_by names ((if c then part q b ∷ [] else parts instruction_forms b) ++ parts instruction_forms a)) own
    ∙ sum_by-cons (λ (p : Part). one_if (names p)) (part q b) (parts instruction_forms a)

parts_in : (q : ℕ) (b a : Forest) → is_among instruction_forms q ≡ false → parts_of (tree.branch q b a) ≡ parts_of b + parts_of a
parts_in q b a other =
    ap (λ (c : Bool). count_by names ((if c then part q b ∷ [] else parts instruction_forms b) ++ parts instruction_forms a)) other
    ∙ sum_by-append (λ (p : Part). one_if (names p)) (parts instruction_forms b) (parts instruction_forms a)

fewer_parts : (f : Forest) → parts_of f ≤ nodes_of f
fewer_parts tree.none = omega arith
fewer_parts (tree.leaf k a) = let rest = fewer_parts a in let same = nodes_behind k a in omega (arith, rest, same)
fewer_parts (tree.branch q b a) = go (is_among instruction_forms q) refl (fewer_parts b) (fewer_parts a)
  where
    go : (c : Bool) → is_among instruction_forms q ≡ c → parts_of b ≤ nodes_of b → parts_of a ≤ nodes_of a
        → parts_of (tree.branch q b a) ≤ nodes_of (tree.branch q b a)
    go true own inner rest = omega (arith, rest, parts_own q b a own, nodes_at q b a)
    go false other inner rest = omega (arith, inner, rest, parts_in q b a other, nodes_at q b a)

-- where no node names labels, no part does
no_names : (f : Forest) → nodes_of f ≡ 0 → parts naming f ≡ []
no_names tree.none e = refl
no_names (tree.leaf k a) e = no_names a (sym (nodes_behind k a) ∙ e)
no_names (tree.branch q b a) e = go (is_among naming q) refl (no_names b) (no_names a)
  where
    go : (c : Bool) → is_among naming q ≡ c → (nodes_of b ≡ 0 → parts naming b ≡ []) → (nodes_of a ≡ 0 → parts naming a ≡ [])
        → parts naming (tree.branch q b a) ≡ []
    go true own below after =
        let one : one_if (is_among naming q) ≡ 1 = ap one_if own in
        absurd (omega (arith, one, e, nodes_at q b a))
    go false other below after =
        let inner : nodes_of b ≡ 0 = omega (arith, e, nodes_at q b a) in
        let rest : nodes_of a ≡ 0 = omega (arith, e, nodes_at q b a) in
        ap (λ (c : Bool). (if c then part q b ∷ [] else parts naming b) ++ parts naming a) other
        ∙ ap (λ ps. ps ++ parts naming a) (below inner) ∙ after rest

-- ---- one instruction

is_not : (q p : ℕ) → is_among instruction_forms q ≡ true → is_among instruction_forms p ≡ false → (q == p) ≡ false
is_not q p own other = go (q == p) refl
  where
    go : (c : Bool) → (q == p) ≡ c → c ≡ false
    go false e = refl
    go true e =
        let same : q ≡ p = (Decides-eqb q p).0 e in
        let bad : true ≡ false = sym own ∙ ap (is_among instruction_forms) same ∙ other in absurd cc

pub names_are : (q : ℕ) (b : Forest) → is_among instruction_forms q ≡ true → label_names_in (part q b) ≡ targets (part q b)
names_are q b own =
    let first = is_not q TRY_RANGE_NAME own refl in
    let second = is_not q HANDLER_HANDLER own refl in
    let third = is_not q FILTER_START_NAME own refl in
    ap (λ (c : Bool). if c then leaf_at 0 b ∷ leaf_at 2 b ∷ [] else if q == HANDLER_HANDLER then leaf_at 1 b ∷ leaf_at 3 b ∷ [] else if q == FILTER_START_NAME then leaf_at 0 b ∷ [] else targets (part q b)) first
    ∙ ap (λ (c : Bool). if c then leaf_at 1 b ∷ leaf_at 3 b ∷ [] else if q == FILTER_START_NAME then leaf_at 0 b ∷ [] else targets (part q b)) second
    ∙ ap (λ (c : Bool). if c then leaf_at 0 b ∷ [] else targets (part q b)) third

is_other : (q p : ℕ) → is_among naming q ≡ false → is_among naming p ≡ true → (q == p) ≡ false
is_other q p other own = go (q == p) refl
  where
    go : (c : Bool) → (q == p) ≡ c → c ≡ false
    go false e = refl
    go true e =
        let same : q ≡ p = (Decides-eqb q p).0 e in
        let bad : true ≡ false = sym own ∙ sym (ap (is_among naming) same) ∙ other in absurd cc

pub no_targets : (q : ℕ) (b : Forest) → is_among naming q ≡ false → targets (part q b) ≡ []
no_targets q b other =
    let first = is_other q INSTRUCTION_OP_BRANCH other refl in
    let second = is_other q INSTRUCTION_SWITCH other refl in
    ap (λ (c : Bool). if c then leaf_at 0 b ∷ [] else if q == INSTRUCTION_SWITCH then flat_map names_in (each NAMES b) else []) first
    ∙ ap (λ (c : Bool). if c then flat_map names_in (each NAMES b) else []) second

-- ---- all of them

in_code : (f : Forest) → nodes_of f ≡ parts_of f → flat_map label_names_in (parts naming f) ≡ flat_map targets (parts instruction_forms f)
in_code tree.none e = refl
in_code (tree.leaf k a) e = in_code a (sym (nodes_behind k a) ∙ e)
in_code (tree.branch q b a) e = go (is_among instruction_forms q) refl (is_among naming q) refl (in_code b) (in_code a)
  where
    go : (i : Bool) → is_among instruction_forms q ≡ i → (l : Bool) → is_among naming q ≡ l
        → (nodes_of b ≡ parts_of b → flat_map label_names_in (parts naming b) ≡ flat_map targets (parts instruction_forms b))
        → (nodes_of a ≡ parts_of a → flat_map label_names_in (parts naming a) ≡ flat_map targets (parts instruction_forms a))
        → flat_map label_names_in (parts naming (tree.branch q b a)) ≡ flat_map targets (parts instruction_forms (tree.branch q b a))
    go true own true named below after =
        let less = fewer_parts a in
        let one : one_if (is_among naming q) ≡ 1 = ap one_if named in
        let rest : nodes_of a ≡ parts_of a = omega (arith, e, less, one, nodes_at q b a, parts_own q b a own) in
        ap (λ (c : Bool). flat_map label_names_in ((if c then part q b ∷ [] else parts naming b) ++ parts naming a)) named
        ∙ ap (λ ks. ks ++ flat_map label_names_in (parts naming a)) (names_are q b own)
        ∙ ap (λ ks. targets (part q b) ++ ks) (after rest)
        ∙ sym (ap (λ (c : Bool). flat_map targets ((if c then part q b ∷ [] else parts instruction_forms b) ++ parts instruction_forms a)) own)
    go true own false unnamed below after =
        let less = fewer_parts a in
        let inner : nodes_of b ≡ 0 = omega (arith, e, less, nodes_at q b a, parts_own q b a own) in
        let rest : nodes_of a ≡ parts_of a = omega (arith, e, less, nodes_at q b a, parts_own q b a own) in
        ap (λ (c : Bool). flat_map label_names_in ((if c then part q b ∷ [] else parts naming b) ++ parts naming a)) unnamed
        ∙ ap (λ ps. flat_map label_names_in (ps ++ parts naming a)) (no_names b inner)
        ∙ after rest
        ∙ sym (ap (λ (c : Bool). flat_map targets ((if c then part q b ∷ [] else parts instruction_forms b) ++ parts instruction_forms a)) own
        ∙ ap (λ ks. ks ++ flat_map targets (parts instruction_forms a)) (no_targets q b unnamed))
    go false other true named below after =
        let less = fewer_parts a in
        let fewer = fewer_parts b in
        let one : one_if (is_among naming q) ≡ 1 = ap one_if named in
        absurd (omega (arith, e, less, fewer, one, nodes_at q b a, parts_in q b a other))
    go false other false unnamed below after =
        let less = fewer_parts a in
        let fewer = fewer_parts b in
        let none : one_if (is_among naming q) ≡ 0 = ap one_if unnamed in
        let inner : nodes_of b ≡ parts_of b = omega (arith, e, less, fewer, none, nodes_at q b a, parts_in q b a other) in
        let rest : nodes_of a ≡ parts_of a = omega (arith, e, less, fewer, none, nodes_at q b a, parts_in q b a other) in
        ap (λ (c : Bool). flat_map label_names_in ((if c then part q b ∷ [] else parts naming b) ++ parts naming a)) unnamed
        ∙ flat_map-append label_names_in (parts naming b) (parts naming a)
        ∙ ap (λ ks. ks ++ flat_map label_names_in (parts naming a)) (below inner)
        ∙ ap (λ ks. flat_map targets (parts instruction_forms b) ++ ks) (after rest)
        ∙ sym (flat_map-append targets (parts instruction_forms b) (parts instruction_forms a))
        ∙ sym (ap (λ (c : Bool). flat_map targets ((if c then part q b ∷ [] else parts instruction_forms b) ++ parts instruction_forms a)) other)

count_mapped : {X Y : Type 0} (t : Y → Bool) (g : X → Y) (xs : List X) → count_by t (map g xs) ≡ count_by (λ x. t (g x)) xs
count_mapped t g [] = refl
count_mapped {X = X} t g (x ∷ xs) =
    sum_by-cons (λ y. one_if (t y)) (g x) (map g xs) ∙ ap (λ n. one_if (t (g x)) + n) (count_mapped t g xs)
    ∙ sym (sum_by-cons {X = X} (λ y. one_if (t (g y))) x xs)

pub names_in_code : (nodes : List TreeNode) (found : List Piece) (f : Forest) → preorder f ≡ nodes → ArePieces nodes found (instructions_of f)
    → count_by is_naming nodes ≡ count_by (λ (x : Piece). is_among (productions_of LabelNames) x.production) found
    → label_names f ≡ flat_map targets (instructions_of f)
names_in_code nodes found f e are same =
    let t : ℕ × List TreeNode → Bool = λ w. is_among naming w.0 in
    let pieces : count_by (λ (x : Piece). is_among naming x.production) found ≡ parts_of f =
    sym (count_mapped t (piece_of nodes) found) ∙ ap (count_by t) are ∙ count_mapped t written (instructions_of f) in
    in_code f (ap (count_by is_naming) e ∙ same ∙ pieces)
