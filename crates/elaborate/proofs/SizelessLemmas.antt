-- A source in which no class states a size (ECMA-335 II.10.7).
use Rattle.std.proofs.Common.{◌≡◌, ℕ, List, [], ◌∷◌, ◌++◌, Option, None, Some, refl, ap, sym, ◌∙◌, cond}
use Rattle.std.specs.Prelude.{Bool, true, false, ◌==◌, filter, if◌then◌else◌}
use Rattle.std.specs.List.{AllByRecursion, find}
use Rattle.std.proofs.lemmas.Bool.Decides.{Decides-eqb}
use Rattle.type_terms.specs.declared.name.TypeId.{TypeId}
use Rattle.assembly_tree.specs.DataSize.{layout_size}
use Rattle.ilasm_grammar.specs.declared.productions.TheConstants.{CLASS, MEMBER_PACK, MEMBER_SIZE}
use Rattle.source_model.specs.Data.{class_layout, layout, layout_from, lines_of}
use Rattle.source_model.specs.Forest as tree
use Rattle.source_model.specs.Forest.{Forest, Part, is_among, is_any_part, parts}
use Rattle.source_model.specs.Items.{members}
use Rattle.source_model.specs.Names.{class_at, is_path}
use Rattle.source_model.specs.Nodes.{Around, Node, entered, nodes, nodes_in, nodes_of, nothing_around}
use Rattle.source_model.specs.Source.{Source}
use Rattle.source_nodes.specs.Derived.{OfEach}
use Rattle.lower_members.specs.ClassSizes.{size_numbered}
use Rattle.source_flags.specs.Lines.{productions_of}
use Rattle.source_flags.specs.declared.gathering.Kind.TheVariants.{Members}
use Rattle.source_flags.proofs.Gathered.{IsSought, all_append, all_follow, of_parts}
use Rattle.elaborate.proofs.SizeLemmas.{all_chosen}

pub none_of_any : (ps : List Part) → is_any_part ps ≡ false → ps ≡ []
none_of_any [] e = refl
none_of_any (p ∷ ps) e = absurd cc

-- a production that isn't that of a size, nor anything below it
abbrev IsSizeless : ℕ → Forest → Type 0
IsSizeless p f = is_among (MEMBER_SIZE ∷ []) p ≡ false

both_empty : (xs ys : List Part) → xs ++ ys ≡ [] → (xs ≡ []) × (ys ≡ [])
both_empty [] ys e = (refl, e)
both_empty (x ∷ xs) ys e = absurd cc

each_sizeless : (f : Forest) → parts (MEMBER_SIZE ∷ []) f ≡ [] → OfEach IsSizeless f
each_sizeless tree.none e = tt
each_sizeless (tree.leaf k a) e = each_sizeless a e
each_sizeless (tree.branch p b a) e = go (is_among (MEMBER_SIZE ∷ []) p) refl e (each_sizeless b) (each_sizeless a)
  where
    go : (c : Bool) → is_among (MEMBER_SIZE ∷ []) p ≡ c
        → (if c then tree.part p b ∷ [] else parts (MEMBER_SIZE ∷ []) b) ++ parts (MEMBER_SIZE ∷ []) a ≡ []
        → (parts (MEMBER_SIZE ∷ []) b ≡ [] → OfEach IsSizeless b) → (parts (MEMBER_SIZE ∷ []) a ≡ [] → OfEach IsSizeless a)
        → OfEach IsSizeless (tree.branch p b a)
    go true is h below after = absurd cc
    go false is h below after =
        let both = both_empty (parts (MEMBER_SIZE ∷ []) b) (parts (MEMBER_SIZE ∷ []) a) h in
        (is, below both.0, after both.1)

abbrev is_size : Part → Bool
is_size p = p.production == MEMBER_SIZE

no_lines : (ps : List Part) → AllByRecursion (λ (p : Part). is_among (MEMBER_SIZE ∷ []) p.production ≡ false) ps → filter is_size ps ≡ []
no_lines [] h = refl
no_lines (p ∷ ps) h = go (is_size p) refl (no_lines ps h.1)
  where
    other : (c : Bool) → (p.production == MEMBER_SIZE) ≡ c → is_among (MEMBER_SIZE ∷ []) p.production ≡ false → c ≡ false
    other true is apart =
        let same : p.production ≡ MEMBER_SIZE = (Decides-eqb p.production MEMBER_SIZE).0 is in
        sym (ap (is_among (MEMBER_SIZE ∷ [])) same) ∙ apart
    other false is apart = refl

    go : (c : Bool) → (p.production == MEMBER_SIZE) ≡ c → filter is_size ps ≡ [] → cond c (p ∷ filter is_size ps) (filter is_size ps) ≡ []
    go c is more = ap (λ (d : Bool). cond d (p ∷ filter is_size ps) (filter is_size ps)) (other c is h.0) ∙ more

sizeless_layout : (s : Source) (f : Forest) → OfEach IsSizeless f → layout_size (layout s f) ≡ None
sizeless_layout s f h =
    let each =
    all_follow (IsSought IsSizeless (productions_of Members)) (λ (p : Part). is_among (MEMBER_SIZE ∷ []) p.production ≡ false) (members f) (λ p g. g.1)
    (of_parts IsSizeless (productions_of Members) f h) in
    go (lines_of MEMBER_PACK f) (lines_of MEMBER_SIZE f) (no_lines (members f) each)
  where
    go : (packs sizes : List Part) → sizes ≡ [] → layout_size (layout_from s packs sizes) ≡ None
    go [] [] e = refl
    go (p ∷ ps) [] e = refl
    go packs (q ∷ qs) e = absurd cc

sizeless_nodes : (s : Source) (a : Around) (f : Forest) → OfEach IsSizeless f → AllByRecursion (λ (n : Node). OfEach IsSizeless n.below) (nodes_in s a f)
sizeless_nodes s a tree.none h = tt
sizeless_nodes s a (tree.leaf k f) h = sizeless_nodes s a f h
sizeless_nodes s a (tree.branch p b f) h =
    let inner = entered s a p b in
    all_append (λ (n : Node). OfEach IsSizeless n.below) (record { production = p; below = b; around = inner } ∷ nodes_in s inner b) (nodes_in s a f)
    (h.1, sizeless_nodes s inner b h.1) (sizeless_nodes s a f h.2)

none_first : (s : Source) (test : Node → Bool) (ns : List Node) → AllByRecursion (λ (n : Node). OfEach IsSizeless n.below) ns
    → layout_size (class_layout s (find test ns)) ≡ None
none_first s test [] h = refl
none_first s test (n ∷ ns) h = go (test n) (none_first s test ns h.1)
  where
    go : (c : Bool) → layout_size (class_layout s (find test ns)) ≡ None → layout_size (class_layout s (cond c (Some n) (find test ns))) ≡ None
    go true more = sizeless_layout s n.below h.0
    go false more = more

pub no_class_sized : (s : Source) (path : List TypeId) → parts (MEMBER_SIZE ∷ []) s.tree ≡ [] → layout_size (class_layout s (class_at s path)) ≡ None
unfolding nodes
no_class_sized s path e =
    none_first s (λ n. is_path n.around.path path) (nodes_of (CLASS ∷ []) (nodes_in s nothing_around s.tree))
    (all_chosen (λ (n : Node). OfEach IsSizeless n.below) (λ n. is_among (CLASS ∷ []) n.production) (nodes_in s nothing_around s.tree)
    (sizeless_nodes s nothing_around s.tree (each_sizeless s.tree e)))

pub unsized : (number : Option ℕ) → size_numbered [] number ≡ None
unsized None = refl
unsized (Some n) = refl
