-- Suffixes that hold no owner.
use Rattle.std.proofs.Common.{◌≡◌, ℕ, List, [], ◌++◌, length, map, drop, refl, ap, sym, ◌∙◌}
use Rattle.std.specs.Prelude.{Bool, true, false, ◌==◌, ◌||◌, if◌then◌else◌}
use Rattle.std.specs.List.{flat_map}
use Rattle.std.proofs.lemmas.Bool.Decides.{Decides-eqb}
use Rattle.type_terms.specs.declared.term.SigType.{SigType, ByRef, Pointer, Pinned, SzArray, Array}
use Rattle.ilasm_grammar.specs.declared.productions.TheConstants.{SHAPE_CLOSE, TYPE_SUFFIX_BRACKET, TYPE_SUFFIX_AMPERSAND, TYPE_SUFFIX_STAR, TYPE_SUFFIX_PINNED, TYPE_SUFFIX_MODREQ, TYPE_SUFFIX_MODOPT}
use Rattle.ilasm_grammar.specs.declared.tree.TreeNode.{TreeNode}
use Rattle.ilasm_grammar.specs.declared.tree.TreeNode.TheVariants.{Branch, Leaf}
use Rattle.source_model.specs.Forest.{Forest, has}
use Rattle.source_model.specs.Nodes.{Around}
use Rattle.source_model.specs.Shapes.{commas, dimensions, sizes, lower_bounds}
use Rattle.source_model.specs.Source.{Source}
use Rattle.source_model.specs.TypeRules.{bound_out_of_range, comma_past_rank, size_after_gap}
use Rattle.source_model.specs.Types.{array}
use Rattle.source_nodes.specs.Dimensions.{AreInRange, bound_of}
use Rattle.source_syntax.specs.Places.{IsSound}
use Rattle.source_syntax.specs.Suffixes.{is_suffix, suffix_at}
use Rattle.source_nodes.specs.Walk.{is_of}
use Rattle.source_nodes.specs.declared.shapes.Dimension.{Dimension}
use Rattle.source_nodes.proofs.Collecting.{is_branch}
use Rattle.source_nodes.proofs.ShapeLemmas.{mapped_length}
use Rattle.source_nodes.proofs.Empties.{nothing_in}
use Rattle.source_syntax.proofs.SoundLemmas.{array_fits}

module _ (s : Source) (a : Around) where
  pub reference_is : (node : TreeNode) (f : Forest) (of : SigType) → is_of TYPE_SUFFIX_AMPERSAND node ≡ true → ByRef of ≡ suffix_at s a node f of
  reference_is node f of e = let b = is_branch TYPE_SUFFIX_AMPERSAND node e in ap (λ m. suffix_at s a m f of) (sym b.1)

  pub pointer_is : (node : TreeNode) (f : Forest) (of : SigType) → is_of TYPE_SUFFIX_STAR node ≡ true → Pointer of ≡ suffix_at s a node f of
  pointer_is node f of e = let b = is_branch TYPE_SUFFIX_STAR node e in ap (λ m. suffix_at s a m f of) (sym b.1)

  pub pinned_is : (node : TreeNode) (f : Forest) (of : SigType) → is_of TYPE_SUFFIX_PINNED node ≡ true → Pinned of ≡ suffix_at s a node f of
  pinned_is node f of e = let b = is_branch TYPE_SUFFIX_PINNED node e in ap (λ m. suffix_at s a m f of) (sym b.1)

-- the only other one is that of an array
either_end : (x y : Bool) → (x || y) ≡ true → y ≡ false → x ≡ true
either_end true y e apart = refl
either_end false y e apart = absurd cc

pub array_node : (node : TreeNode) → is_suffix node ≡ true → is_of TYPE_SUFFIX_AMPERSAND node ≡ false → is_of TYPE_SUFFIX_STAR node ≡ false
    → is_of TYPE_SUFFIX_PINNED node ≡ false → is_of TYPE_SUFFIX_MODREQ node ≡ false → is_of TYPE_SUFFIX_MODOPT node ≡ false
    → (count : ℕ) × (node ≡ Branch TYPE_SUFFIX_BRACKET count)
array_node (Leaf token) e a b c d m = absurd cc
array_node (Branch p count) e a b c d m =
    let none : ((TYPE_SUFFIX_AMPERSAND == p) || ((TYPE_SUFFIX_STAR == p) || ((TYPE_SUFFIX_PINNED == p) || ((TYPE_SUFFIX_MODREQ == p) || ((TYPE_SUFFIX_MODOPT == p) || false))))) ≡ false =
    ap (λ (x : Bool). x || ((TYPE_SUFFIX_STAR == p) || ((TYPE_SUFFIX_PINNED == p) || ((TYPE_SUFFIX_MODREQ == p) || ((TYPE_SUFFIX_MODOPT == p) || false))))) a
    ∙ ap (λ (x : Bool). x || ((TYPE_SUFFIX_PINNED == p) || ((TYPE_SUFFIX_MODREQ == p) || ((TYPE_SUFFIX_MODOPT == p) || false)))) b
    ∙ ap (λ (x : Bool). x || ((TYPE_SUFFIX_MODREQ == p) || ((TYPE_SUFFIX_MODOPT == p) || false))) c
    ∙ ap (λ (x : Bool). x || ((TYPE_SUFFIX_MODOPT == p) || false)) d
    ∙ ap (λ (x : Bool). x || false) m in
    let same : TYPE_SUFFIX_BRACKET ≡ p = (Decides-eqb TYPE_SUFFIX_BRACKET p).0 (either_end (TYPE_SUFFIX_BRACKET == p) _ e none) in
    (count, ap (λ q. Branch q count) (sym same))

-- ---- arrays

pub vector_is : (s : Source) (f : Forest) (of : SigType) → has SHAPE_CLOSE f ≡ true → SzArray of ≡ array s f of
vector_is s f of e = sym (ap (λ (b : Bool). if b then SzArray of else Array of (length (dimensions f)) (sizes s (dimensions f)) (lower_bounds s (dimensions f))) e)

-- the dimensions of an array with a shape are in their ranges
pub bounds_in_range : (s : Source) (f : Forest) → IsSound s TYPE_SUFFIX_BRACKET f → has SHAPE_CLOSE f ≡ false → AreInRange s (dimensions f)
bounds_in_range s f sound e =
    let shape = array_fits s TYPE_SUFFIX_BRACKET f sound.1 in
    (nothing_in (flat_map (bound_out_of_range s) (dimensions f)) (size_after_gap (dimensions f))
    (nothing_in (flat_map (bound_out_of_range s) (dimensions f) ++ size_after_gap (dimensions f)) (comma_past_rank (drop 31 (commas s f)))
    (sym (ap (λ (b : Bool). if b then [] else flat_map (bound_out_of_range s) (dimensions f) ++ size_after_gap (dimensions f) ++ comma_past_rank (drop 31 (commas s f))) e) ∙ shape)).0).0

pub shape_is : (s : Source) (f : Forest) (of : SigType) (found : List Dimension) → has SHAPE_CLOSE f ≡ false → map bound_of found ≡ dimensions f
    → Array of (length found) (sizes s (map bound_of found)) (lower_bounds s (map bound_of found)) ≡ array s f of
shape_is s f of found e same =
    ap (λ n. Array of n (sizes s (map bound_of found)) (lower_bounds s (map bound_of found))) (sym (mapped_length bound_of found))
    ∙ ap (λ ds. Array of (length ds) (sizes s ds) (lower_bounds s ds)) same
    ∙ sym (ap (λ (b : Bool). if b then SzArray of else Array of (length (dimensions f)) (sizes s (dimensions f)) (lower_bounds s (dimensions f))) e)
