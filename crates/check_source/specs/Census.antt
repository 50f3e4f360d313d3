-- How many nodes have each production that is asked for, and which nodes are types that may be deep.
use Rattle.std.specs.Prelude.{◌≡◌, ℕ, ◌==◌, ◌&&◌, Bool, true, false, List, [], ◌∷◌, cond, count_by, nat_lt, slice_index_or}
use Rattle.std.specs.List.{list_any}
use Rattle.ilasm_grammar.specs.declared.productions.TheConstants.{ASSEMBLY_ASSEMBLY_ATTR_STAR, ASSEMBLY_EXTERN, AT_NAME, DATA, DECL_FIELD, DECL_METHOD, DECL_MODULE, EVENT, ITEM_ENTRYPOINT, MEMBER_SIZE, PROPERTY, TYPE}
use Rattle.ilasm_grammar.specs.declared.tree.TreeNode.{TreeNode}
use Rattle.ilasm_grammar.specs.declared.tree.TreeNode.TheVariants.{Branch, Leaf}
use Rattle.source_model.specs.Forest.{is_among}
use Rattle.source_nodes.specs.Walk.{is_of}
use Rattle.check_source.specs.declared.census.Census.{Census}

-- the productions that are asked for: what names an assembly or this module, data and what stands at it, an entry, what has
-- accessors, the size of a class, and fields and methods outside of any class
abbrev pub asked : List ℕ
asked =
    DECL_MODULE ∷ ASSEMBLY_EXTERN ∷ ASSEMBLY_ASSEMBLY_ATTR_STAR ∷ AT_NAME ∷ ITEM_ENTRYPOINT ∷ PROPERTY ∷ EVENT ∷ DATA ∷ MEMBER_SIZE
    ∷ DECL_FIELD ∷ DECL_METHOD ∷ []

abbrev pub is_asked : ℕ → Bool
is_asked p = is_among asked p

-- 1 for a node with this production
abbrev pub one_of : ℕ → TreeNode → ℕ
one_of p node = cond (is_of p node) 1 0

abbrev pub IsCensus : List TreeNode → Census → Type 0
IsCensus nodes c = (p : ℕ) → is_asked p ≡ true → slice_index_or c.counts p 0 ≡ count_by (is_of p) nodes

-- a type below which more than 98 nodes stand; another is at most 99 deep
abbrev pub is_long : TreeNode → Bool
is_long (Branch p count) = p == TYPE && nat_lt 98 count
is_long (Leaf token) = false

-- both of all of some nodes
pub record IsCensusOf (nodes : List TreeNode) (c : Census) : Type 0 where
  pub counts : IsCensus nodes c
  pub long-types : c.long_types ≡ list_any is_long nodes
