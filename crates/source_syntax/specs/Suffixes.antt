-- The suffixes of types, by their nodes (ECMA-335 II.7.1).
use Rattle.std.specs.Prelude.{Bool, false, ⊤}
use Rattle.type_terms.specs.declared.term.SigType.{SigType}
use Rattle.ilasm_grammar.specs.declared.tree.TreeNode.{TreeNode}
use Rattle.ilasm_grammar.specs.declared.tree.TreeNode.TheVariants.{Branch, Leaf}
use Rattle.source_model.specs.Forest.{Forest, is_among}
use Rattle.source_model.specs.Nodes.{Around}
use Rattle.source_model.specs.Source.{Source}
use Rattle.source_model.specs.Types.{suffix, suffixes, owners_in}
use Rattle.source_syntax.specs.Places.{IsSound}

-- a node is one of the suffixes
abbrev pub is_suffix : TreeNode → Bool
is_suffix (Branch p count) = is_among suffixes p
is_suffix (Leaf token) = false

-- the type with this suffix around it, of which this stands below its node
abbrev pub suffix_at : Source → Around → TreeNode → Forest → SigType → SigType
suffix_at s a (Branch p count) f of = suffix s p f (owners_in s a f) of
suffix_at s a (Leaf token) f of = of

-- what stands below a node is sound
abbrev pub IsSoundAt : Source → TreeNode → Forest → Type 0
IsSoundAt s (Branch p count) f = IsSound s p f
IsSoundAt s (Leaf token) f = ⊤
