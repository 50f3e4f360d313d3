-- Generic parameters with their attributes (ECMA-335 II.10.1.7).
use Rattle.std.specs.Prelude.{List}
use Rattle.assembly_tree.specs.declared.members.Attribute.{Attribute}
use Rattle.assembly_tree.specs.declared.members.Generic.{Generic}
use Rattle.ilasm_grammar.specs.declared.productions.TheConstants.{TYPAR_BOUNDS}
use Rattle.source_model.specs.Flags.{typar_flags}
use Rattle.source_model.specs.Forest.{Forest, leaf_at, the}
use Rattle.source_model.specs.Nodes.{Around}
use Rattle.source_model.specs.Source.{Source}
use Rattle.source_model.specs.Types.{owners_in}
use Rattle.source_model.specs.Values.{name_text}

-- a generic parameter with these attributes
abbrev pub generic_with : Source → Around → Forest → List Attribute → Generic
generic_with s a f customs = record {
  name = name_text s (leaf_at 0 f);
  flags = typar_flags s f;
  bounds = owners_in s a (the TYPAR_BOUNDS f);
  attributes = customs;
}
