-- What follows for the data of fields in a source that breaks no rule (ECMA-335 II.16.3, II.22.18).
use Rattle.std.specs.Prelude.{◌≡◌, [], ◌∷◌, IsTrue}
use Rattle.assembly_tree.specs.DataSize.{size_in_data}
use Rattle.assembly_tree.specs.WellFormedMembers.{is_content}
use Rattle.ilasm_grammar.specs.declared.productions.TheConstants.{FIELD, TYPE}
use Rattle.source_model.specs.Classes.{assembly}
use Rattle.source_model.specs.Data.{content}
use Rattle.source_model.specs.Forest.{child}
use Rattle.source_model.specs.Nodes.{Node, nodes}
use Rattle.source_model.specs.Source.{Source}
use Rattle.source_model.specs.Types.{type_of}
use Rattle.laws_formed_sources.specs.sources.Laws.{IsRight}
use Rattle.laws_formed_sources.specs.sources.Remaining.{Among}

-- each field has no data, or as many bytes as a value of its type has in the assembly
abbrev pub FieldsHaveContents : Type 0
FieldsHaveContents =
    (s : Source) → IsRight s → (n : Node) → Among n (nodes s) → n.production ≡ FIELD
    → IsTrue (is_content (size_in_data (assembly s) (type_of s n.around (child (TYPE ∷ []) n.below))) (content s (type_of s n.around (child (TYPE ∷ []) n.below)) n.below))
