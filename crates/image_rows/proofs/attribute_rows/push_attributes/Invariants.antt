use Rattle.std.proofs.Common.{drop}
use Rattle.assembly_tree.specs.declared.members.Attribute.{Attribute}
use Rattle.image_rows.specs.AttributeRows.{attributes_with}
use Rattle.image_members.proofs.KindLemmas.{Pushing}
use Rattle.image_rows.proofs.AttributeLemmas.{attribute_kind}
use Rattle.image_rows.proofs.attribute_rows.push_attributes.Given as goal

abbrev pub invariant-loop-attribute : goal.invariant-loop-attribute
invariant-loop-attribute l = Pushing attribute_kind l.initial.refs l.refs l.initial.rows l.rows (attributes_with l.parent l.attributes) (attributes_with l.parent (drop l.attribute-index l.attributes))
