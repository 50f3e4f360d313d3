-- What is known of a source wherever its members are read.
use Rattle.source_flags.specs.InRange.{AllInRange}
use Rattle.source_model.specs.Source.{Source}
use Rattle.source_nodes.specs.Readers.{Reads}
use Rattle.source_nodes.specs.declared.reader.Reader.{Reader}
use Rattle.lower_members.specs.ClassSizes.{AreSizes}
use Rattle.lower_members.specs.LabelledData.{AreData}
use Rattle.lower_members.specs.declared.class_sizes.ClassSizes.{ClassSizes}
use Rattle.lower_members.specs.declared.labelled_data.LabelledData.{LabelledData}

-- its data and the sizes of its classes; its numbers are in their ranges
pub record AreDeclared (r : Reader) (d : LabelledData) (c : ClassSizes) (s : Source) : Type 0 where
  pub reads : Reads r s
  pub labelled : AreData s d
  pub sizes : AreSizes s c
  pub each : AllInRange s s.tree

-- some source is read
abbrev pub ReadsSome : Reader → Type 0
ReadsSome r = (s : Source) × Reads r s
