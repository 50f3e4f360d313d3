-- The data of a source by its labels (ECMA-335 II.16.3).
use Rattle.std.specs.Prelude.{◌≡◌, map}
use Rattle.source_model.specs.Data.{data_bytes, labelled}
use Rattle.source_model.specs.Source.{Source}
use Rattle.source_syntax.specs.Namings.{AreNames}
use Rattle.source_syntax.specs.declared.name_lists.Naming.TheVariants.{Label}
use Rattle.lower_members.specs.Runs.{bytes_of_each}
use Rattle.lower_members.specs.declared.labelled_data.LabelledData.{LabelledData}

-- the labels of the data of a source, and its bytes, in order
pub record AreData (s : Source) (d : LabelledData) : Type 0 where
  pub labels-are : AreNames s Label d.labels
  pub contents-are : bytes_of_each d.contents ≡ map (data_bytes s) (labelled s)
