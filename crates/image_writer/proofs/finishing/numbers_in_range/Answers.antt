use Rattle.std.proofs.Common.{◌≡◌, ap, ◌∙◌, subst, List}
use Rattle.std.specs.List.{AllByRecursion}
use Rattle.assembly_tree.specs.declared.members.Field.{Field}
use Rattle.assembly_tree.specs.declared.members.Param.{Param}
use Rattle.assembly_tree.specs.declared.members.Property.{Property}
use Rattle.laws_image_reading.specs.parts.Ranges.{IsFieldInRange, IsParamInRange, IsPropertyInRange}
use Rattle.image_members.specs.Places.{lent}
use Rattle.image_writer.proofs.finishing.numbers_in_range.Goals as goal

pub returns : goal.returns
returns c = record {
  version = c.versions_in_range.ensures.manifest;
  externs = c.versions_in_range.ensures.externs;
  fields = subst (λ (fs : List Field). AllByRecursion IsFieldInRange fs) (ap lent c.as_slice.ensures ∙ c.requires.ordered.fields) c.fields_in_range.ensures;
  params = subst (λ (ps : List Param). AllByRecursion IsParamInRange ps) (ap lent c.as_slice-2.ensures ∙ c.requires.ordered.params) c.params_in_range.ensures;
  properties = subst (λ (ps : List Property). AllByRecursion IsPropertyInRange ps) (ap lent c.as_slice-3.ensures ∙ c.requires.ordered.properties) c.properties_in_range.ensures;
}
