use Rattle.image_assemblies.proofs.Outcome.{never_neither}
use Rattle.image_assemblies.proofs.laws.an_image_has_one_outcome.Goals as goal

pub returns : goal.returns
returns c image short = record {
  one_assembly = c.an_image_reads_as_one_assembly.ensures.one image;
  one_fault = c.an_image_has_one_fault.ensures image;
  not_both = c.an_image_reads_as_one_assembly.ensures.faultless image;
  not_neither = never_neither c.a_naming_exists.ensures c.an_assembly_exists.ensures image short;
}
