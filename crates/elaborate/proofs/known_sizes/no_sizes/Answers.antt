use Rattle.std.proofs.Common.{ap, sym, ◌∙◌}
use Rattle.lower_members.specs.ClassSizes.{size_numbered}
use Rattle.source_syntax.specs.ClassNumbers.{class_numbered}
use Rattle.elaborate.proofs.SizelessLemmas.{no_class_sized, unsized}
use Rattle.elaborate.proofs.known_sizes.no_sizes.Goals as goal

pub returns : goal.returns
returns c s none = record {
  are = λ path. ap (λ sizes. size_numbered sizes (class_numbered c.new.result path)) c.new-sizes.ensures
      ∙ unsized (class_numbered c.new.result path) ∙ sym (no_class_sized s path none);
}
