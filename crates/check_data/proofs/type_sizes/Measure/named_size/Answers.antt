use Rattle.std.proofs.Common.{◌∙◌, ap, sym}
use Rattle.source_syntax.specs.ClassNumbers.{class_numbered}
use Rattle.check_data.specs.DeclaredSizes.{size_numbered}
use Rattle.check_data.proofs.TypeSizeLemmas.{value_elsewhere, value_here}
use Rattle.check_data.proofs.type_sizes.Measure.named_size.Goals as goal

pub returns-in-Here : goal.returns-in-Here
returns-in-Here c s m =
    c.size_at.ensures ∙ ap (λ path. size_numbered c.args.self.now.sizes.now (class_numbered c.args.self.now.classes.now path)) c.as_slice.ensures.ids
    ∙ m.sizes c.args.name.now.path ∙ sym (value_here s c.args.name.now c.in-Here.is)

pub returns-in-Extern : goal.returns-in-Extern
returns-in-Extern c s m = value_elsewhere s c.args.name.now c.in-Extern.field-0 c.in-Extern.is
