use Rattle.std.proofs.Common.{sym, ◌∙◌}
use Rattle.check_names.proofs.ClassSizes.{no_size_there, none_asked, some_size}
use Rattle.check_names.proofs.class_sizes.class_size.Goals as goal

pub returns-in-None : goal.returns-in-None
returns-in-None c s f r e = none_asked s f (sym c.in-None.is ∙ c.last_size.ensures s f r e)

pub returns-in-Some-eq0 : goal.returns-in-Some-eq0
returns-in-Some-eq0 c s f r e = no_size_there s f c.in-Some-eq0.field-0 c.in-Some-eq0.field-0-test (sym c.in-Some-eq0.is ∙ c.last_size.ensures s f r e)

pub returns-in-Some : goal.returns-in-Some
returns-in-Some c s f r e = some_size s f c.in-Some.size c.in-Some.size-test.1 (sym c.in-Some.is ∙ c.last_size.ensures s f r e)
