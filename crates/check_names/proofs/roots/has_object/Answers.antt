use Rattle.std.proofs.Common.{◌∙◌, ap, sym}
use Rattle.std.specs.Prelude.{is_some}
use Rattle.check_names.proofs.RootLemmas.{in_core, in_source}
use Rattle.check_names.proofs.roots.has_object.Goals as goal

pub returns-then-branch : goal.returns-then-branch
returns-then-branch c s r k = in_core s (sym (c.in_ok-has_core.ensures s r) ∙ c.if-branch.true)

pub returns : goal.returns
returns c s r k =
    c.is_some.ensures ∙ ap is_some c.child.ensures.found
    ∙ in_source s c.args.classes.now.paths c.in_ok-object.object k.knows (sym (c.in_ok-has_core.ensures s r) ∙ c.if-branch.false) c.in_ok-object.ensures
