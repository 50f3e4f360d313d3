use Rattle.std.proofs.Common.{◌∙◌, ap}
use Rattle.std.specs.Prelude.{is_some}
use Rattle.elaborate.proofs.CoreLemmas.{object_declared}
use Rattle.elaborate.proofs.cores.declares_object.Goals as goal

pub returns : goal.returns
returns c s r =
    let k = c.in_ok-classes.ensures s r in
    c.is_some.ensures ∙ ap is_some c.child.ensures.found
    ∙ object_declared s c.in_ok-classes.classes.paths c.in_ok-object.object k.knows c.in_ok-object.ensures
