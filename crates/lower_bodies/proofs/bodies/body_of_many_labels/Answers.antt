use Rattle.std.proofs.Common.{sym, subst}
use Rattle.source_syntax.specs.Methods.{AreNames}
use Rattle.source_syntax.proofs.LabelTokens.{labels_are_names}
use Rattle.lower_bodies.proofs.bodies.body_of_many_labels.Goals as goal

pub returns : goal.returns
returns c s a f x e h are names held =
    let labelled = subst (AreNames s) (sym names) (labels_are_names s f h.derived.bodies) in
    c.body_named.ensures s a f x e h are names (c.in_ok-names.ensures s x.reads labelled) held
