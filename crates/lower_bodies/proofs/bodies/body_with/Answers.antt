use Rattle.std.proofs.Common.{sym, subst}
use Rattle.source_syntax.specs.Methods.{AreNames}
use Rattle.source_syntax.proofs.LabelTokens.{labels_are_names}
use Rattle.lower_bodies.proofs.bodies.body_with.Goals as goal

pub returns-then-are_compared : goal.returns-then-are_compared
returns-then-are_compared c s a f x e h are names held = c.body_named.ensures s a f x e h are names tt held

pub returns-then-give_slots : goal.returns-then-give_slots
returns-then-give_slots c s a f x e h are names held =
    let labelled = subst (AreNames s) (sym names) (labels_are_names s f h.derived.bodies) in
    c.body_named-then-give_slots.ensures s a f x e h are names (c.give_slots.ensures s x.reads labelled c.if-give_slots.true) held
