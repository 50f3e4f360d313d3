use Rattle.std.proofs.Common.{sym, ◌∙◌}
use Rattle.std.proofs.lemmas.Bool.{false≢true}
use Rattle.attribute_demands.proofs.Attributed.{both_parts, no_parent}
use Rattle.attribute_demands.proofs.attributes.is_attribute.Goals as goal

pub returns-then-not-has_attributed_parent : goal.returns-then-not-has_attributed_parent
returns-then-not-has_attributed_parent g c =
    no_parent c.args.image.now c.args.row c.requires.there c.requires.can.named (λ p. false≢true (sym c.if-not-has_attributed_parent.true ∙ c.has_attributed_parent.ensures.1 p))

pub returns : goal.returns
returns g c =
    both_parts c.args.image.now c.args.row c.has_constructor.result c.requires.there (c.has_attributed_parent.ensures.0 c.if-not-has_attributed_parent.false) c.has_constructor.ensures
