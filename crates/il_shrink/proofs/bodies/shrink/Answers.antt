use Rattle.std.proofs.Common.{◌∙◌, ap}
use Rattle.assembly_tree.specs.Weight.{body_weight}
use Rattle.assembly_tree.specs.WellFormedBodies.{has_body_form}
use Rattle.il_shrink.proofs.Kept.{form_kept, weight_kept}
use Rattle.il_shrink.proofs.bodies.shrink.Goals as goal

pub returns-clause-form : goal.returns-clause-form
returns-clause-form c = form_kept c.in_ok-shrunk.shrunk c.shrink_body.new.b c.in_ok-shrink_body.ensures ∙ ap has_body_form c.in_ok-shrunk.ensures

pub returns-clause-weight : goal.returns-clause-weight
returns-clause-weight c = weight_kept c.in_ok-shrunk.shrunk c.shrink_body.new.b c.in_ok-shrink_body.ensures ∙ ap body_weight c.in_ok-shrunk.ensures
