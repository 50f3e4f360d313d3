use Rattle.std.proofs.Common.{◌++◌, ap, ◌∙◌, refl}
use Rattle.source_model.specs.Clauses.{clauses}
use Rattle.source_model.specs.Forest.{none}
use Rattle.lower_bodies.proofs.clauses.clauses.Goals as goal

pub returns : goal.returns
returns c s a f x e h = c.in_ok-push_clauses.ensures s a f none f x refl tt e h ∙ ap (λ cs. cs ++ clauses s a f) c.new-found.ensures
