use Rattle.std.proofs.Common.{ap, ◌∙◌}
use Rattle.source_model.specs.Names.{scope_named, or_scope}
use Rattle.source_syntax.proofs.place.Place.scope_at.Goals as goal

pub returns : goal.returns
returns c s a x is =
    c.scope_named.ensures s a x ∙ ap (λ key. or_scope (scope_named s key)) (c.as_bytes.ensures ∙ c.in_ok-key.ensures s x.reads is)
