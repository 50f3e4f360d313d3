use Rattle.std.proofs.Common.{sym, subst, ◌∙◌}
use Rattle.std.specs.Prelude.{IsUtf8}
use Rattle.source_nodes.proofs.Utf8Lemmas.{named_id}
use Rattle.source_nodes.proofs.values.type_names.quoted_id.Goals as goal

pub returns : goal.returns
returns c =
    named_id c.args.spelling.now c.in_ok-full.full.text c.in_ok-full.full.last c.in_ok-full.ensures c.in_ok-space.space c.in_ok-name.name
    (λ u. c.in_ok-space.ensures (subst IsUtf8 (sym c.space.ensures) u) ∙ c.space.ensures)
    (λ u. c.in_ok-name.ensures (subst IsUtf8 (sym c.name.ensures) u) ∙ c.name.ensures)
