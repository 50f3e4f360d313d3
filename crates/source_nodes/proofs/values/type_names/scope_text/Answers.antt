use Rattle.std.proofs.Common.{sym, subst, ◌∙◌}
use Rattle.std.specs.Prelude.{IsUtf8}
use Rattle.source_nodes.proofs.Utf8Lemmas.{bracketed_whole}
use Rattle.source_nodes.proofs.values.type_names.scope_text.Goals as goal

pub returns : goal.returns
returns c =
    bracketed_whole c.args.spelling.now c.in_ok-name.name.text c.in_ok-name.name.last c.in_ok-name.ensures c.in_ok-text.text
    (λ u. c.in_ok-text.ensures (subst IsUtf8 (sym c.as_slice.ensures) u) ∙ c.as_slice.ensures)
