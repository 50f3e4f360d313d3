use Rattle.std.proofs.Common.{ap, ◌∙◌}
use Rattle.std.specs.List.{position}
use Rattle.print_leaves.specs.Page.{wants_escape}
use Rattle.print_leaves.proofs.Escapes.{first_at}
use Rattle.print_leaves.proofs.quotes.first_escape.Goals as goal

pub returns : goal.returns
returns c =
    first_at c.args.quote c.args.text.now _ (c.place_of_escape-place.ensures ∙ ap (position (wants_escape c.args.quote)) c.as_bytes.ensures.value)
