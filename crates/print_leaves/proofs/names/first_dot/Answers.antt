use Rattle.std.proofs.Common.{nat_eq, ap, ◌∙◌}
use Rattle.std.specs.List.{position}
use Rattle.print_leaves.proofs.Parts.{first_dot_at}
use Rattle.print_leaves.proofs.names.first_dot.Goals as goal

pub returns : goal.returns
returns c = first_dot_at c.args.text.now _ (c.place_of_dot-place.ensures ∙ ap (position (λ b. nat_eq b 46)) c.as_bytes.ensures.value)
