use Rattle.std.proofs.Common.{map, ap, sym, ◌∙◌}
use Rattle.source_model.specs.BodyFaults.{is_same_name}
use Rattle.source_model.specs.DeclaredTwice.{repeats}
use Rattle.source_model.specs.Instructions.{labels}
use Rattle.source_model.specs.Values.{name_text}
use Rattle.source_nodes.specs.Least.{least}
use Rattle.check_bodies.proofs.label_faults.twice_fault.Goals as goal

pub returns-then-not-has_repeat : goal.returns-then-not-has_repeat
returns-then-not-has_repeat c s n e known = c.has_repeat.ensures c.if-not-has_repeat.true (name_text s) (labels n.below) known.names-are

pub returns : goal.returns
returns c s n e known =
    let tokens = c.as_slice.ensures ∙ c.in_ok-tokens.ensures n.below e in
    c.again.ensures (name_text s) (known.names-are ∙ ap (map (name_text s)) (sym tokens)) ∙ ap (λ ks. least (repeats (is_same_name s) ks)) tokens
