use Rattle.ilasm_grammar.specs.declared.productions.TheConstants.{METHOD}
use Rattle.source_model.specs.Nodes.{Node}
use Rattle.lower_bodies.proofs.bodies.body_with_variables.Goals as goal

pub returns : goal.returns
returns c s a f x code e h are locals held =
    let n : Node = record { production = METHOD; below = f; around = a } in
    c.body_at.ensures s a f (record {
      at = x;
      code = code;
      variables = λ taken. c.in_ok-variables.ensures s n x.reads h.derived e locals;
    }) e h are locals held
