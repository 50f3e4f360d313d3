use Rattle.std.proofs.Common.{ap, sym, subst, ◌∙◌}
use Rattle.ilasm_grammar.specs.declared.productions.TheConstants.{INSTRUCTION_OP_VAR}
use Rattle.source_model.specs.BodyFaults.{variable_undeclared}
use Rattle.source_model.specs.Instructions.{instructions_of}
use Rattle.source_nodes.specs.Least.{least}
use Rattle.source_nodes.specs.Pieces.{ArePieces}
use Rattle.check_bodies.specs.NamedVariables.{undeclared_at}
use Rattle.check_bodies.proofs.CodeLemmas.{of_one_form, without_numbers}
use Rattle.check_bodies.proofs.variable_rules.NamedVariablesMethodRule.first.Goals as goal

pub returns : goal.returns
returns c s n r m e =
    let f = n.below in
    let ps = instructions_of f in
    let code = subst (λ xs. ArePieces c.args.below.now xs ps) (sym c.as_slice.ensures) (c.in_ok-code.ensures f e) in
    c.in_ok-first.ensures s n r m.bodies (λ _ _ _ _. c.in_ok-variables.ensures s n r m e) code
    ∙ ap least (without_numbers (undeclared_at s f) 0 ps ∙ of_one_form (variable_undeclared s f) INSTRUCTION_OP_VAR ps)
