use Rattle.std.proofs.Common.{ap, sym, ◌∙◌}
use Rattle.ilasm_grammar.specs.declared.productions.TheConstants.{INSTRUCTION_OP_VAR}
use Rattle.source_model.specs.BodyFaults.{variable_undeclared}
use Rattle.source_model.specs.Instructions.{instructions_of}
use Rattle.source_nodes.specs.Least.{least}
use Rattle.check_bodies.specs.NamedVariables.{undeclared_at}
use Rattle.check_bodies.proofs.CodeLemmas.{of_one_form, without_numbers}
use Rattle.check_bodies.proofs.WantedLemmas.{none_asked}
use Rattle.check_bodies.proofs.bodies.variable_fault.Goals as goal

pub returns-then-not-has_form : goal.returns-then-not-has_form
returns-then-not-has_form c s n r m are variables =
    let f = n.below in
    ap least (sym (none_asked (variable_undeclared s f) INSTRUCTION_OP_VAR c.args.method.now c.args.code.now (instructions_of f) are
    (sym c.has_form.ensures ∙ c.if-not-has_form.true)))

pub returns : goal.returns
returns c s n r m are variables =
    let f = n.below in
    let ps = instructions_of f in
    c.in_ok-first.ensures s n r m.bodies variables are
    ∙ ap least (without_numbers (undeclared_at s f) 0 ps ∙ of_one_form (variable_undeclared s f) INSTRUCTION_OP_VAR ps)
