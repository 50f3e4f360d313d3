use Rattle.std.proofs.Common.{ap, sym, ◌∙◌}
use Rattle.ilasm_grammar.specs.declared.productions.TheConstants.{INSTRUCTION_OP_VAR}
use Rattle.source_model.specs.BodyFaults.{variable_undeclared}
use Rattle.source_model.specs.Instructions.{instructions_of}
use Rattle.source_nodes.specs.Least.{least}
use Rattle.check_bodies.proofs.WantedLemmas.{none_asked, none_of_variables, none_ranged}
use Rattle.check_bodies.proofs.bodies.operand_faults.Goals as goal

pub returns-then-not-has_ranged : goal.returns-then-not-has_ranged
returns-then-not-has_ranged c s n r m e are =
    let f = n.below in
    let quiet = sym c.has_ranged.ensures ∙ c.if-not-has_ranged.true in
    let nodes = c.args.method.now in
    let code = c.args.code.now in
    let ps = instructions_of f in
    record {
      variable-is = ap least (sym (none_asked (variable_undeclared s f) INSTRUCTION_OP_VAR nodes code ps are (none_of_variables code quiet)));
      number-is = ap least (sym (none_ranged s f nodes code ps are quiet));
    }
