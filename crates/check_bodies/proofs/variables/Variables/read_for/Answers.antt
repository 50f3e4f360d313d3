use Rattle.std.proofs.Common.{sym, ◌∙◌}
use Rattle.ilasm_grammar.specs.declared.productions.TheConstants.{INSTRUCTION_OP_VAR}
use Rattle.source_model.specs.Instructions.{instructions_of}
use Rattle.check_bodies.proofs.WantedLemmas.{none_of_form}
use Rattle.check_bodies.proofs.variables.Variables.read_for.Goals as goal

pub returns-then-not-has_form : goal.returns-then-not-has_form
returns-then-not-has_form c s n r m e are k p at is =
    absurd (none_of_form c.args.method.now c.args.code.now (instructions_of n.below) INSTRUCTION_OP_VAR k p are (sym c.has_form.ensures ∙ c.if-not-has_form.true) at is)

pub returns : goal.returns
returns c s n r m e are k p at is = c.in_ok-variables.ensures s n r m e
