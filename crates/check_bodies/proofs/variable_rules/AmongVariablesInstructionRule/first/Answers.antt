use Rattle.std.proofs.Common.{◌≡◌, ap, sym, subst, ◌∙◌}
use Rattle.std.specs.Prelude.{Bool, true, ◌==◌, if◌then◌else◌, [], IfOk}
use Rattle.std.proofs.lemmas.Bool.Decides.{Decides-eqb}
use Rattle.ilasm_grammar.specs.declared.productions.TheConstants.{INSTRUCTION_OP_VAR}
use Rattle.source_model.specs.BodyFaults.{variable_undeclared}
use Rattle.source_nodes.specs.Derived.{FitsBody}
use Rattle.source_nodes.specs.Least.{least}
use Rattle.check_bodies.proofs.variable_rules.AmongVariablesInstructionRule.first.Goals as goal

pub returns-in-315 : goal.returns-in-315
returns-in-315 c s n p r knows is =
    let form = is.production-is ∙ c.in-315.is in
    let own : (p.production == INSTRUCTION_OP_VAR) ≡ true = (Decides-eqb p.production INSTRUCTION_OP_VAR).1 form in
    subst (λ ks. IfOk c.undeclared.result (λ k. k ≡ least ks))
    (sym (ap (λ (b : Bool). if b then variable_undeclared s n.below p else []) own))
    (c.undeclared.ensures s n.below p r (knows _ p is.at form) (subst (λ q. FitsBody s q p.below) form is.fits) is.bodies is.below-is)
