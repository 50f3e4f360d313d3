use Rattle.std.proofs.Common.{◌≡◌, ap, sym, ◌∙◌}
use Rattle.std.specs.Prelude.{true, None}
use Rattle.std.specs.List.{enumerate_from, flat_map}
use Rattle.ilasm_grammar.specs.declared.productions.TheConstants.{INSTRUCTION_OP_NUM, INSTRUCTION_OP_REAL, INSTRUCTION_OP_VAR}
use Rattle.source_model.specs.BodyNumbers.{bounds_out_of_range, clause_forests, local_misnumbered, number_out_of_range, real_out_of_range, variable_out_of_range}
use Rattle.source_model.specs.Forest.{leaf_at, preorder}
use Rattle.source_model.specs.Instructions.{instructions_with}
use Rattle.source_model.specs.OutOfRange.{is_16_bits}
use Rattle.source_model.specs.TypeRules.{past_count, unless}
use Rattle.source_model.specs.Variables.{locals}
use Rattle.source_nodes.specs.Least.{least, sooner}
use Rattle.source_syntax.proofs.MethodLemmas.{nothing_more}
use Rattle.check_bodies.specs.PlainBodies.{is_plain}
use Rattle.check_bodies.proofs.BodyLemmas.{no_bounds, no_clauses, no_locals}
use Rattle.check_bodies.proofs.BodyNumberLemmas.{body_least}
use Rattle.check_bodies.proofs.ClauseCountLemmas.{clauses_are}
use Rattle.check_bodies.proofs.OperandLemmas.{by_forms}
use Rattle.check_bodies.proofs.bodies.number_fault.Goals as goal

pub returns-then-plain : goal.returns-then-plain
returns-then-plain c s n r m e is-operand plain =
    let f = n.below in
    let is : is_plain (preorder f) ≡ true = ap is_plain e ∙ plain c.if-plain.true in
    let operands = is-operand ∙ by_forms s f in
    let stack : None ≡ least (bounds_out_of_range s f) = sym (ap (λ fs. least (flat_map (λ line. unless is_16_bits s (leaf_at 1 line)) fs)) (no_bounds f is)) in
    let local : None ≡ least (flat_map (local_misnumbered s) (enumerate_from 0 (locals f))) =
    sym (ap (λ fs. least (flat_map (local_misnumbered s) (enumerate_from 0 fs))) (no_locals f is)) in
    let many : None ≡ least (past_count (locals f)) = sym (ap (λ fs. least (past_count fs)) (no_locals f is)) in
    let clause : None ≡ least (past_count (clause_forests f)) =
    sym (ap (λ fs. least (past_count fs)) (clauses_are f ∙ no_clauses f is)) in
    nothing_more c.args.operand
    ∙ body_least (bounds_out_of_range s f) (flat_map (number_out_of_range s) (instructions_with INSTRUCTION_OP_NUM f))
    (flat_map (real_out_of_range s) (instructions_with INSTRUCTION_OP_REAL f)) (flat_map (variable_out_of_range s f) (instructions_with INSTRUCTION_OP_VAR f))
    (flat_map (local_misnumbered s) (enumerate_from 0 (locals f))) (past_count (locals f)) (past_count (clause_forests f))
    None c.args.operand None None None
    stack operands local many clause

pub returns : goal.returns
returns c s n r m e is-operand plain =
    let f = n.below in
    let stack = c.beyond_in_each-stack.ensures s f r e in
    let operands = is-operand ∙ by_forms s f in
    let local = c.in_ok-misnumbered.ensures s f r e in
    let many = c.local_past_most-local.ensures f e in
    let clause = c.clause_past_most-clause.ensures f e ∙ ap (λ fs. least (past_count fs)) (sym (clauses_are f)) in
    c.sooner.ensures
    ∙ ap (sooner c.beyond_in_each-stack.result)
    (c.sooner-in_code.ensures
    ∙ ap (sooner c.args.operand) (c.sooner-counts.ensures ∙ ap (sooner c.in_ok-misnumbered.misnumbered) c.sooner-past.ensures))
    ∙ body_least (bounds_out_of_range s f) (flat_map (number_out_of_range s) (instructions_with INSTRUCTION_OP_NUM f))
    (flat_map (real_out_of_range s) (instructions_with INSTRUCTION_OP_REAL f)) (flat_map (variable_out_of_range s f) (instructions_with INSTRUCTION_OP_VAR f))
    (flat_map (local_misnumbered s) (enumerate_from 0 (locals f))) (past_count (locals f)) (past_count (clause_forests f))
    c.beyond_in_each-stack.result c.args.operand c.in_ok-misnumbered.misnumbered c.local_past_most-local.result c.clause_past_most-clause.result
    stack operands local many clause
