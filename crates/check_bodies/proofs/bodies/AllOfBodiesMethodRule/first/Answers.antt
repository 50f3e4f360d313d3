use Rattle.std.proofs.Common.{◌≡◌, ◌++◌, ◌∙◌, ap, sym, subst}
use Rattle.source_model.specs.BodyNumbers.{body_numbers_out_of_range_in}
use Rattle.source_model.specs.Instructions.{instructions_of}
use Rattle.source_nodes.specs.Least.{least, sooner}
use Rattle.source_nodes.specs.Pieces.{ArePieces}
use Rattle.source_syntax.proofs.LeastLemmas.{least_append}
use Rattle.check_bodies.specs.AllOfBodies.{backwards_in, ends_in, far_in, twice_in, undeclared_in, variables_in}
use Rattle.check_bodies.specs.MethodFaults.{naming_in}
use Rattle.check_bodies.proofs.BodyLemmas.{in_turn}
use Rattle.check_bodies.proofs.bodies.AllOfBodiesMethodRule.first.Goals as goal

pub returns : goal.returns
returns c s n r m e =
    let ps = instructions_of n.below in
    let lines = c.in_ok-lines.ensures.lines s n.below e m.bodies in
    let at = subst (λ xs. ArePieces c.args.below.now xs ps) (sym c.as_slice-code.ensures) lines.instructions-are in
    let naming = c.in_ok-naming.ensures s n r m e at (c.as_slice-names.ensures ∙ lines.labels-are) lines.plain-is in
    let operands = c.in_ok-operands.ensures s n r m e at in
    let number = c.in_ok-number.ensures s n r m e operands.number-is (λ is. (lines.plain-is is).plain) in
    let clause = c.in_ok-clause.ensures s n r m e (λ is. (lines.plain-is is).plain) in
    let names = twice_in s n ++ undeclared_in s n in
    let variables = variables_in s n in
    let numbers = body_numbers_out_of_range_in s n in
    let far = far_in s n in
    let clauses = backwards_in s n in
    let ends = ends_in s n in
    let split : least (naming_in s n) ≡ sooner (sooner (least names) (least far)) (least ends) =
    least_append (names ++ far) ends ∙ ap (λ o. sooner o (least ends)) (least_append names far) in
    c.sooner.ensures
    ∙ ap (λ o. sooner o c.in_ok-clause.clause) (c.sooner-to_number.ensures ∙ ap (λ o. sooner o c.in_ok-number.number) c.sooner-to_variable.ensures)
    ∙ ap (sooner (sooner (sooner c.in_ok-naming.naming c.in_ok-operands.operands.variable) c.in_ok-number.number)) clause
    ∙ ap (λ o. sooner (sooner (sooner c.in_ok-naming.naming c.in_ok-operands.operands.variable) o) (least clauses)) number
    ∙ ap (λ o. sooner (sooner (sooner c.in_ok-naming.naming o) (least numbers)) (least clauses)) operands.variable-is
    ∙ ap (λ o. sooner (sooner (sooner o (least variables)) (least numbers)) (least clauses)) (naming ∙ split)
    ∙ in_turn (least names) (least far) (least ends) (least variables) (least numbers) (least clauses)
    ∙ sym (least_append (names ++ variables ++ numbers ++ far ++ clauses) ends
    ∙ ap (λ o. sooner o (least ends)) (least_append (names ++ variables ++ numbers ++ far) clauses
    ∙ ap (λ o. sooner o (least clauses)) (least_append (names ++ variables ++ numbers) far
    ∙ ap (λ o. sooner o (least far)) (least_append (names ++ variables) numbers ∙ ap (λ o. sooner o (least numbers)) (least_append names variables)))))
