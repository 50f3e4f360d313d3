use Rattle.std.proofs.Common.{◌++◌}
use Rattle.source_model.specs.Names.{written_name}
use Rattle.source_model.specs.TypeRules.{path_too_long, type_too_deep, typar_undeclared}
use Rattle.check_names.specs.ArrayNumbers.{number_in_signature}
use Rattle.check_names.specs.NamedTypes.{scope_missing_in, type_missing_in}
use Rattle.check_names.proofs.ArrayLemmas.{next_rule}
use Rattle.check_members.proofs.broken_signatures.BrokenSignaturesRule.first.Goals as goal

pub returns : goal.returns
returns c s n r node derived =
    let p = node.production-is in
    let below = node.below-is in
    let types = c.args.self.now.types in
    let w = written_name n.production n.below in
    let name = type_missing_in types.scopes.keys.now types.scopes.own.now types.classes.now s w in
    let scope = scope_missing_in types.scopes.keys.now types.scopes.own.now s w in
    let typar = typar_undeclared s n in
    let number = number_in_signature s n in
    let deep = type_too_deep s n in
    next_rule c.sooner.result c.sooner-to_depth.result c.in_ok-path.path (name ++ scope ++ typar ++ number ++ deep) (path_too_long n) c.sooner.ensures
    (next_rule c.sooner-to_depth.result c.sooner-to_number.result c.deep_type.result (name ++ scope ++ typar ++ number) deep c.sooner-to_depth.ensures
    (next_rule c.sooner-to_number.result c.sooner-to_typar.result c.in_ok-number.number (name ++ scope ++ typar) number c.sooner-to_number.ensures
    (next_rule c.sooner-to_typar.result c.sooner-to_scope.result c.in_ok-typar.typar (name ++ scope) typar c.sooner-to_typar.ensures
    (next_rule c.sooner-to_scope.result c.in_ok-name.name c.in_ok-scope.scope name scope c.sooner-to_scope.ensures
    (c.in_ok-name.ensures s n r node derived) (c.in_ok-scope.ensures s n r node derived))
    (c.in_ok-typar.ensures s n r node derived))
    (c.in_ok-number.ensures s n r p below))
    (c.deep_type.ensures s n p below derived.fits derived.bodies))
    (c.in_ok-path.ensures n p below)
