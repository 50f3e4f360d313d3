use Rattle.std.proofs.Common.{◌++◌}
use Rattle.source_model.specs.OutOfRange.{class_too_deep}
use Rattle.source_model.specs.TypeRules.{path_too_long, typar_undeclared}
use Rattle.source_model.specs.Undeclared.{param_type_undeclared}
use Rattle.check_visitor.proofs.LeastOfRules.{then_rule}
use Rattle.check_names.specs.AllOfParts.{name_broken}
use Rattle.check_names.specs.ArrayNumbers.{number_at}
use Rattle.check_names.specs.Missing.{label_missing}
use Rattle.check_names.proofs.parts.AllOfParts.first_asked.Goals as goal

pub returns : goal.returns
returns c s n r node derived =
    let keys = c.args.self.now.types.scopes.keys.now in
    let own = c.args.self.now.types.scopes.own.now in
    let named = name_broken keys own c.args.self.now.types.classes.now s n in
    let typars = typar_undeclared s n ++ param_type_undeclared s n in
    let labels = label_missing c.args.self.now.labels.names.now s n in
    let numbers = number_at s n in
    let nestings = class_too_deep n ++ path_too_long n in
    then_rule c.sooner.result c.sooner-to_number.result c.in_ok-nesting.nesting (named ++ typars ++ labels ++ numbers) nestings c.sooner.ensures
    (then_rule c.sooner-to_number.result c.sooner-to_label.result c.in_ok-number.number (named ++ typars ++ labels) numbers c.sooner-to_number.ensures
    (then_rule c.sooner-to_label.result c.sooner-to_typar.result c.in_ok-label.label (named ++ typars) labels c.sooner-to_label.ensures
    (then_rule c.sooner-to_typar.result c.in_ok-name.name c.in_ok-typar.typar named typars c.sooner-to_typar.ensures
    (c.in_ok-name.ensures s n r node.production-is node.below-is derived.fits derived.bodies)
    (c.in_ok-typar.ensures s n r node derived))
    (c.in_ok-label.ensures s n r node derived))
    (c.in_ok-number.ensures s n r node derived))
    (c.in_ok-nesting.ensures s n r node derived)
