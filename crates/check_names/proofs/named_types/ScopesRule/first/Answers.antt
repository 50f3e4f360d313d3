use Rattle.std.proofs.Common.{◌∙◌, ap, sym}
use Rattle.source_nodes.specs.Least.{least}
use Rattle.check_names.specs.NamedTypes.{scope_missing_in, written_scope_by}
use Rattle.check_names.specs.WrittenTypes.{written_of}
use Rattle.check_names.proofs.NamedTypeLemmas.{none_of, some_of, tokens_of_name}
use Rattle.check_names.proofs.named_types.ScopesRule.first.Goals as goal

pub returns-in-None : goal.returns-in-None
returns-in-None c s n r node derived =
    let keys = c.args.self.now.keys.now in
    let own = c.args.self.now.own.now in
    sym (ap (λ w. least (scope_missing_in keys own s w))
    (none_of c.args.production n c.in_ok-name.name (c.in_ok-name.ensures n.below node.below-is) node.production-is c.in-None.is))

pub returns-in_ok-standing-in-Some : goal.returns-in_ok-standing-in-Some
returns-in_ok-standing-in-Some c s n r node derived =
    let keys = c.args.self.now.keys.now in
    let own = c.args.self.now.own.now in
    let name = c.in-Some.name in
    let is = some_of c.args.production n c.in_ok-name.name name (c.in_ok-name.ensures n.below node.below-is) node.production-is c.in-Some.is in
    let tokens = tokens_of_name s n (written_of name) is derived.fits derived.bodies in
    c.unless_known.ensures (written_scope_by keys own s name.scope) (c.in_ok-standing-in-Some.ensures s r tokens.scope)
    ∙ sym (ap (λ w. least (scope_missing_in keys own s w)) is)
