use Rattle.std.proofs.Common.{◌≡◌, ap, subst, sym}
use Rattle.std.specs.Prelude.{All, IfOk}
use Rattle.il_lexer.specs.declared.types.TokenKind.TheVariants as kind
use Rattle.source_nodes.specs.Least.{least}
use Rattle.check_names.specs.NamedTypes.{path_missing, type_missing_in, written_scope_by}
use Rattle.source_nodes.specs.Readers.{IsOf}
use Rattle.check_names.specs.WrittenTypes.{written_of}
use Rattle.source_syntax.proofs.NameTokens.{all_of_each}
use Rattle.check_names.proofs.NamedTypeLemmas.{none_of, some_of, tokens_of_name}
use Rattle.check_names.proofs.named_types.TypesRule.first.Goals as goal

pub returns-in-None : goal.returns-in-None
returns-in-None c s n r node derived =
    let keys = c.args.self.now.scopes.keys.now in
    let own = c.args.self.now.scopes.own.now in
    sym (ap (λ w. least (type_missing_in keys own c.args.self.now.classes.now s w))
    (none_of c.args.production n c.in_ok-name.name (c.in_ok-name.ensures n.below node.below-is) node.production-is c.in-None.is))

pub returns-in_ok-standing-in-Some : goal.returns-in_ok-standing-in-Some
returns-in_ok-standing-in-Some c s n r node derived =
    let keys = c.args.self.now.scopes.keys.now in
    let own = c.args.self.now.scopes.own.now in
    let classes = c.args.self.now.classes.now in
    let name = c.in-Some.name in
    let is = some_of c.args.production n c.in_ok-name.name name (c.in_ok-name.ensures n.below node.below-is) node.production-is c.in-Some.is in
    let tokens = tokens_of_name s n (written_of name) is derived.fits derived.bodies in
    let scope = written_scope_by keys own s name.scope in
    let all = subst (All (IsOf s kind.Name)) (sym c.as_slice.ensures) (all_of_each (IsOf s kind.Name) name.path tokens.path) in
    subst (λ w. IfOk c.missing.result (λ k. k ≡ least (type_missing_in keys own classes s w))) (sym is)
    (subst (λ p. IfOk c.missing.result (λ k. k ≡ least (path_missing classes s p scope))) c.as_slice.ensures
    (c.missing.ensures s scope r all (c.in_ok-standing-in-Some.ensures s r tokens.scope)))
