use Rattle.std.proofs.Common.{◌++◌, ◌∙◌, ap, subst, sym}
use Rattle.std.specs.Prelude.{All, Some}
use Rattle.il_lexer.specs.declared.types.TokenKind.TheVariants as kind
use Rattle.source_nodes.specs.Least.{least}
use Rattle.source_nodes.specs.Readers.{IsOf}
use Rattle.source_syntax.proofs.NameTokens.{all_of_each}
use Rattle.check_visitor.proofs.LeastOfRules.{then_rule}
use Rattle.check_names.specs.NamedTypes.{path_missing, scope_missing_in, type_missing_in, written_scope_by}
use Rattle.check_names.specs.WrittenTypes.{written_of}
use Rattle.check_names.proofs.NamedTypeLemmas.{none_of, some_of, tokens_of_name}
use Rattle.check_names.proofs.parts.name_fault.Goals as goal

pub returns-in-None : goal.returns-in-None
returns-in-None c s n r p e fits bodies =
    let keys = c.args.types.now.scopes.keys.now in
    let own = c.args.types.now.scopes.own.now in
    sym (ap (λ w. least (type_missing_in keys own c.args.types.now.classes.now s w ++ scope_missing_in keys own s w))
    (none_of c.args.production n c.in_ok-name.name (c.in_ok-name.ensures n.below e) p c.in-None.is))

pub returns-in_ok-absent-in-Some : goal.returns-in_ok-absent-in-Some
returns-in_ok-absent-in-Some c s n r p e fits bodies =
    let keys = c.args.types.now.scopes.keys.now in
    let own = c.args.types.now.scopes.own.now in
    let classes = c.args.types.now.classes.now in
    let name = c.in-Some.name in
    let is = some_of c.args.production n c.in_ok-name.name name (c.in_ok-name.ensures n.below e) p c.in-Some.is in
    let tokens = tokens_of_name s n (written_of name) is fits bodies in
    let scope = written_scope_by keys own s name.scope in
    let standing = c.in_ok-standing-in-Some.ensures s r tokens.scope in
    let all = subst (All (IsOf s kind.Name)) (sym c.as_slice-path.ensures) (all_of_each (IsOf s kind.Name) name.path tokens.path) in
    let absent = c.in_ok-absent-in-Some.ensures s scope r all standing ∙ ap (λ path. least (path_missing classes s path scope)) c.as_slice-path.ensures in
    let unknown = c.unless_known-unknown.ensures scope standing in
    then_rule c.sooner.result c.in_ok-absent-in-Some.absent c.unless_known-unknown.result (path_missing classes s name.path scope) (scope_missing_in keys own s (Some (written_of name)))
    c.sooner.ensures absent unknown
    ∙ sym (ap (λ w. least (type_missing_in keys own classes s w ++ scope_missing_in keys own s w)) is)
