use Rattle.std.proofs.Common.{◌≡◌, [], ◌∷◌, ap, sym, subst, ◌∙◌}
use Rattle.std.specs.Prelude.{Some}
use Rattle.std.proofs.lemmas.Option.{same_Some}
use Rattle.il_lexer.specs.declared.types.TokenKind.TheVariants as kind
use Rattle.ilasm_grammar.specs.declared.productions.TheConstants.{TARGET_SCOPE}
use Rattle.source_model.specs.Forest.{child}
use Rattle.source_nodes.specs.Readers.{IsOf}
use Rattle.check_names.specs.NamedTypes.{written_scope_by}
use Rattle.check_members.proofs.ReadLemmas.{scope_known, unscoped_known}
use Rattle.check_members.proofs.ReferenceParts.{scope_sound}
use Rattle.check_members.proofs.member_reading.Signatures.knows_scope.Goals as goal

pub returns-then-not-has : goal.returns-then-not-has
returns-then-not-has g c s f v r e fits bodies = unscoped_known s f (sym (c.has.ensures f e) ∙ c.if-not-has.true)

pub returns : goal.returns
returns g c s f v r e fits bodies =
    let some = sym (c.has.ensures f e) ∙ c.if-not-has.false in
    let at = c.leaf_at-token.ensures (child (TARGET_SCOPE ∷ []) f) (sym (c.child.ensures f e)) in
    let of : IsOf s kind.Scope c.leaf_at-token.result = subst (IsOf s kind.Scope) (sym at) (scope_sound s f fits bodies some).0 in
    let scopes = c.args.self.now.scopes in
    let standing = c.in_ok-standing.ensures s r (λ k is. subst (IsOf s kind.Scope) (same_Some _ k is) of) in
    scope_known (g.R.Rule.broken c.args.self.now.rule.now) s scopes v f c.leaf_at-token.result c.is_assembly.result some at
    (c.is_assembly.ensures (written_scope_by scopes.keys.now scopes.own.now s (Some c.leaf_at-token.result)) standing)
