use Rattle.std.proofs.Common.{[], ◌∷◌, sym, subst}
use Rattle.il_lexer.specs.declared.types.TokenKind.TheVariants.{Scope}
use Rattle.ilasm_grammar.specs.declared.productions.TheConstants.{PATH}
use Rattle.source_model.specs.Forest.{child}
use Rattle.source_nodes.specs.Readers.{IsOf}
use Rattle.source_syntax.proofs.TypeNames.{with_its_scope}
use Rattle.source_syntax.proofs.place.Place.name_with_scope.Goals as goal

pub returns : goal.returns
returns c s a x f e scoped path =
    let at = c.leaf_at.ensures f e in
    with_its_scope s f c.in_ok-scope.scope c.in_ok-path.path c.leaf_at.result at (c.in_ok-scope.ensures s a x (subst (IsOf s Scope) (sym at) scoped))
    (c.in_ok-path.ensures s a x (child (PATH ∷ []) f) (sym (c.child.ensures f e)) path.0 path.1)
