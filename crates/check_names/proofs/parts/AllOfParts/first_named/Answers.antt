use Rattle.std.proofs.Common.{◌≡◌, ◌∷◌, [], ◌∙◌, ap, arith, subst, sym}
use Rattle.std.specs.Prelude.{false, Some}
use Rattle.il_lexer.specs.declared.types.TokenKind.TheVariants as kind
use Rattle.type_terms.specs.declared.name.Scope.TheVariants.{Here}
use Rattle.ilasm_grammar.specs.declared.productions.TheConstants.{PATH, SLASH_NAME, TYPE_NAME_PATH}
use Rattle.source_model.specs.Forest.{child, has}
use Rattle.source_nodes.specs.Least.{least}
use Rattle.source_nodes.specs.Readers.{IsOf}
use Rattle.check_names.specs.NamedTypes.{path_missing}
use Rattle.check_names.proofs.LoneNames.{lone_broken, lone_is_name}
use Rattle.check_names.proofs.parts.AllOfParts.first_named.Goals as goal

pub returns : goal.returns
returns c s n r p e fits bodies own =
    let classes = c.args.self.now.types.classes.now in
    let whole = c.child-path.ensures n.below e in
    let path = child (PATH ∷ []) n.below in
    let same : c.args.production ≡ TYPE_NAME_PATH = grind arith in
    let none : has SLASH_NAME path ≡ false = sym (c.has.ensures path (sym whole)) ∙ c.if-has.false in
    let at = c.leaf_at.ensures path (sym whole) in
    let name = subst (IsOf s kind.Name) (sym at) (lone_is_name s n (p ∙ same) none fits bodies) in
    c.in_ok-first.ensures s r name
    ∙ ap (λ k. least (path_missing classes s (k ∷ []) (Some Here))) at
    ∙ ap least (sym (lone_broken s n c.args.self.now.types.scopes.keys.now c.args.self.now.types.scopes.own.now classes c.args.self.now.labels.names.now (p ∙ same) none))
