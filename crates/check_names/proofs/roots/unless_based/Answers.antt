use Rattle.std.proofs.Common.{◌∙◌, length, sym, subst}
use Rattle.il_lexer.specs.declared.types.TokenKind.TheVariants as kind
use Rattle.source_model.specs.Nodes.{class_token}
use Rattle.source_nodes.specs.Readers.{IsOf}
use Rattle.source_syntax.proofs.NameTokens.{class_is_name}
use Rattle.check_names.proofs.RootLemmas.{named_at, root_alone, without_base}
use Rattle.check_names.proofs.roots.unless_based.Goals as goal

pub returns-then-branch : goal.returns-then-branch
returns-then-branch c s n r node derived =
    let at = c.leaf_at-name.ensures n.below node.below-is in
    let named = subst (IsOf s kind.Name) (sym at) (class_is_name s n.production n.below node.production-is derived.fits) in
    root_alone s n (sym (named_at s c.args.place.now.depth (length n.around.path) c.leaf_at-name.result (class_token n.below) node.place.depth at)
    ∙ sym (c.in_ok-is_root.ensures s r named) ∙ c.if-branch.true)

pub returns : goal.returns
returns c s n r node derived =
    let at = c.leaf_at-name.ensures n.below node.below-is in
    let named = subst (IsOf s kind.Name) (sym at) (class_is_name s n.production n.below node.production-is derived.fits) in
    without_base s n c.leaf_at-name.result (sym (c.is_interface.ensures s n.below r node.below-is) ∙ c.if-is_interface.false)
    (sym (c.has_base.ensures n.below node.below-is) ∙ c.if-has_base.false)
    (sym (named_at s c.args.place.now.depth (length n.around.path) c.leaf_at-name.result (class_token n.below) node.place.depth at)
    ∙ sym (c.in_ok-is_root.ensures s r named) ∙ c.if-branch.false)
    at
