use Rattle.std.proofs.Common.{◌≡◌, ◌∙◌, sym, ap, subst, true}
use Rattle.std.specs.Prelude.{IfOk, if◌then◌else◌, [], Bool, ◌==◌}
use Rattle.std.proofs.lemmas.Bool.Decides.{Decides-eqb}
use Rattle.il_lexer.specs.declared.types.TokenKind.TheVariants as kind
use Rattle.ilasm_grammar.specs.declared.productions.TheConstants.{AT_NAME}
use Rattle.source_model.specs.Forest.{leaf_at}
use Rattle.source_model.specs.TypeRules.{name_unless_among}
use Rattle.source_nodes.specs.Least.{least}
use Rattle.source_nodes.specs.Readers.{IsOf}
use Rattle.source_syntax.proofs.NameTokens.{at_is_name}
use Rattle.check_names.proofs.undeclared.LabelsRule.first.Goals as goal

pub returns-in-260 : goal.returns-in-260
returns-in-260 c s n r node derived =
    let names = c.args.self.now.names.now in
    let is : n.production ≡ AT_NAME = node.production-is ∙ c.in-260.is in
    let own : (n.production == AT_NAME) ≡ true = (Decides-eqb n.production AT_NAME).1 is in
    let at = c.leaf_at.ensures n.below node.below-is in
    subst (λ ks. IfOk c.unless_among.result (λ k. k ≡ least ks))
    (ap (name_unless_among s names) at ∙ sym (ap (λ (b : Bool). if b then name_unless_among s names (leaf_at 1 n.below) else []) own))
    (c.unless_among.ensures s r (subst (IsOf s kind.Name) (sym at) (at_is_name s n.production n.below is derived.fits)))
