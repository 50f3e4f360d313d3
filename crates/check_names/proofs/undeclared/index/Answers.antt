use Rattle.std.proofs.Common.{◌≡◌, ◌∙◌, sym, ap, subst, true}
use Rattle.std.specs.Prelude.{IfOk, if◌then◌else◌, [], Bool}
use Rattle.il_lexer.specs.declared.types.TokenKind.TheVariants as kind
use Rattle.ilasm_grammar.specs.declared.productions.TheConstants.{INDEX_NAME}
use Rattle.source_model.specs.Forest.{has, leaf_at, the}
use Rattle.source_model.specs.TypeRules.{name_unless_among}
use Rattle.source_nodes.specs.Least.{least}
use Rattle.source_nodes.specs.Readers.{IsOf}
use Rattle.source_syntax.proofs.NameTokens.{index_is_name}
use Rattle.check_names.proofs.undeclared.index.Goals as goal

pub returns-then-has : goal.returns-then-has
returns-then-has c s f r e h =
    let some : has INDEX_NAME f ≡ true = sym (c.has.ensures f e) ∙ c.if-has.true in
    let at = c.leaf_at.ensures (the INDEX_NAME f) (sym (c.the.ensures f e)) in
    let token = leaf_at 0 (the INDEX_NAME f) in
    subst (λ ks. IfOk c.unless_among.result (λ k. k ≡ least ks))
    (ap (name_unless_among s c.args.names.now) at
    ∙ sym (ap (λ (b : Bool). if b then name_unless_among s c.args.names.now token else []) some))
    (c.unless_among.ensures s r (subst (IsOf s kind.Name) (sym at) (index_is_name s f some h)))
