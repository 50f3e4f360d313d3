use Rattle.std.proofs.Common.{◌≡◌, [], ◌∷◌, sym, subst, ◌∙◌}
use Rattle.std.proofs.lemmas.Result.{IfOk-weaker}
use Rattle.il_lexer.specs.declared.types.TokenKind.TheVariants as kind
use Rattle.ilasm_grammar.specs.declared.productions.TheConstants.{PATH}
use Rattle.source_model.specs.Forest.{child}
use Rattle.source_model.specs.Names.{name_and_tail, or_module}
use Rattle.source_nodes.specs.Readers.{IsOf}
use Rattle.source_syntax.proofs.NameTails.{before_slash}
use Rattle.source_syntax.proofs.place.Place.name_with_tail.Goals as goal

pub returns-then-has : goal.returns-then-has
returns-then-has c s a x f e named path =
    let some = sym (c.has.ensures f e) ∙ c.if-has.true in
    let p = path some in
    let tail = child (c.args.slash ∷ []) f in
    let at = c.leaf_at.ensures f e in
    IfOk-weaker c.name_before.result _ (λ name. name ≡ or_module s (name_and_tail c.args.slash c.args.double_colon f))
    (λ name h. h ∙ before_slash s c.args.slash c.args.double_colon f c.leaf_at.result at some)
    (c.name_before.ensures s a x (subst (IsOf s kind.Name) (sym at) named) (child (PATH ∷ []) tail) (sym (c.child-names.ensures tail (sym (c.child.ensures f e)))) p.0 p.1)
