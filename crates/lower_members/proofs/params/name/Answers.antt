use Rattle.std.proofs.Common.{ap, sym, subst, ◌∙◌}
use Rattle.std.specs.Prelude.{Bool, [], ◌∷◌, if◌then◌else◌}
use Rattle.std.proofs.lemmas.Result.{IfOk-weaker}
use Rattle.il_lexer.specs.declared.types.TokenKind.TheVariants.{Name}
use Rattle.ilasm_grammar.specs.declared.productions.TheConstants.{NAME_OPT_SOME}
use Rattle.source_model.specs.Forest.{child, leaf_at}
use Rattle.source_model.specs.Values.{name_text}
use Rattle.source_nodes.specs.Readers.{IsOf}
use Rattle.lower_members.proofs.ParamFlags.{parameter_named}
use Rattle.lower_members.proofs.params.name.Goals as goal

pub returns-then-has : goal.returns-then-has
returns-then-has c s f r e of ranged =
    let some = sym (c.has.ensures f e) ∙ c.if-has.true in
    let token = c.leaf_at.ensures (child (NAME_OPT_SOME ∷ []) f) (sym (c.child.ensures f e)) in
    let known = subst (IsOf s Name) (sym token) (parameter_named s f of ranged some) in
    IfOk-weaker c.name_text.result _ _ (λ x same. same ∙ ap (name_text s) token ∙ ap (λ (b : Bool). if b then name_text s (leaf_at 0 (child (NAME_OPT_SOME ∷ []) f)) else []) (sym some))
    (c.name_text.ensures s r known)
