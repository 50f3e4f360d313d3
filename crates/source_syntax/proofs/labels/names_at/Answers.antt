use Rattle.std.proofs.Common.{◌≡◌, [], ◌∷◌, ◌++◌, ap, sym, subst, ◌∙◌, append_assoc}
use Rattle.il_lexer.specs.declared.types.TokenKind.TheVariants.{Name}
use Rattle.source_model.specs.Values.{name_text}
use Rattle.source_syntax.specs.Methods.{AreNames}
use Rattle.source_nodes.specs.Readers.{IsOf}
use Rattle.source_syntax.proofs.LabelLemmas.{in_middle}
use Rattle.source_syntax.proofs.labels.names_at.Goals as goal

pub loop-token-preserved : goal.loop-token-preserved
loop-token-preserved c =
    let token = c.in-Some.token in
    let before = c.in-Some.before.now in
    let done = c.loop-token.invariant.0 in
    let whole : before ++ token ∷ done ≡ c.args.tokens.now =
    sym (append_assoc before (token ∷ []) done) ∙ ap (λ xs. xs ++ done) (sym c.in-Some.ensures) ∙ c.loop-token.invariant.1 in (
      token ∷ done,
      whole,
      λ s r names.
          c.in_ok-put_name.ensures s r (in_middle (IsOf s Name) before token done (subst (AreNames s) (sym whole) names))
          ∙ ap (λ ns. name_text s token ∷ ns) (c.loop-token.invariant.2 s r names),
    )
