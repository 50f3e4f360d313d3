use Rattle.std.proofs.Common.{◌≡◌, drop, inl, inr, subst}
use Rattle.std.specs.Prelude.{IfOk}
use Rattle.il_lexer.specs.declared.types.TokenKind.TheVariants.{Scope}
use Rattle.source_model.specs.Values.{between_quotes, dotted, part_texts}
use Rattle.source_nodes.proofs.reader.Reader.scope_text.Goals as goal

pub returns : goal.returns
returns c = λ s r is.
    subst (λ w. IfOk c.scope_text.result (λ value. value ≡ dotted (part_texts (between_quotes w)))) (c.spelling.ensures.value s r)
    (c.scope_text.ensures (c.spelling.ensures.spelled s r Scope is) (c.spelling.ensures.utf8 s r (inr is)))
