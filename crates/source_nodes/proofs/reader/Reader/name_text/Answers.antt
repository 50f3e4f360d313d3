use Rattle.std.proofs.Common.{◌≡◌, drop, inl, inr, subst}
use Rattle.std.specs.Prelude.{IfOk}
use Rattle.il_lexer.specs.declared.types.TokenKind.TheVariants.{Name}
use Rattle.source_model.specs.Values.{dotted, part_texts}
use Rattle.source_nodes.proofs.reader.Reader.name_text.Goals as goal

pub returns : goal.returns
returns c = λ s r is.
    subst (λ w. IfOk c.name_text.result (λ value. value ≡ dotted (part_texts w))) (c.spelling.ensures.value s r)
    (c.name_text.ensures (c.spelling.ensures.spelled s r Name is) (c.spelling.ensures.utf8 s r (inl is)))
