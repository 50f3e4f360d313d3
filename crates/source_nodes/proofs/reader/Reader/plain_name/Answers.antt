use Rattle.std.proofs.Common.{◌≡◌, subst}
use Rattle.std.specs.Prelude.{IfSome}
use Rattle.il_lexer.specs.declared.types.TokenKind.TheVariants.{Name}
use Rattle.source_model.specs.Values.{dotted, part_texts}
use Rattle.source_nodes.proofs.reader.Reader.plain_name.Goals as goal

pub returns : goal.returns
returns c = λ s r is.
    subst (λ w. IfSome c.plain_name.result (λ text. text.now ≡ dotted (part_texts w))) (c.spelling.ensures.value s r)
    (c.plain_name.ensures (c.spelling.ensures.spelled s r Name is))
