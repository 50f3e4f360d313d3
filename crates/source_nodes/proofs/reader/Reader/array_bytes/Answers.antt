use Rattle.std.proofs.Common.{◌≡◌, drop, inl, inr, subst}
use Rattle.std.specs.Prelude.{IfOk}
use Rattle.il_lexer.specs.declared.types.TokenKind.TheVariants.{ByteArray}
use Rattle.source_model.specs.Values.{bytes_in_parentheses}
use Rattle.source_nodes.proofs.reader.Reader.array_bytes.Goals as goal

pub returns : goal.returns
returns c = λ s r is.
    subst (λ w. IfOk c.array_bytes.result (λ value. value ≡ bytes_in_parentheses (drop 9 w))) (c.spelling.ensures.value s r)
    (c.array_bytes.ensures (c.spelling.ensures.spelled s r ByteArray is))
