use Rattle.std.proofs.Common.{◌≡◌, drop, inl, inr, subst}
use Rattle.std.specs.Prelude.{IfOk}
use Rattle.il_lexer.specs.declared.types.TokenKind.TheVariants.{EqBytes}
use Rattle.source_model.specs.Values.{bytes_in_parentheses}
use Rattle.source_nodes.proofs.reader.Reader.equals_bytes.Goals as goal

pub returns : goal.returns
returns c = λ s r is.
    subst (λ w. IfOk c.equals_bytes.result (λ value. value ≡ bytes_in_parentheses (drop 1 w))) (c.spelling.ensures.value s r)
    (c.equals_bytes.ensures (c.spelling.ensures.spelled s r EqBytes is))
