use Rattle.std.proofs.Common.{◌≡◌, drop, inl, inr, subst}
use Rattle.std.specs.Prelude.{IfOk}
use Rattle.il_lexer.specs.declared.types.TokenKind.TheVariants.{RealBytes}
use Rattle.source_model.specs.Values.{bytes_in_parentheses}
use Rattle.source_nodes.proofs.reader.Reader.real_bytes.Goals as goal

pub returns : goal.returns
returns c = λ s r is.
    subst (λ w. IfOk c.real_bytes.result (λ value. value ≡ bytes_in_parentheses w)) (c.spelling.ensures.value s r)
    (c.real_bytes.ensures (c.spelling.ensures.spelled s r RealBytes is))
