use Rattle.std.proofs.Common.{◌≡◌, ◌++◌, subst}
use Rattle.std.specs.Prelude.{IfOk}
use Rattle.il_lexer.specs.declared.types.TokenKind.TheVariants.{QString}
use Rattle.source_model.specs.Values.{between_quotes, unescaped}
use Rattle.lower_manifest.proofs.texts.push_piece.Goals as goal

pub returns : goal.returns
returns c s r is =
    subst (λ w. IfOk c.push_string.result (λ _. c.push_string.new.bytes ≡ c.args.bytes.now ++ unescaped (between_quotes w))) (c.spelling.ensures.value s r)
    (c.push_string.ensures (c.spelling.ensures.spelled s r QString is))
