use Rattle.std.proofs.Common.{◌≡◌, map, take}
use Rattle.il_lexer.specs.Lexing.{span_of}
use Rattle.il_lexer.proofs.scan.spans_of.Given as goal

abbrev pub invariant-loop-token : goal.invariant-loop-token
invariant-loop-token l = l.spans ≡ map span_of (take l.token-index l.tokens)
