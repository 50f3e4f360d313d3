use Rattle.std.proofs.Common.{◌≡◌, take}
use Rattle.il_lexer.specs.Lexing.{all_placed, IsLine}
use Rattle.il_lexer.proofs.scan.all_placed.Given as goal

abbrev pub invariant-loop-span : goal.invariant-loop-span
invariant-loop-span l = record {
  line : IsLine l.source l.line;
  tokens : l.tokens ≡ all_placed l.source (take l.span-index l.spans);
}
