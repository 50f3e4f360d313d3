use Rattle.std.proofs.Common.{◌+◌, ◌<◌, ◌^◌, ap, arith}
use Rattle.il_lexer.proofs.PlaceLemmas.{place-line}
use Rattle.il_lexer.proofs.LineLemmas.{line-after}
use Rattle.il_lexer.proofs.lines.next_line.Goals as goal

pub overflow_add-line : goal.overflow_add-line
overflow_add-line c =
    let few : c.args.line.number + 1 < 2 ^ 32 =
    omega (arith, place-line c.args.source.now c.args.line.start c.requires.here.within, ap (λ p. p.line) c.requires.here.begins) in
    record { fits = few }

pub line_from-requires-clause-begins : goal.line_from-requires-clause-begins
line_from-requires-clause-begins c = line-after c.args.source.now c.args.line c.requires.here c.requires.more
