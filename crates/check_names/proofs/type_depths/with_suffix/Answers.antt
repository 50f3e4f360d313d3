use Rattle.std.proofs.Common.{◌≡◌, arith}
use Rattle.std.specs.Prelude.{max}
use Rattle.check_names.proofs.SuffixDepths.{suffixed_depth}
use Rattle.check_names.proofs.type_depths.with_suffix.Goals as goal

pub returns-clause-depth : goal.returns-clause-depth
returns-clause-depth c s a f p count is e fits each inner t deep =
    let both : c.max.result ≡ max c.args.of.depth c.modifier_depth-modifier.result = grind arith in
    suffixed_depth s a p f t c.args.of.depth c.modifier_depth-modifier.result c.max.result c.deeper.result
    (c.modifier_depth-modifier.ensures s a f p count is e fits each inner) deep both (λ d i. c.deeper.ensures d i)
