use Rattle.std.proofs.Common.{◌∙◌, ap}
use Rattle.code_flow.specs.PlaceTests.{is_innermost_range}
use Rattle.code_flow.proofs.NearLemmas.{innermost_near}
use Rattle.code_flow.proofs.places.is_innermost_near.Goals as goal

pub returns : goal.returns
returns c = c.is_innermost.ensures ∙ ap (λ l. is_innermost_range l c.args.k c.args.range) c.as_slice.ensures ∙ innermost_near c.args.k c.args.clauses.now c.near.result.now c.near.ensures c.args.range
