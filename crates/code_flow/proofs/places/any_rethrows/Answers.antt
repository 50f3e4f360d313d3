use Rattle.std.proofs.Common.{◌∙◌, ap}
use Rattle.code_flow.specs.PlaceTests.{may_rethrow_test}
use Rattle.code_flow.proofs.NearLemmas.{rethrow_near}
use Rattle.code_flow.proofs.places.any_rethrows.Goals as goal

pub returns : goal.returns
returns c = c.any_rethrows_among.ensures ∙ ap (λ l. may_rethrow_test l c.args.k) c.as_slice.ensures ∙ rethrow_near c.args.k c.args.clauses.now c.near.result.now c.near.ensures
