use Rattle.std.proofs.Common.{◌∙◌, ap}
use Rattle.code_flow.specs.PlaceTests.{may_end_finally_test}
use Rattle.code_flow.proofs.NearLemmas.{end_finally_near}
use Rattle.code_flow.proofs.places.any_ends_finally.Goals as goal

pub returns : goal.returns
returns c = c.any_ends_finally_among.ensures ∙ ap (λ l. may_end_finally_test l c.args.k) c.as_slice.ensures ∙ end_finally_near c.args.k c.args.clauses.now c.near.result.now c.near.ensures
