use Rattle.std.proofs.Common.{◌≡◌, sym, ◌∙◌}
use Rattle.std.specs.Prelude.{true}
use Rattle.source_model.specs.Clauses.{clause_forms}
use Rattle.source_model.specs.Forest.{is_among}
use Rattle.check_bodies.proofs.RangeNames.{backwards_is, forward_is}
use Rattle.check_bodies.proofs.clause_rules.backwards_at.Goals as goal

pub returns-in_ok-filter : goal.returns-in_ok-filter
returns-in_ok-filter c s n t b r places outer inner et eb =
    let p = c.args.production in
    let f = n.below in
    let own : is_among clause_forms p ≡ true = sym c.is_clause.ensures ∙ c.if-is_clause.true in
    let forward =
    c.is_forward.ensures
    ∙ forward_is s n t b p c.in_ok-guarded.guarded c.in_ok-handler.handler c.in_ok-filter.filter
    (c.in_ok-guarded.ensures s f t r places outer et) (c.in_ok-handler.ensures s f b r places inner eb) (c.in_ok-filter.ensures s f b r places inner eb) in
    c.unless.ensures ∙ backwards_is s n t b p c.first_token-token.result c.is_forward.result own forward (c.first_token-token.ensures b eb)
