use Rattle.std.proofs.Common.{◌-◌, drop, ap, ◌∙◌}
use Rattle.listing_model.specs.Types.{first, bound, dimensions}
use Rattle.print_terms.specs.Shapes.{lone_drawn, others_drawn}
use Rattle.print_terms.proofs.ShapeRows.{first_and_others}
use Rattle.print_terms.proofs.shapes.write_dimensions.Goals as goal

pub returns : goal.returns
returns c =
    first_and_others c.args.paper.now _ _ c.args.rank c.args.sizes.now c.args.lower.now c.if-rank-eq0.false
    (c.in_ok-write_first.ensures
    ∙ (ap (λ s. lone_drawn c.args.paper.now c.args.rank (bound s c.signed_head_of.result)) c.head_of.ensures
    ∙ ap (λ l. lone_drawn c.args.paper.now c.args.rank (bound (first c.args.sizes.now) l)) c.signed_head_of.ensures))
    (c.in_ok-write_others.ensures
    ∙ (ap (λ s. others_drawn c.write_first.new.paper (dimensions (c.args.rank - 1) s c.rest_of-2.result.now)) c.rest_of.ensures
    ∙ ap (λ l. others_drawn c.write_first.new.paper (dimensions (c.args.rank - 1) (drop 1 c.args.sizes.now) l)) c.rest_of-2.ensures))
