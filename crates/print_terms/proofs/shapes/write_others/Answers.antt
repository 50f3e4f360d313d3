use Rattle.std.proofs.Common.{◌≡◌, ◌+◌, ◌-◌, ◌<◌, drop, ap, sym, ◌∙◌, arith}
use Rattle.il_lexer.specs.declared.word.TheConstants as word
use Rattle.listing_model.specs.Shown.{none, w}
use Rattle.listing_model.specs.Types.{first, bound, bound_opt, dimensions}
use Rattle.print_leaves.specs.Page.{drawn}
use Rattle.print_terms.specs.Shapes.{others_drawn}
use Rattle.print_terms.proofs.ShapeRows.{others_step}
use Rattle.print_terms.proofs.shapes.write_others.Goals as goal

pub loop-k-preserved : goal.loop-k-preserved
loop-k-preserved c =
    others_step c.loop-k.paper _ _ c.args.count c.loop-k.k c.loop-k.sizes.now _ c.loop-k.lower.now _ _ _ c.loop-k-test.true c.rest_of-sizes.ensures c.rest_of-lower.ensures
    c.head_of.ensures c.signed_head_of.ensures c.in_ok-word.ensures c.in_ok-write_bound.ensures
    ∙ c.loop-k.invariant
