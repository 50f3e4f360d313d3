use Rattle.std.proofs.Common.{ap, sym, ◌∙◌}
use Rattle.il_lexer.specs.declared.word.TheConstants as word
use Rattle.listing_model.specs.Shown.{none, w}
use Rattle.listing_model.specs.Types.{dimensions}
use Rattle.print_leaves.specs.Page.{drawn}
use Rattle.print_terms.specs.Shapes.{dimensions_drawn}
use Rattle.print_terms.proofs.ShapeRows.{shape_drawn}
use Rattle.print_terms.proofs.shapes.write_shape.Goals as goal

pub returns : goal.returns
returns c =
    let ds = dimensions c.args.rank c.args.sizes.now c.args.lower.now in
    c.in_ok-word-2.ensures
    ∙ (ap (λ r. drawn r (w word.CLOSE_BRACKET none)) (c.in_ok-write_dimensions.ensures ∙ ap (λ r. dimensions_drawn r ds) c.in_ok-word.ensures)
    ∙ sym (shape_drawn (drawn c.args.paper.now (w word.OPEN_BRACKET none)) ds))
