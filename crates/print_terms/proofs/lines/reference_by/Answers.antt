use Rattle.std.proofs.Common.{ap, ◌∙◌}
use Rattle.listing_model.specs.References.{method_ref}
use Rattle.listing_model.specs.Shown.{none, put}
use Rattle.listing_model.specs.Text.{line_text}
use Rattle.print_leaves.specs.Page.{blank}
use Rattle.print_terms.specs.Rows.{under}
use Rattle.print_terms.proofs.lines.reference_by.Goals as goal

pub returns : goal.returns
unfolding line_text
returns c =
    c.into_string.ensures
    ∙ ap (λ p. p.text)
    (c.in_ok-write_method_ref.ensures
    ∙ (ap (λ q. under q (method_ref c.args.externs.now c.args.r.now)) c.new-paper.ensures
    ∙ c.drawn_is_text.ensures blank (put (method_ref c.args.externs.now c.args.r.now) none)))
