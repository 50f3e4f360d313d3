use Rattle.std.proofs.Common.{ap, ◌∙◌}
use Rattle.listing_model.specs.References.{method_ref}
use Rattle.listing_model.specs.Shown.{none, put}
use Rattle.listing_model.specs.Text.{line_text}
use Rattle.print_terms.specs.Owners.{reference_of}
use Rattle.print_leaves.specs.Page.{blank}
use Rattle.print_terms.specs.Rows.{under}
use Rattle.print_terms.proofs.lines.own_reference_by.Goals as goal

pub returns : goal.returns
unfolding line_text
returns c =
    c.into_string.ensures
    ∙ ap (λ p. p.text)
    (c.in_ok-write_own_reference.ensures
    ∙ (ap (λ q. under q (method_ref c.args.externs.now (reference_of c.args.path.now c.args.name.now c.args.sig.now))) c.new-paper.ensures
    ∙ c.drawn_is_text.ensures blank (put (method_ref c.args.externs.now (reference_of c.args.path.now c.args.name.now c.args.sig.now)) none)))
