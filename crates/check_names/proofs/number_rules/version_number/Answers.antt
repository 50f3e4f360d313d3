use Rattle.std.proofs.Common.{ℕ, ◌∙◌, ap}
use Rattle.source_model.specs.OutOfRange.{is_16_bits}
use Rattle.source_model.specs.TypeRules.{unless}
use Rattle.source_nodes.specs.Least.{least, sooner}
use Rattle.check_visitor.proofs.RangeLemmas.{four}
use Rattle.check_names.proofs.number_rules.version_number.Goals as goal

pub returns : goal.returns
returns c s f r e =
    let at = λ (k : ℕ). least (unless is_16_bits s k) in
    c.sooner-3.ensures
    ∙ ap (sooner c.outside-major.result) (c.sooner-2.ensures ∙ ap (sooner c.outside-minor.result) c.sooner.ensures)
    ∙ four s f c.outside-major.result c.outside-minor.result c.outside-build.result c.outside-revision.result
    (c.outside-major.ensures s r ∙ ap at (c.leaf_at.ensures f e)) (c.outside-minor.ensures s r ∙ ap at (c.leaf_at-2.ensures f e))
    (c.outside-build.ensures s r ∙ ap at (c.leaf_at-3.ensures f e)) (c.outside-revision.ensures s r ∙ ap at (c.leaf_at-4.ensures f e))
