use Rattle.std.proofs.Common.{◌≡◌, Some, ap, sym, ◌∙◌}
use Rattle.std.specs.Prelude.{Bool, true, if◌then◌else◌}
use Rattle.std.proofs.lemmas.Bool.{eq-eqb}
use Rattle.source_model.specs.Forest.{leaf_at}
use Rattle.source_model.specs.OutOfRange.{is_32_bits}
use Rattle.source_model.specs.Shapes.{natural}
use Rattle.source_model.specs.Values.{int_at}
use Rattle.lower_members.proofs.LayoutLemmas.{line_fits}
use Rattle.lower_members.proofs.layouts.number_or.Goals as goal

pub returns-then-made-production : goal.returns-then-made-production
returns-then-made-production c s p r made below h sort =
    let same = sym made ∙ c.if-made-production.true in
    let token = c.leaf_at.ensures p.below below in
    let fits : is_32_bits (int_at s c.leaf_at.result) ≡ true = ap (λ k. is_32_bits (int_at s k)) token ∙ line_fits s c.args.production p sort same h in
    ap Some (c.natural_32.ensures s r fits ∙ ap (λ k. natural (int_at s k)) token)
    ∙ sym (ap (λ (b : Bool). if b then Some (natural (int_at s (leaf_at 1 p.below))) else c.args.before) (eq-eqb p.production c.args.production same))
