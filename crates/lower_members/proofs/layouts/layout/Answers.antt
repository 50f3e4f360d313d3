use Rattle.std.proofs.Common.{◌<◌, ◌^◌, inl, inr, None, refl, ap, sym, subst, ◌∙◌}
use Rattle.std.specs.Prelude.{IfSome}
use Rattle.std.specs.List.{AllByRecursion}
use Rattle.ilasm_grammar.specs.declared.productions.TheConstants.{MEMBER_PACK}
use Rattle.source_flags.specs.InRange.{IsInRange}
use Rattle.source_flags.specs.Lines.{productions_of}
use Rattle.source_flags.specs.declared.gathering.Kind.TheVariants.{Members}
use Rattle.source_flags.proofs.Gathered.{IsSought, all_follow, of_parts}
use Rattle.source_model.specs.Items.{members}
use Rattle.lower_members.specs.Layouts.{last_member, layout_of}
use Rattle.param_lines.specs.Ranged.{IsRanged}
use Rattle.lower_members.proofs.LayoutLemmas.{layout_said, pack_fits}
use Rattle.lower_members.proofs.layouts.layout.Goals as goal

pub returns : goal.returns
returns c s f r are h =
    let ms = members f in
    let each : AllByRecursion (IsRanged s) ms =
    all_follow (IsSought (IsInRange s) (productions_of Members)) (IsRanged s) ms (λ p g. (g.1, g.2)) (of_parts (IsInRange s) (productions_of Members) f h) in
    let pack = c.last_number-pack.ensures s ms r are each (inl refl) in
    let size = c.last_number-size.ensures s ms r are each (inr refl) in
    let fits : IfSome c.last_number-pack.result (λ n. n < 2 ^ 16) = subst (λ o. IfSome o (λ n. n < 2 ^ 16)) (sym pack) (pack_fits s ms None each tt) in
    c.layout_of.ensures fits ∙ ap (λ o. layout_of o c.last_number-size.result) pack ∙ ap (layout_of (last_member s MEMBER_PACK ms)) size ∙ layout_said s f
