use Rattle.std.proofs.Common.{◌≡◌, [], Some, subst, sym, ap, ◌∙◌, rules, w32}
use Rattle.std.proofs.lemmas.Int.{to_z-of_z}
use mir.Val.{SFits}
use Rattle.source_model.specs.Shapes.{size_value, natural}
use Rattle.source_model.specs.TypeRules.{lower_out_of_range, size_out_of_range}
use Rattle.source_nodes.proofs.BoundLemmas.{spread_size}
use Rattle.source_nodes.proofs.reader.Reader.size_value.Goals as goal

pub returns-in-Some : goal.returns-in-Some
returns-in-Some c s r lower size =
    let f : SFits w32 c.signed-in-Some.result = search rules in
    let g : SFits w32 c.signed-in-Some-2.result = search rules in
    spread_size s c.in-Some.first c.args.token c.size_between.result c.signed-in-Some.result c.signed-in-Some-2.result
    (subst (λ o. lower_out_of_range s o ≡ []) c.in-Some.is lower) (subst (λ o. size_out_of_range s o (Some c.args.token) ≡ []) c.in-Some.is size)
    (c.signed-in-Some.ensures s r) (c.signed-in-Some-2.ensures s r) (simp to_z-of_z at c.size_between.ensures)
    ∙ ap (λ o. natural (size_value s o c.args.token)) (sym c.in-Some.is)
