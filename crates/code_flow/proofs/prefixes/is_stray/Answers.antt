use Rattle.std.proofs.Common.{List, sym, ◌∙◌, ap, subst, Some, ◌≡◌}
use Rattle.std.specs.Prelude.{slice_get}
use Rattle.assembly_tree.specs.declared.body.Ins.{Ins}
use Rattle.code_flow.specs.Marks.{IsPast, is_stray_by}
use Rattle.code_flow.specs.Operations.{operation}
use Rattle.code_flow.proofs.Prefixed.{stray_exact}
use Rattle.code_flow.proofs.prefixes.is_stray.Goals as goal

pub returns : goal.returns
returns c = λ f code have past is.
    let past_in = subst (λ (z : List Ins). IsPast z c.args.k c.args.at) (sym code) past in
    let is_in = subst (λ (z : List Ins). slice_get z c.args.k ≡ Some c.args.ins.now) (sym code) is in
    let x = stray_exact f c.args.marks.now have c.args.k c.args.at past_in c.args.ins.now is_in in
    let e = c.stray_at.ensures ∙ ap (λ (z : List Ins). is_stray_by z c.args.marks.now c.args.at (operation c.args.ins.now.op)) (sym code) in
    (λ h. x.0 (sym e ∙ h), λ s. e ∙ x.1 s)
