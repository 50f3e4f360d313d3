use Rattle.std.proofs.Common.{◌≡◌, ℕ, List, [], ◌∷◌, ◌++◌, ap, sym, ◌∙◌}
use Rattle.std.specs.Prelude.{Bool, false, true, if◌then◌else◌}
use Rattle.std.proofs.lemmas.Result.{IfOk-equal}
use Rattle.ilasm_grammar.specs.declared.tree.TreeNode.{TreeNode}
use Rattle.source_model.specs.Members.{field}
use Rattle.lower_members.specs.FieldContexts.{is_field, run_at}
use Rattle.lower_members.proofs.FieldLemmas.{nothing_added}
use Rattle.lower_members.proofs.fields.push_field.Goals as goal

pub returns-in_ok-one : goal.returns-in_ok-one
returns-in_ok-one c s a x p ps is are h each =
    let made = ap (λ (w : ℕ × List TreeNode). w.0) is in
    let some : is_field p.production ≡ true = ap is_field (sym made) ∙ sym c.is_field.ensures ∙ c.if-is_field.true in
    IfOk-equal c.push.result _ _ _ c.push.ensures.ok
    (ap (λ y. c.args.all.now ++ y ∷ []) (c.in_ok-one.ensures s a x p ps is are some h each)
    ∙ ap (λ (b : Bool). c.args.all.now ++ (if b then field s a (run_at p ps) ∷ [] else [])) (sym some))

pub returns-else-is_field : goal.returns-else-is_field
returns-else-is_field c s a x p ps is are h each =
    let made = ap (λ (w : ℕ × List TreeNode). w.0) is in
    let none : is_field p.production ≡ false = ap is_field (sym made) ∙ sym c.is_field.ensures ∙ c.if-is_field.false in
    nothing_added s a c.args.all.now p ps none
