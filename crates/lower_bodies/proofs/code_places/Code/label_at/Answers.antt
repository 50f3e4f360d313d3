use Rattle.std.proofs.Common.{◌≡◌, subst, ◌∙◌}
use Rattle.std.specs.Prelude.{IfOk, IfSome}
use Rattle.source_model.specs.Instructions.{labels}
use Rattle.source_model.specs.Values.{name_text}
use Rattle.lower_bodies.specs.LabelSlots.{first_named}
use Rattle.lower_bodies.proofs.code_places.Code.label_at.Goals as goal

pub returns-in-Some : goal.returns-in-Some
returns-in-Some c s f x name =
    let text = subst (λ o. IfSome o (λ text. text.now ≡ name_text s c.args.token)) c.in-Some.is (c.plain_name.ensures s x.reads name) in
    subst (λ t. IfOk c.label_with.result (λ l. l ≡ first_named s t (labels f))) text (c.label_with.ensures s f x)

pub returns : goal.returns
returns c s f x name =
    subst (λ t. IfOk c.label_with-2.result (λ l. l ≡ first_named s t (labels f))) (c.as_bytes.ensures ∙ c.in_ok-name.ensures s x.reads name) (c.label_with-2.ensures s f x)
