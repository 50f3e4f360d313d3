use Rattle.std.proofs.Common.{sym, ◌∙◌, ap, subst, List}
use Rattle.std.specs.Prelude.{◌↔◌, IsTrue}
use Rattle.assembly_tree.specs.declared.members.Field.{Field}
use Rattle.body_verifier.specs.MemberTests.{HasOther}
use Rattle.type_order.specs.Fields.{fields_meant}
use Rattle.body_verifier.proofs.MemberLemmas.{field_exact, no_field}
use Rattle.body_verifier.proofs.naming_rules.misfits_declared.Goals as goal

pub returns-in_ok-fields-in-Some : goal.returns-in_ok-fields-in-Some
returns-in_ok-fields-in-Some c = λ f image types.
    let r = c.args.r.now in
    let wanted = c.in-Some.wanted in
    let x = field_exact f c.args.does r wanted (sym c.in-Some.ensures) in
    let P : List Field → Type 0 = λ (fields : List Field). IsTrue c.misfits_field.result ↔ HasOther fields r wanted in
    let y = subst P (c.in_ok-fields-in-Some.ensures ∙ sym (λ i. fields_meant (image i) (types i) r.owner)) c.misfits_field.ensures in
    (λ h. x.0 (y.0 h), λ m. y.1 (x.1 m))
