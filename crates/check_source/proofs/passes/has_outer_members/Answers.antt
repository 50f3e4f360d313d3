use Rattle.std.proofs.Common.{◌∙◌, arith, refl}
use Rattle.ilasm_grammar.specs.declared.productions.TheConstants.{DECL_FIELD, DECL_METHOD}
use Rattle.check_source.proofs.OuterMembers.{fields_counted, methods_counted}
use Rattle.check_source.proofs.passes.has_outer_members.Goals as goal

pub returns-then-fields-gt0 : goal.returns-then-fields-gt0
returns-then-fields-gt0 c nodes census =
    fields_counted c.count-fields.result nodes c.if-fields-gt0.true (c.count-fields.ensures ∙ census DECL_FIELD refl)

pub returns-else-fields-gt0 : goal.returns-else-fields-gt0
returns-else-fields-gt0 c nodes census =
    let fields = c.count-fields.ensures ∙ census DECL_FIELD refl in
    methods_counted c.count-methods.result nodes (omega (arith, fields, c.if-fields-gt0.false)) (c.count-methods.ensures ∙ census DECL_METHOD refl)
