use Rattle.std.proofs.Common.{subst}
use Rattle.field_data.specs.Kinds.{IsOfKind}
use Rattle.data_demands.proofs.Sizing.{of_width, of_none, of_layout}
use Rattle.data_demands.proofs.sizes.size_of_kind.Goals as goal

pub returns-in-Bytes : goal.returns-in-Bytes
returns-in-Bytes c owners t tells is = of_width c.args.image.now owners t c.in-Bytes.width (subst (IsOfKind c.args.image.now owners t) c.in-Bytes.is is)

pub size_of_type-requires-clause-there : goal.size_of_type-requires-clause-there
size_of_type-requires-clause-there c = c.named_type.ensures.there

pub returns-in-Value : goal.returns-in-Value
returns-in-Value c owners t tells is =
    of_layout c.args.image.now owners t c.in-Value.token c.named_type.result c.size_of_type.result (subst (IsOfKind c.args.image.now owners t) c.in-Value.is is)
    (λ name e. c.named_type.ensures.called owners name tells e) c.size_of_type.ensures

pub returns-in-Sizeless : goal.returns-in-Sizeless
returns-in-Sizeless c owners t tells is = of_none c.args.image.now owners t (subst (IsOfKind c.args.image.now owners t) c.in-Sizeless.is is)
