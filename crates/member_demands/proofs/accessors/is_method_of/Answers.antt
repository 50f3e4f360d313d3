use Rattle.std.proofs.Common.{sym, subst}
use Rattle.std.specs.Prelude.{Contains}
use Rattle.row_demands.proofs.RunParts.{methods_are}
use Rattle.member_demands.proofs.accessors.is_method_of.Goals as goal

pub returns : goal.returns
returns c =
    let same = methods_are c.args.image.now c.args.type_row in (
      λ yes. subst (λ members. Contains members c.args.method) (sym same) (c.has_member.ensures.0 yes),
      λ has. c.has_member.ensures.1 (subst (λ members. Contains members c.args.method) same has),
    )
