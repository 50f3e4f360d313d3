use Rattle.print_terms.proofs.Owners.{method_done}
use Rattle.print_terms.proofs.references.write_method_ref.Goals as goal

pub returns : goal.returns
returns c =
    method_done c.args.externs.now c.args.paper.now _ _ _ _ _ _ _ c.args.r.now _ _ c.in_ok-write_convention.ensures c.in_ok-write_type.ensures c.in_ok-owned.ensures.drawn
    c.in_ok-owned.ensures.owned c.as_str.ensures c.as_ref.ensures.value c.in_ok-write_member_name.ensures c.in_ok-write_generics.ensures c.in_ok-write_arguments.ensures
