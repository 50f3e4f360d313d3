use Rattle.print_terms.proofs.Owners.{field_done}
use Rattle.print_terms.proofs.references.write_field_ref.Goals as goal

pub returns : goal.returns
returns c =
    field_done c.args.externs.now c.args.paper.now _ _ _ c.args.r.now _ c.in_ok-write_type.ensures c.in_ok-write_target_owner.ensures.drawn c.as_str.ensures c.in_ok-name.ensures
