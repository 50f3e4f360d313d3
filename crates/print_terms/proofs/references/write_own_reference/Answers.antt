use Rattle.print_terms.proofs.Owners.{own_done}
use Rattle.print_terms.proofs.references.write_own_reference.Goals as goal

pub returns : goal.returns
returns c =
    own_done c.args.externs.now c.args.paper.now _ _ _ _ _ _ _ c.args.path.now c.args.name.now c.args.sig.now c.in_ok-write_convention.ensures c.in_ok-write_type.ensures
    c.in_ok-owned.ensures.drawn c.in_ok-owned.ensures.owned c.in_ok-write_member_name.ensures c.in_ok-write_generics.ensures c.in_ok-write_arguments.ensures
