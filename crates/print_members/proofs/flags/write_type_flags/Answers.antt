use Rattle.std.proofs.Common.{refl}
use Rattle.listing_model.specs.Flags.{type_access, nested_access}
use Rattle.print_members.proofs.FlagRows.{rows, type_done}
use Rattle.print_members.proofs.flags.write_type_flags.Goals as goal

pub returns : goal.returns
returns c =
    type_done c.args.flags c.args.paper.now _ _ _ (rows type_access) (rows nested_access) refl refl c.in_ok-write_words.ensures
    c.in_ok-write_nested_words.ensures c.in_ok-write_flags.ensures
