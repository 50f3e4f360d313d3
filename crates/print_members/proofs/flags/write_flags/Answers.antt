use Rattle.print_members.proofs.FlagRows.{flags_done}
use Rattle.print_members.proofs.flags.write_flags.Goals as goal

pub returns : goal.returns
returns c =
    flags_done c.args.flags c.said_bits-bits.result c.args.paper.now _ _ c.args.words.now c.in_ok-write_words.ensures c.said_bits-bits.ensures c.in_ok-write_rest.ensures
