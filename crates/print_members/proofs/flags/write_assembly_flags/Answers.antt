use Rattle.ilasm_grammar.specs.declared.nonterminals.TheConstants as n
use Rattle.ilasm_grammar.specs.declared.productions.TheConstants as p
use Rattle.listing_model.specs.Flags.{assembly_words}
use Rattle.print_members.proofs.FlagRows.{kind_done}
use Rattle.print_members.proofs.flags.write_assembly_flags.Goals as goal

pub returns : goal.returns
returns c = kind_done n.ASSEMBLY_ATTR p.ASSEMBLY_ATTR_FLAGS assembly_words c.args.flags c.args.paper.now _ c.in_ok-write_flags.ensures
