use Rattle.print_terms.proofs.Owners.{arguments_done}
use Rattle.print_terms.proofs.references.write_arguments.Goals as goal

pub returns : goal.returns
returns c = arguments_done c.args.externs.now c.args.paper.now _ _ _ c.args.sig.now c.in_ok-word.ensures c.in_ok-write_params.ensures c.in_ok-word-2.ensures
