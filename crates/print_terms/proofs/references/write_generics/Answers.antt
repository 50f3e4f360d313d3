use Rattle.std.proofs.Common.{ap}
use Rattle.std.specs.Option.{option_copied}
use Rattle.print_terms.proofs.Owners.{generics_done}
use Rattle.print_terms.proofs.references.write_generics.Goals as goal

pub returns-in_ok-word-in-Some-2 : goal.returns-in_ok-word-in-Some-2
returns-in_ok-word-in-Some-2 c =
    generics_done c.args.externs.now c.args.paper.now _ _ _ c.args.count _ _ _ (ap option_copied c.in-Some.is) c.as_slice.ensures c.in_ok-word-in-Some.ensures
    c.in_ok-write_types-in-Some.ensures c.in_ok-word-in-Some-2.ensures
