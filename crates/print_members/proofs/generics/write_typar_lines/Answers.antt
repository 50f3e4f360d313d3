use Rattle.print_members.proofs.Steps.{typars_step}
use Rattle.print_members.proofs.generics.write_typar_lines.Goals as goal

pub loop-place-preserved : goal.loop-place-preserved
loop-place-preserved c =
    typars_step c.args.externs.now c.loop-place.paper _ _ c.loop-place.place c.index-generics-place.result c.args.generics.now c.loop-place-test.true
    c.index-generics-place.is c.in_ok-write_typar_line.ensures c.loop-place.invariant
