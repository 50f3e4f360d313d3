use Rattle.print_manifests.proofs.ExternRows.{is_there, externs_step}
use Rattle.print_manifests.proofs.externs.write_externs.Goals as goal

pub write_extern-requires : goal.write_extern-requires
write_extern-requires c =
    is_there c.args.externs.now c.args.keys.now c.loop-place.place c.index-externs-place.result c.requires c.loop-place-test.true c.index-externs-place.is

pub loop-place-preserved : goal.loop-place-preserved
loop-place-preserved c =
    externs_step c.args.externs.now c.args.keys.now c.loop-place.paper _ _ c.loop-place.place c.index-externs-place.result c.requires
    c.loop-place-test.true c.index-externs-place.is c.in_ok-write_extern.ensures c.loop-place.invariant
