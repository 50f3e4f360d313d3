use Rattle.std.proofs.Common.{arith}
use Rattle.std.proofs.lemmas.List.Elements.{Contains-get_or}
use Rattle.kept_owners.proofs.Ids.{ids_init, ids_next, ids_all}
use Rattle.kept_owners.proofs.names.path_of.Goals as goal

pub first_of-requires-clause-there : goal.first_of-requires-clause-there
first_of-requires-clause-there c = c.requires.there _ (Contains-get_or c.args.rows.now _ 0 (let some = c.requires.some in omega arith))

pub id_of-requires-clause-there : goal.id_of-requires-clause-there
id_of-requires-clause-there c = c.requires.there _ (Contains-get_or c.args.rows.now _ 0 (let some = c.requires.some in omega arith))

pub loop-k-init : goal.loop-k-init
loop-k-init c = ids_init c.args.image.now c.args.table c.args.rows.now _ c.in_ok-path.path (let some = c.requires.some in omega arith) c.in_ok-path.ensures

pub loop-k-preserved : goal.loop-k-preserved
loop-k-preserved c =
    ids_next c.args.image.now c.args.table c.args.rows.now _ c.loop-k.k c.loop-k.path c.add.new.path c.id_of.result (let some = c.requires.some in omega arith) c.loop-k-test.true c.loop-k.invariant c.id_of.ensures
    c.in_ok-add.ensures

pub returns : goal.returns
returns c = ids_all c.args.image.now c.args.table c.args.rows.now _ c.loop-k.k c.loop-k.path (omega arith) c.loop-k.invariant
