use Rattle.type_hierarchy.specs.Tables.{hierarchy_in}
use Rattle.type_order.proofs.FoundLemmas.{knows_more, noted_own}
use Rattle.type_order.proofs.OwnLemmas.{found_own}
use Rattle.type_order.proofs.own.kept_keys.Goals as goal

pub returns-in-Some-clause-ok : goal.returns-in-Some-clause-ok
returns-in-Some-clause-ok c =
    let e = c.in-Some.ensures in
    found_own (hierarchy_in c.args.tables.now) c.args.pool.now c.args.found.now c.args.path.now c.args.parameters c.in-Some.keys e.0 c.requires.known e.1 e.2 e.3

pub returns-in_err-own-clause-known : goal.returns-in_err-own-clause-known
returns-in_err-own-clause-known c = knows_more (hierarchy_in c.args.tables.now) c.args.pool.now c.made_own.new.pool c.args.found.now c.made_own.ensures.extends c.requires.known

pub returns-clause-known : goal.returns-clause-known
returns-clause-known c =
    let w = hierarchy_in c.args.tables.now in
    noted_own w c.made_own.new.pool c.args.found.now c.in_ok-own.own (knows_more w c.args.pool.now c.made_own.new.pool c.args.found.now c.made_own.ensures.extends c.requires.known) c.in_ok-own.ensures.ok.0
