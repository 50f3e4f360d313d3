use Rattle.type_hierarchy.specs.Tables.{hierarchy_in}
use Rattle.type_order.proofs.FoundLemmas.{knows_parents}
use Rattle.type_order.proofs.found.found_parent.Goals as goal

pub returns-clause-known : goal.returns-clause-known
returns-clause-known c =
    knows_parents (hierarchy_in c.args.tables.now) c.args.pool.now c.kept_parent.new.pool c.args.found.now c.kept_parent.new.parents c.kept_parent.ensures.extends c.requires.known c.kept_parent.ensures.known
