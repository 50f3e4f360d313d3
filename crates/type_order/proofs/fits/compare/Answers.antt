use Rattle.sig_pool.specs.Terms.{term_of}
use Rattle.type_hierarchy.specs.Tables.{hierarchy_in}
use Rattle.type_order.proofs.FitLemmas.{plain_refers}
use Rattle.type_order.proofs.fits.compare.Goals as goal

pub returns-in_ok-fits-in-None-clause-ok : goal.returns-in_ok-fits-in-None-clause-ok
returns-in_ok-fits-in-None-clause-ok c =
    plain_refers (hierarchy_in c.args.tables.now) (term_of c.args.pool.now c.args.a) (term_of c.args.pool.now c.args.b) c.in_ok-fits-in-None.fits c.in-None.ensures.none c.in_ok-fits-in-None.ensures.ok
