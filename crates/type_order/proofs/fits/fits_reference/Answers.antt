use Rattle.type_hierarchy.specs.Relations.{null_ref}
use Rattle.type_order.proofs.WalkLemmas.{true_when}
use Rattle.type_order.proofs.fits.fits_reference.Goals as goal

pub returns-in-Null-clause-ok : goal.returns-in-Null-clause-ok
returns-in-Null-clause-ok c = rw c.in-Null.is (true_when null_ref)
