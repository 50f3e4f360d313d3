use Rattle.image_model.proofs.OneFault.{one_fault}
use Rattle.image_model.proofs.laws.an_image_has_one_fault.Goals as goal

pub returns : goal.returns
returns c = λ image rule other at there h k. one_fault image c.one_fault.ensures rule other at there h k
