use Rattle.run_images.proofs.Numbered.{numbered}
use Rattle.run_images.proofs.laws.faults_are_numbered.Goals as goal

pub returns : goal.returns
returns c = numbered
