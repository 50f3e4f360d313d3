use Rattle.image_ready.proofs.Truth.{assembly_true}
use Rattle.image_ready.proofs.laws.what_is_read_is_so.Goals as goal

pub returns : goal.returns
returns c = λ image names kept sizes a meets h. assembly_true image names kept sizes meets c.signatures_hang_on_tokens.ensures c.bodies_hang_on_tokens.ensures a h
