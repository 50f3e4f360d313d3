use Rattle.image_model.proofs.MetadataLemmas.{length-filled}
use Rattle.image_model.proofs.metadata.filled_size.Goals as goal

pub returns-clause-size : goal.returns-clause-size
returns-clause-size c = length-filled c.args.stream.now
