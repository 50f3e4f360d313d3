-- answers for src/laws.rt
use Rattle.laws_image_parts.proofs.ManifestFacts.{manifest_is_read}
use Rattle.laws_image_parts.proofs.laws.manifest_is_read.Goals as goal

pub returns : goal.returns
returns c = manifest_is_read
