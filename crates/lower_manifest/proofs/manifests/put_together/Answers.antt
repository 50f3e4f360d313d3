use Rattle.lower_manifest.proofs.ManifestLemmas.{same_manifest}
use Rattle.lower_manifest.proofs.manifests.put_together.Goals as goal

pub returns : goal.returns
returns c s n g m k =
    same_manifest _ _ _ _ _ _ _ _ _ _ _ _ _ _ _ _ _ _ _ _ _ _ _ _ _ _ _ _ n.name-is n.version-is g.flags-are g.key-is g.culture-is m.hash-is
    n.module-is m.base-is m.alignment-is m.reserve-is m.subsystem-is m.cor-flags-are k.assembly-are k.outside-are
