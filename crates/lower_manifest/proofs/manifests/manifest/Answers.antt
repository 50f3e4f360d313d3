use Rattle.lower_manifest.proofs.manifests.manifest.Goals as goal

pub returns : goal.returns
returns c s x are h some =
    c.put_together.ensures s (c.in_ok-names.ensures s x.reads are h some) (c.in_ok-signs.ensures s x.reads h) (c.in_ok-numbers.ensures s x.reads are h)
    (c.in_ok-customs.ensures s x are h)
