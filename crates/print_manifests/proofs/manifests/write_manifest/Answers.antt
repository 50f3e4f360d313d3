use Rattle.print_manifests.proofs.ManifestRows.{manifest_done}
use Rattle.print_manifests.proofs.manifests.write_manifest.Goals as goal

pub returns : goal.returns
returns c =
    manifest_done c.args.externs.now c.args.paper.now _ _ _ _ _ c.args.m.now _ _ c.as_slice.ensures c.as_str.ensures c.in_ok-write_assembly.ensures
    c.in_ok-line.ensures c.in_ok-name.ensures c.in_ok-write_attributes.ensures c.in_ok-write_headers.ensures
