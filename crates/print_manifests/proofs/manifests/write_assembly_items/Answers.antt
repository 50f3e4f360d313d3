use Rattle.print_manifests.proofs.ManifestRows.{items_done}
use Rattle.print_manifests.proofs.manifests.write_assembly_items.Goals as goal

pub returns : goal.returns
returns c =
    items_done c.args.externs.now c.args.paper.now _ _ _ _ _ _ _ c.args.m.now _ _ _ _ c.as_slice.ensures c.from.ensures c.as_slice-2.ensures c.as_str.ensures
    c.in_ok-write_attributes.ensures c.in_ok-line.ensures c.in_ok-word.ensures c.in_ok-hexadecimal.ensures c.in_ok-write_key.ensures
    c.in_ok-write_culture.ensures c.in_ok-write_version.ensures
