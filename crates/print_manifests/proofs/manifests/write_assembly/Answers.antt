use Rattle.print_manifests.proofs.ManifestRows.{assembly_done}
use Rattle.print_manifests.proofs.manifests.write_assembly.Goals as goal

pub returns : goal.returns
returns c =
    assembly_done c.args.externs.now c.args.paper.now _ _ _ _ _ _ c.args.m.now _ c.as_str.ensures c.in_ok-line.ensures c.in_ok-write_flags.ensures
    c.in_ok-name.ensures c.in_ok-open_braces.ensures c.in_ok-write_assembly_items.ensures c.in_ok-close_braces.ensures
