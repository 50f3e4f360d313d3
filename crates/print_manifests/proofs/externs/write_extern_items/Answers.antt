use Rattle.print_manifests.proofs.ExternRows.{extern_items_done}
use Rattle.print_manifests.proofs.externs.write_extern_items.Goals as goal

pub returns : goal.returns
returns c =
    extern_items_done c.args.paper.now _ _ _ _ c.args.of.now _ _ _ c.as_slice.ensures c.as_str.ensures c.as_slice-2.ensures c.in_ok-write_key.ensures
    c.in_ok-write_culture.ensures c.in_ok-write_hash.ensures c.in_ok-write_version.ensures
