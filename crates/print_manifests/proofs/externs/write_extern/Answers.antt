use Rattle.std.proofs.lemmas.Option.{slice_get_within}
use Rattle.print_manifests.proofs.ExternRows.{extern_done}
use Rattle.print_manifests.proofs.externs.write_extern.Goals as goal

pub is_aliased-requires : goal.is_aliased-requires
is_aliased-requires c = slice_get_within c.args.keys.now c.args.place c.args.of.now c.requires

pub returns : goal.returns
returns c =
    extern_done c.args.keys.now c.args.paper.now _ _ _ _ _ _ _ _ c.args.place c.args.of.now c.is_aliased.result _ c.requires c.is_aliased.ensures c.as_str.ensures
    c.in_ok-line.ensures c.in_ok-word.ensures c.in_ok-write_flags.ensures c.in_ok-name.ensures c.in_ok-write_alias.ensures c.in_ok-open_braces.ensures
    c.in_ok-write_extern_items.ensures c.in_ok-close_braces.ensures
