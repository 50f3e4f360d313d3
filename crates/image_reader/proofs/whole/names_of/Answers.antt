use Rattle.image_reader.proofs.Trees.{can_name, all_kept}
use Rattle.image_reader.proofs.whole.names_of.Goals as goal

pub keep_owners-requires-clause-meets : goal.keep_owners-requires-clause-meets
keep_owners-requires-clause-meets c = c.requires.meets.structure

pub keep_owners-requires-clause-scopes : goal.keep_owners-requires-clause-scopes
keep_owners-requires-clause-scopes c = c.requires.meets.scopes

pub keep_names-requires-clause-can : goal.keep_names-requires-clause-can
keep_names-requires-clause-can c =
    let names = c.requires.meets.named in
    (names.0, can_name c.args.image.now c.requires.small c.tables-tables.ensures.meets c.requires.meets c.in_ok-known.known c.in_ok-known.ensures.owners names.0 names.1)

pub returns : goal.returns
returns c =
    all_kept c.args.image.now c.requires.small c.tables-tables.ensures.meets c.requires.meets c.in_ok-known.known c.in_ok-known.ensures.owners c.keep_names.result c.keep_names.ensures
