use Rattle.image_model.specs.Streams.{strings_of}
use Rattle.kept_owners.proofs.Members.{to_among}
use Rattle.kept_owners.proofs.Paths.{is_table, there, rows_there, some_outward, last_there, name_put}
use Rattle.kept_owners.proofs.names.name_of.Goals as goal

pub path_of-requires-clause-kind : goal.path_of-requires-clause-kind
path_of-requires-clause-kind c = is_table c.requires.short.2

pub path_of-requires-clause-there : goal.path_of-requires-clause-there
path_of-requires-clause-there c =
    rw c.as_slice.ensures (λ r has. rows_there c.args.image.now c.args.table c.args.row c.in_ok-rows.rows c.in_ok-rows.ensures r (to_among r c.in_ok-rows.rows has))

pub path_of-requires-clause-some : goal.path_of-requires-clause-some
path_of-requires-clause-some c =
    rw c.as_slice.ensures (some_outward c.args.image.now c.args.table c.args.row c.in_ok-rows.rows (there c.requires.short.2).0 c.in_ok-rows.ensures)

pub outermost-requires : goal.outermost-requires
outermost-requires c =
    rw c.as_slice-2.ensures (some_outward c.args.image.now c.args.table c.args.row c.in_ok-rows.rows (there c.requires.short.2).0 c.in_ok-rows.ensures)

pub scope_of-scope-requires-clause-kind : goal.scope_of-scope-requires-clause-kind
scope_of-scope-requires-clause-kind c = is_table c.requires.short.2

pub scope_of-scope-requires-clause-there : goal.scope_of-scope-requires-clause-there
scope_of-scope-requires-clause-there c =
    rw (c.outermost.ensures, c.as_slice-2.ensures) (last_there c.args.image.now c.args.table c.args.row c.in_ok-rows.rows (there c.requires.short.2).0 c.in_ok-rows.ensures)

pub returns : goal.returns
returns c = λ owners.
    name_put c.args.image.now (c.one_content_at_an_index.ensures.text (strings_of c.args.image.now)) c.requires.meets.indexes c.requires.short.2 c.in_ok-rows.rows c.as_slice.result.now c.as_slice-2.result.now
    c.in_ok-path.path c.outermost.result c.scope_of-scope.result c.as_slice.ensures c.as_slice-2.ensures c.in_ok-rows.ensures c.in_ok-path.ensures c.outermost.ensures c.scope_of-scope.ensures owners
