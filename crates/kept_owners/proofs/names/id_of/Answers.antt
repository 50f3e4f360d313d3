use Rattle.heaps.specs.Content.{HasText}
use Rattle.metadata_tables.specs.Stream.{cell}
use Rattle.image_model.specs.Streams.{tables_of, strings_of}
use Rattle.row_parts.proofs.Zips.{ok_has}
use Rattle.kept_owners.proofs.Ids.{name_column, space_column}
use Rattle.kept_owners.proofs.names.id_of.Goals as goal

pub text_of-requires-clause-column : goal.text_of-requires-clause-column
text_of-requires-clause-column c = (space_column c.args.table c.requires.kind).0

pub text_of-requires-clause-kind : goal.text_of-requires-clause-kind
text_of-requires-clause-kind c = (space_column c.args.table c.requires.kind).1

pub text_of-requires-2-clause-column : goal.text_of-requires-2-clause-column
text_of-requires-2-clause-column c = (name_column c.args.table c.requires.kind).0

pub text_of-requires-2-clause-kind : goal.text_of-requires-2-clause-kind
text_of-requires-2-clause-kind c = (name_column c.args.table c.requires.kind).1

pub returns : goal.returns
returns c =
    let image = c.args.image.now in
    let it = c.in_ok-space in
    record {
      space = ok_has (λ x. HasText (strings_of image) (cell (tables_of image) c.args.table c.args.row 2) x) c.text_of.result it.space c.in_ok-space.ensures.0 c.text_of.ensures;
      name = ok_has (λ x. HasText (strings_of image) (cell (tables_of image) c.args.table c.args.row 1) x) c.text_of-2.result it.name c.in_ok-space.ensures.1 c.text_of-2.ensures;
    }
