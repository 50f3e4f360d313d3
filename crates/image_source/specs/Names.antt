-- What is kept of the tokens of an image (ECMA-335 II.22, III.1.9). A type is kept by its table and row, since a cell of another row may
-- name a row past the three bytes of a token.
use Rattle.std.specs.Prelude.{ℕ, ◌/◌, ◌%◌, ◌^◌, Option}
use Rattle.type_terms.specs.declared.term.Owner.{Owner}
use Rattle.body_codec.specs.Names.{NameMap}
use Rattle.kept_names.specs.Keeping.{kept_at}
use Rattle.kept_names.specs.Keys.{row_key}
use Rattle.kept_names.specs.declared.names.KeptNames.{KeptNames}

-- the type that is kept of a row
abbrev pub owner_of_row : KeptNames → (table row : ℕ) → Option Owner
owner_of_row kept table row = kept_at kept.owners.places kept.owners.items (row_key table row)

-- what is told of tokens
abbrev pub names_of : KeptNames → NameMap
names_of kept = record {
  owners = λ token. owner_of_row kept (token / 2 ^ 24) (token % 2 ^ 24);
  methods = kept_at kept.methods.places kept.methods.items;
  fields = kept_at kept.fields.places kept.fields.items;
  locals = kept_at kept.locals.places kept.locals.items;
  texts = kept_at kept.texts.places kept.texts.items;
}
