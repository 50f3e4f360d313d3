use Rattle.std.proofs.Common.{◌≡◌, ap, subst, sym, ◌∙◌, arith}
use Rattle.metadata_tables.specs.Stream.{row_count}
use Rattle.image_model.specs.Rows.{count_of}
use Rattle.image_model.specs.Streams.{strings_of}
use Rattle.type_names.specs.Numbers.{TellNames}
use Rattle.data_demands.specs.Measured.{IsOneCalled, type_or_none, type_of_token}
use Rattle.data_demands.proofs.Calling.{token_called}
use Rattle.data_demands.proofs.named_types.named_type.Goals as goal

pub returns-clause-there : goal.returns-clause-there
returns-clause-there c some =
    let types : c.rows-types.result ≡ count_of c.args.image.now 0x02 = c.rows-types.ensures.rows ∙ ap (λ stream. row_count stream 0x02) c.tables.ensures.tables in
    let within = c.type_or_none.ensures.within in
    (some, omega arith)

pub returns-clause-called : goal.returns-clause-called
returns-clause-called c owners name tells e =
    let image = c.args.image.now in
    let named = c.args.names.now.named in
    let tell : TellNames image named = subst (λ i. TellNames i named) c.requires.same c.tell_names.ensures in
    let types : c.rows-types.result ≡ count_of image 0x02 = c.rows-types.ensures.rows ∙ ap (λ stream. row_count stream 0x02) c.tables.ensures.tables in
    let found : c.type_or_none.result ≡ type_of_token image named c.args.token
    = c.type_or_none.ensures.is ∙ ap (λ n. type_or_none n c.token_number.result) types ∙ ap (type_or_none (count_of image 0x02)) c.token_number.ensures in
    subst (IsOneCalled image name) (sym found) (token_called image (c.one_content_at_an_index.ensures.text (strings_of image)) c.requires.can named tell owners c.args.token name tells e)
