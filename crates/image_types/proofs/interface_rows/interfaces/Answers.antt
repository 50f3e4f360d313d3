use Rattle.sorted_owners.specs.Rising.{rising}
use Rattle.image_model.specs.Reading.{AreInterfaces}
use Rattle.image_model.specs.Streams.{strings_of, blobs_of}
use Rattle.image_source.specs.Names.{names_of}
use Rattle.row_parts.proofs.Zips.{ok_as}
use Rattle.image_types.proofs.InterfaceSets.{interfaces_are}
use Rattle.image_types.proofs.interface_rows.interfaces.Goals as goal

pub returns : goal.returns
returns c =
    let image = c.args.source.now.image.now in
    let names = names_of c.args.source.now.kept.now in
    ok_as (AreInterfaces image names c.args.row) c.rising.result (rising c.in_ok-each.each) c.rising.ensures
    (interfaces_are image names (c.one_content_at_an_index.ensures.text (strings_of image)) (c.one_content_at_an_index.ensures.blob (blobs_of image)) c.read_is_spelled.ensures.type_of c.orders_are_total.ensures.owners c.args.row c.in_ok-each.each c.in_ok-each.ensures)
