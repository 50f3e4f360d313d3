use Rattle.listing_denotes.proofs.AccessorsLines.{LineLaws}
use Rattle.listing_denotes.proofs.AccessorsWhole.{accessors_break_nothing}
use Rattle.listing_denotes.proofs.accessors.accessors_break_nothing.Goals as goal

pub returns : goal.returns
returns c =
    let laws : LineLaws = record {
      unasked = c.unasked_break_nothing.ensures;
      alone = c.numbers_alone.ensures;
      rows = c.rows_break_nothing.ensures;
      segments = c.segments_are_read.ensures;
      pieces = c.pieces_are_read.ensures;
      searches = c.searches_pass.ensures;
      stand = c.references_stand.ensures;
      readable = c.formed_are_readable.ensures;
      read = c.formed_are_read.ensures;
      references = c.references_break_nothing.ensures;
      plain = c.plain_references_have_none.ensures;
      listings = c.listings_are_read.ensures;
    } in
    accessors_break_nothing laws c.flags_break_nothing.ensures c.constants_break_nothing.ensures c.terms_break_nothing.ensures c.attributes_break_nothing.ensures
    c.conventions_are_read.ensures c.terms_stand.ensures
