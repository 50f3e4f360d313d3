use Rattle.listing_denotes.proofs.ClassesWhole.{ClassLaws, types_break_nothing}
use Rattle.listing_denotes.proofs.classes.types_break_nothing.Goals as goal

pub returns : goal.returns
returns c =
    let laws : ClassLaws = record {
      unasked = c.unasked_break_nothing.ensures;
      numbers = c.numbers_are_read.ensures;
      alone = c.numbers_alone.ensures;
      rows = c.rows_break_nothing.ensures;
      segments = c.segments_are_read.ensures;
      pieces = c.pieces_are_read.ensures;
      searches = c.searches_pass.ensures;
      flags = c.flags_break_nothing.ensures;
      terms = c.terms_break_nothing.ensures;
      attributes = c.attributes_break_nothing.ensures;
      generics = c.generics_break_nothing.ensures;
      fields = c.fields_break_nothing.ensures;
      methods = c.methods_break_nothing.ensures;
      accessors = c.accessors_break_nothing.ensures;
      method_heads = c.heads_are_read.ensures;
      read = c.generics_are_read.ensures;
      forms = c.method_rows_are_read.ensures;
      heads = c.class_heads_are_read.ensures;
      bodies = c.class_bodies_are_read.ensures;
      formed = c.types_are_formed.ensures;
      listings = c.listings_are_read.ensures;
    } in
    types_break_nothing laws c.types_stand.ensures c.declarations_are_read.ensures
