-- answers for src/laws.rt
use Rattle.image_model.specs.Streams.{strings_of}
use Rattle.laws_image_reading.proofs.members.ValueDemands.{values_held}
use Rattle.laws_image_reading.proofs.members_laws.values_hold.Goals as goal

pub returns : goal.returns
returns c = λ a classes r tables code entry id kind image f l formed light readable bounded names namings back.
    values_held (record {
      reread = record {
        types = λ tokens owners gives x bytes h. c.shortest_is_read.ensures.type_of owners x bytes (c.written_is_read.ensures.type_of tokens owners gives x bytes h);
        fields = λ tokens owners gives x bytes h. c.shortest_is_read.ensures.field owners x bytes (c.written_is_read.ensures.field tokens owners gives x bytes h);
        methods = λ tokens owners gives x bytes h. c.shortest_is_read.ensures.method owners x bytes (c.written_is_read.ensures.method tokens owners gives x bytes h);
        properties = λ tokens owners gives x bytes h. c.shortest_is_read.ensures.property owners x bytes (c.written_is_read.ensures.property tokens owners gives x bytes h);
        locals = λ tokens owners gives x bytes h. c.shortest_is_read.ensures.locals owners x bytes (c.written_is_read.ensures.locals tokens owners gives x bytes h);
        arguments = λ tokens owners gives x bytes h. c.shortest_is_read.ensures.instantiation owners x bytes (c.written_is_read.ensures.instantiation tokens owners gives x bytes h);
      };
      items = c.items_are_read.ensures;
      owned = c.owned_are_read.ensures;
      constants = c.constants_are_read.ensures;
      content = c.code_is_read.ensures;
    }) (record {
      law = c.indexes_fit.ensures;
      text = λ image. c.one_content_at_an_index.ensures.text (strings_of image);
      blob = c.one_content_at_an_index.ensures.blob;
      rows = c.rows_are_read.ensures;
      runs = c.runs_are_read.ensures;
      paths = c.paths_are_read.ensures;
      owned = c.members_are_owned.ensures;
      parents = c.parents_are_read.ensures;
      fields = record {
        rereads = λ tokens owners gives x bytes h. c.shortest_is_read.ensures.field owners x bytes (c.written_is_read.ensures.field tokens owners gives x bytes h);
        one = λ owners bytes x y h fits k other. c.bytes_spell_one_signature.ensures.field owners bytes x y (h, fits.0, fits.1) (k, other.0, other.1);
      };
      methods = record {
        rereads = λ tokens owners gives x bytes h. c.shortest_is_read.ensures.method owners x bytes (c.written_is_read.ensures.method tokens owners gives x bytes h);
        one = λ owners bytes x y h fits k other. c.bytes_spell_one_signature.ensures.method owners bytes x y (h, fits.0, fits.1) (k, other.0, other.1);
      };
      arguments = record {
        rereads = λ tokens owners gives x bytes h. c.shortest_is_read.ensures.instantiation owners x bytes (c.written_is_read.ensures.instantiation tokens owners gives x bytes h);
        one = λ owners bytes x y h fits k other. c.bytes_spell_one_signature.ensures.instantiation owners bytes x y (h, fits.0, fits.1) (k, other.0, other.1);
      };
    }) a classes r tables code image (c.laid_out_is_written.ensures a classes r tables code entry id kind image f l) l.code_is formed light readable bounded names namings back
