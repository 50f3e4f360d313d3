-- answers for src/laws.rt
use Rattle.std.proofs.Common.{arith}
use Rattle.assembly_tree.proofs.FormedFacts.{assemblies_named}
use Rattle.sig_codec.specs.Signature.{SpellsField, SpellsMethod, SpellsProperty}
use Rattle.image_model.specs.Streams.{strings_of}
use Rattle.laws_image_parts.proofs.names.PlaceLemmas.{enclosers_low}
use Rattle.laws_image_reading.proofs.kinds.Distinct.{AreTold, distinct_meet}
use Rattle.laws_image_reading.proofs.kinds.Formed.{fields_taken, formed_classes, methods_taken, properties_taken}
use Rattle.laws_image_reading.proofs.kinds.MapRuns.{module_events, module_properties}
use Rattle.laws_image_reading.proofs.kinds.Nodes.{SignatureTaken, TypeTaken}
use Rattle.laws_image_reading.proofs.kinds.Paths.{types_new}
use Rattle.laws_image_reading.proofs.kinds_laws.none_stands_twice.Goals as goal

pub returns : goal.returns
returns c = λ a classes r tables code entry id kind image f l formed light names namings back.
    let w = c.laid_out_is_written.ensures a classes r tables code entry id kind image f l in
    let rows = c.rows_are_read.ensures a classes r tables code image f w.reads in
    let runs = c.runs_are_read.ensures a classes r code image rows in
    let paths = c.paths_are_read.ensures a classes r tables code image w in
    let text = c.one_content_at_an_index.ensures.text (strings_of image) in
    let types = rows.types.types.count in
    let law = c.indexes_fit.ensures in
    let field_law : AreTold SpellsField TypeTaken = record {
      rereads = λ tokens owners gives x bytes h. c.shortest_is_read.ensures.field owners x bytes (c.written_is_read.ensures.field tokens owners gives x bytes h);
      one = λ owners bytes x y h fits k other. c.bytes_spell_one_signature.ensures.field owners bytes x y (h, fits.0, fits.1) (k, other.0, other.1);
    } in
    let method_law : AreTold SpellsMethod SignatureTaken = record {
      rereads = λ tokens owners gives x bytes h. c.shortest_is_read.ensures.method owners x bytes (c.written_is_read.ensures.method tokens owners gives x bytes h);
      one = λ owners bytes x y h fits k other. c.bytes_spell_one_signature.ensures.method owners bytes x y (h, fits.0, fits.1) (k, other.0, other.1);
    } in
    let property_law : AreTold SpellsProperty SignatureTaken = record {
      rereads = λ tokens owners gives x bytes h. c.shortest_is_read.ensures.property owners x bytes (c.written_is_read.ensures.property tokens owners gives x bytes h);
      one = λ owners bytes x y h fits k other. c.bytes_spell_one_signature.ensures.property owners bytes x y (h, fits.0, fits.1) (k, other.0, other.1);
    } in
    distinct_meet c.orders_are_total.ensures.terms field_law method_law property_law a classes r code image text c.one_content_at_an_index.ensures.blob w.heaps rows runs types
    ((assemblies_named a).0 formed) (formed_classes a classes f.classes_are formed light) names back.owners
    (types_new classes image paths.places_are (c.types_are_declarable.ensures a classes formed f.classes_are).apart (enclosers_low f.classes_are (omega arith)) text types)
    (module_events law a classes r code image rows) (module_properties law a classes r code image rows) (fields_taken a classes f.classes_are formed light)
    (methods_taken a classes f.classes_are formed light) (properties_taken a classes f.classes_are formed light)
