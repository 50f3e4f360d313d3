use Rattle.std.proofs.Common.{List}
use Rattle.std.specs.List.{flat_map}
use Rattle.type_terms.specs.declared.term.SigType.{SigType}
use Rattle.sig_codec.specs.Reading.{whole_property}
use Rattle.image_model.specs.Tokens.{marked, type_tokens, sig_tokens}
use Rattle.signature_facts.specs.Facts.{method_facts}
use Rattle.signature_tokens.specs.Collecting.{property_at}
use Rattle.signature_tokens.proofs.Answering.{nameless, all_named, marked_bounded, none_told, some_told}
use Rattle.signature_tokens.proofs.Collected.{whole_property_collected}
use Rattle.signature_tokens.proofs.tokens.property_tokens.Goals as goal

pub returns-then-is_none : goal.returns-then-is_none
returns-then-is_none c =
    none_told (method_facts nameless) sig_tokens (whole_property marked c.args.bytes.now) c.scan_property.result c.is_none.result (c.scan_property.ensures.read nameless marked all_named marked_bounded) c.is_none.ensures c.if-is_none.true
    c.args.into.now

pub returns : goal.returns
returns c =
    some_told (method_facts nameless) sig_tokens (whole_property marked c.args.bytes.now) c.scan_property.result c.is_none.result (c.scan_property.ensures.read nameless marked all_named marked_bounded) c.is_none.ensures c.if-is_none.false
    c.args.into.now c.property_at.new.into c.property_at.result c.is_walked.result (property_at c.args.into.now c.args.bytes.now) c.property_at.ensures c.is_walked.ensures (whole_property_collected c.args.into.now c.args.bytes.now)
