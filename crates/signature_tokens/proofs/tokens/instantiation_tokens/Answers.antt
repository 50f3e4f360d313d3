use Rattle.std.proofs.Common.{List}
use Rattle.std.specs.List.{flat_map}
use Rattle.type_terms.specs.declared.term.SigType.{SigType}
use Rattle.sig_codec.specs.Reading.{whole_instantiation}
use Rattle.image_model.specs.Tokens.{marked, type_tokens, sig_tokens}
use Rattle.signature_facts.specs.Facts.{types_facts}
use Rattle.signature_tokens.specs.Collecting.{locals_at}
use Rattle.signature_tokens.proofs.Answering.{nameless, all_named, marked_bounded, none_told, some_told}
use Rattle.signature_tokens.proofs.Collected.{whole_instantiation_collected}
use Rattle.signature_tokens.proofs.tokens.instantiation_tokens.Goals as goal

pub returns-then-is_none : goal.returns-then-is_none
returns-then-is_none c =
    none_told (types_facts nameless) (λ (ts : List SigType). flat_map type_tokens ts) (whole_instantiation marked c.args.bytes.now) c.scan_instantiation.result c.is_none.result (c.scan_instantiation.ensures.read nameless marked all_named marked_bounded) c.is_none.ensures c.if-is_none.true
    c.args.into.now

pub returns : goal.returns
returns c =
    some_told (types_facts nameless) (λ (ts : List SigType). flat_map type_tokens ts) (whole_instantiation marked c.args.bytes.now) c.scan_instantiation.result c.is_none.result (c.scan_instantiation.ensures.read nameless marked all_named marked_bounded) c.is_none.ensures c.if-is_none.false
    c.args.into.now c.locals_at.new.into c.locals_at.result c.is_walked.result (locals_at c.args.into.now c.args.bytes.now) c.locals_at.ensures c.is_walked.ensures (whole_instantiation_collected c.args.into.now c.args.bytes.now)
