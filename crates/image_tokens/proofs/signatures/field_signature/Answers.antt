use Rattle.std.proofs.Common.{ap, ℕ, ◌+◌, ◌≤◌, length, arith}
use Rattle.assembly_tree.specs.Weight.{type_weight}
use Rattle.sig_codec.specs.Signature.{SpellsField}
use Rattle.image_tokens.specs.References.{tokens_of, size}
use Rattle.image_tokens.proofs.SignatureLemmas.{signed}
use Rattle.image_tokens.proofs.SpellingSizes.{field_within}
use Rattle.image_tokens.proofs.signatures.field_signature.Goals as goal

pub encode_field-requires : goal.encode_field-requires
encode_field-requires c =
    c.in_ok-note_type.ensures.spells

pub refer_blob-requires-clause-known : goal.refer_blob-requires-clause-known
refer_blob-requires-clause-known c =
    c.in_ok-note_type.ensures.known

pub refer_blob-requires-clause-room : goal.refer_blob-requires-clause-room
refer_blob-requires-clause-room c =
    let short = field_within (tokens_of c.note_type.new.refs) c.args.of.now c.in_ok-bytes.bytes c.in_ok-bytes.ensures in
    let noted = c.in_ok-note_type.ensures.room in
    let long = ap (length {A = ℕ}) c.as_slice.ensures in
    let room = c.requires.room in
    omega arith

pub returns : goal.returns
returns c =
    let short = field_within (tokens_of c.note_type.new.refs) c.args.of.now c.in_ok-bytes.bytes c.in_ok-bytes.ensures in
    let noted = c.in_ok-note_type.ensures.room in
    let fits : size c.note_type.new.refs + (length c.in_ok-bytes.bytes + 4) ≤ size c.args.refs.now + type_weight c.args.of.now = omega arith in
    signed SpellsField c.args.refs.now c.note_type.new.refs c.refer_blob.new.refs c.args.of.now c.in_ok-bytes.bytes c.as_slice.result.now _ c.refer_blob.result c.in_ok-note_type.ensures.grows c.in_ok-bytes.ensures c.as_slice.ensures
    c.refer_blob.ensures.goes c.refer_blob.ensures.holds fits
