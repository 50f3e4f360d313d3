use Rattle.std.proofs.Common.{ap, sym, subst, ℕ, List, length, arith}
use Rattle.sig_codec.specs.Signature.{SpellsInstantiation}
use Rattle.sig_codec.specs.Spellable.{HaveSpellings}
use Rattle.type_terms.specs.declared.term.SigType.{SigType}
use Rattle.image_tokens.specs.References.{tokens_of}
use Rattle.image_tokens.specs.Writable.{AreWritable}
use Rattle.image_tokens.proofs.SignatureLemmas.{signed, types_fit, lent_fit}
use Rattle.image_tokens.proofs.SpellingSizes.{instantiation_within}
use Rattle.image_tokens.proofs.signatures.arguments_signature.Goals as goal

pub note_types-requires-clause-writable : goal.note_types-requires-clause-writable
note_types-requires-clause-writable c =
    subst (λ (x : List SigType). AreWritable c.args.refs.now x) (sym c.as_slice.ensures) c.requires.writable

pub note_types-requires-clause-room : goal.note_types-requires-clause-room
note_types-requires-clause-room c =
    lent_fit c.args.refs.now c.args.args.now c.as_slice.result.now c.as_slice.ensures c.requires.room

pub encode_instantiation-requires : goal.encode_instantiation-requires
encode_instantiation-requires c =
    (c.requires.some, c.requires.count, subst (λ (x : List SigType). HaveSpellings (tokens_of c.note_types.new.refs) x) c.as_slice.ensures c.in_ok-note_types.ensures.spells)

pub refer_blob-requires-clause-known : goal.refer_blob-requires-clause-known
refer_blob-requires-clause-known c =
    c.in_ok-note_types.ensures.known

pub refer_blob-requires-clause-room : goal.refer_blob-requires-clause-room
refer_blob-requires-clause-room c =
    let short = instantiation_within (tokens_of c.note_types.new.refs) c.args.args.now c.in_ok-bytes.bytes c.in_ok-bytes.ensures in
    let fits = types_fit c.args.refs.now c.note_types.new.refs c.args.args.now c.as_slice.result.now (length c.in_ok-bytes.bytes) c.as_slice.ensures c.in_ok-note_types.ensures short in
    let long = ap (length {A = ℕ}) c.as_slice-2.ensures in
    let room = c.requires.room in
    omega arith

pub returns : goal.returns
returns c =
    let short = instantiation_within (tokens_of c.note_types.new.refs) c.args.args.now c.in_ok-bytes.bytes c.in_ok-bytes.ensures in
    let fits = types_fit c.args.refs.now c.note_types.new.refs c.args.args.now c.as_slice.result.now (length c.in_ok-bytes.bytes) c.as_slice.ensures c.in_ok-note_types.ensures short in
    signed SpellsInstantiation c.args.refs.now c.note_types.new.refs c.refer_blob.new.refs c.args.args.now c.in_ok-bytes.bytes c.as_slice-2.result.now _ c.refer_blob.result c.in_ok-note_types.ensures.grows c.in_ok-bytes.ensures c.as_slice-2.ensures
    c.refer_blob.ensures.goes c.refer_blob.ensures.holds fits
