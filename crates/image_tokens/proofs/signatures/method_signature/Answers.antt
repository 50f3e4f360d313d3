use Rattle.std.proofs.Common.{ap, sym, subst, ℕ, ◌+◌, ◌≤◌, List, length, arith}
use Rattle.std.specs.Prelude.{sum_by}
use Rattle.sig_codec.specs.Signature.{SpellsMethod}
use Rattle.type_terms.specs.declared.term.SigType.{SigType}
use Rattle.image_tokens.specs.Noted.{longest}
use Rattle.image_tokens.specs.References.{tokens_of}
use Rattle.image_tokens.specs.Writable.{AreWritable}
use Rattle.image_tokens.proofs.SignatureLemmas.{signed, two_grow, two_fit, method_spelled, params_fit, ret_fits}
use Rattle.image_tokens.proofs.SpellingSizes.{method_within}
use Rattle.image_tokens.proofs.WritableLemmas.{still_writable_each}
use Rattle.image_tokens.proofs.signatures.method_signature.Goals as goal

pub note_type-requires-clause-writable : goal.note_type-requires-clause-writable
note_type-requires-clause-writable c =
    c.requires.writable.ret

pub note_type-requires-clause-room : goal.note_type-requires-clause-room
note_type-requires-clause-room c =
    ret_fits c.args.refs.now c.args.sig.now c.requires.room

pub note_types-requires-clause-known : goal.note_types-requires-clause-known
note_types-requires-clause-known c =
    c.in_ok-note_type.ensures.known

pub note_types-requires-clause-writable : goal.note_types-requires-clause-writable
note_types-requires-clause-writable c =
    still_writable_each c.args.refs.now c.note_type.new.refs c.in_ok-note_type.ensures.grows c.as_slice.result.now (subst (λ (x : List SigType). AreWritable c.args.refs.now x) (sym c.as_slice.ensures) c.requires.writable.params)

pub note_types-requires-clause-room : goal.note_types-requires-clause-room
note_types-requires-clause-room c =
    params_fit c.args.refs.now c.note_type.new.refs c.args.sig.now c.as_slice.result.now c.as_slice.ensures c.requires.room c.in_ok-note_type.ensures

pub encode_method-requires : goal.encode_method-requires
encode_method-requires c =
    method_spelled c.args.refs.now c.note_type.new.refs c.note_types.new.refs c.args.sig.now c.as_slice.result.now c.as_slice.ensures c.requires.writable c.in_ok-note_type.ensures c.in_ok-note_types.ensures

pub refer_blob-requires-clause-known : goal.refer_blob-requires-clause-known
refer_blob-requires-clause-known c =
    c.in_ok-note_types.ensures.known

pub refer_blob-requires-clause-room : goal.refer_blob-requires-clause-room
refer_blob-requires-clause-room c =
    let short = method_within (tokens_of c.note_types.new.refs) c.args.sig.now c.in_ok-bytes.bytes c.in_ok-bytes.ensures in
    let le : length c.in_ok-bytes.bytes ≤ 10 + longest c.args.sig.now.ret + sum_by longest c.args.sig.now.params = omega arith in
    let fits = two_fit c.args.refs.now c.note_type.new.refs c.note_types.new.refs c.args.sig.now c.as_slice.result.now (length c.in_ok-bytes.bytes) c.as_slice.ensures c.in_ok-note_type.ensures c.in_ok-note_types.ensures le in
    let long = ap (length {A = ℕ}) c.as_slice-2.ensures in
    let room = c.requires.room in
    omega arith

pub returns : goal.returns
returns c =
    let short = method_within (tokens_of c.note_types.new.refs) c.args.sig.now c.in_ok-bytes.bytes c.in_ok-bytes.ensures in
    let le : length c.in_ok-bytes.bytes ≤ 10 + longest c.args.sig.now.ret + sum_by longest c.args.sig.now.params = omega arith in
    let fits = two_fit c.args.refs.now c.note_type.new.refs c.note_types.new.refs c.args.sig.now c.as_slice.result.now (length c.in_ok-bytes.bytes) c.as_slice.ensures c.in_ok-note_type.ensures c.in_ok-note_types.ensures le in
    signed SpellsMethod c.args.refs.now c.note_types.new.refs c.refer_blob.new.refs c.args.sig.now c.in_ok-bytes.bytes c.as_slice-2.result.now _ c.refer_blob.result (two_grow c.args.refs.now c.note_type.new.refs c.note_types.new.refs c.args.sig.now.ret c.as_slice.result.now c.in_ok-note_type.ensures c.in_ok-note_types.ensures)
    c.in_ok-bytes.ensures c.as_slice-2.ensures c.refer_blob.ensures.goes c.refer_blob.ensures.holds fits
