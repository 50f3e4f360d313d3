use Rattle.std.proofs.Common.{◌≡◌, ◌+◌, ◌≤◌, length, arith}
use Rattle.assembly_tree.specs.Weight.{signature_weight}
use Rattle.assembly_tree.specs.declared.members.Method.{Method}
use Rattle.sig_codec.specs.Signature.{SpellsMethod}
use Rattle.image_members.specs.DeclaredMembers.{method_bytes}
use Rattle.image_members.proofs.DeclaredLemmas.{own_row_added, method_bytes_are}
use Rattle.image_tokens.proofs.BodyLemmas.{signature_can}
use Rattle.image_members.proofs.declared_members.declare_method.Goals as goal

pub refer_text-requires-clause-no_zero : goal.refer_text-requires-clause-no_zero
refer_text-requires-clause-no_zero c = c.requires.declarable.name

pub refer_text-requires-clause-room : goal.refer_text-requires-clause-room
refer_text-requires-clause-room c = let bytes = method_bytes_are c.args.method.now in let room = c.requires.room in omega arith

pub method_signature-requires-clause-known : goal.method_signature-requires-clause-known
method_signature-requires-clause-known c = c.in_ok-name.ensures.known

pub method_signature-requires-clause-writable : goal.method_signature-requires-clause-writable
method_signature-requires-clause-writable c = signature_can c.args.refs.now c.refer_text.new.refs c.in_ok-name.ensures.grows c.args.method.now.sig c.requires.declarable.sig

pub method_signature-requires-clause-room : goal.method_signature-requires-clause-room
method_signature-requires-clause-room c =
    let bytes = method_bytes_are c.args.method.now in
    let first = c.in_ok-name.ensures.room in
    let room = c.requires.room in
    omega arith

pub returns : goal.returns
returns c =
    own_row_added SpellsMethod (λ (x : Method). x.name) (λ (x : Method). x.sig) method_bytes c.args.refs.now c.refer_text.new.refs c.method_signature.new.refs c.args.row c.in_ok-name.name c.in_ok-signature.signature (signature_weight c.args.method.now.sig + 8)
    c.args.method.now c.args.rows.now c.push.new.self c.in_ok-name.ensures c.in_ok-signature.ensures (method_bytes_are c.args.method.now) c.in_ok-push.ensures.added
