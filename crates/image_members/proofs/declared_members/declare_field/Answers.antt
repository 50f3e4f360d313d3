use Rattle.std.proofs.Common.{◌≡◌, ◌+◌, ◌≤◌, length, arith}
use Rattle.assembly_tree.specs.Weight.{type_weight}
use Rattle.assembly_tree.specs.declared.members.Field.{Field}
use Rattle.sig_codec.specs.Signature.{SpellsField}
use Rattle.image_members.specs.DeclaredMembers.{field_bytes}
use Rattle.image_members.proofs.DeclaredLemmas.{own_row_added, field_bytes_are}
use Rattle.image_tokens.proofs.WritableLemmas.{still_writable}
use Rattle.image_members.proofs.declared_members.declare_field.Goals as goal

pub refer_text-requires-clause-no_zero : goal.refer_text-requires-clause-no_zero
refer_text-requires-clause-no_zero c = c.requires.declarable.name

pub refer_text-requires-clause-room : goal.refer_text-requires-clause-room
refer_text-requires-clause-room c = let bytes = field_bytes_are c.args.field.now in let room = c.requires.room in omega arith

pub field_signature-requires-clause-known : goal.field_signature-requires-clause-known
field_signature-requires-clause-known c = c.in_ok-name.ensures.known

pub field_signature-requires-clause-writable : goal.field_signature-requires-clause-writable
field_signature-requires-clause-writable c = still_writable c.args.refs.now c.refer_text.new.refs c.in_ok-name.ensures.grows c.args.field.now.of c.requires.declarable.of

pub field_signature-requires-clause-room : goal.field_signature-requires-clause-room
field_signature-requires-clause-room c =
    let bytes = field_bytes_are c.args.field.now in
    let first = c.in_ok-name.ensures.room in
    let room = c.requires.room in
    omega arith

pub returns : goal.returns
returns c =
    own_row_added SpellsField (λ (x : Field). x.name) (λ (x : Field). x.of) field_bytes c.args.refs.now c.refer_text.new.refs c.field_signature.new.refs c.args.row c.in_ok-name.name c.in_ok-signature.signature (type_weight c.args.field.now.of)
    c.args.field.now c.args.rows.now c.push.new.self c.in_ok-name.ensures c.in_ok-signature.ensures (field_bytes_are c.args.field.now) c.in_ok-push.ensures.added
