use Rattle.std.proofs.Common.{rules, ◌≡◌, subst, ℕ, [], ◌∷◌, ◌+◌, ◌≤◌, length, arith}
use Rattle.metadata_tables.specs.Encoding.{AddsRow}
use Rattle.image_rows.specs.PropertyRows.{property_flags}
use Rattle.image_members.proofs.KindLemmas.{one_can, one_few, one_room}
use Rattle.image_rows.proofs.PropertyLemmas.{property_kind, property_cells, property_sig_can, property_bytes_are, property_pushed}
use Rattle.image_rows.proofs.property_rows.push_property.Goals as goal

pub refer_text-requires-clause-known : goal.refer_text-requires-clause-known
refer_text-requires-clause-known c = c.requires.known

pub refer_text-requires-clause-no_zero : goal.refer_text-requires-clause-no_zero
refer_text-requires-clause-no_zero c = (one_can property_kind c.args.refs.now c.args.rows.now c.args.property.now c.requires).name

pub refer_text-requires-clause-room : goal.refer_text-requires-clause-room
refer_text-requires-clause-room c =
    let room = one_room property_kind c.args.refs.now c.args.rows.now c.args.property.now c.requires in
    let bytes = property_bytes_are c.args.property.now in
    omega arith

pub property_signature-requires-clause-known : goal.property_signature-requires-clause-known
property_signature-requires-clause-known c = c.in_ok-name.ensures.known

pub property_signature-requires-clause-writable : goal.property_signature-requires-clause-writable
property_signature-requires-clause-writable c =
    property_sig_can c.args.refs.now c.refer_text.new.refs c.in_ok-name.ensures.grows c.args.property.now.sig (one_can property_kind c.args.refs.now c.args.rows.now c.args.property.now c.requires).sig

pub property_signature-requires-clause-room : goal.property_signature-requires-clause-room
property_signature-requires-clause-room c =
    let room = one_room property_kind c.args.refs.now c.args.rows.now c.args.property.now c.requires in
    let bytes = property_bytes_are c.args.property.now in
    let first = c.in_ok-name.ensures.room in
    omega arith

pub push-requires-clause-room : goal.push-requires-clause-room
push-requires-clause-room c = one_few property_kind c.args.refs.now c.args.rows.now c.args.property.now c.requires

pub push-requires-clause-cells : goal.push-requires-clause-cells
push-requires-clause-cells c = property_cells c.row_of_columns.ensures c.from.result c.in_ok-name.name c.in_ok-signature.signature (search rules)

pub returns : goal.returns
returns c =
    let p = c.args.property.now in
    let flags : c.from.result ≡ property_flags p = search rules in
    property_pushed c.args.refs.now c.refer_text.new.refs c.property_signature.new.refs c.args.rows.now c.push.new.self p c.in_ok-name.name c.in_ok-signature.signature c.in_ok-name.ensures c.in_ok-signature.ensures
    (subst (λ (n : ℕ). AddsRow c.args.rows.now c.push.new.self 0x17 (n ∷ c.in_ok-name.name ∷ c.in_ok-signature.signature ∷ [])) flags c.in_ok-push.ensures.added)
