use Rattle.std.proofs.Common.{◌≡◌, ap, subst, ℕ, [], ◌∷◌, ◌+◌, ◌≤◌, length, arith}
use Rattle.metadata_tables.specs.Encoding.{AddsRow}
use Rattle.image_rows.proofs.AttributeLemmas.{attribute_kind, attribute_cells, attribute_bytes_are, attribute_pushed}
use Rattle.image_members.proofs.KindLemmas.{one_can, one_few, one_room}
use Rattle.image_rows.proofs.attribute_rows.push_attribute.Goals as goal

pub refer_method-requires-clause-known : goal.refer_method-requires-clause-known
refer_method-requires-clause-known c = c.requires.known

pub refer_method-requires-clause-writable : goal.refer_method-requires-clause-writable
refer_method-requires-clause-writable c = one_can attribute_kind c.args.refs.now c.args.rows.now (c.args.parent, c.args.attribute.now) c.requires

pub refer_method-requires-clause-room : goal.refer_method-requires-clause-room
refer_method-requires-clause-room c =
    let room = one_room attribute_kind c.args.refs.now c.args.rows.now (c.args.parent, c.args.attribute.now) c.requires in
    let bytes = attribute_bytes_are c.args.parent c.args.attribute.now in
    omega arith

pub refer_blob-requires-clause-known : goal.refer_blob-requires-clause-known
refer_blob-requires-clause-known c = c.in_ok-token.ensures.known

pub refer_blob-requires-clause-room : goal.refer_blob-requires-clause-room
refer_blob-requires-clause-room c =
    let room = one_room attribute_kind c.args.refs.now c.args.rows.now (c.args.parent, c.args.attribute.now) c.requires in
    let bytes = attribute_bytes_are c.args.parent c.args.attribute.now in
    let first = c.in_ok-token.ensures.room in
    let long = ap (length {A = ℕ}) c.as_slice.ensures in
    omega arith

pub push-requires-clause-room : goal.push-requires-clause-room
push-requires-clause-room c = one_few attribute_kind c.args.refs.now c.args.rows.now (c.args.parent, c.args.attribute.now) c.requires

pub push-requires-clause-cells : goal.push-requires-clause-cells
push-requires-clause-cells c = attribute_cells c.row_of_columns.ensures c.args.parent c.index_of_token-constructor.result c.in_ok-value.value

pub returns : goal.returns
returns c =
    attribute_pushed c.args.refs.now c.refer_method.new.refs c.refer_blob.new.refs c.args.rows.now c.push.new.self c.args.parent c.args.attribute.now c.as_slice.result.now c.in_ok-token.token c.in_ok-value.value c.as_slice.ensures
    c.in_ok-token.ensures c.in_ok-value.ensures.goes c.in_ok-value.ensures.holds
    (subst (λ (n : ℕ). AddsRow c.args.rows.now c.push.new.self 0x0C (c.args.parent ∷ n ∷ c.in_ok-value.value ∷ [])) c.index_of_token-constructor.ensures c.in_ok-push.ensures.added)
