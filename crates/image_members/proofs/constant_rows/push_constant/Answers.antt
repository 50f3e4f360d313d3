use Rattle.std.proofs.Common.{rules, ◌≡◌, ap, sym, subst, ℕ, [], ◌∷◌, ◌+◌, ◌≤◌, ◌∙◌, length, arith}
use Rattle.metadata_tables.specs.Encoding.{AddsRow}
use Rattle.image_members.specs.Constants.{element_of}
use Rattle.image_members.proofs.ConstantLemmas.{constant_kind, constant_cells, constant_bytes_are, constant_pushed}
use Rattle.image_members.proofs.KindLemmas.{one_can, one_few, one_room}
use Rattle.image_members.proofs.constant_rows.push_constant.Goals as goal

pub value_of-requires : goal.value_of-requires
value_of-requires c = one_can constant_kind c.args.refs.now c.args.rows.now (c.args.parent, c.args.constant.now) c.requires

pub refer_blob-requires-clause-known : goal.refer_blob-requires-clause-known
refer_blob-requires-clause-known c = c.requires.known

pub refer_blob-requires-clause-room : goal.refer_blob-requires-clause-room
refer_blob-requires-clause-room c =
    let room = one_room constant_kind c.args.refs.now c.args.rows.now (c.args.parent, c.args.constant.now) c.requires in
    let bytes = constant_bytes_are c.args.parent c.args.constant.now in
    let long = ap (length {A = ℕ}) (c.as_slice.ensures ∙ c.in_ok-bytes.ensures) in
    omega arith

pub push-requires-clause-room : goal.push-requires-clause-room
push-requires-clause-room c = one_few constant_kind c.args.refs.now c.args.rows.now (c.args.parent, c.args.constant.now) c.requires

pub push-requires-clause-cells : goal.push-requires-clause-cells
push-requires-clause-cells c = constant_cells c.row_of_columns.ensures c.from.result c.args.parent c.in_ok-value.value (search rules)

pub returns : goal.returns
returns c =
    let element : c.from.result ≡ element_of c.args.constant.now = search rules in
    constant_pushed c.args.refs.now c.refer_blob.new.refs c.args.rows.now c.push.new.self c.args.parent c.in_ok-value.value c.args.constant.now c.as_slice.result.now (c.as_slice.ensures ∙ c.in_ok-bytes.ensures)
    c.in_ok-value.ensures.goes c.in_ok-value.ensures.holds
    (subst (λ (n : ℕ). AddsRow c.args.rows.now c.push.new.self 0x0B (n ∷ 0 ∷ c.args.parent ∷ c.in_ok-value.value ∷ [])) element c.in_ok-push.ensures.added)
