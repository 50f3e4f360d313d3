use Rattle.std.proofs.Common.{rules, ◌≡◌, subst, ℕ, [], ◌∷◌, ◌+◌, ◌≤◌, length, arith}
use Rattle.metadata_tables.specs.Encoding.{AddsRow}
use Rattle.image_rows.proofs.EventLemmas.{event_kind, event_cells, event_bytes_are, event_pushed}
use Rattle.image_members.proofs.KindLemmas.{one_can, one_few, one_room}
use Rattle.image_tokens.proofs.WritableLemmas.{still_writable_owner}
use Rattle.image_rows.proofs.event_rows.push_event.Goals as goal

pub refer_text-requires-clause-known : goal.refer_text-requires-clause-known
refer_text-requires-clause-known c = c.requires.known

pub refer_text-requires-clause-no_zero : goal.refer_text-requires-clause-no_zero
refer_text-requires-clause-no_zero c = (one_can event_kind c.args.refs.now c.args.rows.now c.args.event.now c.requires).name

pub refer_text-requires-clause-room : goal.refer_text-requires-clause-room
refer_text-requires-clause-room c =
    let room = one_room event_kind c.args.refs.now c.args.rows.now c.args.event.now c.requires in
    let bytes = event_bytes_are c.args.event.now in
    omega arith

pub type_index-requires-clause-known : goal.type_index-requires-clause-known
type_index-requires-clause-known c = c.in_ok-name.ensures.known

pub type_index-requires-clause-writable : goal.type_index-requires-clause-writable
type_index-requires-clause-writable c =
    still_writable_owner c.args.refs.now c.refer_text.new.refs c.in_ok-name.ensures.grows c.args.event.now.of (one_can event_kind c.args.refs.now c.args.rows.now c.args.event.now c.requires).of

pub type_index-requires-clause-room : goal.type_index-requires-clause-room
type_index-requires-clause-room c =
    let room = one_room event_kind c.args.refs.now c.args.rows.now c.args.event.now c.requires in
    let bytes = event_bytes_are c.args.event.now in
    let first = c.in_ok-name.ensures.room in
    omega arith

pub push-requires-clause-room : goal.push-requires-clause-room
push-requires-clause-room c = one_few event_kind c.args.refs.now c.args.rows.now c.args.event.now c.requires

pub push-requires-clause-cells : goal.push-requires-clause-cells
push-requires-clause-cells c = event_cells c.row_of_columns.ensures c.from.result c.in_ok-name.name c.in_ok-of.of (search rules)

pub returns : goal.returns
returns c =
    let e = c.args.event.now in
    let flags : c.from.result ≡ e.flags = search rules in
    event_pushed c.args.refs.now c.refer_text.new.refs c.type_index.new.refs c.args.rows.now c.push.new.self e c.in_ok-name.name c.in_ok-of.of c.in_ok-name.ensures c.in_ok-of.ensures
    (subst (λ (n : ℕ). AddsRow c.args.rows.now c.push.new.self 0x14 (n ∷ c.in_ok-name.name ∷ c.in_ok-of.of ∷ [])) flags c.in_ok-push.ensures.added)
