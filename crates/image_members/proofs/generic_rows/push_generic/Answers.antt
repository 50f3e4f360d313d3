use Rattle.std.proofs.Common.{rules, ◌≡◌, subst, ℕ, [], ◌∷◌, ◌+◌, ◌≤◌, length, arith}
use Rattle.metadata_tables.specs.Encoding.{AddsRow}
use Rattle.image_members.proofs.GenericLemmas.{generic_kind, generic_cells, generic_bytes_are, generic_pushed}
use Rattle.image_members.proofs.KindLemmas.{one_can, one_few, one_room}
use Rattle.image_members.proofs.generic_rows.push_generic.Goals as goal

pub refer_text-requires-clause-known : goal.refer_text-requires-clause-known
refer_text-requires-clause-known c = c.requires.known

pub refer_text-requires-clause-no_zero : goal.refer_text-requires-clause-no_zero
refer_text-requires-clause-no_zero c = (one_can generic_kind c.args.refs.now c.args.rows.now (c.args.owner, (c.args.number, c.args.generic.now)) c.requires).name

pub refer_text-requires-clause-room : goal.refer_text-requires-clause-room
refer_text-requires-clause-room c =
    let room = one_room generic_kind c.args.refs.now c.args.rows.now (c.args.owner, (c.args.number, c.args.generic.now)) c.requires in
    let bytes = generic_bytes_are c.args.owner c.args.number c.args.generic.now in
    omega arith

pub push-requires-clause-room : goal.push-requires-clause-room
push-requires-clause-room c = one_few generic_kind c.args.refs.now c.args.rows.now (c.args.owner, (c.args.number, c.args.generic.now)) c.requires

pub push-requires-clause-cells : goal.push-requires-clause-cells
push-requires-clause-cells c =
    generic_cells c.row_of_columns.ensures c.args.number c.from.result c.args.owner c.in_ok-name.name
    (one_can generic_kind c.args.refs.now c.args.rows.now (c.args.owner, (c.args.number, c.args.generic.now)) c.requires).number (search rules)

pub returns : goal.returns
returns c =
    let g = c.args.generic.now in
    let flags : c.from.result ≡ g.flags = search rules in
    generic_pushed c.args.refs.now c.refer_text.new.refs c.args.rows.now c.push.new.self c.args.owner c.args.number g c.in_ok-name.name c.in_ok-name.ensures
    (subst (λ (n : ℕ). AddsRow c.args.rows.now c.push.new.self 0x2A (c.args.number ∷ n ∷ c.args.owner ∷ c.in_ok-name.name ∷ [])) flags c.in_ok-push.ensures.added)
