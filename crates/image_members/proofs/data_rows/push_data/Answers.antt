use Rattle.std.proofs.Common.{rules, ◌≡◌, ap, sym, subst, ℕ, ◌+◌, ◌<◌, ◌≤◌, List, [], ◌∷◌, length, refl, inr, arith}
use Rattle.image_members.proofs.DataLemmas.{data_cells, without_data, with_data, room_for_data}
use Rattle.image_members.proofs.data_rows.push_data.Goals as goal

pub returns-in-None : goal.returns-in-None
returns-in-None c = without_data c.args.code.now c.args.rows.now c.args.row c.args.content.now c.in-None.is

pub put_bytes-requires-clause-multiple : goal.put_bytes-requires-clause-multiple
put_bytes-requires-clause-multiple c = inr refl

pub put_bytes-requires-clause-room : goal.put_bytes-requires-clause-room
put_bytes-requires-clause-room c =
    room_for_data c.args.code.now c.in-Some.bytes c.as_slice.result.now c.args.row c.args.content.now c.in-Some.is c.as_slice.ensures c.requires.long

pub push-requires-clause-cells : goal.push-requires-clause-cells
push-requires-clause-cells c = data_cells c.row_of_columns.ensures c.in_ok-rva-in-Some.rva c.args.row (search rules)

pub returns-in_ok-push-in-Some : goal.returns-in_ok-push-in-Some
returns-in_ok-push-in-Some c =
    with_data c.args.code.now c.put_bytes.new.code c.in-Some.bytes c.as_slice.result.now c.args.rows.now c.push.new.self c.args.row c.in_ok-rva-in-Some.rva c.args.content.now c.in-Some.is c.as_slice.ensures c.in_ok-rva-in-Some.ensures
    c.in_ok-push-in-Some.ensures.added
