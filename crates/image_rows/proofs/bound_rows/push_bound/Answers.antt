use Rattle.std.proofs.Common.{◌≡◌, subst, ℕ, [], ◌∷◌}
use Rattle.image_rows.proofs.BoundLemmas.{bound_kind, bound_cells, bound_pushed}
use Rattle.image_members.proofs.KindLemmas.{one_can, one_few, one_room}
use Rattle.image_rows.proofs.bound_rows.push_bound.Goals as goal

pub type_index-requires-clause-known : goal.type_index-requires-clause-known
type_index-requires-clause-known c = c.requires.known

pub type_index-requires-clause-writable : goal.type_index-requires-clause-writable
type_index-requires-clause-writable c = one_can bound_kind c.args.refs.now c.args.rows.now (c.args.row, c.args.bound.now) c.requires

pub type_index-requires-clause-room : goal.type_index-requires-clause-room
type_index-requires-clause-room c = one_room bound_kind c.args.refs.now c.args.rows.now (c.args.row, c.args.bound.now) c.requires

pub push-requires-clause-room : goal.push-requires-clause-room
push-requires-clause-room c = one_few bound_kind c.args.refs.now c.args.rows.now (c.args.row, c.args.bound.now) c.requires

pub push-requires-clause-cells : goal.push-requires-clause-cells
push-requires-clause-cells c = bound_cells c.row_of_columns.ensures c.args.row c.in_ok-of.of

pub returns : goal.returns
returns c = bound_pushed c.args.refs.now c.type_index.new.refs c.args.rows.now c.push.new.self c.args.row c.args.bound.now c.in_ok-of.of c.in_ok-of.ensures c.in_ok-push.ensures.added
