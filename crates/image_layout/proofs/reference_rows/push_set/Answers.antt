use Rattle.std.proofs.Common.{refl, arith}
use Rattle.image_layout.specs.Referred.{first_cells}
use Rattle.image_layout.proofs.ReferenceLemmas.{set_begin, set_more, set_room, set_end}
use Rattle.image_layout.proofs.reference_rows.push_set.Goals as goal

pub loop-k-init : goal.loop-k-init
loop-k-init c = set_begin c.args.table c.args.columns c.args.set.now c.args.rows.now

pub push-requires-clause-room : goal.push-requires-clause-room
push-requires-clause-room c =
    set_room c.args.table c.args.columns c.args.set.now c.loop-k.k c.args.rows.now c.loop-k.rows c.requires.empty (omega arith) (omega arith) c.loop-k.invariant

pub push-requires-clause-cells : goal.push-requires-clause-cells
push-requires-clause-cells c = c.requires.cells c.at-cells.result

pub loop-k-preserved : goal.loop-k-preserved
loop-k-preserved c =
    set_more c.args.table c.args.columns c.args.set.now c.loop-k.k c.at-cells.result (first_cells c.args.columns c.at-cells.result) c.args.rows.now c.loop-k.rows c.push.new.self
    c.at-cells.ensures refl c.loop-k.invariant c.in_ok-push.ensures.added

pub returns : goal.returns
returns c = set_end c.args.table c.args.columns c.args.set.now c.loop-k.k c.args.rows.now c.loop-k.rows (omega arith) c.loop-k.invariant
