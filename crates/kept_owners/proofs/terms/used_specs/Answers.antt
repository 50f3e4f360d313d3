use Rattle.std.proofs.Common.{◌≡◌, ◌<◌, arith, rules}
use Rattle.image_model.specs.Rows.{count_of}
use Rattle.kept_owners.proofs.Rounding.{none_wanted, wanted_more, all_wanted}
use Rattle.kept_owners.proofs.terms.used_specs.Goals as goal

pub loop-row-init : goal.loop-row-init
loop-row-init c = rw c.new-rows.ensures (none_wanted c.args.image.now)

pub loop-row-preserved : goal.loop-row-preserved
loop-row-preserved c =
    let less : c.loop-row.row < count_of c.args.image.now 0x1B = search rules in
    wanted_more c.args.image.now c.loop-row.rows c.note.new.rows c.loop-row.row c.is_used-is_used.result c.loop-row.invariant (rw c.requires at c.is_used-is_used.ensures) less c.in_ok-note.ensures

pub returns-clause-wanted : goal.returns-clause-wanted
returns-clause-wanted c =
    let all : c.loop-row.row ≡ count_of c.args.image.now 0x1B = search rules in
    all_wanted c.args.image.now c.loop-row.rows c.loop-row.row c.loop-row.invariant (omega arith)
