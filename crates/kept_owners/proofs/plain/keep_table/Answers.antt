use Rattle.std.proofs.Common.{◌≡◌, ℕ, subst, arith, rules}
use Rattle.image_model.specs.Rows.{count_of}
use Rattle.kept_owners.specs.Kept.{AreThere}
use Rattle.kept_owners.proofs.Keeping.{goes_same, goes_on, there_more}
use Rattle.kept_owners.proofs.plain.keep_table.Goals as goal

pub loop-row-init : goal.loop-row-init
loop-row-init c = (goes_same c.args.image.now c.args.kept.now, λ row some upto. absurd (omega arith))

pub loop-row-preserved : goal.loop-row-preserved
loop-row-preserved c = (
  goes_on c.args.image.now c.args.kept.now c.loop-row.kept c.keep_row.new.kept c.loop-row.invariant.0 c.in_ok-keep_row.ensures.goes,
  there_more c.args.image.now c.loop-row.kept c.keep_row.new.kept c.args.table c.loop-row.row c.in_ok-keep_row.ensures.goes c.loop-row.invariant.1 c.in_ok-keep_row.ensures.there,
)

pub returns-clause-there : goal.returns-clause-there
returns-clause-there c =
    let all : c.loop-row.row ≡ count_of c.args.image.now c.args.table = search rules in
    subst (λ (n : ℕ). AreThere c.loop-row.kept c.args.table n) all c.loop-row.invariant.1
