use Rattle.std.proofs.Common.{arith}
use Rattle.type_terms.specs.declared.term.Owner.TheVariants.{Name}
use Rattle.kept_owners.proofs.Keeping.{put_goes, is_there, on_ok}
use Rattle.kept_owners.proofs.plain.keep_row.Goals as goal

pub returns-clause-goes : goal.returns-clause-goes
returns-clause-goes c =
    on_ok c.put.result
    (λ adds. put_goes c.args.kept.now c.put.new.kept c.args.table c.args.row (Name c.in_ok-name.name) adds c.args.image.now (let r = c.ranges.row in omega arith) (λ sound owners tells. c.in_ok-name.ensures owners))
    c.put.ensures

pub returns-clause-there : goal.returns-clause-there
returns-clause-there c = on_ok c.put.result (λ adds. is_there c.args.kept.now c.put.new.kept c.args.table c.args.row (Name c.in_ok-name.name) adds) c.put.ensures
