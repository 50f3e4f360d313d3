use Rattle.std.specs.Prelude.{codes}
use Rattle.std.specs.Fmt.{decimal}
use Rattle.run_reports.proofs.LineLemmas.{five_added}
use Rattle.run_reports.proofs.lines.add_counts.Goals as goal

pub returns : goal.returns
returns c =
    five_added c.args.paper.now c.add.new.self c.add_decimal.new.self c.add-2.new.self c.add_decimal-2.new.self c.add-3.new.self
    (codes "methods ") (decimal c.args.methods) (codes ", failures ") (decimal c.args.failures) (codes "\n")
    c.in_ok-add.ensures c.in_ok-add_decimal.ensures c.in_ok-add-2.ensures c.in_ok-add_decimal-2.ensures c.in_ok-add-3.ensures
