use Rattle.std.proofs.Common.{false, ap, ◌∙◌}
use Rattle.std.specs.Prelude.{codes}
use Rattle.std.specs.Fmt.{decimal, digits}
use Rattle.listing_leaves.specs.Numbers.{at_least}
use Rattle.listing_model.specs.Canon.{reference_at}
use Rattle.print_leaves.specs.Page.{added}
use Rattle.run_reports.proofs.LineLemmas.{eight_added, line_is, method_said}
use Rattle.run_reports.proofs.lines.add_failure.Goals as goal

pub returns : goal.returns
returns c =
    let a = c.args.a.now in
    let f = c.args.failure.now in
    eight_added c.args.paper.now c.add.new.self c.add-2.new.self c.add_hex.new.self c.add-3.new.self c.add_decimal.new.self c.add-4.new.self c.add-5.new.self c.add-6.new.self
    c.as_str.result.now (codes " [0x") (at_least 4 (digits 16 false c.from.result)) (codes "] V") (decimal c.from-2.result) (codes ": ") c.rule_text.result.now (codes "\n")
    c.in_ok-add.ensures c.in_ok-add-2.ensures c.in_ok-add_hex.ensures c.in_ok-add-3.ensures c.in_ok-add_decimal.ensures c.in_ok-add-4.ensures c.in_ok-add-5.ensures
    c.in_ok-add-6.ensures
    ∙ ap (added c.args.paper.now)
    (line_is a f c.as_str.result.now c.from.result c.from-2.result c.rule_text.result.now
    (c.as_str.ensures ∙ method_said a (reference_at a f.method) c.in_ok-method.method c.in_ok-method.ensures) c.from.ensures c.from-2.ensures c.rule_text.ensures)
