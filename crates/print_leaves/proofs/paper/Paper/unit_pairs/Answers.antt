use Rattle.std.proofs.Common.{◌-◌, length, take, drop, ap, ◌∙◌}
use Rattle.std.specs.List.{flat_map}
use Rattle.print_leaves.specs.Page.{added}
use Rattle.print_leaves.specs.Spaced.{spaced_unit}
use Rattle.print_leaves.proofs.PairLists.{units_at}
use Rattle.print_leaves.proofs.paper.Paper.unit_pairs.Goals as goal

pub returns-in_ok-more_units-in-len1-up : goal.returns-in_ok-more_units-in-len1-up
returns-in_ok-more_units-in-len1-up c =
    c.in_ok-more_units-in-len1-up.ensures
    ∙ (ap (λ q. added q (flat_map spaced_unit (take (length c.args.units.now - 1) (drop 1 c.args.units.now)))) c.in_ok-two_pairs-in-len1-up.ensures
    ∙ units_at c.args.self.now c.args.units.now c.in-len1-up.len_at_least)
