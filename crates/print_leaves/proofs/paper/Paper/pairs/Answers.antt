use Rattle.std.proofs.Common.{◌-◌, length, take, drop, ap, ◌∙◌}
use Rattle.std.specs.List.{flat_map}
use Rattle.print_leaves.specs.Page.{added}
use Rattle.print_leaves.specs.Spaced.{spaced}
use Rattle.print_leaves.proofs.PairLists.{pairs_at}
use Rattle.print_leaves.proofs.paper.Paper.pairs.Goals as goal

pub returns-in_ok-more_pairs-in-len1-up : goal.returns-in_ok-more_pairs-in-len1-up
returns-in_ok-more_pairs-in-len1-up c =
    c.in_ok-more_pairs-in-len1-up.ensures
    ∙ (ap (λ q. added q (flat_map spaced (take (length c.args.bytes.now - 1) (drop 1 c.args.bytes.now)))) c.in_ok-pair-in-len1-up.ensures
    ∙ pairs_at c.args.self.now c.args.bytes.now c.in-len1-up.len_at_least)
