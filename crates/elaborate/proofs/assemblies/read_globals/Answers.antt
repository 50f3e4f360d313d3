use Rattle.std.proofs.Common.{◌≡◌, sym, subst}
use Rattle.std.specs.List.{AllByRecursion}
use Rattle.source_model.specs.Items.{declarations}
use Rattle.source_model.specs.Nodes.{nothing_around}
use Rattle.source_flags.proofs.Gathered.{all_follow}
use Rattle.source_nodes.specs.Pieces.{ArePieces}
use Rattle.param_lines.specs.Ranged.{IsRanged}
use Rattle.elaborate.specs.WholeParts.{IsWholePart}
use Rattle.elaborate.proofs.AssemblyLemmas.{declarations_whole}
use Rattle.elaborate.proofs.ClassLemmas.{all_ranged}
use Rattle.elaborate.proofs.assemblies.read_globals.Goals as goal

pub returns : goal.returns
returns g c s knows x declared each =
    let ps = declarations s.tree in
    let wholes = declarations_whole s each in
    let ranged : AllByRecursion (IsRanged s) ps = all_follow (IsWholePart s) (IsRanged s) ps (λ p w. (w.0.0, all_ranged s p.below w.1)) wholes in
    record {
      fields-are = c.in_ok-fields.ensures s nothing_around knows x ps declared ranged;
      methods-are = c.in_ok-methods.ensures s nothing_around knows x ps declared wholes;
    }
