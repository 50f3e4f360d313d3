use Rattle.std.proofs.Common.{◌≡◌, ap, ◌∙◌, arith, ◌+ℤ◌, ◌-ℤ◌, pos, to_z, of_z, w64}
use Rattle.std.proofs.lemmas.Int.{ints}
use Rattle.source_model.specs.Shapes.{natural}
use Rattle.source_model.specs.TypeRules.{is_within}
use Rattle.source_nodes.proofs.bounds.size_between.Goals as goal

pub returns : goal.returns
returns c e =
    let same : to_z w64 (of_z w64 (to_z w64 (of_z w64 (to_z w64 (of_z w64 c.from.result) -ℤ to_z w64 (of_z w64 c.from-2.result))) +ℤ pos 1))
    ≡ (c.args.last -ℤ c.args.first) +ℤ pos 1 =
    omega (arith, ints) in
    c.size_of.ensures (ap (is_within (pos 0) (pos 0x1FFFFFFF)) same ∙ e) ∙ ap natural same
