use Rattle.std.proofs.Common.{[], refl, subst}
use Rattle.check_data.specs.DeclaredSizes.{AreUnknown}
use Rattle.check_data.proofs.AllSizes.{all_known, nothing_filled, sizes_are}
use Rattle.check_data.proofs.declared_sizes.collect_sizes.Goals as goal

pub returns : goal.returns
returns c s r k =
    let cs = c.args.classes.now.paths in
    let bodies = (c.derivations_have_bodies.ensures s r.derived).1 in
    let blank = nothing_filled s cs k.knows c.in_ok-sizes.sizes (subst (λ n. AreUnknown n c.in_ok-sizes.sizes) c.len.ensures c.in_ok-sizes.ensures) in
    sizes_are s cs k.knows c.add_sizes.new.sizes
    (c.in_ok-add_sizes.ensures s [] s.tree [] r r.nodes bodies refl (all_known s cs k.knows) blank)
