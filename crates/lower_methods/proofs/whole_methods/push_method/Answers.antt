use Rattle.std.proofs.Common.{length, refl, ap}
use Rattle.source_model.specs.Members.{in_method}
use Rattle.source_flags.proofs.Gathered.{has_bodies}
use Rattle.lower_methods.proofs.MethodLemmas.{at_method, few_typars}
use Rattle.lower_methods.proofs.whole_methods.push_method.Goals as goal

pub returns : goal.returns
returns c s a n x e sound =
    let f = n.below in
    let typars = c.in_ok-typars.ensures s f x.reads e (has_bodies s f sound.each) in
    let few = few_typars s f (length c.args.nodes.now) (ap length e) c.requires.few in
    c.push_method_at.ensures s (in_method a f) n (at_method _ c.args.place.now s a f x refl refl refl typars few) refl e sound
