use Rattle.std.proofs.Common.{length, refl, ap}
use Rattle.source_flags.proofs.Gathered.{has_bodies}
use Rattle.elaborate.proofs.ClassLemmas.{all_ranged, at_class, few_typars}
use Rattle.elaborate.proofs.classes.push_generic.Goals as goal

pub returns : goal.returns
returns g c s a f knows k outside e found own whole =
    let typars = c.in_ok-typars.ensures s f k.reads e (has_bodies s f (all_ranged s f whole)) in
    let few = few_typars s f (length c.args.nodes.now) (ap length e) c.requires.few in
    c.push_class_at.ensures s a f knows
    (at_class _ c.args.known.now s a f k refl refl typars refl few) outside k.core-is e found own whole
