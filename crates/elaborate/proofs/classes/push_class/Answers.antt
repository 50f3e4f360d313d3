use Rattle.std.proofs.Common.{length, refl, ap, sym, ◌∙◌}
use Rattle.elaborate.proofs.ClassLemmas.{at_class, few_typars}
use Rattle.elaborate.proofs.classes.push_class.Goals as goal

pub returns-then-has_no_typars : goal.returns-then-has_no_typars
returns-then-has_no_typars g c s a f knows k outside e found own whole =
    let none = c.has_no_typars.ensures c.if-has_no_typars.true s f e in
    let few = few_typars s f (length c.args.nodes.now) (ap length e) c.requires.few in
    c.push_class_at.ensures s a f knows
    (at_class _ c.args.known.now s a f k refl refl (k.none-is ∙ sym none) refl few) outside k.core-is e found own whole
