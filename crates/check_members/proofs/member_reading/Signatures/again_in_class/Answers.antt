use Rattle.std.proofs.Common.{◌<◌, ◌^◌, length, ap, refl, arith}
use Rattle.source_model.specs.Forest.{preorder}
use Rattle.source_model.specs.Items.{members}
use Rattle.check_members.specs.MemberKinds.{class_around}
use Rattle.check_members.proofs.LoneLemmas.{none_twice}
use Rattle.check_members.proofs.ReadLemmas.{around_class, names_of_class}
use Rattle.check_members.proofs.member_reading.Signatures.again_in_class.Goals as goal

pub returns : goal.returns
returns g c s path f v r d e bodies =
    let long = ap length e in
    let few : length (preorder f) < 2 ^ 32 = omega (arith, long, c.requires.few) in
    c.in_ok-first.ensures s (class_around s path f) f v r (around_class s path f _ d e refl)
    (names_of_class s path f _ (c.in_ok-typars.ensures s f r e bodies) c.new-none.ensures refl few) e bodies

pub returns-then-not-has_two : goal.returns-then-not-has_two
returns-then-not-has_two g c s path f v r d e bodies =
    none_twice s (class_around s path f) (members f) c.orders_are_total.ensures.terms (c.has_two.ensures f e c.if-not-has_two.true)
