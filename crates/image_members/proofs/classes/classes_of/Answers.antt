use Rattle.std.proofs.Common.{◌≡◌, ◌∙◌, ap, sym, subst, ℕ, ◌+◌, ◌*◌, ◌≤◌, List, ◌++◌, length, arith}
use Rattle.std.specs.List.{sum_by}
use Rattle.assembly_tree.specs.Nesting.{types_in}
use Rattle.assembly_tree.specs.declared.typedef.TypeDef.{TypeDef}
use Rattle.image_members.specs.Classes.{AreClasses}
use Rattle.image_members.specs.declared.classes.Class.{Class}
use Rattle.image_members.proofs.ClassLemmas.{few_types, all_classes}
use Rattle.image_members.proofs.classes.classes_of.Goals as goal

pub add_classes-requires : goal.add_classes-requires
add_classes-requires c =
    let few = few_types c.args.a.now in
    let lent = ap (sum_by types_in) c.as_slice.ensures in
    let begun = ap (length {A = Class}) c.in_ok-into.ensures in
    omega arith

pub returns-clause-classes : goal.returns-clause-classes
returns-clause-classes c =
    (all_classes c.as_slice.result.now c.args.a.now.types _ c.add_classes.new.into c.in_ok-into.ensures c.as_slice.ensures c.in_ok-add_classes.ensures).0

pub returns-clause-few : goal.returns-clause-few
returns-clause-few c =
    let count = (all_classes c.as_slice.result.now c.args.a.now.types _ c.add_classes.new.into c.in_ok-into.ensures c.as_slice.ensures c.in_ok-add_classes.ensures).1 in
    let few = few_types c.args.a.now in
    omega arith
