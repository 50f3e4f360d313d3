use Rattle.std.proofs.Common.{List}
use Rattle.type_terms.specs.declared.name.TypeName.{TypeName}
use Rattle.type_hierarchy.specs.Hierarchy.{Hierarchy, core_name}
use Rattle.type_tables.specs.Landings.{AreTops, IsLanding}
use Rattle.type_hierarchy.specs.Names.{the_object, the_value_type, the_delegate}
use Rattle.type_hierarchy.specs.Tables.{hierarchy_in}
use Rattle.type_hierarchy.specs.declared.core_types.Above.TheVariants.{Object, ValueType, Delegate}
use Rattle.type_tables.specs.declared.stepping.Tops.{Tops}
use Rattle.type_tables.proofs.LandingLemmas.{landing_none, landing_along, object_above, value_type_above, delegate_above}
use Rattle.type_tables.proofs.stepping.read_tops.Goals as goal

tops_of : (w : Hierarchy) (names : List TypeName) (t : Tops) → IsLanding w names (core_name w the_object) t.object → IsLanding w names (core_name w the_value_type) t.value_type
    → IsLanding w names (core_name w the_delegate) t.delegate → AreTops w names t
tops_of w names t a b d Object = a
tops_of w names t a b d ValueType = b
tops_of w names t a b d Delegate = d

pub class_landing-requires-clause-beyond : goal.class_landing-requires-clause-beyond
class_landing-requires-clause-beyond c = λ e.
    let w = hierarchy_in c.args.tables.now in
    landing_none w c.args.tables.now.names (core_name w the_object) e (object_above w)

pub class_landing-requires-2-clause-beyond : goal.class_landing-requires-2-clause-beyond
class_landing-requires-2-clause-beyond c = λ e.
    let w = hierarchy_in c.args.tables.now in
    landing_along w c.args.tables.now.names (core_name w the_value_type) (core_name w the_object) c.in_ok-object.object e (value_type_above w) c.in_ok-object.ensures

pub class_landing-requires-3-clause-beyond : goal.class_landing-requires-3-clause-beyond
class_landing-requires-3-clause-beyond c = λ e.
    let w = hierarchy_in c.args.tables.now in
    landing_along w c.args.tables.now.names (core_name w the_delegate) (core_name w the_object) c.in_ok-object.object e (delegate_above w) c.in_ok-object.ensures

pub returns : goal.returns
returns c = tops_of (hierarchy_in c.args.tables.now) c.args.tables.now.names _ c.in_ok-object.ensures c.in_ok-value_type.ensures c.in_ok-delegate.ensures
