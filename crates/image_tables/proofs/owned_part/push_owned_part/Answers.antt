use Rattle.std.proofs.Common.{◌≡◌, ap, sym, ◌∙◌, subst, ℕ, ◌+◌, ◌<◌, ◌≤◌, ◌-◌, ◌^◌, List, length, map, arith}
use Rattle.std.specs.Borrow.{Bor}
use Rattle.assembly_tree.specs.declared.members.Attribute.{Attribute}
use Rattle.assembly_tree.specs.declared.members.Constant.{Constant}
use Rattle.assembly_tree.specs.declared.members.Generic.{Generic}
use Rattle.metadata_tables.specs.declared.coded.Coded.TheVariants.{HasConstant, HasCustomAttribute, TypeOrMethodDef}
use Rattle.image_rows.specs.AttributeRows.{tables_of, attribute_bytes, IsAttributeRow, CanPushAttribute}
use Rattle.image_members.specs.ByNumber.{by_number}
use Rattle.image_members.specs.ConstantRows.{with_constants, constant_bytes, IsConstantRow, CanPushConstant}
use Rattle.image_members.specs.GenericRows.{counted, generic_of, bounds_from, bound_bytes, IsBoundRow, CanPushBound, generic_bytes, IsGenericRow, CanPushGeneric}
use Rattle.image_members.specs.Lists.{Owned, longest_of, attribute_lists, attribute_items, constant_lists, constant_items, generic_lists, generic_items, generics_in}
use Rattle.image_members.specs.Places.{lent}
use Rattle.image_members.specs.Pushing.{Pushes, CanPush}
use Rattle.image_rows.proofs.FieldLemmas.{lent_long}
use Rattle.image_tables.proofs.OwnedPart.{generics_can, generics_few, bounds_can, constants_can, attributes_can, owned_filled}
use Rattle.image_tables.proofs.owned_part.push_owned_part.Goals as goal

pub generic_tables-requires : goal.generic_tables-requires
generic_tables-requires c =
    c.requires.none.generics

pub push_generic_rows-requires-clause-owners : goal.push_generic_rows-requires-clause-owners
push_generic_rows-requires-clause-owners c =
    subst (λ (ls : List (Owned (ℕ × Generic))). longest_of ls < 2 ^ 23) (sym (ap (map counted) c.as_slice.ensures ∙ c.in_ok-tables.ensures c.args.a.now c.args._classes.now c.requires.ordered)) c.requires.ready.few.generic_owners

pub push_generic_rows-requires-clause-can : goal.push_generic_rows-requires-clause-can
push_generic_rows-requires-clause-can c =
    subst (λ (ls : List (Owned (ℕ × Generic))). CanPush 0x2A CanPushGeneric generic_bytes (by_number TypeOrMethodDef ls (longest_of ls)) c.args.refs.now c.args.rows.now) (sym (ap (map counted) c.as_slice.ensures ∙ c.in_ok-tables.ensures c.args.a.now c.args._classes.now c.requires.ordered))
    (generics_can c.args.a.now c.args._classes.now c.args.refs.now c.args.rows.now c.requires.ready)

pub push_all_bounds-requires-clause-count : goal.push_all_bounds-requires-clause-count
push_all_bounds-requires-clause-count c =
    let few = generics_few c.args.a.now c.args._classes.now c.args.refs.now c.args.rows.now c.requires.ready in
    let same = ap (length {A = Generic}) (ap lent c.as_slice-2.ensures ∙ c.in_ok-generics.ensures.order ∙ ap (λ (ls : List (Owned (ℕ × Generic))). map generic_of (by_number TypeOrMethodDef ls (longest_of ls))) (ap (map counted) c.as_slice.ensures ∙ c.in_ok-tables.ensures c.args.a.now c.args._classes.now c.requires.ordered)) in
    let long = lent_long c.as_slice-2.result.now in
    omega arith

pub push_all_bounds-requires-clause-can : goal.push_all_bounds-requires-clause-can
push_all_bounds-requires-clause-can c =
    let generics : Pushes 0x2A IsGenericRow generic_bytes (generic_items c.args.a.now c.args._classes.now) c.args.refs.now c.push_generic_rows.new.refs c.args.rows.now c.push_generic_rows.new.rows =
    subst (λ (ls : List (Owned (ℕ × Generic))). Pushes 0x2A IsGenericRow generic_bytes (by_number TypeOrMethodDef ls (longest_of ls)) c.args.refs.now c.push_generic_rows.new.refs c.args.rows.now c.push_generic_rows.new.rows)
    (ap (map counted) c.as_slice.ensures ∙ c.in_ok-tables.ensures c.args.a.now c.args._classes.now c.requires.ordered) c.in_ok-generics.ensures.pushes in
    subst (λ (gs : List Generic). CanPush 0x2C CanPushBound bound_bytes (bounds_from 1 gs) c.push_generic_rows.new.refs c.push_generic_rows.new.rows) (sym (ap lent c.as_slice-2.ensures ∙ c.in_ok-generics.ensures.order ∙ ap (λ (ls : List (Owned (ℕ × Generic))). map generic_of (by_number TypeOrMethodDef ls (longest_of ls))) (ap (map counted) c.as_slice.ensures ∙ c.in_ok-tables.ensures c.args.a.now c.args._classes.now c.requires.ordered)))
    (bounds_can c.args.a.now c.args._classes.now c.args.refs.now c.args.rows.now c.requires.ready c.push_generic_rows.new.refs c.push_generic_rows.new.rows generics)

pub push_constant_rows-requires-clause-owners : goal.push_constant_rows-requires-clause-owners
push_constant_rows-requires-clause-owners c =
    subst (λ (ls : List (Owned Constant)). longest_of ls < 2 ^ 23) (sym (ap (map with_constants) c.as_slice-3.ensures ∙ c.in_ok-valued.ensures c.args.a.now c.args._classes.now c.requires.ordered)) c.requires.ready.few.constant_owners

pub push_constant_rows-requires-clause-can : goal.push_constant_rows-requires-clause-can
push_constant_rows-requires-clause-can c =
    let generics : Pushes 0x2A IsGenericRow generic_bytes (generic_items c.args.a.now c.args._classes.now) c.args.refs.now c.push_generic_rows.new.refs c.args.rows.now c.push_generic_rows.new.rows =
    subst (λ (ls : List (Owned (ℕ × Generic))). Pushes 0x2A IsGenericRow generic_bytes (by_number TypeOrMethodDef ls (longest_of ls)) c.args.refs.now c.push_generic_rows.new.refs c.args.rows.now c.push_generic_rows.new.rows)
    (ap (map counted) c.as_slice.ensures ∙ c.in_ok-tables.ensures c.args.a.now c.args._classes.now c.requires.ordered) c.in_ok-generics.ensures.pushes in
    let bounds : Pushes 0x2C IsBoundRow bound_bytes (bounds_from 1 (generics_in c.args.a.now c.args._classes.now)) c.push_generic_rows.new.refs c.push_all_bounds.new.refs c.push_generic_rows.new.rows c.push_all_bounds.new.rows =
    subst (λ (gs : List Generic). Pushes 0x2C IsBoundRow bound_bytes (bounds_from 1 gs) c.push_generic_rows.new.refs c.push_all_bounds.new.refs c.push_generic_rows.new.rows c.push_all_bounds.new.rows)
    (ap lent c.as_slice-2.ensures ∙ c.in_ok-generics.ensures.order ∙ ap (λ (ls : List (Owned (ℕ × Generic))). map generic_of (by_number TypeOrMethodDef ls (longest_of ls))) (ap (map counted) c.as_slice.ensures ∙ c.in_ok-tables.ensures c.args.a.now c.args._classes.now c.requires.ordered)) c.in_ok-push_all_bounds.ensures in
    subst (λ (ls : List (Owned Constant)). CanPush 0x0B CanPushConstant constant_bytes (by_number HasConstant ls (longest_of ls)) c.push_all_bounds.new.refs c.push_all_bounds.new.rows) (sym (ap (map with_constants) c.as_slice-3.ensures ∙ c.in_ok-valued.ensures c.args.a.now c.args._classes.now c.requires.ordered))
    (constants_can c.args.a.now c.args._classes.now c.args.refs.now c.args.rows.now c.requires.ready c.push_generic_rows.new.refs c.push_generic_rows.new.rows generics c.push_all_bounds.new.refs c.push_all_bounds.new.rows bounds)

pub attribute_tables-requires : goal.attribute_tables-requires
attribute_tables-requires c =
    c.requires.none.attributes

pub push_attribute_rows-requires-clause-owners : goal.push_attribute_rows-requires-clause-owners
push_attribute_rows-requires-clause-owners c =
    subst (λ (ls : List (Owned Attribute)). longest_of ls < 2 ^ 23) (sym (ap tables_of c.as_slice-5.ensures ∙ c.in_ok-attributed.ensures c.args._classes.now c.requires.ordered
    (ap lent c.as_slice-4.ensures ∙ c.in_ok-generics.ensures.order ∙ ap (λ (ls : List (Owned (ℕ × Generic))). map generic_of (by_number TypeOrMethodDef ls (longest_of ls))) (ap (map counted) c.as_slice.ensures ∙ c.in_ok-tables.ensures c.args.a.now c.args._classes.now c.requires.ordered)))) c.requires.ready.few.attribute_owners

pub push_attribute_rows-requires-clause-can : goal.push_attribute_rows-requires-clause-can
push_attribute_rows-requires-clause-can c =
    let generics : Pushes 0x2A IsGenericRow generic_bytes (generic_items c.args.a.now c.args._classes.now) c.args.refs.now c.push_generic_rows.new.refs c.args.rows.now c.push_generic_rows.new.rows =
    subst (λ (ls : List (Owned (ℕ × Generic))). Pushes 0x2A IsGenericRow generic_bytes (by_number TypeOrMethodDef ls (longest_of ls)) c.args.refs.now c.push_generic_rows.new.refs c.args.rows.now c.push_generic_rows.new.rows)
    (ap (map counted) c.as_slice.ensures ∙ c.in_ok-tables.ensures c.args.a.now c.args._classes.now c.requires.ordered) c.in_ok-generics.ensures.pushes in
    let bounds : Pushes 0x2C IsBoundRow bound_bytes (bounds_from 1 (generics_in c.args.a.now c.args._classes.now)) c.push_generic_rows.new.refs c.push_all_bounds.new.refs c.push_generic_rows.new.rows c.push_all_bounds.new.rows =
    subst (λ (gs : List Generic). Pushes 0x2C IsBoundRow bound_bytes (bounds_from 1 gs) c.push_generic_rows.new.refs c.push_all_bounds.new.refs c.push_generic_rows.new.rows c.push_all_bounds.new.rows)
    (ap lent c.as_slice-2.ensures ∙ c.in_ok-generics.ensures.order ∙ ap (λ (ls : List (Owned (ℕ × Generic))). map generic_of (by_number TypeOrMethodDef ls (longest_of ls))) (ap (map counted) c.as_slice.ensures ∙ c.in_ok-tables.ensures c.args.a.now c.args._classes.now c.requires.ordered)) c.in_ok-push_all_bounds.ensures in
    let constants : Pushes 0x0B IsConstantRow constant_bytes (constant_items c.args.a.now c.args._classes.now) c.push_all_bounds.new.refs c.push_constant_rows.new.refs c.push_all_bounds.new.rows c.push_constant_rows.new.rows =
    subst (λ (ls : List (Owned Constant)). Pushes 0x0B IsConstantRow constant_bytes (by_number HasConstant ls (longest_of ls)) c.push_all_bounds.new.refs c.push_constant_rows.new.refs c.push_all_bounds.new.rows c.push_constant_rows.new.rows)
    (ap (map with_constants) c.as_slice-3.ensures ∙ c.in_ok-valued.ensures c.args.a.now c.args._classes.now c.requires.ordered) c.in_ok-push_constant_rows.ensures in
    subst (λ (ls : List (Owned Attribute)). CanPush 0x0C CanPushAttribute attribute_bytes (by_number HasCustomAttribute ls (longest_of ls)) c.push_constant_rows.new.refs c.push_constant_rows.new.rows)
    (sym (ap tables_of c.as_slice-5.ensures ∙ c.in_ok-attributed.ensures c.args._classes.now c.requires.ordered
    (ap lent c.as_slice-4.ensures ∙ c.in_ok-generics.ensures.order ∙ ap (λ (ls : List (Owned (ℕ × Generic))). map generic_of (by_number TypeOrMethodDef ls (longest_of ls))) (ap (map counted) c.as_slice.ensures ∙ c.in_ok-tables.ensures c.args.a.now c.args._classes.now c.requires.ordered))))
    (attributes_can c.args.a.now c.args._classes.now c.args.refs.now c.args.rows.now c.requires.ready c.push_generic_rows.new.refs c.push_generic_rows.new.rows generics c.push_all_bounds.new.refs c.push_all_bounds.new.rows bounds
    c.push_constant_rows.new.refs c.push_constant_rows.new.rows constants)

pub returns : goal.returns
returns c =
    let generics : Pushes 0x2A IsGenericRow generic_bytes (generic_items c.args.a.now c.args._classes.now) c.args.refs.now c.push_generic_rows.new.refs c.args.rows.now c.push_generic_rows.new.rows =
    subst (λ (ls : List (Owned (ℕ × Generic))). Pushes 0x2A IsGenericRow generic_bytes (by_number TypeOrMethodDef ls (longest_of ls)) c.args.refs.now c.push_generic_rows.new.refs c.args.rows.now c.push_generic_rows.new.rows)
    (ap (map counted) c.as_slice.ensures ∙ c.in_ok-tables.ensures c.args.a.now c.args._classes.now c.requires.ordered) c.in_ok-generics.ensures.pushes in
    let bounds : Pushes 0x2C IsBoundRow bound_bytes (bounds_from 1 (generics_in c.args.a.now c.args._classes.now)) c.push_generic_rows.new.refs c.push_all_bounds.new.refs c.push_generic_rows.new.rows c.push_all_bounds.new.rows =
    subst (λ (gs : List Generic). Pushes 0x2C IsBoundRow bound_bytes (bounds_from 1 gs) c.push_generic_rows.new.refs c.push_all_bounds.new.refs c.push_generic_rows.new.rows c.push_all_bounds.new.rows)
    (ap lent c.as_slice-2.ensures ∙ c.in_ok-generics.ensures.order ∙ ap (λ (ls : List (Owned (ℕ × Generic))). map generic_of (by_number TypeOrMethodDef ls (longest_of ls))) (ap (map counted) c.as_slice.ensures ∙ c.in_ok-tables.ensures c.args.a.now c.args._classes.now c.requires.ordered)) c.in_ok-push_all_bounds.ensures in
    let constants : Pushes 0x0B IsConstantRow constant_bytes (constant_items c.args.a.now c.args._classes.now) c.push_all_bounds.new.refs c.push_constant_rows.new.refs c.push_all_bounds.new.rows c.push_constant_rows.new.rows =
    subst (λ (ls : List (Owned Constant)). Pushes 0x0B IsConstantRow constant_bytes (by_number HasConstant ls (longest_of ls)) c.push_all_bounds.new.refs c.push_constant_rows.new.refs c.push_all_bounds.new.rows c.push_constant_rows.new.rows)
    (ap (map with_constants) c.as_slice-3.ensures ∙ c.in_ok-valued.ensures c.args.a.now c.args._classes.now c.requires.ordered) c.in_ok-push_constant_rows.ensures in
    let attributes : Pushes 0x0C IsAttributeRow attribute_bytes (attribute_items c.args.a.now c.args._classes.now) c.push_constant_rows.new.refs c.push_attribute_rows.new.refs c.push_constant_rows.new.rows c.push_attribute_rows.new.rows =
    subst (λ (ls : List (Owned Attribute)). Pushes 0x0C IsAttributeRow attribute_bytes (by_number HasCustomAttribute ls (longest_of ls)) c.push_constant_rows.new.refs c.push_attribute_rows.new.refs c.push_constant_rows.new.rows c.push_attribute_rows.new.rows)
    (ap tables_of c.as_slice-5.ensures ∙ c.in_ok-attributed.ensures c.args._classes.now c.requires.ordered
    (ap lent c.as_slice-4.ensures ∙ c.in_ok-generics.ensures.order ∙ ap (λ (ls : List (Owned (ℕ × Generic))). map generic_of (by_number TypeOrMethodDef ls (longest_of ls))) (ap (map counted) c.as_slice.ensures ∙ c.in_ok-tables.ensures c.args.a.now c.args._classes.now c.requires.ordered))) c.in_ok-push_attribute_rows.ensures in
    owned_filled c.args.a.now c.args._classes.now c.args.refs.now c.args.rows.now c.requires.ready c.push_generic_rows.new.refs c.push_generic_rows.new.rows generics c.push_all_bounds.new.refs c.push_all_bounds.new.rows bounds
    c.push_constant_rows.new.refs c.push_constant_rows.new.rows constants c.push_attribute_rows.new.refs c.push_attribute_rows.new.rows attributes
