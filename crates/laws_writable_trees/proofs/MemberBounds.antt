-- The signatures of the members of a well-formed assembly are in bounds.
use Rattle.std.proofs.Common.{arith}
use Rattle.assembly_tree.specs.Weight.{field_weight, method_weight, property_weight}
use Rattle.assembly_tree.specs.WellFormedMembers.{is_field, is_method, is_property}
use Rattle.assembly_tree.specs.declared.assembly.Assembly.{Assembly}
use Rattle.assembly_tree.specs.declared.members.Field.{Field}
use Rattle.assembly_tree.specs.declared.members.Method.{Method}
use Rattle.assembly_tree.specs.declared.members.Property.{Property}
use Rattle.assembly_tree.proofs.FormedFacts.{fields_named, methods_named, properties_named}
use Rattle.image_tokens.specs.Bounds.{IsTypeInBounds, IsMethodInBounds}
use Rattle.image_members.specs.Lists.{properties_in}
use Rattle.image_members.specs.Places.{all_fields, all_methods}
use Rattle.laws_writable_trees.specs.Laws.{MembersAreInBounds}
use Rattle.laws_writable_trees.proofs.Bounds.{type_bounds, signature_bounds}
use Rattle.laws_writable_trees.proofs.Each.{each_from}
use Rattle.laws_writable_trees.proofs.Members.{IsFine}
use Rattle.laws_writable_trees.proofs.Parts.{fine_fields, fine_methods, fine_properties}

module _ (a : Assembly) where
  field_bounds : (f : Field) → IsFine (is_field a) field_weight f → IsTypeInBounds f.of
  unfolding field_weight
  field_bounds f h = let light = h.light in type_bounds a f.of ((fields_named a f).0 h.formed).of (omega arith)

  method_bounds : (m : Method) → IsFine (is_method a) method_weight m → IsMethodInBounds m.sig
  unfolding method_weight
  method_bounds m h = let light = h.light in signature_bounds a m.sig ((methods_named a m).0 h.formed).sig (omega arith)

  property_bounds : (p : Property) → IsFine (is_property a) property_weight p → IsMethodInBounds p.sig
  unfolding property_weight
  property_bounds p h = let light = h.light in signature_bounds a p.sig ((properties_named a p).0 h.formed).sig (omega arith)

pub members_in_bounds : MembersAreInBounds
members_in_bounds a classes formed light are = record {
  fields =
      each_from (IsFine (is_field a) field_weight) (λ (f : Field). IsTypeInBounds f.of) (field_bounds a) (all_fields a classes) (fine_fields a classes are formed light);
  methods =
      each_from (IsFine (is_method a) method_weight) (λ (m : Method). IsMethodInBounds m.sig) (method_bounds a) (all_methods a classes) (fine_methods a classes are formed light);
  properties =
      each_from (IsFine (is_property a) property_weight) (λ (p : Property). IsMethodInBounds p.sig) (property_bounds a) (properties_in classes) (fine_properties a classes are formed light);
}
