-- The whole of an image: what comes into heaps, the code and the rows weigh no more than the assembly.
use Rattle.std.proofs.Common.{◌≡◌, ◌∙◌, ap, refl, ℕ, ◌+◌, ◌≤◌, List, length, arith}
use Rattle.std.specs.Prelude.{sum_by}
use Rattle.std.specs.List.{flat_map}
use Rattle.std.proofs.lemmas.List.Sums.{sum_by-append}
use Rattle.assembly_tree.specs.Weight.{extern_weight, manifest_weight, field_weight, method_weight, own_weight, typedef_step, typedef_weight, weight_of}
use Rattle.assembly_tree.specs.declared.assembly.Assembly.{Assembly}
use Rattle.assembly_tree.specs.declared.assembly.ExternAssembly.{ExternAssembly}
use Rattle.assembly_tree.specs.declared.typedef.TypeDef.{TypeDef}
use Rattle.assembly_tree.specs.declared.typedef.TypeDef.TheFolds.{fold_out-TypeDef}
use Rattle.assembly_tree.specs.declared.typedef.TypeDef.TheViews.{out-TypeDef}
use Rattle.std.proofs.lemmas.List.Sums.{sum-map}
use Rattle.image_members.specs.Classes.{AreClasses}
use Rattle.image_members.specs.DeclaredMembers.{class_fields, class_methods, field_bytes, method_bytes, fields_bytes, methods_bytes}
use Rattle.image_members.specs.GenericRows.{bounds_from}
use Rattle.image_members.specs.Lists.{longest_of, attribute_lists, attribute_items, constant_lists, constant_items, accessor_lists, accessor_items, generic_lists, generic_items, generics_in, params_in, properties_in, events_in}
use Rattle.image_members.specs.ManifestRows.{module_bytes, assembly_bytes, extern_bytes}
use Rattle.image_members.specs.Places.{all_fields, all_methods}
use Rattle.image_members.specs.declared.classes.Class.{Class}
use Rattle.laws_tree_weights.specs.ImageBytes.{declared_bytes, manifest_bytes, named_bytes, member_bytes, owned_bytes, code_bytes, manifest_row_bytes, field_row_bytes, method_row_bytes, property_row_bytes, owned_row_bytes}
use Rattle.laws_tree_weights.specs.Laws.{WeightIsEnough}
use Rattle.laws_tree_weights.proofs.AttributeSums.{method_attributes, field_attributes, own_attributes, param_attributes, property_attributes, event_attributes, attributes_most}
use Rattle.laws_tree_weights.proofs.ClassSums.{class_weight, classes_sum, classes_fit}
use Rattle.laws_tree_weights.proofs.FieldSums.{fields_fit, params_fit}
use Rattle.laws_tree_weights.proofs.MethodSums.{methods_fit}
use Rattle.laws_tree_weights.proofs.OwnedSums.{field_constant, param_constant, property_constant, own_generics, method_generics, constants_most, generics_most, accessors_most}
use Rattle.laws_tree_weights.proofs.PartLemmas.{attributes_part, attributes_fit}
use Rattle.laws_tree_weights.proofs.PropertySums.{properties_fit, events_fit}
use Rattle.laws_tree_weights.proofs.Sums.{sum_flat, sum_each, sum_least}
use Rattle.laws_tree_weights.proofs.TextSums.{texts_few}

-- ---- the manifest

extern_fits : (e : ExternAssembly) → extern_bytes e + 28 ≤ extern_weight e
unfolding extern_bytes extern_weight
extern_fits e = omega arith

-- 101 more for the texts' lengths, and the rows
manifest_fits : (a : Assembly) → manifest_bytes a + manifest_row_bytes a + attributes_part a.manifest.module_attributes + attributes_part a.manifest.attributes
    ≤ 101 + manifest_weight a.manifest + sum_by extern_weight a.externs
unfolding manifest_bytes manifest_row_bytes manifest_weight module_bytes assembly_bytes
manifest_fits a =
    let rows = sum_each extern_bytes 28 a.externs in
    let externs = sum_least (λ e. extern_bytes e + 28) extern_weight extern_fits a.externs in
    let first = attributes_fit a.manifest.module_attributes in
    let then = attributes_fit a.manifest.attributes in
    omega arith

-- ---- what rows own

owned_fits : (a : Assembly) (classes : List Class)
    → owned_bytes a classes + owned_row_bytes a classes
    ≤ sum_by field_constant (all_fields a classes) + sum_by param_constant (params_in a classes) + sum_by property_constant (properties_in classes)
    + (sum_by own_generics classes + sum_by method_generics (all_methods a classes))
    + (sum_by method_attributes (all_methods a classes) + sum_by field_attributes (all_fields a classes) + sum_by own_attributes classes
    + sum_by param_attributes (params_in a classes) + attributes_part a.manifest.module_attributes + sum_by property_attributes (properties_in classes)
    + sum_by event_attributes (events_in classes) + attributes_part a.manifest.attributes)
unfolding owned_bytes owned_row_bytes
owned_fits a classes =
    let constants = constants_most (all_fields a classes) (params_in a classes) (properties_in classes) (longest_of (constant_lists a classes)) (constant_items a classes) refl in
    let generics =
    generics_most classes (all_methods a classes) (longest_of (generic_lists a classes)) (generic_items a classes) (bounds_from 1 (generics_in a classes)) refl refl
    in
    let attributes =
    attributes_most (all_methods a classes) (all_fields a classes) classes (params_in a classes) a.manifest.module_attributes (properties_in classes) (events_in classes) a.manifest.attributes (generics_in a classes)
    (longest_of (attribute_lists a classes)) (attribute_items a classes) refl
    in
    omega arith

-- ---- fields and methods in the order of their rows

fields_same : (a : Assembly) (classes : List Class) → fields_bytes a classes ≡ sum_by field_bytes (all_fields a classes)
fields_same a classes =
    let all = sum_by-append field_bytes a.fields (flat_map class_fields classes) in
    let own = sum_flat field_bytes class_fields classes in
    omega arith

methods_same : (a : Assembly) (classes : List Class) → methods_bytes a classes ≡ sum_by method_bytes (all_methods a classes)
methods_same a classes =
    let all = sum_by-append method_bytes a.methods (flat_map class_methods classes) in
    let own = sum_flat method_bytes class_methods classes in
    omega arith

-- ---- what all weigh

layer : (t : TypeDef) → typedef_weight t ≡ own_weight (out-TypeDef t) + sum_by typedef_weight (out-TypeDef t).nested
unfolding own_weight
layer t = fold_out-TypeDef ℕ typedef_step t ∙ ap (λ s. own_weight (out-TypeDef t) + s) (sum-map typedef_weight (out-TypeDef t).nested)

types_weigh : (a : Assembly) (classes : List Class) → AreClasses 0 2 a.types classes → sum_by class_weight classes ≡ sum_by typedef_weight a.types
types_weigh a classes are = classes_sum typedef_weight (λ t. own_weight (out-TypeDef t)) layer 0 2 a.types classes are

all_weigh : (a : Assembly) (classes : List Class) → AreClasses 0 2 a.types classes
    → weight_of a + sum_by field_weight (flat_map class_fields classes) + sum_by method_weight (flat_map class_methods classes)
    ≡ 32768 + manifest_weight a.manifest + sum_by extern_weight a.externs + sum_by field_weight (all_fields a classes) + sum_by method_weight (all_methods a classes)
    + sum_by class_weight classes
unfolding weight_of
all_weigh a classes are =
    let fields = sum_by-append field_weight a.fields (flat_map class_fields classes) in
    let methods = sum_by-append method_weight a.methods (flat_map class_methods classes) in
    let types = types_weigh a classes are in
    omega arith

-- ---- the whole

pub enough : WeightIsEnough
unfolding declared_bytes named_bytes member_bytes code_bytes field_row_bytes method_row_bytes property_row_bytes
enough a classes are =
    let weigh = all_weigh a classes are in
    let loaded = texts_few a classes are in
    let f = fields_same a classes in
    let m = methods_same a classes in
    let manifest = manifest_fits a in
    let owned = owned_fits a classes in
    let accessors = accessors_most (1 + length a.methods) classes (longest_of (accessor_lists a classes)) (accessor_items a classes) refl in
    let fields = fields_fit (all_fields a classes) in
    let params = params_fit (params_in a classes) in
    let methods = methods_fit (all_methods a classes) in
    let properties = properties_fit (properties_in classes) in
    let events = events_fit (events_in classes) in
    let types = classes_fit classes in
    omega arith
