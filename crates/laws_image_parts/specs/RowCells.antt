-- The rows of an image's tables as lists of their cells: each of an image and a row (ECMA-335 II.22).
use Rattle.std.specs.Prelude.{ℕ, List, [], ◌∷◌}
use Rattle.metadata_tables.specs.Stream.{cell}
use Rattle.image_model.specs.Columns.{module_generation, module_name, module_identifier, module_edit, module_edit_base, type_ref_scope, type_ref_name, type_ref_space, type_flags, type_name, type_space, type_extends, type_fields, type_methods, field_flags, field_name, field_signature, method_rva, method_impl_flags, method_flags, method_name, method_signature, method_params, param_flags, param_sequence, param_name, interface_class, interface_type, member_parent, member_name, member_signature, constant_type, constant_parent, constant_value, attribute_parent, attribute_type, attribute_value, layout_pack, layout_size, layout_parent, offset_of_row, offset_field, locals_signature, event_map_parent, event_map_events, event_flags, event_name, event_type, property_map_parent, property_map_properties, property_flags, property_name, property_signature, semantics_kind, semantics_method, semantics_association, override_class, override_body, override_declaration, type_spec_signature, data_rva, data_field, assembly_hash, assembly_major, assembly_minor, assembly_build, assembly_revision, assembly_flags, assembly_key, assembly_name, assembly_culture, extern_major, extern_minor, extern_build, extern_revision, extern_flags, extern_key, extern_name, extern_culture, extern_hash, nested_class, enclosing_class, generic_number, generic_flags, generic_owner, generic_name, instance_method, instance_arguments, bound_parameter, bound_type}
use Rattle.image_model.specs.Streams.{tables_of}

-- II.22.30, Module
abbrev pub module_cells : List ℕ → ℕ → List ℕ
module_cells image row =
    module_generation image row ∷ module_name image row ∷ module_identifier image row ∷ module_edit image row ∷ module_edit_base image row ∷ []

-- II.22.38, TypeRef
abbrev pub type_ref_cells : List ℕ → ℕ → List ℕ
type_ref_cells image row =
    type_ref_scope image row ∷ type_ref_name image row ∷ type_ref_space image row ∷ []

-- II.22.37, TypeDef
abbrev pub type_cells : List ℕ → ℕ → List ℕ
type_cells image row =
    type_flags image row ∷ type_name image row ∷ type_space image row ∷ type_extends image row ∷ type_fields image row ∷ type_methods image row ∷ []

-- II.22.15, Field
abbrev pub field_cells : List ℕ → ℕ → List ℕ
field_cells image row =
    field_flags image row ∷ field_name image row ∷ field_signature image row ∷ []

-- II.22.26, MethodDef
abbrev pub method_cells : List ℕ → ℕ → List ℕ
method_cells image row =
    method_rva image row ∷ method_impl_flags image row ∷ method_flags image row ∷ method_name image row ∷ method_signature image row ∷ method_params image row ∷ []

-- II.22.33, Param
abbrev pub param_cells : List ℕ → ℕ → List ℕ
param_cells image row =
    param_flags image row ∷ param_sequence image row ∷ param_name image row ∷ []

-- II.22.23, InterfaceImpl
abbrev pub interface_cells : List ℕ → ℕ → List ℕ
interface_cells image row =
    interface_class image row ∷ interface_type image row ∷ []

-- II.22.25, MemberRef
abbrev pub member_cells : List ℕ → ℕ → List ℕ
member_cells image row =
    member_parent image row ∷ member_name image row ∷ member_signature image row ∷ []

-- II.22.9, Constant, whose second cell is a zero
abbrev pub constant_cells : List ℕ → ℕ → List ℕ
constant_cells image row =
    constant_type image row ∷ cell (tables_of image) 0x0B row 1 ∷ constant_parent image row ∷ constant_value image row ∷ []

-- II.22.10, CustomAttribute
abbrev pub attribute_cells : List ℕ → ℕ → List ℕ
attribute_cells image row =
    attribute_parent image row ∷ attribute_type image row ∷ attribute_value image row ∷ []

-- II.22.8, ClassLayout
abbrev pub layout_cells : List ℕ → ℕ → List ℕ
layout_cells image row =
    layout_pack image row ∷ layout_size image row ∷ layout_parent image row ∷ []

-- II.22.16, FieldLayout
abbrev pub offset_cells : List ℕ → ℕ → List ℕ
offset_cells image row =
    offset_of_row image row ∷ offset_field image row ∷ []

-- II.22.36, StandAloneSig
abbrev pub locals_cells : List ℕ → ℕ → List ℕ
locals_cells image row =
    locals_signature image row ∷ []

-- II.22.12, EventMap
abbrev pub event_map_cells : List ℕ → ℕ → List ℕ
event_map_cells image row =
    event_map_parent image row ∷ event_map_events image row ∷ []

-- II.22.13, Event
abbrev pub event_cells : List ℕ → ℕ → List ℕ
event_cells image row =
    event_flags image row ∷ event_name image row ∷ event_type image row ∷ []

-- II.22.35, PropertyMap
abbrev pub property_map_cells : List ℕ → ℕ → List ℕ
property_map_cells image row =
    property_map_parent image row ∷ property_map_properties image row ∷ []

-- II.22.34, Property
abbrev pub property_cells : List ℕ → ℕ → List ℕ
property_cells image row =
    property_flags image row ∷ property_name image row ∷ property_signature image row ∷ []

-- II.22.28, MethodSemantics
abbrev pub semantics_cells : List ℕ → ℕ → List ℕ
semantics_cells image row =
    semantics_kind image row ∷ semantics_method image row ∷ semantics_association image row ∷ []

-- II.22.27, MethodImpl
abbrev pub override_cells : List ℕ → ℕ → List ℕ
override_cells image row =
    override_class image row ∷ override_body image row ∷ override_declaration image row ∷ []

-- II.22.39, TypeSpec
abbrev pub type_spec_cells : List ℕ → ℕ → List ℕ
type_spec_cells image row =
    type_spec_signature image row ∷ []

-- II.22.18, FieldRVA
abbrev pub data_cells : List ℕ → ℕ → List ℕ
data_cells image row =
    data_rva image row ∷ data_field image row ∷ []

-- II.22.2, Assembly
abbrev pub assembly_cells : List ℕ → ℕ → List ℕ
assembly_cells image row =
    assembly_hash image row ∷ assembly_major image row ∷ assembly_minor image row ∷ assembly_build image row ∷ assembly_revision image row ∷ assembly_flags image row ∷ assembly_key image row ∷ assembly_name image row ∷ assembly_culture image row ∷ []

-- II.22.5, AssemblyRef
abbrev pub extern_cells : List ℕ → ℕ → List ℕ
extern_cells image row =
    extern_major image row ∷ extern_minor image row ∷ extern_build image row ∷ extern_revision image row ∷ extern_flags image row ∷ extern_key image row ∷ extern_name image row ∷ extern_culture image row ∷ extern_hash image row ∷ []

-- II.22.32, NestedClass
abbrev pub nested_cells : List ℕ → ℕ → List ℕ
nested_cells image row =
    nested_class image row ∷ enclosing_class image row ∷ []

-- II.22.20, GenericParam
abbrev pub generic_cells : List ℕ → ℕ → List ℕ
generic_cells image row =
    generic_number image row ∷ generic_flags image row ∷ generic_owner image row ∷ generic_name image row ∷ []

-- II.22.29, MethodSpec
abbrev pub instance_cells : List ℕ → ℕ → List ℕ
instance_cells image row =
    instance_method image row ∷ instance_arguments image row ∷ []

-- II.22.21, GenericParamConstraint
abbrev pub bound_cells : List ℕ → ℕ → List ℕ
bound_cells image row =
    bound_parameter image row ∷ bound_type image row ∷ []
