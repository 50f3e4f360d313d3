-- The cells of an image's tables by the names of their columns (II.22): each of an image and a row.
use Rattle.std.specs.Prelude.{ℕ, List}
use Rattle.metadata_tables.specs.Stream.{cell}
use Rattle.image_model.specs.Streams.{tables_of}

-- II.22.30, Module
abbrev pub module_generation : List ℕ → ℕ → ℕ
module_generation image row = cell (tables_of image) 0x00 row 0

abbrev pub module_name : List ℕ → ℕ → ℕ
module_name image row = cell (tables_of image) 0x00 row 1

abbrev pub module_identifier : List ℕ → ℕ → ℕ
module_identifier image row = cell (tables_of image) 0x00 row 2

abbrev pub module_edit : List ℕ → ℕ → ℕ
module_edit image row = cell (tables_of image) 0x00 row 3

abbrev pub module_edit_base : List ℕ → ℕ → ℕ
module_edit_base image row = cell (tables_of image) 0x00 row 4

-- II.22.38, TypeRef
abbrev pub type_ref_scope : List ℕ → ℕ → ℕ
type_ref_scope image row = cell (tables_of image) 0x01 row 0

abbrev pub type_ref_name : List ℕ → ℕ → ℕ
type_ref_name image row = cell (tables_of image) 0x01 row 1

abbrev pub type_ref_space : List ℕ → ℕ → ℕ
type_ref_space image row = cell (tables_of image) 0x01 row 2

-- II.22.37, TypeDef
abbrev pub type_flags : List ℕ → ℕ → ℕ
type_flags image row = cell (tables_of image) 0x02 row 0

abbrev pub type_name : List ℕ → ℕ → ℕ
type_name image row = cell (tables_of image) 0x02 row 1

abbrev pub type_space : List ℕ → ℕ → ℕ
type_space image row = cell (tables_of image) 0x02 row 2

abbrev pub type_extends : List ℕ → ℕ → ℕ
type_extends image row = cell (tables_of image) 0x02 row 3

abbrev pub type_fields : List ℕ → ℕ → ℕ
type_fields image row = cell (tables_of image) 0x02 row 4

abbrev pub type_methods : List ℕ → ℕ → ℕ
type_methods image row = cell (tables_of image) 0x02 row 5

-- II.22.15, Field
abbrev pub field_flags : List ℕ → ℕ → ℕ
field_flags image row = cell (tables_of image) 0x04 row 0

abbrev pub field_name : List ℕ → ℕ → ℕ
field_name image row = cell (tables_of image) 0x04 row 1

abbrev pub field_signature : List ℕ → ℕ → ℕ
field_signature image row = cell (tables_of image) 0x04 row 2

-- II.22.26, MethodDef
abbrev pub method_rva : List ℕ → ℕ → ℕ
method_rva image row = cell (tables_of image) 0x06 row 0

abbrev pub method_impl_flags : List ℕ → ℕ → ℕ
method_impl_flags image row = cell (tables_of image) 0x06 row 1

abbrev pub method_flags : List ℕ → ℕ → ℕ
method_flags image row = cell (tables_of image) 0x06 row 2

abbrev pub method_name : List ℕ → ℕ → ℕ
method_name image row = cell (tables_of image) 0x06 row 3

abbrev pub method_signature : List ℕ → ℕ → ℕ
method_signature image row = cell (tables_of image) 0x06 row 4

abbrev pub method_params : List ℕ → ℕ → ℕ
method_params image row = cell (tables_of image) 0x06 row 5

-- II.22.33, Param
abbrev pub param_flags : List ℕ → ℕ → ℕ
param_flags image row = cell (tables_of image) 0x08 row 0

abbrev pub param_sequence : List ℕ → ℕ → ℕ
param_sequence image row = cell (tables_of image) 0x08 row 1

abbrev pub param_name : List ℕ → ℕ → ℕ
param_name image row = cell (tables_of image) 0x08 row 2

-- II.22.23, InterfaceImpl
abbrev pub interface_class : List ℕ → ℕ → ℕ
interface_class image row = cell (tables_of image) 0x09 row 0

abbrev pub interface_type : List ℕ → ℕ → ℕ
interface_type image row = cell (tables_of image) 0x09 row 1

-- II.22.25, MemberRef
abbrev pub member_parent : List ℕ → ℕ → ℕ
member_parent image row = cell (tables_of image) 0x0A row 0

abbrev pub member_name : List ℕ → ℕ → ℕ
member_name image row = cell (tables_of image) 0x0A row 1

abbrev pub member_signature : List ℕ → ℕ → ℕ
member_signature image row = cell (tables_of image) 0x0A row 2

-- II.22.9, Constant
abbrev pub constant_type : List ℕ → ℕ → ℕ
constant_type image row = cell (tables_of image) 0x0B row 0

abbrev pub constant_parent : List ℕ → ℕ → ℕ
constant_parent image row = cell (tables_of image) 0x0B row 2

abbrev pub constant_value : List ℕ → ℕ → ℕ
constant_value image row = cell (tables_of image) 0x0B row 3

-- II.22.10, CustomAttribute
abbrev pub attribute_parent : List ℕ → ℕ → ℕ
attribute_parent image row = cell (tables_of image) 0x0C row 0

abbrev pub attribute_type : List ℕ → ℕ → ℕ
attribute_type image row = cell (tables_of image) 0x0C row 1

abbrev pub attribute_value : List ℕ → ℕ → ℕ
attribute_value image row = cell (tables_of image) 0x0C row 2

-- II.22.8, ClassLayout
abbrev pub layout_pack : List ℕ → ℕ → ℕ
layout_pack image row = cell (tables_of image) 0x0F row 0

abbrev pub layout_size : List ℕ → ℕ → ℕ
layout_size image row = cell (tables_of image) 0x0F row 1

abbrev pub layout_parent : List ℕ → ℕ → ℕ
layout_parent image row = cell (tables_of image) 0x0F row 2

-- II.22.16, FieldLayout
abbrev pub offset_of_row : List ℕ → ℕ → ℕ
offset_of_row image row = cell (tables_of image) 0x10 row 0

abbrev pub offset_field : List ℕ → ℕ → ℕ
offset_field image row = cell (tables_of image) 0x10 row 1

-- II.22.36, StandAloneSig
abbrev pub locals_signature : List ℕ → ℕ → ℕ
locals_signature image row = cell (tables_of image) 0x11 row 0

-- II.22.12, EventMap
abbrev pub event_map_parent : List ℕ → ℕ → ℕ
event_map_parent image row = cell (tables_of image) 0x12 row 0

abbrev pub event_map_events : List ℕ → ℕ → ℕ
event_map_events image row = cell (tables_of image) 0x12 row 1

-- II.22.13, Event
abbrev pub event_flags : List ℕ → ℕ → ℕ
event_flags image row = cell (tables_of image) 0x14 row 0

abbrev pub event_name : List ℕ → ℕ → ℕ
event_name image row = cell (tables_of image) 0x14 row 1

abbrev pub event_type : List ℕ → ℕ → ℕ
event_type image row = cell (tables_of image) 0x14 row 2

-- II.22.35, PropertyMap
abbrev pub property_map_parent : List ℕ → ℕ → ℕ
property_map_parent image row = cell (tables_of image) 0x15 row 0

abbrev pub property_map_properties : List ℕ → ℕ → ℕ
property_map_properties image row = cell (tables_of image) 0x15 row 1

-- II.22.34, Property
abbrev pub property_flags : List ℕ → ℕ → ℕ
property_flags image row = cell (tables_of image) 0x17 row 0

abbrev pub property_name : List ℕ → ℕ → ℕ
property_name image row = cell (tables_of image) 0x17 row 1

abbrev pub property_signature : List ℕ → ℕ → ℕ
property_signature image row = cell (tables_of image) 0x17 row 2

-- II.22.28, MethodSemantics
abbrev pub semantics_kind : List ℕ → ℕ → ℕ
semantics_kind image row = cell (tables_of image) 0x18 row 0

abbrev pub semantics_method : List ℕ → ℕ → ℕ
semantics_method image row = cell (tables_of image) 0x18 row 1

abbrev pub semantics_association : List ℕ → ℕ → ℕ
semantics_association image row = cell (tables_of image) 0x18 row 2

-- II.22.27, MethodImpl
abbrev pub override_class : List ℕ → ℕ → ℕ
override_class image row = cell (tables_of image) 0x19 row 0

abbrev pub override_body : List ℕ → ℕ → ℕ
override_body image row = cell (tables_of image) 0x19 row 1

abbrev pub override_declaration : List ℕ → ℕ → ℕ
override_declaration image row = cell (tables_of image) 0x19 row 2

-- II.22.39, TypeSpec
abbrev pub type_spec_signature : List ℕ → ℕ → ℕ
type_spec_signature image row = cell (tables_of image) 0x1B row 0

-- II.22.18, FieldRVA
abbrev pub data_rva : List ℕ → ℕ → ℕ
data_rva image row = cell (tables_of image) 0x1D row 0

abbrev pub data_field : List ℕ → ℕ → ℕ
data_field image row = cell (tables_of image) 0x1D row 1

-- II.22.2, Assembly
abbrev pub assembly_hash : List ℕ → ℕ → ℕ
assembly_hash image row = cell (tables_of image) 0x20 row 0

abbrev pub assembly_major : List ℕ → ℕ → ℕ
assembly_major image row = cell (tables_of image) 0x20 row 1

abbrev pub assembly_minor : List ℕ → ℕ → ℕ
assembly_minor image row = cell (tables_of image) 0x20 row 2

abbrev pub assembly_build : List ℕ → ℕ → ℕ
assembly_build image row = cell (tables_of image) 0x20 row 3

abbrev pub assembly_revision : List ℕ → ℕ → ℕ
assembly_revision image row = cell (tables_of image) 0x20 row 4

abbrev pub assembly_flags : List ℕ → ℕ → ℕ
assembly_flags image row = cell (tables_of image) 0x20 row 5

abbrev pub assembly_key : List ℕ → ℕ → ℕ
assembly_key image row = cell (tables_of image) 0x20 row 6

abbrev pub assembly_name : List ℕ → ℕ → ℕ
assembly_name image row = cell (tables_of image) 0x20 row 7

abbrev pub assembly_culture : List ℕ → ℕ → ℕ
assembly_culture image row = cell (tables_of image) 0x20 row 8

-- II.22.5, AssemblyRef
abbrev pub extern_major : List ℕ → ℕ → ℕ
extern_major image row = cell (tables_of image) 0x23 row 0

abbrev pub extern_minor : List ℕ → ℕ → ℕ
extern_minor image row = cell (tables_of image) 0x23 row 1

abbrev pub extern_build : List ℕ → ℕ → ℕ
extern_build image row = cell (tables_of image) 0x23 row 2

abbrev pub extern_revision : List ℕ → ℕ → ℕ
extern_revision image row = cell (tables_of image) 0x23 row 3

abbrev pub extern_flags : List ℕ → ℕ → ℕ
extern_flags image row = cell (tables_of image) 0x23 row 4

abbrev pub extern_key : List ℕ → ℕ → ℕ
extern_key image row = cell (tables_of image) 0x23 row 5

abbrev pub extern_name : List ℕ → ℕ → ℕ
extern_name image row = cell (tables_of image) 0x23 row 6

abbrev pub extern_culture : List ℕ → ℕ → ℕ
extern_culture image row = cell (tables_of image) 0x23 row 7

abbrev pub extern_hash : List ℕ → ℕ → ℕ
extern_hash image row = cell (tables_of image) 0x23 row 8

-- II.22.32, NestedClass
abbrev pub nested_class : List ℕ → ℕ → ℕ
nested_class image row = cell (tables_of image) 0x29 row 0

abbrev pub enclosing_class : List ℕ → ℕ → ℕ
enclosing_class image row = cell (tables_of image) 0x29 row 1

-- II.22.20, GenericParam
abbrev pub generic_number : List ℕ → ℕ → ℕ
generic_number image row = cell (tables_of image) 0x2A row 0

abbrev pub generic_flags : List ℕ → ℕ → ℕ
generic_flags image row = cell (tables_of image) 0x2A row 1

abbrev pub generic_owner : List ℕ → ℕ → ℕ
generic_owner image row = cell (tables_of image) 0x2A row 2

abbrev pub generic_name : List ℕ → ℕ → ℕ
generic_name image row = cell (tables_of image) 0x2A row 3

-- II.22.29, MethodSpec
abbrev pub instance_method : List ℕ → ℕ → ℕ
instance_method image row = cell (tables_of image) 0x2B row 0

abbrev pub instance_arguments : List ℕ → ℕ → ℕ
instance_arguments image row = cell (tables_of image) 0x2B row 1

-- II.22.21, GenericParamConstraint
abbrev pub bound_parameter : List ℕ → ℕ → ℕ
bound_parameter image row = cell (tables_of image) 0x2C row 0

abbrev pub bound_type : List ℕ → ℕ → ℕ
bound_type image row = cell (tables_of image) 0x2C row 1
