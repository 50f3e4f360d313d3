-- The weights of the parts of an assembly that the rows of an image give, by the weights that are told of what the rows name (II.22).
use Rattle.std.specs.Prelude.{ℕ, zero, suc, ◌+◌, ◌-◌, ◌*◌, ◌==◌, Bool, false, if◌then◌else◌, List, [], ◌∷◌, length, drop, sum_by, slice_index, slice_index_or}
use Rattle.std.specs.List.{range_with_len}
use Rattle.std.specs.Option.{option_map_or}
use Rattle.heaps.specs.LookUp.{blob_in}
use Rattle.metadata_tables.specs.CodedIndex.{unpacked}
use Rattle.metadata_tables.specs.declared.coded.Coded.{Coded}
use Rattle.metadata_tables.specs.declared.coded.Coded.TheVariants.{TypeDefOrRef, MethodDefOrRef, CustomAttributeType}
use Rattle.image_model.specs.Columns.{module_name, type_name, type_space, type_extends, field_name, method_name, param_sequence, param_name, interface_class, interface_type, constant_type, constant_parent, constant_value, attribute_parent, attribute_type, attribute_value, event_name, event_type, property_name, semantics_association, override_declaration, assembly_key, assembly_name, assembly_culture, extern_key, extern_name, extern_culture, extern_hash, generic_owner, generic_name, bound_parameter, bound_type}
use Rattle.image_model.specs.Members.{layouts_of, offsets_of, data_of}
use Rattle.image_model.specs.Reading.{overrides_of}
use Rattle.image_model.specs.Rows.{count_of, rows_of, rows_with, fields_of, methods_of, params_of, events_of, properties_of}
use Rattle.image_model.specs.Streams.{strings_of, blobs_of}
use Rattle.told_weights.specs.Told.{Told}

-- ---- heaps

-- how many bytes stand before the first zero byte
abbrev pub text_length : List ℕ → ℕ
text_length [] = 0
text_length (zero ∷ rest) = 0
text_length (suc byte ∷ rest) = suc (text_length rest)

-- the length of the text at an index of `#Strings` (II.24.2.3)
unfoldable pub text_weight : List ℕ → ℕ → ℕ
text_weight heap zero = 0
text_weight heap (suc k) = text_length (drop (suc k) heap)

-- the length of the blob at an index of `#Blob` (II.24.2.4)
unfoldable pub blob_weight : List ℕ → ℕ → ℕ
blob_weight heap index = option_map_or length (blob_in heap index) 0

abbrev pub text : List ℕ → ℕ → ℕ
text image index = text_weight (strings_of image) index

abbrev pub blob : List ℕ → ℕ → ℕ
blob image index = blob_weight (blobs_of image) index

-- ---- what rows name

-- what is told of the row that a coded index names
unfoldable pub named : (ℕ → ℕ → ℕ) → Coded → ℕ → ℕ
named weigh kind value = option_map_or (λ at. weigh at.0 at.1) (unpacked kind value) 0

abbrev pub owner : Told → ℕ → ℕ
owner told value = named told.owner TypeDefOrRef value

-- what the first of some rows weighs, where there is one
abbrev pub first_weight : (ℕ → ℕ) → List ℕ → ℕ
first_weight weigh [] = 0
first_weight weigh (row ∷ rows) = weigh row

-- ---- attributes and constants, of what a coded index names

unfoldable pub attribute_row : List ℕ → Told → ℕ → ℕ
attribute_row image told row =
    64 + named told.method CustomAttributeType (attribute_type image row) + blob image (attribute_value image row)

abbrev pub attributes : List ℕ → Told → ℕ → ℕ
attributes image told index = sum_by (attribute_row image told) (rows_with image 0x0C attribute_parent index)

-- the bytes of a string's value are two for each unit
unfoldable pub constant_row : List ℕ → ℕ → ℕ
constant_row image row = 64 + (if constant_type image row == 0x0E then blob image (constant_value image row) else 0)

abbrev pub constants : List ℕ → ℕ → ℕ
constants image index = first_weight (constant_row image) (rows_with image 0x0B constant_parent index)

abbrev pub accessors : List ℕ → ℕ → ℕ
accessors image index = 64 * length (rows_with image 0x18 semantics_association index)

-- ---- generic parameters

unfoldable pub bound_row : List ℕ → Told → ℕ → ℕ
bound_row image told row = 64 + owner told (bound_type image row)

unfoldable pub generic_row : List ℕ → Told → ℕ → ℕ
generic_row image told row =
    64 + text image (generic_name image row) + sum_by (bound_row image told) (rows_with image 0x2C bound_parameter row)
    + attributes image told (row * 32 + 19)

abbrev pub generics : List ℕ → Told → ℕ → ℕ
generics image told index = sum_by (generic_row image told) (rows_with image 0x2A generic_owner index)

-- ---- members

-- 64 for data, with as many bytes as are told of its row
unfoldable pub field_row : List ℕ → Told → List ℕ → ℕ → ℕ
field_row image told sizes row =
    64 + text image (field_name image row) + told.field row + constants image (row * 4)
    + first_weight (λ k. 64) (offsets_of image row) + first_weight (λ k. 64 + slice_index sizes k) (data_of image row)
    + attributes image told (row * 32 + 1)

-- the name of a result isn't kept
unfoldable pub param_row : List ℕ → Told → ℕ → ℕ
param_row image told row =
    64 + (if param_sequence image row == 0 then 0 else text image (param_name image row)) + constants image (row * 4 + 1)
    + attributes image told (row * 32 + 4)

unfoldable pub override_row : List ℕ → Told → ℕ → ℕ
override_row image told row = 64 + named told.method MethodDefOrRef (override_declaration image row)

unfoldable pub method_row : List ℕ → Told → ℕ → ℕ
method_row image told row =
    64 + text image (method_name image row) + told.signature row + generics image told (row * 2 + 1)
    + sum_by (param_row image told) (params_of image row) + sum_by (override_row image told) (overrides_of image row)
    + told.body row + attributes image told (row * 32)

unfoldable pub property_row : List ℕ → Told → ℕ → ℕ
property_row image told row =
    64 + text image (property_name image row) + told.property row + constants image (row * 4 + 2)
    + accessors image (row * 2 + 1) + attributes image told (row * 32 + 9)

unfoldable pub event_row : List ℕ → Told → ℕ → ℕ
event_row image told row =
    64 + text image (event_name image row) + owner told (event_type image row) + accessors image (row * 2)
    + attributes image told (row * 32 + 10)

-- ---- types

-- an interface counts where it is marked: not where it came before
unfoldable pub interface_row : List ℕ → Told → List Bool → ℕ → ℕ
interface_row image told fresh row =
    if slice_index_or fresh row false then 64 + owner told (interface_type image row) else 0

abbrev pub base : Told → ℕ → ℕ
base told value = if value == 0 then 0 else owner told value

-- a type without those that it nests
unfoldable pub type_row : List ℕ → Told → List ℕ → List Bool → ℕ → ℕ
type_row image told sizes fresh row =
    64 + text image (type_space image row) + text image (type_name image row) + first_weight (λ k. 64) (layouts_of image row)
    + generics image told (row * 2) + base told (type_extends image row)
    + sum_by (interface_row image told fresh) (rows_with image 0x09 interface_class row)
    + sum_by (field_row image told sizes) (fields_of image row) + sum_by (method_row image told) (methods_of image row)
    + sum_by (property_row image told) (properties_of image row) + sum_by (event_row image told) (events_of image row)
    + attributes image told (row * 32 + 3)

-- ---- the whole

unfoldable pub extern_row : List ℕ → ℕ → ℕ
extern_row image row =
    64 + text image (extern_name image row) + blob image (extern_key image row) + text image (extern_culture image row)
    + blob image (extern_hash image row)

unfoldable pub manifest_row : List ℕ → Told → ℕ
manifest_row image told =
    text image (assembly_name image 1) + blob image (assembly_key image 1) + text image (assembly_culture image 1)
    + text image (module_name image 1) + attributes image told 46 + attributes image told 39

-- the rows of types but the first, which is the module's
abbrev pub type_rows : List ℕ → List ℕ
type_rows image = range_with_len 2 (count_of image 0x02 - 1)

unfoldable pub image_weight : List ℕ → Told → List ℕ → List Bool → ℕ
image_weight image told sizes fresh =
    32768 + manifest_row image told + sum_by (extern_row image) (rows_of image 0x23)
    + sum_by (field_row image told sizes) (fields_of image 1) + sum_by (method_row image told) (methods_of image 1)
    + sum_by (type_row image told sizes fresh) (type_rows image)
