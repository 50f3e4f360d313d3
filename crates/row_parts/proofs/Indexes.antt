-- The coded indexes that name rows (II.24.2.6), as numbers.
use Rattle.std.proofs.Common.{◌≡◌, ℕ, ◌+◌, ◌*◌, refl, arith}
use Rattle.metadata_tables.specs.CodedIndex.{tag_of}
use Rattle.metadata_tables.specs.declared.coded.Coded.TheVariants.{HasConstant, HasCustomAttribute, HasSemantics, TypeOrMethodDef}
use Rattle.image_model.specs.Rows.{index_of}

pub method_attributes : (row : ℕ) → index_of HasCustomAttribute 0x06 row ≡ row * 32
unfolding tag_of
method_attributes row = omega arith

pub field_attributes : (row : ℕ) → index_of HasCustomAttribute 0x04 row ≡ row * 32 + 1
unfolding tag_of
field_attributes row = refl

pub type_attributes : (row : ℕ) → index_of HasCustomAttribute 0x02 row ≡ row * 32 + 3
unfolding tag_of
type_attributes row = refl

pub param_attributes : (row : ℕ) → index_of HasCustomAttribute 0x08 row ≡ row * 32 + 4
unfolding tag_of
param_attributes row = refl

pub property_attributes : (row : ℕ) → index_of HasCustomAttribute 0x17 row ≡ row * 32 + 9
unfolding tag_of
property_attributes row = refl

pub event_attributes : (row : ℕ) → index_of HasCustomAttribute 0x14 row ≡ row * 32 + 10
unfolding tag_of
event_attributes row = refl

pub generic_attributes : (row : ℕ) → index_of HasCustomAttribute 0x2A row ≡ row * 32 + 19
unfolding tag_of
generic_attributes row = refl

pub module_attributes : (row : ℕ) → index_of HasCustomAttribute 0x00 row ≡ row * 32 + 7
unfolding tag_of
module_attributes row = refl

pub assembly_attributes : (row : ℕ) → index_of HasCustomAttribute 0x20 row ≡ row * 32 + 14
unfolding tag_of
assembly_attributes row = refl

pub field_constants : (row : ℕ) → index_of HasConstant 0x04 row ≡ row * 4
unfolding tag_of
field_constants row = omega arith

pub param_constants : (row : ℕ) → index_of HasConstant 0x08 row ≡ row * 4 + 1
unfolding tag_of
param_constants row = refl

pub property_constants : (row : ℕ) → index_of HasConstant 0x17 row ≡ row * 4 + 2
unfolding tag_of
property_constants row = refl

pub event_accessors : (row : ℕ) → index_of HasSemantics 0x14 row ≡ row * 2
unfolding tag_of
event_accessors row = omega arith

pub property_accessors : (row : ℕ) → index_of HasSemantics 0x17 row ≡ row * 2 + 1
unfolding tag_of
property_accessors row = refl

pub type_generics : (row : ℕ) → index_of TypeOrMethodDef 0x02 row ≡ row * 2
unfolding tag_of
type_generics row = omega arith

pub method_generics : (row : ℕ) → index_of TypeOrMethodDef 0x06 row ≡ row * 2 + 1
unfolding tag_of
method_generics row = refl
