-- What the values of a tree hold, whatever they are: a path has a name, a byte is below 256, and each number fits its field.
use Rattle.std.specs.Prelude.{ℕ, ◌==◌, ◌&&◌, Bool, true, nat_lt, int_le, ℤ, pos, negsuc, List, length}
use Rattle.std.specs.List.{list_all}
use Rattle.type_terms.specs.declared.term.Owner.{Owner, fold-Owner}
use Rattle.type_terms.specs.declared.term.SigType.{SigType, fold-SigType}
use Rattle.type_terms.specs.declared.term.Owner.TheOpen.{Owner-F, SigType-F, Name, Spec, Prim, Class, Value, Inst, Var, MVar, SzArray, Array, ByRef, Pointer, Mod, Pinned}
use Rattle.type_terms.specs.declared.reference.FieldRef.{FieldRef}
use Rattle.type_terms.specs.declared.reference.MethodRef.{MethodRef}
use Rattle.type_terms.specs.declared.reference.MethodSig.{MethodSig}
use Rattle.assembly_tree.specs.declared.assembly.Assembly.{Assembly}
use Rattle.assembly_tree.specs.declared.assembly.ExternAssembly.{ExternAssembly}
use Rattle.assembly_tree.specs.declared.assembly.Manifest.{Manifest}
use Rattle.assembly_tree.specs.declared.body.Body.{Body}
use Rattle.assembly_tree.specs.declared.body.Clause.{Clause}
use Rattle.assembly_tree.specs.declared.body.ClauseKind as handles
use Rattle.assembly_tree.specs.declared.body.Ins.{Ins}
use Rattle.assembly_tree.specs.declared.body.Operand as operand
use Rattle.assembly_tree.specs.declared.members.Attribute.{Attribute}
use Rattle.assembly_tree.specs.declared.members.Constant as constant
use Rattle.assembly_tree.specs.declared.members.Event.{Event}
use Rattle.assembly_tree.specs.declared.members.Field.{Field}
use Rattle.assembly_tree.specs.declared.members.Generic.{Generic}
use Rattle.assembly_tree.specs.declared.members.Method.{Method}
use Rattle.assembly_tree.specs.declared.members.Param.{Param}
use Rattle.assembly_tree.specs.declared.members.Property.{Property}
use Rattle.assembly_tree.specs.declared.typedef.Layout.{Layout}
use Rattle.assembly_tree.specs.declared.typedef.TypeDef.{TypeDef}
use Rattle.assembly_tree.specs.declared.typedef.TypeDef.TheOpen.{TypeDef-F}
use Rattle.assembly_tree.specs.declared.typedef.TypeDef.TheFolds.{fold-TypeDef}
use Rattle.assembly_tree.specs.WellFormedNames.{option_all}
use Rattle.listing_growth.specs.Standing.{has_name}

-- ---- numbers

abbrev pub is_u8 : ℕ → Bool
is_u8 n = nat_lt n 0x100

abbrev pub is_u16 : ℕ → Bool
is_u16 n = nat_lt n 0x10000

abbrev pub is_u32 : ℕ → Bool
is_u32 n = nat_lt n 0x100000000

abbrev pub is_u64 : ℕ → Bool
is_u64 n = nat_lt n 0x10000000000000000

abbrev pub is_i64 : ℤ → Bool
is_i64 n = int_le (negsuc 0x7FFFFFFFFFFFFFFF) n && int_le n (pos 0x7FFFFFFFFFFFFFFF)

abbrev pub are_bytes : List ℕ → Bool
are_bytes bytes = list_all is_u8 bytes

abbrev pub are_units : List ℕ → Bool
are_units units = list_all is_u16 units

-- the four numbers of a version
abbrev pub is_version : List ℕ → Bool
is_version v = length v == 4 && list_all is_u16 v

-- ---- terms

abbrev pub owner_holds : Owner-F Bool Bool → Bool
owner_holds (Name t) = has_name t
owner_holds (Spec of) = of

abbrev pub type_holds : SigType-F Bool Bool → Bool
type_holds (Prim p) = true
type_holds (Class t) = has_name t
type_holds (Value t) = has_name t
type_holds (Inst value t args) = has_name t && list_all (λ ok. ok) args
type_holds (Var n) = true
type_holds (MVar n) = true
type_holds (SzArray of) = of
type_holds (Array of rank sizes lower) = of
type_holds (ByRef of) = of
type_holds (Pointer of) = of
type_holds (Mod required by of) = by && of
type_holds (Pinned of) = of

unfoldable pub is_type_held : SigType → Bool
is_type_held t = fold-SigType Bool Bool owner_holds type_holds t

unfoldable pub is_owner_held : Owner → Bool
is_owner_held o = fold-Owner Bool Bool owner_holds type_holds o

abbrev pub is_signature_held : MethodSig → Bool
is_signature_held s = is_type_held s.ret && list_all is_type_held s.params

unfoldable pub is_method_ref_held : MethodRef → Bool
is_method_ref_held r = is_owner_held r.owner && is_signature_held r.sig && option_all (list_all is_type_held) r.args

unfoldable pub is_field_ref_held : FieldRef → Bool
is_field_ref_held r = is_owner_held r.owner && is_type_held r.of

-- ---- members

unfoldable pub is_attribute_held : Attribute → Bool
is_attribute_held a = is_method_ref_held a.constructor && are_bytes a.value

abbrev pub are_attributes_held : List Attribute → Bool
are_attributes_held attributes = list_all is_attribute_held attributes

unfoldable pub is_constant_held : constant.Constant → Bool
is_constant_held (constant.TheVariants.Char c) = is_u16 c
is_constant_held (constant.TheVariants.Real4 bits) = is_u32 bits
is_constant_held (constant.TheVariants.Real8 bits) = is_u64 bits
is_constant_held (constant.TheVariants.Str units) = are_units units
is_constant_held (constant.TheVariants.Bool b) = true
is_constant_held (constant.TheVariants.Int of n) = true
is_constant_held constant.TheVariants.Null = true

unfoldable pub is_generic_held : Generic → Bool
is_generic_held g = is_u16 g.flags && list_all is_owner_held g.bounds && are_attributes_held g.attributes

unfoldable pub is_field_held : Field → Bool
is_field_held f =
    is_u16 f.flags && is_type_held f.of && option_all is_constant_held f.constant && option_all is_u32 f.offset
    && option_all are_bytes f.content && are_attributes_held f.attributes

unfoldable pub is_param_held : Param → Bool
is_param_held p =
    is_u16 p.number && is_u16 p.flags && option_all is_constant_held p.constant && are_attributes_held p.attributes

unfoldable pub is_property_held : Property → Bool
is_property_held p =
    is_u16 p.flags && is_signature_held p.sig && option_all is_constant_held p.constant && are_attributes_held p.attributes

unfoldable pub is_event_held : Event → Bool
is_event_held e = is_u16 e.flags && is_owner_held e.of && are_attributes_held e.attributes

-- ---- bodies

abbrev pub is_operand_held : operand.Operand → Bool
is_operand_held operand.TheVariants.Nothing = true
is_operand_held (operand.TheVariants.Var n) = is_u16 n
is_operand_held (operand.TheVariants.Int n) = is_i64 n
is_operand_held (operand.TheVariants.Real bits) = is_u64 bits
is_operand_held (operand.TheVariants.Target at) = is_u32 at
is_operand_held (operand.TheVariants.Targets at) = list_all is_u32 at
is_operand_held (operand.TheVariants.Method m) = is_method_ref_held m
is_operand_held (operand.TheVariants.Field f) = is_field_ref_held f
is_operand_held (operand.TheVariants.Of o) = is_owner_held o
is_operand_held (operand.TheVariants.Text units) = are_units units

unfoldable pub is_instruction_held : Ins → Bool
is_instruction_held i = is_operand_held i.operand

abbrev pub is_handled_held : handles.ClauseKind → Bool
is_handled_held (handles.TheVariants.Catch o) = is_owner_held o
is_handled_held (handles.TheVariants.Filter at) = is_u32 at
is_handled_held handles.TheVariants.Finally = true
is_handled_held handles.TheVariants.Fault = true

unfoldable pub is_clause_held : Clause → Bool
is_clause_held c = is_handled_held c.kind

unfoldable pub is_body_held : Body → Bool
is_body_held b =
    is_u16 b.bound && list_all is_type_held b.locals && list_all is_instruction_held b.code && list_all is_clause_held b.clauses

-- ---- methods and types

unfoldable pub is_method_held : Method → Bool
is_method_held m =
    is_u16 m.flags && is_u16 m.impl_flags && is_signature_held m.sig && list_all is_generic_held m.generics
    && list_all is_param_held m.params && list_all is_method_ref_held m.overrides && option_all is_body_held m.body
    && are_attributes_held m.attributes

abbrev pub is_layout_held : Layout → Bool
is_layout_held l = is_u16 l.pack && is_u32 l.size

-- a type without those that it nests
unfoldable pub is_own_held : {A : Type 0} → TypeDef-F A → Bool
is_own_held t =
    is_u32 t.flags && option_all is_layout_held t.layout && list_all is_generic_held t.generics && option_all is_owner_held t.extends
    && list_all is_owner_held t.implements && list_all is_field_held t.fields && list_all is_method_held t.methods
    && list_all is_property_held t.properties && list_all is_event_held t.events && are_attributes_held t.attributes

abbrev pub typedef_holds : TypeDef-F Bool → Bool
typedef_holds t = is_own_held t && list_all (λ ok. ok) t.nested

unfoldable pub is_typedef_held : TypeDef → Bool
is_typedef_held t = fold-TypeDef Bool typedef_holds t

-- ---- the whole

unfoldable pub is_extern_held : ExternAssembly → Bool
is_extern_held e = is_version e.version && is_u32 e.flags && are_bytes e.key && are_bytes e.hash

unfoldable pub is_manifest_held : Manifest → Bool
is_manifest_held m =
    is_version m.version && is_u32 m.flags && are_bytes m.key && is_u32 m.hash && is_u32 m.image_base && is_u32 m.file_alignment
    && is_u32 m.stack_reserve && is_u16 m.subsystem && is_u32 m.cor_flags && are_attributes_held m.attributes
    && are_attributes_held m.module_attributes

unfoldable pub is_held : Assembly → Bool
is_held a =
    is_manifest_held a.manifest && list_all is_extern_held a.externs && list_all is_field_held a.fields
    && list_all is_method_held a.methods && list_all is_typedef_held a.types
