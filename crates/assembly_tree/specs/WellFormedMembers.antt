-- The conditions on members and what belongs to them in a well-formed tree (ECMA-335 II.15 to II.18, II.21).
use Rattle.std.specs.Prelude.{ℕ, ◌==◌, ◌&&◌, ◌||◌, Bool, true, false, not, nat_lt, nat_le, nat_eq, int_le, ℤ, pos, negsuc, bit_and, List, length, Option, None, Some}
use Rattle.std.specs.List.{list_all}
use lib.Pointwise.{pointwise}
pub use Rattle.type_terms.specs.Same.{is_same_type, is_same_sentinel, is_same_signature}
use Rattle.type_terms.specs.declared.term.Primitive as prim
use Rattle.assembly_tree.specs.DataSize.{size_in_data}
use Rattle.assembly_tree.specs.declared.assembly.Assembly.{Assembly}
use Rattle.assembly_tree.specs.declared.members.Accessor.{Accessor}
use Rattle.assembly_tree.specs.declared.members.Attribute.{Attribute}
use Rattle.assembly_tree.specs.declared.members.Constant as constant
use Rattle.assembly_tree.specs.declared.members.Event.{Event}
use Rattle.assembly_tree.specs.declared.members.Field.{Field}
use Rattle.assembly_tree.specs.declared.members.Generic.{Generic}
use Rattle.assembly_tree.specs.declared.members.Method.{Method}
use Rattle.assembly_tree.specs.declared.members.Param.{Param}
use Rattle.assembly_tree.specs.declared.members.Property.{Property}
use Rattle.assembly_tree.specs.WellFormedBodies.{is_body}
use Rattle.assembly_tree.specs.WellFormedNames.{option_all, rises, has_no_zero, is_name}
use Rattle.assembly_tree.specs.WellFormedTerms.{is_type, is_owner, is_signature, is_declaration, is_property_signature, is_plain_ref}

-- the bits of a mask are clear
abbrev pub is_clear : ℕ → ℕ → Bool
is_clear mask flags = bit_and flags mask == 0

-- ---- attributes and constants

-- the constructor of an attribute has no arguments (ECMA-335 II.22.10)
unfoldable pub is_attribute : Assembly → Attribute → Bool
is_attribute a x = is_plain_ref a x.constructor

-- the type of an integer constant is one of int8 to uint64, and the number is in its range (ECMA-335 II.22.9)
abbrev pub is_integer : prim.Primitive → ℤ → Bool
is_integer prim.TheVariants.I1 n = int_le (negsuc 0x7F) n && int_le n (pos 0x7F)
is_integer prim.TheVariants.U1 n = int_le (pos 0) n && int_le n (pos 0xFF)
is_integer prim.TheVariants.I2 n = int_le (negsuc 0x7FFF) n && int_le n (pos 0x7FFF)
is_integer prim.TheVariants.U2 n = int_le (pos 0) n && int_le n (pos 0xFFFF)
is_integer prim.TheVariants.I4 n = int_le (negsuc 0x7FFFFFFF) n && int_le n (pos 0x7FFFFFFF)
is_integer prim.TheVariants.U4 n = int_le (pos 0) n && int_le n (pos 0xFFFFFFFF)
is_integer prim.TheVariants.I8 n = int_le (negsuc 0x7FFFFFFFFFFFFFFF) n && int_le n (pos 0x7FFFFFFFFFFFFFFF)
is_integer prim.TheVariants.U8 n = int_le (pos 0) n && int_le n (pos 0xFFFFFFFFFFFFFFFF)
is_integer prim.TheVariants.Void n = false
is_integer prim.TheVariants.Bool n = false
is_integer prim.TheVariants.Char n = false
is_integer prim.TheVariants.R4 n = false
is_integer prim.TheVariants.R8 n = false
is_integer prim.TheVariants.Str n = false
is_integer prim.TheVariants.Object n = false
is_integer prim.TheVariants.TypedRef n = false
is_integer prim.TheVariants.NInt n = false
is_integer prim.TheVariants.NUint n = false

abbrev pub is_constant : constant.Constant → Bool
is_constant (constant.TheVariants.Int of n) = is_integer of n
is_constant (constant.TheVariants.Bool b) = true
is_constant (constant.TheVariants.Char c) = true
is_constant (constant.TheVariants.Real4 bits) = true
is_constant (constant.TheVariants.Real8 bits) = true
is_constant (constant.TheVariants.Str units) = true
is_constant constant.TheVariants.Null = true

-- ---- generic parameters and parameters

unfoldable pub is_generic : Assembly → Generic → Bool
is_generic a g = is_name g.name && list_all (is_owner a) g.bounds && list_all (is_attribute a) g.attributes

-- HasDefault (ECMA-335 II.23.1.13) isn't in the tree, and the return value has no name
unfoldable pub is_param : Assembly → Param → Bool
is_param a p =
    has_no_zero p.name && (not (p.number == 0) || (length p.name == 0)) && is_clear 0x1000 p.flags && option_all is_constant p.constant
    && list_all (is_attribute a) p.attributes

-- rows of parameters rise strictly by number, and the last number is at most that of the parameters
abbrev pub is_param_before : Param → Param → Bool
is_param_before p q = nat_lt p.number q.number

abbrev pub are_params : ℕ → List Param → Bool
are_params count ps = rises is_param_before ps && list_all (λ p. nat_le p.number count) ps

-- ---- fields and methods

-- a field with data has a stated size, and its data has that many bytes (ECMA-335 II.16.3)
abbrev pub is_content : Option ℕ → Option (List ℕ) → Bool
is_content size None = true
is_content None (Some bytes) = false
is_content (Some size) (Some bytes) = length bytes == size

-- neither HasFieldRVA nor HasDefault (ECMA-335 II.23.1.5) is in the tree
unfoldable pub is_field : Assembly → Field → Bool
is_field a f =
    is_name f.name && is_clear 0x8100 f.flags && is_type a f.of && option_all is_constant f.constant
    && is_content (size_in_data a f.of) f.content && list_all (is_attribute a) f.attributes

-- the code is CIL or of the runtime, and managed (ECMA-335 II.23.1.11)
abbrev pub are_impl_flags : ℕ → Bool
are_impl_flags flags = (is_clear 3 flags || (bit_and flags 3 == 3)) && is_clear 4 flags

-- a method without its parts: its name, its flags and its signature
unfoldable pub is_method_head : Assembly → Method → Bool
is_method_head a m =
    is_name m.name && are_impl_flags m.impl_flags && is_declaration (length m.generics) m.sig && is_signature a m.sig
    && are_params (length m.sig.params) m.params

unfoldable pub is_method : Assembly → Method → Bool
is_method a m =
    is_method_head a m && list_all (is_generic a) m.generics && list_all (is_param a) m.params
    && list_all (is_plain_ref a) m.overrides && option_all (is_body a) m.body && list_all (is_attribute a) m.attributes

-- ---- properties and events

-- what a method can be for a property: setter, getter or other (ECMA-335 II.23.1.12)
abbrev pub is_property_accessor : Accessor → Bool
is_property_accessor x = (x.kind == 1) || (x.kind == 2) || (x.kind == 4)

-- what a method can be for an event: other, adder, remover or raiser
abbrev pub is_event_accessor : Accessor → Bool
is_event_accessor x = (x.kind == 4) || (x.kind == 8) || (x.kind == 0x10) || (x.kind == 0x20)

-- an accessor is among the type's methods
abbrev pub is_accessor_of : ℕ → Accessor → Bool
is_accessor_of methods x = nat_lt x.method methods

-- HasDefault (ECMA-335 II.23.1.14) isn't in the tree
unfoldable pub is_property : Assembly → Property → Bool
is_property a p =
    is_name p.name && is_clear 0x1000 p.flags && is_property_signature p.sig && is_signature a p.sig
    && option_all is_constant p.constant && list_all is_property_accessor p.accessors && list_all (is_attribute a) p.attributes

unfoldable pub is_event : Assembly → Event → Bool
is_event a e =
    is_name e.name && is_owner a e.of && list_all is_event_accessor e.accessors && list_all (is_attribute a) e.attributes

-- ---- members that are the same (ECMA-335 II.22.15, II.22.26, II.22.34, II.22.13)

abbrev pub is_same_text : List ℕ → List ℕ → Bool
is_same_text x y = pointwise nat_eq x y

unfoldable pub is_same_field : Field → Field → Bool
is_same_field f g = is_same_text f.name g.name && is_same_type f.of g.of

unfoldable pub is_same_method : Method → Method → Bool
is_same_method m n = is_same_text m.name n.name && is_same_signature m.sig n.sig

unfoldable pub is_same_property : Property → Property → Bool
is_same_property p q = is_same_text p.name q.name && is_same_signature p.sig q.sig

unfoldable pub is_same_event : Event → Event → Bool
is_same_event e f = is_same_text e.name f.name
