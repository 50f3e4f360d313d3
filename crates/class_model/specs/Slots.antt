-- The interfaces that a type has above it, and the methods that they ask of a class (ECMA-335 II.12.2, II.23.1.10).
use Rattle.std.specs.Prelude.{◌≡◌, ℕ, ◌&&◌, Bool, false, not, nat_eq, bit_and, List, [], map, Option, None, Some, IsTrue}
use Rattle.std.specs.List.{filter}
use Rattle.type_terms.specs.declared.reference.MethodSig.{MethodSig}
use Rattle.type_terms.specs.declared.term.SigType.{SigType}
use Rattle.assembly_tree.specs.declared.assembly.Assembly.{Assembly}
use Rattle.assembly_tree.specs.declared.members.Method.{Method}
use Rattle.assembly_tree.specs.declared.typedef.TypeDef.{TypeDef}
use Rattle.assembly_tree.specs.declared.typedef.TypeDef.TheViews.{out-TypeDef}
use Rattle.sig_pool.specs.Replaced.{replaced}
use Rattle.type_hierarchy.specs.Hierarchy.{Hierarchy, Up}
use Rattle.type_hierarchy.specs.Normal.{normal}
use Rattle.type_order.specs.Keys.{reading_of}
use Rattle.type_order.specs.Parts.{type_arguments}
use Rattle.class_model.specs.Classes.{is_interface, declaration}

-- ---- interfaces

abbrev pub is_interface_type : Option TypeDef → Bool
is_interface_type None = false
is_interface_type (Some d) = is_interface (out-TypeDef d).flags

-- a declared interface, the type itself or above it
pub record IsFace (a : Assembly) (w : Hierarchy) (t face : SigType) : Type 0 where
  pub up : Up w t face
  pub is : IsTrue (is_interface_type (declaration a w face))

-- ---- methods

abbrev pub methods_of : Option TypeDef → List Method
methods_of None = []
methods_of (Some d) = (out-TypeDef d).methods

-- the methods of the declaration of a type
abbrev pub methods_in : Assembly → Hierarchy → SigType → List Method
methods_in a w t = methods_of (declaration a w t)

abbrev pub has_flags : ℕ → Method → Bool
has_flags mask m = nat_eq (bit_and m.flags mask) mask

abbrev pub is_static : Method → Bool
is_static m = has_flags 0x10 m

-- a method that a class has to have: virtual, abstract and not static
abbrev pub is_slot : Method → Bool
is_slot m = has_flags 0x440 m && not (is_static m)

abbrev pub slots_of : Assembly → Hierarchy → SigType → List Method
slots_of a w face = filter is_slot (methods_in a w face)

-- a method that can be one: public, virtual and not static
abbrev pub is_public : Method → Bool
is_public m = nat_eq (bit_and m.flags 7) 6

abbrev pub is_provider : Method → Bool
is_provider m = is_public m && has_flags 0x40 m && not (is_static m)

-- ---- signatures

-- a signature whose types are normalised and then changed
abbrev pub sig_by : Hierarchy → (SigType → SigType) → MethodSig → MethodSig
sig_by w put s = record s { ret = put (normal (reading_of w) s.ret); params = map (λ t. put (normal (reading_of w) t)) s.params }

-- a signature as it is written, with the types that its types mean
abbrev pub plain_sig : Hierarchy → MethodSig → MethodSig
plain_sig w s = sig_by w (λ t. t) s

-- with the arguments of the type that declares it put in
abbrev pub sig_of : Hierarchy → SigType → MethodSig → MethodSig
sig_of w t s = sig_by w (replaced (type_arguments t) []) s
