-- What the assemblies of a world declare: bases and interfaces are names, instantiations or primitive types.
use Rattle.std.proofs.Common.{◌≡◌, refl, sym, ap, subst, zero, suc, arith, Bool, true, false, ◌&&◌, if◌then◌else◌, List, [], ◌∷◌, Option, None, Some}
use Rattle.std.specs.Prelude.{IsTrue, option_and_then}
use Rattle.std.specs.List.{Contains, cons_option, find}
use Rattle.type_terms.specs.declared.name.TypeName.{TypeName}
use Rattle.type_terms.specs.declared.term.Primitive.{Primitive}
use Rattle.type_terms.specs.declared.term.Primitive.TheVariants as prim
use Rattle.type_terms.specs.declared.term.Owner.{Owner}
use Rattle.type_terms.specs.declared.term.Owner.TheOpen.{SigType-F, Prim, Class, Value, Inst, Var, MVar, SzArray, Array, ByRef, Pointer, Mod, Pinned}
use Rattle.type_terms.specs.declared.term.SigType.{SigType, out-SigType}
use Rattle.type_terms.specs.declared.term.SigType.TheVariants as type
use Rattle.assembly_tree.specs.declared.members.Field.{Field}
use Rattle.assembly_tree.specs.declared.typedef.TypeDef.{TypeDef}
use Rattle.assembly_tree.specs.declared.typedef.TypeDef.TheOpen.{TypeDef-F}
use Rattle.assembly_tree.specs.declared.typedef.TypeDef.TheViews.{out-TypeDef}
use Rattle.type_hierarchy.specs.Declarations.{Place, place_of, counted, counted_layer, base_in, interface_layer, interface_in, interfaces_in, integral_layer, field_type, is_of_instances, declaration_by, declaration_at, declaration_of, hierarchy_of, reading, is_core_class, is_value_type, has_base}
use Rattle.type_hierarchy.specs.Hierarchy.{Declaration}
use Rattle.type_hierarchy.specs.Names.{is_integral, the_enum, the_object}
use Rattle.type_hierarchy.specs.Normal.{Reading, normal, normal_owner}
use Rattle.type_hierarchy.specs.Scopes.{Sources}
use Rattle.assignability.proofs.Heights.{IsNominal, class, value, instance, primitive, IsPlain, ArePlain}
use Rattle.type_tables.proofs.LandingLemmas.{some_same}

abbrev Layer : Type 0
Layer = SigType-F Owner SigType

abbrev Nominal : SigType → Type 0
Nominal t = IsNominal (out-SigType t)

nominal_prim : (p : Primitive) → Nominal (type.Prim p)
nominal_prim p = subst IsNominal (sym (type.outs-Prim p)) (primitive p)

nominal_at : (t : SigType) (l : Layer) → out-SigType t ≡ l → IsNominal l → Nominal t
nominal_at t l e n = subst IsNominal (sym e) n

-- ---- bases

counted_string : (t : SigType) (p : Primitive) → out-SigType t ≡ Prim p → Nominal (counted_layer t (Prim p))
counted_string t prim.Str e = nominal_at t (Prim prim.Str) e (primitive prim.Str)
counted_string t p e = nominal_prim prim.Object

counted_nominal : (t : SigType) (l : Layer) → out-SigType t ≡ l → Nominal (counted_layer t l)
counted_nominal t (Class name) e = nominal_at t (Class name) e (class name)
counted_nominal t (Value name) e = nominal_at t (Value name) e (value name)
counted_nominal t (Inst v name args) e = nominal_at t (Inst v name args) e (instance v name args)
counted_nominal t (Prim p) e = counted_string t p e
counted_nominal t (Var n) e = nominal_prim prim.Object
counted_nominal t (MVar n) e = nominal_prim prim.Object
counted_nominal t (SzArray of) e = nominal_prim prim.Object
counted_nominal t (Array of rank sizes lower) e = nominal_prim prim.Object
counted_nominal t (ByRef of) e = nominal_prim prim.Object
counted_nominal t (Pointer of) e = nominal_prim prim.Object
counted_nominal t (Mod r by of) e = nominal_prim prim.Object
counted_nominal t (Pinned of) e = nominal_prim prim.Object

base_nominal : (r : Reading) (o : Option Owner) (b : SigType) → base_in r o ≡ Some b → Nominal b
base_nominal r None b e = absurd (let h : ⊥ = cc in h)
base_nominal r (Some o) b e =
    let t = normal_owner r o in
    subst Nominal (some_same {o = Some (counted t)} refl e) (counted_nominal t (out-SigType t) refl)

no_base : (is_object : Bool) (r : Reading) (o : Option Owner) (b : SigType) → (if is_object then None else base_in r o) ≡ Some b → Nominal b
no_base true r o b e = absurd (let h : ⊥ = cc in h)
no_base false r o b e = base_nominal r o b e

-- ---- interfaces

layer_nominal : (t : SigType) (l : Layer) (b : SigType) → out-SigType t ≡ l → interface_layer t l ≡ Some b → Nominal b
layer_nominal t (Class name) b f e = subst Nominal (some_same {o = Some t} refl e) (nominal_at t (Class name) f (class name))
layer_nominal t (Value name) b f e = subst Nominal (some_same {o = Some t} refl e) (nominal_at t (Value name) f (value name))
layer_nominal t (Inst v name args) b f e = subst Nominal (some_same {o = Some t} refl e) (nominal_at t (Inst v name args) f (instance v name args))
layer_nominal t (Prim p) b f e = absurd (let h : ⊥ = cc in h)
layer_nominal t (Var n) b f e = absurd (let h : ⊥ = cc in h)
layer_nominal t (MVar n) b f e = absurd (let h : ⊥ = cc in h)
layer_nominal t (SzArray of) b f e = absurd (let h : ⊥ = cc in h)
layer_nominal t (Array of rank sizes lower) b f e = absurd (let h : ⊥ = cc in h)
layer_nominal t (ByRef of) b f e = absurd (let h : ⊥ = cc in h)
layer_nominal t (Pointer of) b f e = absurd (let h : ⊥ = cc in h)
layer_nominal t (Mod r by of) b f e = absurd (let h : ⊥ = cc in h)
layer_nominal t (Pinned of) b f e = absurd (let h : ⊥ = cc in h)

first_nominal : (r : Reading) (o : Option SigType) (ts : List SigType) → ((b : SigType) → o ≡ Some b → Nominal b) → ((b : SigType) → Contains ts b → Nominal b)
    → (b : SigType) → Contains (cons_option o ts) b → Nominal b
first_nominal r None ts f g b c = g b c
first_nominal r (Some t) ts f g b (zero, h, e) = f b (ap Some e)
first_nominal r (Some t) ts f g b (suc k, h, e) = g b (k, omega arith, e)

interfaces_nominal : (r : Reading) (os : List Owner) (b : SigType) → Contains (interfaces_in r os) b → Nominal b
interfaces_nominal r [] b (k, h, e) = absurd (omega arith)
interfaces_nominal r (o ∷ os) b c =
    first_nominal r (interface_in r o) (interfaces_in r os) (λ t e. layer_nominal (normal_owner r o) (out-SigType (normal_owner r o)) t refl e) (interfaces_nominal r os) b c

-- ---- the values of enums

integral_if : (q p : Primitive) (b : Bool) → is_integral q ≡ b → (if b then Some q else None) ≡ Some p → IsTrue (is_integral p)
integral_if q p true f e =
    let same : q ≡ p = some_same {o = Some q} refl e in
    subst (λ (x : Primitive). is_integral x ≡ true) same f
integral_if q p false f e = absurd (let h : ⊥ = cc in h)

layer_integral : (l : Layer) (p : Primitive) → integral_layer l ≡ Some p → IsTrue (is_integral p)
layer_integral (Prim q) p e = integral_if q p (is_integral q) refl e
layer_integral (Class name) p e = absurd (let h : ⊥ = cc in h)
layer_integral (Value name) p e = absurd (let h : ⊥ = cc in h)
layer_integral (Inst v name args) p e = absurd (let h : ⊥ = cc in h)
layer_integral (Var n) p e = absurd (let h : ⊥ = cc in h)
layer_integral (MVar n) p e = absurd (let h : ⊥ = cc in h)
layer_integral (SzArray of) p e = absurd (let h : ⊥ = cc in h)
layer_integral (Array of rank sizes lower) p e = absurd (let h : ⊥ = cc in h)
layer_integral (ByRef of) p e = absurd (let h : ⊥ = cc in h)
layer_integral (Pointer of) p e = absurd (let h : ⊥ = cc in h)
layer_integral (Mod r by of) p e = absurd (let h : ⊥ = cc in h)
layer_integral (Pinned of) p e = absurd (let h : ⊥ = cc in h)

field_integral : (r : Reading) (f : Option Field) (p : Primitive) → field_type r f ≡ Some p → IsTrue (is_integral p)
field_integral r None p e = absurd (let h : ⊥ = cc in h)
field_integral r (Some f) p e = layer_integral (out-SigType (normal r f.of)) p e

enum_integral : (is_enum : Bool) (r : Reading) (f : Option Field) (p : Primitive) → (if is_enum then field_type r f else None) ≡ Some p → IsTrue (is_integral p)
enum_integral true r f p e = field_integral r f p e
enum_integral false r f p e = absurd (let h : ⊥ = cc in h)

-- ---- declarations

declared_plain : (r : Reading) (is_object is_enum : Bool) (t : TypeDef-F TypeDef) → IsPlain (declaration_by r is_object is_enum t)
declared_plain r is_object is_enum t = record {
  base = λ b e. no_base is_object r t.extends b e;
  interface = λ b c. interfaces_nominal r t.implements b c;
  underlying = λ p e. enum_integral is_enum r (find is_of_instances t.fields) p e;
}

place_plain : (s : Sources) (name : TypeName) (o : Option Place) (d : Declaration) → option_and_then (λ (p : Place). Some (declaration_at s name p)) o ≡ Some d → IsPlain d
place_plain s name None d e = absurd (let h : ⊥ = cc in h)
place_plain s name (Some p) d e = subst IsPlain (some_same {o = Some (declaration_at s name p)} refl e)
    (declared_plain (reading s p.member) (is_core_class s the_object name) (is_value_type s name && has_base s the_enum (Some p)) (out-TypeDef p.typedef))

pub are_plain : (s : Sources) → ArePlain (hierarchy_of s)
unfolding hierarchy_of declaration_of
are_plain s = record { each = λ name d e. place_plain s name (place_of s name) d e }
