-- Elements of arrays that reduce to one type.
use Rattle.std.proofs.Common.{◌≡◌, ℕ, refl, sym, ◌∙◌, ap, true, false, Option, None, Some, IsTrue}
use Rattle.type_terms.specs.declared.term.Primitive.{Primitive}
use Rattle.type_terms.specs.declared.term.Primitive.TheVariants as prim
use Rattle.type_terms.specs.declared.term.Owner.{Owner}
use Rattle.type_terms.specs.declared.term.Owner.TheOpen.{SigType-F, Prim, Class, Value, Inst, Var, MVar, SzArray, Array, ByRef, Pointer, Mod, Pinned}
use Rattle.type_terms.specs.declared.term.SigType.{SigType, out-SigType, roll-SigType, roll-out-SigType}
use Rattle.type_terms.specs.declared.term.SigType.TheVariants as type
use Rattle.type_hierarchy.specs.Names.{is_integral}
use Rattle.type_hierarchy.specs.Hierarchy.{Hierarchy, underlying, layer_underlying}
use Rattle.type_hierarchy.specs.Laws.{IsGrounded}
use Rattle.type_hierarchy.specs.Stack.{is_reference, layer_is_reference, reduced_type, verification_type, changed, counts_as, or_else, primitive, layer_primitive, signed, verified}
use Rattle.code_flow.specs.declared.operation.Numeric.{Numeric}
use Rattle.code_flow.specs.declared.operation.Numeric.TheVariants as numeric
use Rattle.code_flow.specs.Rows.{primitive_of}

abbrev Layer : Type 0
Layer = SigType-F Owner SigType

pub same_layer : (t u : SigType) → out-SigType t ≡ out-SigType u → t ≡ u
same_layer t u e = sym (roll-out-SigType t) ∙ ap roll-SigType e ∙ roll-out-SigType u

of_layer : (t : SigType) (p : Primitive) → out-SigType t ≡ Prim p → t ≡ type.Prim p
of_layer t p e = same_layer t (type.Prim p) (e ∙ sym (type.outs-Prim p))

one_primitive : (p q : Primitive) → type.Prim p ≡ type.Prim q → p ≡ q
one_primitive p q e =
    let f : Prim p ≡ Prim q = sym (type.outs-Prim p) ∙ ap out-SigType e ∙ type.outs-Prim q in cc

-- ---- reference types stay

stays_primitive : (change : Primitive → Primitive) → change prim.Str ≡ prim.Str → change prim.Object ≡ prim.Object → (p : Primitive)
    → layer_is_reference (Prim p) ≡ true → change p ≡ p
stays_primitive change a b prim.Str h = a
stays_primitive change a b prim.Object h = b
stays_primitive change a b prim.Void h = absurd (let f : ⊥ = cc in f)
stays_primitive change a b prim.Bool h = absurd (let f : ⊥ = cc in f)
stays_primitive change a b prim.Char h = absurd (let f : ⊥ = cc in f)
stays_primitive change a b prim.I1 h = absurd (let f : ⊥ = cc in f)
stays_primitive change a b prim.U1 h = absurd (let f : ⊥ = cc in f)
stays_primitive change a b prim.I2 h = absurd (let f : ⊥ = cc in f)
stays_primitive change a b prim.U2 h = absurd (let f : ⊥ = cc in f)
stays_primitive change a b prim.I4 h = absurd (let f : ⊥ = cc in f)
stays_primitive change a b prim.U4 h = absurd (let f : ⊥ = cc in f)
stays_primitive change a b prim.I8 h = absurd (let f : ⊥ = cc in f)
stays_primitive change a b prim.U8 h = absurd (let f : ⊥ = cc in f)
stays_primitive change a b prim.R4 h = absurd (let f : ⊥ = cc in f)
stays_primitive change a b prim.R8 h = absurd (let f : ⊥ = cc in f)
stays_primitive change a b prim.TypedRef h = absurd (let f : ⊥ = cc in f)
stays_primitive change a b prim.NInt h = absurd (let f : ⊥ = cc in f)
stays_primitive change a b prim.NUint h = absurd (let f : ⊥ = cc in f)

stays_layer : (w : Hierarchy) (change : Primitive → Primitive) → change prim.Str ≡ prim.Str → change prim.Object ≡ prim.Object → (t : SigType) (l : Layer)
    → out-SigType t ≡ l → layer_is_reference l ≡ true → changed change t (or_else (layer_underlying w l) (layer_primitive l)) ≡ t
stays_layer w change a b t (Prim p) e h = ap type.Prim (stays_primitive change a b p h) ∙ sym (of_layer t p e)
stays_layer w change a b t (Class n) e h = refl
stays_layer w change a b t (Value n) e h = absurd (let f : ⊥ = cc in f)
stays_layer w change a b t (Inst true n args) e h = absurd (let f : ⊥ = cc in f)
stays_layer w change a b t (Inst false n args) e h = refl
stays_layer w change a b t (Var n) e h = absurd (let f : ⊥ = cc in f)
stays_layer w change a b t (MVar n) e h = absurd (let f : ⊥ = cc in f)
stays_layer w change a b t (SzArray of) e h = refl
stays_layer w change a b t (Array of r s l) e h = refl
stays_layer w change a b t (ByRef of) e h = absurd (let f : ⊥ = cc in f)
stays_layer w change a b t (Pointer of) e h = absurd (let f : ⊥ = cc in f)
stays_layer w change a b t (Mod r by of) e h = absurd (let f : ⊥ = cc in f)
stays_layer w change a b t (Pinned of) e h = absurd (let f : ⊥ = cc in f)

reduced_stays : (w : Hierarchy) (t : SigType) → IsTrue (is_reference t) → reduced_type w t ≡ t
unfolding reduced_type counts_as primitive underlying is_reference
reduced_stays w t h = stays_layer w signed refl refl t (out-SigType t) refl h

verified_stays : (w : Hierarchy) (t : SigType) → IsTrue (is_reference t) → verification_type w t ≡ t
unfolding verification_type counts_as primitive underlying is_reference
verified_stays w t h = stays_layer w verified refl refl t (out-SigType t) refl h

-- the verification type of a numeric type is no reference type
numeric_layer : (n : Numeric) → layer_is_reference (Prim (verified (primitive_of n))) ≡ false
numeric_layer numeric.I1 = refl
numeric_layer numeric.U1 = refl
numeric_layer numeric.I2 = refl
numeric_layer numeric.U2 = refl
numeric_layer numeric.I4 = refl
numeric_layer numeric.U4 = refl
numeric_layer numeric.I8 = refl
numeric_layer numeric.NInt = refl
numeric_layer numeric.R4 = refl
numeric_layer numeric.R8 = refl

pub no_numeric : (w : Hierarchy) (t : SigType) (n : Numeric) → IsTrue (is_reference t) → verification_type w t ≡ type.Prim (verified (primitive_of n)) → ⊥
unfolding is_reference
no_numeric w t n h e =
    let p : Primitive = verified (primitive_of n) in
    let is : t ≡ type.Prim p = sym (verified_stays w t h) ∙ e in
    let layer : out-SigType t ≡ Prim p = ap out-SigType is ∙ type.outs-Prim p in
    let yes : layer_is_reference (Prim p) ≡ true = sym (ap layer_is_reference layer) ∙ h in
    let not : layer_is_reference (Prim p) ≡ false = numeric_layer n in
    cc

-- ---- types that reduce to one are verified as one

twice : (p : Primitive) → verified (signed p) ≡ verified p
twice prim.Void = refl
twice prim.Bool = refl
twice prim.Char = refl
twice prim.I1 = refl
twice prim.U1 = refl
twice prim.I2 = refl
twice prim.U2 = refl
twice prim.I4 = refl
twice prim.U4 = refl
twice prim.I8 = refl
twice prim.U8 = refl
twice prim.R4 = refl
twice prim.R8 = refl
twice prim.Str = refl
twice prim.Object = refl
twice prim.TypedRef = refl
twice prim.NInt = refl
twice prim.NUint = refl

-- a type that counts as no primitive one is none
no_primitive : (o : Option Primitive) (l : Layer) (p : Primitive) → or_else o (layer_primitive l) ≡ None → l ≡ Prim p → ⊥
no_primitive (Some q) l p h e = let f : ⊥ = cc in f
no_primitive None l p h e =
    let is : layer_primitive l ≡ Some p = ap layer_primitive e in
    let f : ⊥ = cc in f

counts_not : (w : Hierarchy) (t : SigType) (p : Primitive) → counts_as w t ≡ None → type.Prim p ≡ t → ⊥
unfolding counts_as primitive
counts_not w t p h e = no_primitive (underlying w t) (out-SigType t) p h (ap out-SigType (sym e) ∙ type.outs-Prim p)

verified_alike : (w : Hierarchy) (s t : SigType) (o q : Option Primitive) → counts_as w s ≡ o → counts_as w t ≡ q → changed signed s o ≡ changed signed t q
    → changed verified s o ≡ changed verified t q
verified_alike w s t None None a b e = e
verified_alike w s t None (Some q) a b e = absurd (counts_not w s (signed q) a (sym e))
verified_alike w s t (Some p) None a b e = absurd (counts_not w t (signed p) b e)
verified_alike w s t (Some p) (Some q) a b e =
    let same : signed p ≡ signed q = one_primitive (signed p) (signed q) e in
    ap type.Prim (sym (twice p) ∙ ap verified same ∙ twice q)

pub verified_from_reduced : (w : Hierarchy) (s t : SigType) → reduced_type w s ≡ reduced_type w t → verification_type w s ≡ verification_type w t
unfolding reduced_type verification_type
verified_from_reduced w s t e = verified_alike w s t (counts_as w s) (counts_as w t) refl refl e

-- ---- what reduces to a reference type is that type

signed_reference : (p : Primitive) → layer_is_reference (Prim (signed p)) ≡ true → signed p ≡ p
signed_reference prim.Str h = refl
signed_reference prim.Object h = refl
signed_reference prim.Void h = refl
signed_reference prim.Bool h = refl
signed_reference prim.Char h = refl
signed_reference prim.I1 h = refl
signed_reference prim.U1 h = absurd (let f : ⊥ = cc in f)
signed_reference prim.I2 h = refl
signed_reference prim.U2 h = absurd (let f : ⊥ = cc in f)
signed_reference prim.I4 h = refl
signed_reference prim.U4 h = absurd (let f : ⊥ = cc in f)
signed_reference prim.I8 h = refl
signed_reference prim.U8 h = absurd (let f : ⊥ = cc in f)
signed_reference prim.R4 h = refl
signed_reference prim.R8 h = refl
signed_reference prim.TypedRef h = refl
signed_reference prim.NInt h = refl
signed_reference prim.NUint h = absurd (let f : ⊥ = cc in f)

integral_signed : (p : Primitive) → IsTrue (is_integral p) → layer_is_reference (Prim (signed p)) ≡ false
integral_signed prim.Bool h = refl
integral_signed prim.Char h = refl
integral_signed prim.I1 h = refl
integral_signed prim.U1 h = refl
integral_signed prim.I2 h = refl
integral_signed prim.U2 h = refl
integral_signed prim.I4 h = refl
integral_signed prim.U4 h = refl
integral_signed prim.I8 h = refl
integral_signed prim.U8 h = refl
integral_signed prim.NInt h = refl
integral_signed prim.NUint h = refl
integral_signed prim.Void h = absurd (let f : ⊥ = cc in f)
integral_signed prim.R4 h = absurd (let f : ⊥ = cc in f)
integral_signed prim.R8 h = absurd (let f : ⊥ = cc in f)
integral_signed prim.Str h = absurd (let f : ⊥ = cc in f)
integral_signed prim.Object h = absurd (let f : ⊥ = cc in f)
integral_signed prim.TypedRef h = absurd (let f : ⊥ = cc in f)

-- a reference type that is a primitive one
primitive_reference : (t : SigType) (p : Primitive) → type.Prim p ≡ t → IsTrue (is_reference t) → layer_is_reference (Prim p) ≡ true
unfolding is_reference
primitive_reference t p e h = ap layer_is_reference (sym (type.outs-Prim p) ∙ ap out-SigType e) ∙ h

back_layer : (s t : SigType) (l : Layer) → out-SigType s ≡ l → changed signed s (layer_primitive l) ≡ t → IsTrue (is_reference t) → s ≡ t
back_layer s t (Prim p) l e h = of_layer s p l ∙ ap type.Prim (sym (signed_reference p (primitive_reference t (signed p) e h))) ∙ e
back_layer s t (Class n) l e h = e
back_layer s t (Value n) l e h = e
back_layer s t (Inst v n args) l e h = e
back_layer s t (Var n) l e h = e
back_layer s t (MVar n) l e h = e
back_layer s t (SzArray of) l e h = e
back_layer s t (Array of r k b) l e h = e
back_layer s t (ByRef of) l e h = e
back_layer s t (Pointer of) l e h = e
back_layer s t (Mod r by of) l e h = e
back_layer s t (Pinned of) l e h = e

back_enum : (p : Primitive) → IsTrue (is_integral p) → layer_is_reference (Prim (signed p)) ≡ true → ⊥
back_enum p i is = let not : layer_is_reference (Prim (signed p)) ≡ false = integral_signed p i in cc

back : (w : Hierarchy) (height : SigType → ℕ) → IsGrounded w height → (s t : SigType) (o : Option Primitive) → underlying w s ≡ o
    → changed signed s (or_else o (layer_primitive (out-SigType s))) ≡ t → IsTrue (is_reference t) → s ≡ t
back w height g s t None u e h = back_layer s t (out-SigType s) refl e h
back w height g s t (Some p) u e h = absurd (back_enum p (g.integral s p u) (primitive_reference t (signed p) e h))

pub reduced_back : (w : Hierarchy) (height : SigType → ℕ) → IsGrounded w height → (s t : SigType) → reduced_type w s ≡ reduced_type w t → IsTrue (is_reference t) → s ≡ t
unfolding reduced_type counts_as primitive
reduced_back w height g s t e h = back w height g s t (underlying w s) refl (e ∙ reduced_stays w t h) h
