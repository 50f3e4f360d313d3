-- Equal types have equal parts, and begin with one byte.
use Rattle.std.proofs.Common.{◌≡◌, ℕ, suc, Bool, true, false, cond, nat_eq, ℤ, List, [], ◌∷◌, Option, Some, None, refl, sym, ap, ◌∙◌}
use Rattle.std.proofs.lemmas.Grind.{common_steps}
use Rattle.std.specs.List.{AllByRecursion}
use Rattle.type_terms.specs.declared.name.TypeName.{TypeName}
use Rattle.type_terms.specs.declared.term.Primitive.{Primitive}
use Rattle.type_terms.specs.declared.term.Owner.{Owner, Name}
use Rattle.type_terms.specs.declared.term.Owner.TheOpen as layer
use Rattle.type_terms.specs.declared.term.SigType.{SigType, out-SigType}
use Rattle.type_terms.specs.declared.term.SigType.TheVariants as type
use Rattle.sig_codec.specs.Spelling.{Layer, prim_byte, modifier_byte}
use Rattle.sig_codec.specs.Reading.{name_of}
use Rattle.sig_codec.proofs.Numbers.{some_is}

pub pointer_ties : (t u : SigType) → type.Pointer t ≡ type.Pointer u → t ≡ u
pointer_ties t u e = let f : layer.Pointer t ≡ layer.Pointer u = sym (type.outs-Pointer t) ∙ ap out-SigType e ∙ type.outs-Pointer u in cc

pub by_ref_ties : (t u : SigType) → type.ByRef t ≡ type.ByRef u → t ≡ u
by_ref_ties t u e = let f : layer.ByRef t ≡ layer.ByRef u = sym (type.outs-ByRef t) ∙ ap out-SigType e ∙ type.outs-ByRef u in cc

pub sz_array_ties : (t u : SigType) → type.SzArray t ≡ type.SzArray u → t ≡ u
sz_array_ties t u e = let f : layer.SzArray t ≡ layer.SzArray u = sym (type.outs-SzArray t) ∙ ap out-SigType e ∙ type.outs-SzArray u in cc

pub pinned_ties : (t u : SigType) → type.Pinned t ≡ type.Pinned u → t ≡ u
pinned_ties t u e = let f : layer.Pinned t ≡ layer.Pinned u = sym (type.outs-Pinned t) ∙ ap out-SigType e ∙ type.outs-Pinned u in cc

pub class_ties : (t u : TypeName) → type.Class t ≡ type.Class u → t ≡ u
class_ties t u e = let f : layer.Class t ≡ layer.Class u = sym (type.outs-Class t) ∙ ap out-SigType e ∙ type.outs-Class u in cc

pub value_ties : (t u : TypeName) → type.Value t ≡ type.Value u → t ≡ u
value_ties t u e = let f : layer.Value t ≡ layer.Value u = sym (type.outs-Value t) ∙ ap out-SigType e ∙ type.outs-Value u in cc

pub var_ties : (t u : ℕ) → type.Var t ≡ type.Var u → t ≡ u
var_ties t u e = let f : layer.Var t ≡ layer.Var u = sym (type.outs-Var t) ∙ ap out-SigType e ∙ type.outs-Var u in cc

pub mvar_ties : (t u : ℕ) → type.MVar t ≡ type.MVar u → t ≡ u
mvar_ties t u e = let f : layer.MVar t ≡ layer.MVar u = sym (type.outs-MVar t) ∙ ap out-SigType e ∙ type.outs-MVar u in cc

pub inst_ties : (v w : Bool) (n m : TypeName) (xs ys : List SigType) → type.Inst v n xs ≡ type.Inst w m ys → (v ≡ w) × (n ≡ m) × (xs ≡ ys)
inst_ties v w n m xs ys e =
    let f : layer.Inst v n xs ≡ layer.Inst w m ys = sym (type.outs-Inst v n xs) ∙ ap out-SigType e ∙ type.outs-Inst w m ys in (cc, cc, cc)

pub array_ties : (t u : SigType) (r q : ℕ) (s z : List ℕ) (l w : List ℤ) → type.Array t r s l ≡ type.Array u q z w → (t ≡ u) × (r ≡ q) × (s ≡ z) × (l ≡ w)
array_ties t u r q s z l w e =
    let f : layer.Array t r s l ≡ layer.Array u q z w = sym (type.outs-Array t r s l) ∙ ap out-SigType e ∙ type.outs-Array u q z w in (cc, cc, cc, cc)

pub mod_ties : (r q : Bool) (o p : Owner) (t u : SigType) → type.Mod r o t ≡ type.Mod q p u → (o ≡ p) × (t ≡ u)
mod_ties r q o p t u e =
    let f : layer.Mod r o t ≡ layer.Mod q p u = sym (type.outs-Mod r o t) ∙ ap out-SigType e ∙ type.outs-Mod q p u in (cc, cc)

pub name_ties : (n m : TypeName) → Name n ≡ Name m → n ≡ m
name_ties n m e = some_is n m (ap name_of e)

-- ---- the first byte

abbrev pub first_layer : Layer → ℕ
first_layer (layer.Prim p) = prim_byte p
first_layer (layer.Class name) = 0x12
first_layer (layer.Value name) = 0x11
first_layer (layer.Inst value name args) = 0x15
first_layer (layer.Var n) = 0x13
first_layer (layer.MVar n) = 0x1E
first_layer (layer.SzArray of) = 0x1D
first_layer (layer.Array of rank sizes lower) = 0x14
first_layer (layer.ByRef of) = 0x10
first_layer (layer.Pointer of) = 0x0F
first_layer (layer.Mod required by of) = modifier_byte required
first_layer (layer.Pinned of) = 0x45

-- the byte with which a type begins
abbrev pub first_byte : SigType → ℕ
first_byte t = first_layer (out-SigType t)
