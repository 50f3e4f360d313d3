-- Types that count for nothing on the stack or that nothing may point to (ECMA-335 II.23.2.11, II.14.4.2).
use Rattle.std.specs.Prelude.{Bool, true, false}
use Rattle.type_terms.specs.declared.term.Owner.{Owner}
use Rattle.type_terms.specs.declared.term.Owner.TheOpen.{SigType-F, Prim, Class, Value, Inst, Var, MVar, SzArray, Array, ByRef, Pointer, Mod, Pinned}
use Rattle.type_terms.specs.declared.term.Primitive.{Primitive}
use Rattle.type_terms.specs.declared.term.Primitive.TheVariants.{Void}
use Rattle.type_terms.specs.declared.term.SigType.{SigType, out-SigType}

abbrev pub is_void_primitive : Primitive → Bool
is_void_primitive Void = true
is_void_primitive p = false

abbrev pub layer_is_void : SigType-F Owner SigType → Bool
layer_is_void (Prim p) = is_void_primitive p
layer_is_void (Class name) = false
layer_is_void (Value name) = false
layer_is_void (Inst value name args) = false
layer_is_void (Var n) = false
layer_is_void (MVar n) = false
layer_is_void (SzArray of) = false
layer_is_void (Array of rank sizes lower) = false
layer_is_void (ByRef of) = false
layer_is_void (Pointer of) = false
layer_is_void (Mod required by of) = false
layer_is_void (Pinned of) = false

-- what a method without a result returns
abbrev pub is_void : SigType → Bool
is_void t = layer_is_void (out-SigType t)
