-- The types that a type is made of.
use Rattle.std.specs.Prelude.{List, []}
use Rattle.type_terms.specs.declared.term.Owner.{Owner}
use Rattle.type_terms.specs.declared.term.Owner.TheOpen.{SigType-F, Prim, Class, Value, Inst, Var, MVar, SzArray, Array, ByRef, Pointer, Mod, Pinned}
use Rattle.type_terms.specs.declared.term.SigType.{SigType, out-SigType}

abbrev pub layer_arguments : SigType-F Owner SigType → List SigType
layer_arguments (Inst value name args) = args
layer_arguments (Prim p) = []
layer_arguments (Class name) = []
layer_arguments (Value name) = []
layer_arguments (Var n) = []
layer_arguments (MVar n) = []
layer_arguments (SzArray of) = []
layer_arguments (Array of rank sizes lower) = []
layer_arguments (ByRef of) = []
layer_arguments (Pointer of) = []
layer_arguments (Mod required by of) = []
layer_arguments (Pinned of) = []

-- the generic arguments of an instantiation; any other type has none
abbrev pub type_arguments : SigType → List SigType
type_arguments t = layer_arguments (out-SigType t)
