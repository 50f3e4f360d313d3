-- The depth of a type: a leaf has depth 1, any other type one more than its deepest child. The children of a type are
-- its element, arguments or modified type, and the type that a modifier names where it is made from others
-- (ECMA-335 II.23.2.7, II.23.2.12).
use Rattle.std.specs.Prelude.{ℕ, ◌+◌, max, List, [], ◌∷◌, map}
use Rattle.type_terms.specs.declared.reference.MethodSig.{MethodSig}
use Rattle.type_terms.specs.declared.term.Owner.{Owner, fold-Owner}
use Rattle.type_terms.specs.declared.term.SigType.{SigType, fold-SigType}
use Rattle.type_terms.specs.declared.term.Owner.TheOpen.{Owner-F, SigType-F, Name, Spec, Prim, Class, Value, Inst, Var, MVar, SzArray, Array, ByRef, Pointer, Mod, Pinned}

-- the largest of the numbers, 0 where there is none
abbrev pub largest : List ℕ → ℕ
largest [] = 0
largest (d ∷ ds) = max d (largest ds)

-- the depth that an owner adds to a modifier, from that of its type: a plain name has none
abbrev pub owner_depth_step : Owner-F ℕ ℕ → ℕ
owner_depth_step (Name x) = 0
owner_depth_step (Spec d) = d

-- the depth of a type from the depths of its children
abbrev pub depth_step : SigType-F ℕ ℕ → ℕ
depth_step (Inst value name args) = largest args + 1
depth_step (SzArray of) = of + 1
depth_step (Array of rank sizes lower) = of + 1
depth_step (ByRef of) = of + 1
depth_step (Pointer of) = of + 1
depth_step (Mod required by of) = max by of + 1
depth_step (Pinned of) = of + 1
depth_step (Prim x) = 1
depth_step (Class x) = 1
depth_step (Value x) = 1
depth_step (Var x) = 1
depth_step (MVar x) = 1

abbrev pub depth : SigType → ℕ
depth t = fold-SigType ℕ ℕ owner_depth_step depth_step t

abbrev pub owner_depth : Owner → ℕ
owner_depth o = fold-Owner ℕ ℕ owner_depth_step depth_step o

-- the depth of the deepest type in a signature (ECMA-335 II.23.2.1)
abbrev pub sig_depth : MethodSig → ℕ
sig_depth s = max (depth s.ret) (largest (map depth s.params))
