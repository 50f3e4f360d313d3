-- The number of nodes of a type: one for itself, and those of its children. A modifier's owner that is a plain name
-- has no node of its own (ECMA-335 II.23.2.7, II.23.2.12).
use Rattle.std.specs.Prelude.{ℕ, ◌+◌, List, [], ◌∷◌, map}
use Rattle.std.specs.declared.option.Option.{Option}
use Rattle.std.specs.declared.option.Option.TheVariants.{None, Some}
use Rattle.type_terms.specs.declared.reference.MethodSig.{MethodSig}
use Rattle.type_terms.specs.declared.reference.MethodRef.{MethodRef}
use Rattle.type_terms.specs.declared.reference.FieldRef.{FieldRef}
use Rattle.type_terms.specs.declared.term.Owner.{Owner, fold-Owner}
use Rattle.type_terms.specs.declared.term.SigType.{SigType, fold-SigType}
use Rattle.type_terms.specs.declared.term.Owner.TheOpen.{Owner-F, SigType-F, Name, Spec, Prim, Class, Value, Inst, Var, MVar, SzArray, Array, ByRef, Pointer, Mod, Pinned}

-- the sum of the numbers
abbrev pub total : List ℕ → ℕ
total [] = 0
total (n ∷ ns) = n + total ns

-- the nodes of an owner, from those of its type
abbrev pub owner_nodes_step : Owner-F ℕ ℕ → ℕ
owner_nodes_step (Name x) = 0
owner_nodes_step (Spec n) = n

-- the nodes of a type, from those of its children
abbrev pub nodes_step : SigType-F ℕ ℕ → ℕ
nodes_step (Inst value name args) = total args + 1
nodes_step (SzArray of) = of + 1
nodes_step (Array of rank sizes lower) = of + 1
nodes_step (ByRef of) = of + 1
nodes_step (Pointer of) = of + 1
nodes_step (Mod required by of) = by + of + 1
nodes_step (Pinned of) = of + 1
nodes_step (Prim x) = 1
nodes_step (Class x) = 1
nodes_step (Value x) = 1
nodes_step (Var x) = 1
nodes_step (MVar x) = 1

abbrev pub nodes : SigType → ℕ
nodes t = fold-SigType ℕ ℕ owner_nodes_step nodes_step t

abbrev pub owner_nodes : Owner → ℕ
owner_nodes o = fold-Owner ℕ ℕ owner_nodes_step nodes_step o

abbrev pub list_nodes : List SigType → ℕ
list_nodes ts = total (map nodes ts)

-- those of the result and of the parameters (ECMA-335 II.23.2.1)
abbrev pub sig_nodes : MethodSig → ℕ
sig_nodes s = nodes s.ret + list_nodes s.params

abbrev pub args_nodes : Option (List SigType) → ℕ
args_nodes None = 0
args_nodes (Some args) = list_nodes args

abbrev pub method_nodes : MethodRef → ℕ
method_nodes m = owner_nodes m.owner + (sig_nodes m.sig + args_nodes m.args)

abbrev pub field_nodes : FieldRef → ℕ
field_nodes f = owner_nodes f.owner + nodes f.of
