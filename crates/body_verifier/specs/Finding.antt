-- What is found at a place.
use Rattle.std.specs.Prelude.{ℕ, ◌<◌, ◌≤◌, List, [], ◌∷◌, length, slice_get, option_and_then, Option, None, Some}
use Rattle.assembly_tree.specs.declared.assembly.Assembly.{Assembly}
use Rattle.assembly_tree.specs.declared.body.Ins.{Ins}
use Rattle.assembly_tree.specs.declared.members.Method.{Method}
use Rattle.assembly_tree.specs.declared.typedef.TypeDef.{TypeDef}
use Rattle.assembly_tree.specs.declared.typedef.TypeDef.TheViews.{out-TypeDef}
use Rattle.body_verifier.specs.declared.report.Broken.{Broken}
use Rattle.code_flow.specs.Methods.{Declared, Nested}

-- the type that places lead to, inwards from a type
abbrev pub typedef_by : List ℕ → TypeDef → Option TypeDef
typedef_by [] t = Some t
typedef_by (k ∷ ks) t = option_and_then (typedef_by ks) (slice_get (out-TypeDef t).nested k)

abbrev pub typedef_at : Assembly → List ℕ → Option TypeDef
typedef_at a [] = None
typedef_at a (k ∷ ks) = option_and_then (typedef_by ks) (slice_get a.types k)

abbrev pub typedef_in : Option Nested → Option TypeDef
typedef_in None = None
typedef_in (Some t) = Some t.typedef

abbrev pub method_in : Option Declared → Option Method
method_in None = None
method_in (Some d) = Some d.method

-- the instructions are ones of the code, in order from `k` on
abbrev pub RisesWithin : List Ins → ℕ → List Broken → Type 0
RisesWithin code k [] = Unit {0}
RisesWithin code k (b ∷ bs) = (k ≤ b.at) × (b.at < length code) × RisesWithin code b.at bs
