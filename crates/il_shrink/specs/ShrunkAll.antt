-- The assembly in which each body has the most short branches.
use Rattle.std.specs.Prelude.{◌≡◌, List, [], ◌∷◌, Option, None, Some}
use Rattle.assembly_tree.specs.declared.assembly.Assembly.{Assembly}
use Rattle.assembly_tree.specs.declared.body.Body.{Body}
use Rattle.assembly_tree.specs.declared.members.Method.{Method}
use Rattle.assembly_tree.specs.declared.typedef.TypeDef.{TypeDef}
use Rattle.assembly_tree.specs.declared.typedef.TypeDef.TheOpen.{TypeDef-F}
use Rattle.assembly_tree.specs.declared.typedef.TypeDef.TheViews.{out-TypeDef}
use Rattle.il_shrink.specs.Shrunk.{IsShrunk}

-- no body in place of none, and else the shrunk one
abbrev pub IsShrunkBody : Option Body → Option Body → Type 0
IsShrunkBody None None = Unit {0}
IsShrunkBody None (Some c) = ⊥
IsShrunkBody (Some b) None = ⊥
IsShrunkBody (Some b) (Some c) = IsShrunk b c

-- the method but for its body
pub record IsShrunkMethod (m n : Method) : Type 0 where
  pub same : n ≡ record m { body = n.body }
  pub body : IsShrunkBody m.body n.body

-- methods side by side, one for one
abbrev pub AreShrunkMethods : List Method → List Method → Type 0
AreShrunkMethods [] [] = Unit {0}
AreShrunkMethods [] (n ∷ ns) = ⊥
AreShrunkMethods (m ∷ ms) [] = ⊥
AreShrunkMethods (m ∷ ms) (n ∷ ns) = IsShrunkMethod m n × AreShrunkMethods ms ns

-- a type but for its methods and the types that it nests
pub record IsShrunkOwn (t u : TypeDef-F TypeDef) : Type 0 where
  pub same : u ≡ record t { methods = u.methods; nested = u.nested }
  pub methods : AreShrunkMethods t.methods u.methods

-- types side by side, one for one, with those that they nest
pub data AreShrunkTypes : List TypeDef → List TypeDef → Type 0 where
  none : AreShrunkTypes [] []
  more : {t u : TypeDef} {ts us : List TypeDef} → IsShrunkOwn (out-TypeDef t) (out-TypeDef u) →
      AreShrunkTypes (out-TypeDef t).nested (out-TypeDef u).nested → AreShrunkTypes ts us → AreShrunkTypes (t ∷ ts) (u ∷ us)

-- the assembly but for its bodies
pub record IsShrunkAll (a c : Assembly) : Type 0 where
  pub same : c ≡ record a { methods = c.methods; types = c.types }
  pub methods : AreShrunkMethods a.methods c.methods
  pub types : AreShrunkTypes a.types c.types

-- a type that nests those types
abbrev pub IsShrunkWith : TypeDef → TypeDef → List TypeDef → Type 0
IsShrunkWith t u nested = IsShrunkOwn (out-TypeDef t) (out-TypeDef u) × ((out-TypeDef u).nested ≡ nested)
