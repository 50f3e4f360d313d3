-- Names that are gathered, each once, in the order in which they first come.
use Rattle.std.specs.Prelude.{Bool, true, false, if◌then◌else◌, List, [], ◌∷◌, ◌++◌, fold, get_or}
use Rattle.type_terms.specs.declared.name.Scope.{Scope}
use Rattle.type_terms.specs.declared.name.Scope.TheVariants.{Here, Extern}
use Rattle.type_terms.specs.declared.name.TypeName.{TypeName}
use Rattle.type_hierarchy.specs.Names.{full_name, is_among}
use Rattle.type_hierarchy.specs.declared.meanings.Meanings.{Meanings}

-- what a scope means
abbrev pub scope_by : Meanings → Scope → Scope
scope_by m Here = m.own
scope_by m (Extern k) = get_or m.externs k (Extern k)

-- a name with what its scope means
abbrev pub name_by : Meanings → TypeName → TypeName
name_by m name = full_name (scope_by m name.scope) name.path

-- a name behind those that are there, unless it is one of them
abbrev pub with_name : List TypeName → TypeName → List TypeName
with_name names name = if is_among names name then names else names ++ name ∷ []

-- each name, with what its scope means, behind those that are there
unfoldable pub gathered : Meanings → List TypeName → List TypeName → List TypeName
gathered m names more = fold (λ (ns : List TypeName) (n : TypeName). with_name ns (name_by m n)) names more

-- the name of a value type, and none of another one
abbrev pub if_value : Bool → TypeName → List TypeName
if_value true name = name ∷ []
if_value false name = []
