-- The assemblies of a world, and which of them a scope means (ECMA-335 I.9.5, II.6.3, II.22.5). Versions play no part.
use Rattle.std.specs.Prelude.{ℕ, ◌+◌, nat_eq, Bool, true, false, ◌||◌, not, if◌then◌else◌, List, [], ◌∷◌, ◌++◌, map, position, slice_get, Option, None, Some}
use Rattle.std.specs.List.{flat_map, list_any, find}
use Rattle.type_terms.specs.declared.name.Scope.{Scope}
use Rattle.type_terms.specs.declared.name.Scope.TheVariants.{Here, Extern}
use Rattle.assembly_tree.specs.declared.assembly.Assembly.{Assembly}
use Rattle.assembly_tree.specs.declared.assembly.ExternAssembly.{ExternAssembly}
use Rattle.type_hierarchy.specs.Names.{same_text, same_scope, is_core_name}

-- the assembly that is checked, and the references given with it
pub record Sources : Type 0 where
  pub image : Assembly
  pub references : List Assembly

abbrev pub sources : Assembly → List Assembly → Sources
sources a references = record { image = a; references = references }

-- an assembly of the world with its number: 0 is the image, and references count from 1
pub record Member : Type 0 where
  pub number : ℕ
  pub assembly : Assembly

abbrev pub name_of : Assembly → List ℕ
name_of a = a.manifest.name

abbrev pub extern_names : Assembly → List (List ℕ)
extern_names a = map (λ (e : ExternAssembly). e.name) a.externs

-- ---- the assemblies

-- the references with their numbers from `k` on, but for those whose name is among the names before
abbrev pub members_from : ℕ → List (List ℕ) → List Assembly → List Member
members_from k before [] = []
members_from k before (r ∷ rs) =
    if list_any (same_text (name_of r)) before then members_from (k + 1) before rs
    else record { number = k; assembly = r } ∷ members_from (k + 1) (before ++ name_of r ∷ []) rs

-- the references, but for each whose name is that of an assembly before it
abbrev pub given : Sources → List Member
given s = members_from 1 (name_of s.image ∷ []) s.references

abbrev pub members : Sources → List Member
members s = record { number = 0; assembly = s.image } ∷ given s

-- ---- the entries

-- each name that isn't among the names before
abbrev pub new_names : List (List ℕ) → List (List ℕ) → List (List ℕ)
new_names before [] = []
new_names before (name ∷ names) =
    if list_any (same_text name) before then new_names before names else name ∷ new_names (before ++ name ∷ []) names

-- the names of a reference and of its externs
abbrev pub names_in : Member → List (List ℕ)
names_in m = name_of m.assembly ∷ extern_names m.assembly

-- the names of the externs of the image, and then each further name that a reference or an extern of one has; the place
-- in this list is the number of an `Extern` scope
unfoldable pub entries : Sources → List (List ℕ)
entries s =
    extern_names s.image ++ new_names (name_of s.image ∷ extern_names s.image) (flat_map names_in (given s))

-- ---- what a scope means

abbrev pub extern_or_here : Option ℕ → Scope
extern_or_here None = Here
extern_or_here (Some k) = Extern k

-- the first extern of the image with a core name, or else the image
unfoldable pub core_of : Sources → Scope
core_of s = extern_or_here (position is_core_name (extern_names s.image))

abbrev pub extern_or : Scope → Option ℕ → Scope
extern_or other None = other
extern_or other (Some k) = Extern k

-- the first entry with that name
abbrev pub entry : Sources → Scope → List ℕ → Scope
entry s other name = extern_or other (position (same_text name) (entries s))

abbrev pub is_given : Sources → List ℕ → Bool
is_given s name = list_any (λ (m : Member). same_text name (name_of m.assembly)) (given s)

-- What a name means: a core name the core, the image's name the image, and a name that a reference has, or that is seen
-- from a reference, the first entry with it. Any other extern of the image, whose scope is `itself`, means itself.
abbrev pub scope_of_name : Sources → Bool → Scope → List ℕ → Scope
scope_of_name s from_image itself name =
    if is_core_name name then core_of s
    else if same_text name (name_of s.image) then Here
    else if (not from_image || is_given s name) then entry s itself name
    else itself

-- a scope that has no name means itself
abbrev pub scope_by_name : Sources → Bool → Scope → Option (List ℕ) → Scope
scope_by_name s from_image itself None = itself
scope_by_name s from_image itself (Some name) = scope_of_name s from_image itself name

abbrev pub image_scope : Sources → Scope → Scope
image_scope s Here = Here
image_scope s (Extern k) = scope_by_name s true (Extern k) (slice_get (extern_names s.image) k)

-- `Here` in a reference is that reference's name
abbrev pub reference_scope : Sources → Assembly → Scope → Scope
reference_scope s r Here = scope_of_name s false Here (name_of r)
reference_scope s r (Extern k) = scope_by_name s false (Extern k) (slice_get (extern_names r) k)

-- what a scope means where it stands in an assembly of the world
unfoldable pub scope_in : Sources → Member → Scope → Scope
scope_in s m scope = if nat_eq m.number 0 then image_scope s scope else reference_scope s m.assembly scope

-- ---- where a scope's types are declared

-- the scope that an assembly of the world has in it
abbrev pub own_scope : Sources → Member → Scope
own_scope s m = scope_in s m Here

-- the assembly that a scope of this world means, where it is in the world: the first that has it. Of references with a core
-- name, which all mean the core, the first is it
unfoldable pub member_of : Sources → Scope → Option Member
member_of s scope = find (λ (m : Member). same_scope (own_scope s m) scope) (members s)
