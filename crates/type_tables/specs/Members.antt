-- The assemblies of a world by their numbers, and what their scopes mean.
use Rattle.std.specs.Prelude.{◌≡◌, Bool, true, false, ℕ, zero, suc, List, get_or, length, map, slice_get, Some}
use Rattle.type_terms.specs.declared.name.Scope.{Scope}
use Rattle.type_terms.specs.declared.name.Scope.TheVariants.{Here, Extern}
use Rattle.assembly_tree.specs.declared.assembly.Assembly.{Assembly}
use Rattle.type_hierarchy.specs.Gathered.{scope_by}
use Rattle.type_hierarchy.specs.Scopes.{Sources, Member, members, core_of, extern_names, name_of, scope_in, scope_by_name, scope_of_name}
use Rattle.type_hierarchy.specs.declared.meanings.Meanings.{Meanings}
use Rattle.type_tables.specs.declared.scopes.Scopes.{Scopes}

abbrev pub assembly_of : Sources → ℕ → Assembly
assembly_of s zero = s.image
assembly_of s (suc k) = get_or s.references k s.image

-- the assembly with that number
abbrev pub member : Sources → ℕ → Member
member s number = record { number = number; assembly = assembly_of s number }

-- what a scope means where it stands in an assembly, which is the image or a reference
abbrev pub scope_seen : Sources → Bool → Assembly → Scope → Scope
scope_seen s true a Here = Here
scope_seen s false a Here = scope_of_name s false Here (name_of a)
scope_seen s is_image a (Extern k) = scope_by_name s is_image (Extern k) (slice_get (extern_names a) k)

-- `m` says what the scopes in an assembly mean
abbrev pub IsMeaning : Sources → Member → Meanings → Type 0
IsMeaning s of m = (scope : Scope) → scope_by m scope ≡ scope_in s of scope

-- `ms` says what the scopes in each of the assemblies with these numbers mean
pub record AreMeanings (s : Sources) (numbers : List ℕ) (ms : List Meanings) : Type 0 where
  pub paired : length ms ≡ length numbers
  pub each : (k n : ℕ) (m : Meanings) → slice_get numbers k ≡ Some n → slice_get ms k ≡ Some m → IsMeaning s (member s n) m

-- `z` says which assemblies count, and what their scopes mean
pub record IsScopes (s : Sources) (z : Scopes) : Type 0 where
  pub core : z.core ≡ core_of s
  pub numbers : map (member s) z.numbers ≡ members s
  pub paired : length z.meanings ≡ length z.numbers
  pub meanings : (k n : ℕ) (m : Meanings) → slice_get z.numbers k ≡ Some n → slice_get z.meanings k ≡ Some m → IsMeaning s (member s n) m
