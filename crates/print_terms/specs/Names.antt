-- Which of the assemblies that are named have the name of another one.
use Rattle.std.specs.Prelude.{◌≡◌, ℕ, ◌<◌, nat_lt, Bool, List, length, filter, bytes_eq, slice_get, Some}
use Rattle.type_terms.specs.Hashing.{mix_text}
use Rattle.assembly_tree.specs.declared.assembly.ExternAssembly.{ExternAssembly}

-- the hash by which a name is found again
abbrev pub name_hash : ExternAssembly → ℕ
name_hash e = mix_text 0xCBF29CE484222325 e.name

-- another one has this name
abbrev pub is_repeated : List ExternAssembly → ExternAssembly → Bool
is_repeated externs e = nat_lt 1 (length (filter (λ other. bytes_eq other.name e.name) externs))

-- number j has the name of number k, and isn't it
pub record IsTwin (externs : List ExternAssembly) (k j : ℕ) (d c : ExternAssembly) : Type 0 where
  pub here : slice_get externs k ≡ Some d
  pub there : slice_get externs j ≡ Some c
  pub apart : j ≡ k → ⊥
  pub same : c.name ≡ d.name
