-- The bounds of what is named: how deep types are and how many nodes they have, the ranks of arrays, how many generic parameters,
-- parameters and locals there are, and how many names a path has (ECMA-335 II.22.38, II.23.2).
use Rattle.std.specs.Prelude.{◌≡◌, ◌≢◌, ℕ, ◌≤◌, ⊤, List, [], All, length, map, Option, None, Some}
use Rattle.std.specs.List.{AllByRecursion}
use Rattle.image_model.specs.Structure.{max_path}
use Rattle.image_model.specs.Terms.{HasRanks, HasBounds, max_count}
use Rattle.sig_codec.specs.Signature.{max_depth, max_nodes}
use Rattle.type_terms.specs.Depth.{depth, largest, sig_depth}
use Rattle.type_terms.specs.Nodes.{nodes, list_nodes, sig_nodes}
use Rattle.type_terms.specs.declared.name.TypeId.{TypeId}
use Rattle.type_terms.specs.declared.reference.MethodSig.{MethodSig}
use Rattle.type_terms.specs.declared.term.SigType.{SigType}

-- a type that a reader takes
pub record IsTypeInBounds (t : SigType) : Type 0 where
  pub low : depth t ≤ max_depth
  pub small : nodes t ≤ max_nodes
  pub ranks : HasRanks t

-- types that a reader takes together
pub record AreTypesInBounds (ts : List SigType) : Type 0 where
  pub low : largest (map depth ts) ≤ max_depth
  pub small : list_nodes ts ≤ max_nodes
  pub ranks : All HasRanks ts
  pub few : length ts ≤ max_count

-- a method's signature that a reader takes
pub record IsMethodInBounds (s : MethodSig) : Type 0 where
  pub low : sig_depth s ≤ max_depth
  pub small : sig_nodes s ≤ max_nodes
  pub bounds : HasBounds s

-- the arguments of a method, as many as its generic parameters
abbrev pub AreArgumentsInBounds : ℕ → Option (List SigType) → Type 0
AreArgumentsInBounds generic None = ⊤
AreArgumentsInBounds generic (Some args) = AreTypesInBounds args × (length args ≡ generic)

-- a path with few names, none of them empty
pub record IsPathInBounds (path : List TypeId) : Type 0 where
  pub short : length path ≤ max_path
  pub named : AllByRecursion (λ id. id.name ≢ []) path
