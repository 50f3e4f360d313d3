-- What the keys of other assemblies in a listing stand for (ECMA-335 II.6.3).
use Rattle.std.specs.Prelude.{ℕ, suc, ◌≡◌, ◌<◌, ◌^◌, true, List, [], ◌∷◌, length, map, bytes_eq, Some}
use Rattle.assembly_tree.specs.WellFormedNames.{all_differ}
use Rattle.assembly_tree.specs.declared.assembly.Assembly.{Assembly}
use Rattle.assembly_tree.specs.declared.assembly.ExternAssembly.{ExternAssembly}
use Rattle.source_model.specs.Names.{externs, extern_key}
use Rattle.source_model.specs.Source.{Source}
use Rattle.listing_declarations.specs.Laws.{IsListingOf}
use Rattle.listing_formed.specs.Laws.{Knows}
use Rattle.listing_model.specs.Types.{key_in}

-- the keys of assemblies, the first of which has this number
abbrev pub keys : List ExternAssembly → ℕ → List ExternAssembly → List (List ℕ)
keys all k [] = []
keys all k (e ∷ es) = key_in all k (Some e) ∷ keys all (suc k) es

-- no two are the same
abbrev pub KeysDiffer : Type 0
KeysDiffer = (all : List ExternAssembly) → length all < 2 ^ 128 → all_differ bytes_eq (keys all 0 all) ≡ true

-- A source that is a listing has them, and knows the assemblies by them.
pub record KeysAreKnown : Type 0 where
  pub said : (s : Source) (a : Assembly) → IsListingOf s a → map (extern_key s) (externs s) ≡ keys a.externs 0 a.externs
  pub knows : (s : Source) (a : Assembly) → IsListingOf s a → Knows s a
