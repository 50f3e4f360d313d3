-- The rows of InterfaceImpl: for each type in turn its interfaces, in the order of their coded indexes (ECMA-335 II.22, II.22.23).
use Rattle.std.specs.Prelude.{◌≡◌, ℕ, ◌+◌, ◌^◌, ◌<◌, ◌≤◌, List, [], ◌∷◌, ◌++◌, map, length, sum_by}
use Rattle.std.specs.List.{AllByRecursion, AllZip, flat_map}
use Rattle.std.specs.List.Sorted.{IsPermutation, IsNonDecreasing}
use Rattle.assembly_tree.specs.Weight.{owner_weight}
use Rattle.assembly_tree.specs.declared.typedef.TypeDef.TheViews.{out-TypeDef}
use Rattle.metadata_tables.specs.Encoding.{rows_in}
use Rattle.type_terms.specs.declared.term.Owner.{Owner}
use Rattle.image_members.specs.Pushing.{Tables, AddsRows}
use Rattle.image_tokens.specs.References.{size, Grows, AreKnown}
use Rattle.image_members.specs.TypeIndexes.{IsTypeIndex}
use Rattle.image_tokens.specs.Writable.{IsOwnerWritable}
use Rattle.image_members.specs.declared.classes.Class.{Class}
use Rattle.image_tokens.specs.declared.references.References.{References}

abbrev pub class_interfaces : Class → List Owner
class_interfaces c = (out-TypeDef c.of.now).implements

-- the interfaces of types whose rows of TypeDef follow one another, from this row on
abbrev pub interfaces_from : ℕ → List Class → List (ℕ × List Owner)
interfaces_from row [] = []
interfaces_from row (c ∷ cs) = (row, class_interfaces c) ∷ interfaces_from (row + 1) cs

abbrev pub count_interfaces : ℕ × List Owner → ℕ
count_interfaces t = length t.1

abbrev pub interface_bytes : ℕ × List Owner → ℕ
interface_bytes t = sum_by owner_weight t.1

-- numbers are the coded indexes of types, in the order of the types
abbrev pub AreIndexes : References → List ℕ → List Owner → Type 0
AreIndexes r indexes owners = AllZip (λ index o. IsTypeIndex o r index) indexes owners

-- the rows of a type: the row of the type, and the coded indexes of its interfaces, which rise
pub record AreInterfaceRows (r : References) (rows : List (List ℕ)) (t : ℕ × List Owner) : Type 0 where
  pub found : List ℕ
  pub each : AreIndexes r found t.1
  pub indexes : List ℕ
  pub same : IsPermutation found indexes
  pub rise : IsNonDecreasing indexes
  pub are : rows ≡ map (λ (index : ℕ). t.0 ∷ index ∷ []) indexes

-- one after another
abbrev pub joined : List (List (List ℕ)) → List (List ℕ)
joined groups = flat_map (λ (g : List (List ℕ)). g) groups

-- InterfaceImpl has got the rows of types
pub record PushesInterfaces (types : List (ℕ × List Owner)) (old new : References) (from to : Tables) : Type 0 where
  pub grows : Grows old new
  pub known : AreKnown new
  pub room : size new ≤ size old + sum_by interface_bytes types
  pub groups : List (List (List ℕ))
  pub adds : AddsRows 0x09 (joined groups) from to
  pub each : AllZip (AreInterfaceRows new) groups types

-- types have got coded indexes
pub record FindsIndexes (owners : List Owner) (old new : References) (indexes : List ℕ) : Type 0 where
  pub grows : Grows old new
  pub known : AreKnown new
  pub room : size new ≤ size old + sum_by owner_weight owners
  pub each : AreIndexes new indexes owners

-- the same numbers, rising
pub record IsRising (from to : List ℕ) : Type 0 where
  pub same : IsPermutation from to
  pub rise : IsNonDecreasing to

-- such rows can be added: each interface can be written, and there is room
pub record CanPushInterfaces (types : List (ℕ × List Owner)) (r : References) (tables : Tables) : Type 0 where
  pub known : AreKnown r
  pub each : AllByRecursion (λ t. AllByRecursion (IsOwnerWritable r) t.1) types
  pub few : rows_in tables 0x09 + sum_by count_interfaces types < 2 ^ 24
  pub room : size r + sum_by interface_bytes types ≤ 2 ^ 26
