-- What rows of several tables own, by the number of the row and then by its table (ECMA-335 II.22, II.24.2.6).
use Rattle.std.specs.Prelude.{◌≡◌, ℕ, List, []}
use Rattle.assembly_tree.specs.declared.members.Attribute.{Attribute}
use Rattle.assembly_tree.specs.declared.members.Constant.{Constant}
use Rattle.assembly_tree.specs.declared.members.Generic.{Generic}
use Rattle.metadata_tables.specs.declared.coded.Coded.TheVariants.{HasConstant, HasCustomAttribute, TypeOrMethodDef}
use Rattle.image_members.specs.ByNumber.{by_number}
use Rattle.image_members.specs.Lists.{Owned, longest_of}
use Rattle.image_tables.specs.declared.owned_part.Nothing.{Nothing}

abbrev pub generics_in : List (Owned (ℕ × Generic)) → List (ℕ × (ℕ × Generic))
generics_in lists = by_number TypeOrMethodDef lists (longest_of lists)

abbrev pub constants_in : List (Owned Constant) → List (ℕ × Constant)
constants_in lists = by_number HasConstant lists (longest_of lists)

abbrev pub attributes_in : List (Owned Attribute) → List (ℕ × Attribute)
attributes_in lists = by_number HasCustomAttribute lists (longest_of lists)

-- `<Module>` owns nothing (II.22.37)
pub record IsNothing (n : Nothing) : Type 0 where
  pub attributes : n.attributes ≡ []
  pub generics : n.generics ≡ []
