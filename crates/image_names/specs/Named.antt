-- What has to hold before all that the tokens of an image name is kept (II.22, III.1.9).
use Rattle.std.specs.Prelude.{ℕ, ◌≤◌, ◌^◌, List, length}
use Rattle.body_codec.specs.Names.{NameMap}
use Rattle.image_model.specs.Faults.{HasTables, HoldBefore, attributes}
use Rattle.image_model.specs.Namings.{AreNamings}
use Rattle.kept_names.specs.declared.names.KeptNames.{KeptNames}
use Rattle.kept_owners.specs.Owners.{KeepsOwners}

-- I1 to I20 hold of an image of at most 2^26 bytes, and the types that its rows name are kept
pub record CanName (image : List ℕ) (names : NameMap) (known : KeptNames) : Type 0 where
  pub short : length image ≤ 2 ^ 26
  pub tables : HasTables image
  pub named : AreNamings image names
  pub before : HoldBefore image names attributes
  pub owners : KeepsOwners image names.owners known
