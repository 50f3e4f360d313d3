-- Whether the assembly that an image gives is light enough to be read (I24; II.22).
use Rattle.std.specs.Prelude.{◌↔◌, ℕ, ◌^◌, ◌≤◌, Bool, List, IsTrue, length}
use Rattle.assembly_tree.specs.Weight.{weight_of}
use Rattle.assembly_tree.specs.declared.assembly.Assembly.{Assembly}
use Rattle.body_codec.specs.Names.{NameMap}
use Rattle.image_demands.specs.Meeting.{MeetDemands}
use Rattle.image_model.specs.Faults.{HasTables, max_weight}
use Rattle.image_model.specs.Namings.{AreNamings}
use Rattle.image_model.specs.Reading.{IsAssembly}
use Rattle.name_weights.specs.Weights.{weighing}
use Rattle.signature_facts.specs.Owners.{AreFacts}
use Rattle.signature_facts.specs.Scanning.{OwnersFacts}

-- I1 to I23 hold of an image of at most 2^26 bytes
pub record Meets (image : List ℕ) : Type 0 where
  pub short : length image ≤ 2 ^ 26
  pub tables : HasTables image
  pub demands : MeetDemands image

-- the answer is whether what the image gives weighs at most 2^26, whatever tells what tokens name
abbrev pub TellsLight : List ℕ → Bool → Type 0
TellsLight image light =
    (names : NameMap) (a : Assembly) → AreNamings image names → IsAssembly image names a → IsTrue light ↔ (weight_of a ≤ max_weight)

-- these are facts of what its tokens name, with its weight in an assembly
abbrev pub TellWeighed : List ℕ → OwnersFacts → Type 0
TellWeighed image facts = (names : NameMap) → AreNamings image names → AreFacts weighing names.owners facts
