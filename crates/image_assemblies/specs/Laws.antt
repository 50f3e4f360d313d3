-- Where no demand on rows fails, an assembly is there: so an image reads as one assembly, or has one first fault.
use Rattle.std.specs.Prelude.{◌≡◌, ℕ, ◌^◌, ◌≤◌, List, length}
use Rattle.body_codec.specs.Names.{NameMap}
use Rattle.assembly_tree.specs.declared.assembly.Assembly.{Assembly}
use Rattle.image_model.specs.declared.place.Place.{Place}
use Rattle.image_model.specs.Namings.{AreNamings}
use Rattle.image_model.specs.Reading.{IsAssembly}
use Rattle.image_model.specs.Faults.{RowRule, Holds, HasTables, Reads, IsImageFault}

-- Where I1 to I23 hold of an image of at most 2^26 bytes, each part of an assembly is what the image gives. The length bounds
-- the rows of methods and of references to them, so that each has a token.
abbrev pub AssemblyExists : Type 0
AssemblyExists =
    (image : List ℕ) (names : NameMap) → length image ≤ 2 ^ 26 → HasTables image → AreNamings image names → ((rule : RowRule) → Holds image names rule)
    → (a : Assembly) × IsAssembly image names a

-- What comes of an image: it reads as one assembly at most, it has one first fault at most, and of the two there is one: never
-- both, and that there is neither is refuted. Which of the two it is, is told by who reads the image.
pub record HasOneOutcome (image : List ℕ) : Type 0 where
  pub one_assembly : (a b : Assembly) → Reads image a → Reads image b → a ≡ b
  pub one_fault : (rule other : ℕ) (at there : Place) → IsImageFault image rule at → IsImageFault image other there → (rule ≡ other) × (at ≡ there)
  pub not_both : (a : Assembly) (rule : ℕ) (at : Place) → Reads image a → IsImageFault image rule at → ⊥
  pub not_neither : ((a : Assembly) → Reads image a → ⊥) → ((rule : ℕ) (at : Place) → IsImageFault image rule at → ⊥) → ⊥

-- each image of at most 2^26 bytes
abbrev pub ImagesHaveOneOutcome : Type 0
ImagesHaveOneOutcome = (image : List ℕ) → length image ≤ 2 ^ 26 → HasOneOutcome image
