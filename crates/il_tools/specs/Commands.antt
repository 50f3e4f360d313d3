-- What each command reads, what it gives for the bytes that were read, and which status is due; and what a run of the program is.
use Rattle.std.specs.Prelude.{◌≡◌, ℕ, Bool, ◌≤◌, List, [], ◌∷◌, length}
use Rattle.assembly_tree.specs.Fits.{Fits}
use Rattle.assembly_tree.specs.declared.assembly.Assembly.{Assembly}
use Rattle.command_words.specs.Words.{usage_fault, command_of}
use Rattle.command_words.specs.declared.command.Command.{Command}
use Rattle.command_words.specs.declared.command.Command.TheVariants.{Ilasm}
use Rattle.pe_layout.specs.declared.parts.Kind.{Kind}
use Rattle.run_endings.specs.Ends.{Shelved, Spoken, says_only, makes_only}
use Rattle.run_endings.specs.Runs.{Runs}
use Rattle.run_endings.specs.declared.ending.Ending.{Ending}
use Rattle.run_endings.specs.declared.input.Input.{Input}
use Rattle.source_assembly.specs.Reading.{IsAssemblyOf}
use Rattle.il_tools.specs.Assembled.{IsContentFault, IsImageOf}
use Rattle.il_tools.specs.Texts.{content_text}
use Rattle.il_tools.specs.declared.fault.ContentFault.{ContentFault}

-- ---- ilasm

-- what is given for a source: an image under the output's name, and nothing is said; or the line of its fault
pub data GivesImage (file : List ℕ) (kind : Kind) (optimize : Bool) (output source : List ℕ) (e : Ending) : Type 0 where
  an_image : (image : List ℕ) → IsImageOf source kind optimize image → e ≡ makes_only output image → GivesImage file kind optimize output source e
  a_fault : (fault : ContentFault) → IsContentFault source fault → e ≡ says_only 1 (content_text file fault) → GivesImage file kind optimize output source e

-- the status that is due to a source: 0 where it denotes an assembly that fits, 1 where it has a fault
pub data MeritsImage (source : List ℕ) (n : ℕ) : Type 0 where
  fitting : (a : Assembly) → IsAssemblyOf source a → Fits a → n ≡ 0 → MeritsImage source n
  faulty : (fault : ContentFault) → IsContentFault source fault → n ≡ 1 → MeritsImage source n

-- ---- commands

-- what is read, in this order
abbrev pub inputs_of : Command → List Input
inputs_of (Ilasm file kind optimize output) = record { name = file; limit = 134217728 } ∷ []

-- what the bytes that were read give
abbrev pub Gives : Command → List (List ℕ) → Ending → Type 0
Gives (Ilasm file kind optimize output) (source ∷ []) e = GivesImage file kind optimize output source e
Gives (Ilasm file kind optimize output) given e = ⊥

-- and which status they demand
abbrev pub MeritsOf : Command → List (List ℕ) → ℕ → Type 0
MeritsOf (Ilasm file kind optimize output) (source ∷ []) n = MeritsImage source n
MeritsOf (Ilasm file kind optimize output) given n = ⊥

-- what was read is within the limits of the inputs
abbrev pub AreWithin : List Input → List (List ℕ) → Type 0
AreWithin [] [] = Unit {0}
AreWithin (input ∷ inputs) (bytes ∷ given) = (length bytes ≤ input.limit) × AreWithin inputs given
AreWithin _ _ = ⊥

-- ---- a run

abbrev pub Ran : List (List ℕ) → ℕ → Shelved → Spoken → Type 0
Ran words number s c = Runs (usage_fault words) (inputs_of (command_of words)) (Gives (command_of words)) (MeritsOf (command_of words)) number s c
