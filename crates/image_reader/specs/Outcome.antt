-- What comes of an image: the assembly that it reads as, or the first demand that it fails (II.22, II.24, II.25).
use Rattle.std.specs.Prelude.{◌≡◌, ℕ, List, ⊤}
use Rattle.std.specs.declared.result.Result.{Result}
use Rattle.std.specs.declared.result.Result.TheVariants.{Ok, Err}
use Rattle.assembly_tree.specs.declared.assembly.Assembly.{Assembly}
use Rattle.body_codec.specs.Names.{NameMap}
use Rattle.image_model.specs.declared.place.Place.{Place}
use Rattle.image_model.specs.Faults.{Reads, IsImageFault}
use Rattle.image_model.specs.Namings.{AreNamings}
use Rattle.image_model.specs.Reading.{IsAssembly}
use Rattle.image_ready.specs.Keeping.{Keeps}
use Rattle.image_ready.specs.Laws.{AreDataSizes}
use Rattle.image_streams.specs.declared.opened.Unmet.{Unmet}
use Rattle.kept_names.specs.declared.names.KeptNames.{KeptNames}
use Rattle.image_reader.specs.declared.fault.ImageFault.{ImageFault}
use Rattle.image_reader.specs.declared.fault.ImageFault.TheVariants.{Bad, NoMemory}

-- an assembly, or a demand
abbrev pub IsOutcome : List ℕ → Result Assembly Unmet → Type 0
IsOutcome image (Ok a) = Reads image a
IsOutcome image (Err unmet) = IsImageFault image unmet.rule unmet.at

-- the cause of an answer without an assembly; want of memory has none
abbrev pub IsFaultOf : List ℕ → ImageFault → Type 0
IsFaultOf image (Bad rule at) = IsImageFault image rule at
IsFaultOf image NoMemory = ⊤

abbrev pub IsAnswer : List ℕ → Result Assembly ImageFault → Type 0
IsAnswer image (Ok a) = Reads image a
IsAnswer image (Err fault) = IsFaultOf image fault

-- the answer is the assembly, and this fault, where memory isn't wanting
abbrev pub AnswersAssembly : Assembly → Result Assembly ImageFault → Type 0
AnswersAssembly a (Ok b) = b ≡ a
AnswersAssembly a (Err fault) = fault ≡ NoMemory

abbrev pub AnswersFault : ℕ → Place → Result Assembly ImageFault → Type 0
AnswersFault rule at (Ok a) = ⊥
AnswersFault rule at (Err (Bad number place)) = (number ≡ rule) × (place ≡ at)
AnswersFault rule at (Err NoMemory) = ⊤

-- each part of the assembly is what the image gives
abbrev pub IsTreeOf : List ℕ → Assembly → Type 0
IsTreeOf image a = (names : NameMap) → AreNamings image names → IsAssembly image names a

-- all that the rows and bodies of the image name is kept
abbrev pub AreKept : List ℕ → KeptNames → Type 0
AreKept image kept = (names : NameMap) → AreNamings image names → Keeps image names kept

-- of each row of FieldRVA how many bytes its data has
abbrev pub AreSizes : List ℕ → List ℕ → Type 0
AreSizes image sizes = (names : NameMap) → AreNamings image names → AreDataSizes image names sizes
