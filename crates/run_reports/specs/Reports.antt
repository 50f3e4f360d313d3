-- What `peverify` gives for an image and the assemblies that it refers to, and which status is due (ECMA-335 III.1.8).
use Rattle.std.specs.Prelude.{◌≡◌, ℕ, suc, List, [], ◌∷◌, slice_index_or}
use Rattle.std.specs.List.{AllZip}
use Rattle.assembly_tree.specs.declared.assembly.Assembly.{Assembly}
use Rattle.assembly_tree.specs.declared.body.Body.{Body}
use Rattle.assembly_tree.specs.declared.typedef.MethodPath.{MethodPath}
use Rattle.assignability.specs.Worlds.{IsCyclicType}
use Rattle.body_verifier.specs.Checking.{HasBody}
use Rattle.body_verifier.specs.Reports.{ReportsAll}
use Rattle.body_verifier.specs.declared.report.Failure.{Failure}
use Rattle.code_flow.specs.Frames.{frame}
use Rattle.code_flow.specs.Methods.{Declared}
use Rattle.code_flow.specs.Paths.{NeverWrong}
use Rattle.image_model.specs.Faults.{Reads, IsImageFault}
use Rattle.image_model.specs.declared.place.Place.{Place}
use Rattle.listing_model.specs.Canon.{type_line}
use Rattle.run_endings.specs.Ends.{says_only, prints_only}
use Rattle.run_endings.specs.declared.ending.Ending.{Ending}
use Rattle.run_images.specs.Texts.{image_text}
use Rattle.run_reports.specs.Texts.{cyclic_text, report_text}
use Rattle.type_hierarchy.specs.Ancestors.{IsAcyclic}
use Rattle.type_hierarchy.specs.Declarations.{hierarchy_of}
use Rattle.type_hierarchy.specs.Scopes.{Sources, sources}
use Rattle.type_terms.specs.declared.name.TypeName.{TypeName}

-- ---- images that are read

-- the first of some images that fails a demand: its number from 0, the demand and the place
pub data IsFirstFault : List (List ℕ) → (k rule : ℕ) → Place → Type 0 where
  here : {image : List ℕ} {images : List (List ℕ)} {rule : ℕ} {at : Place} → IsImageFault image rule at → IsFirstFault (image ∷ images) 0 rule at
  later : {image : List ℕ} {images : List (List ℕ)} {k rule : ℕ} {at : Place} (a : Assembly) → Reads image a → IsFirstFault images k rule at
      → IsFirstFault (image ∷ images) (suc k) rule at

-- ---- assemblies that are checked

-- the assembly with a number: 0 is the image, and references count from 1
abbrev pub assembly_by : Sources → ℕ → Assembly
assembly_by s k = slice_index_or (s.image ∷ s.references) k s.image

-- the failures of all bodies; where there are none, no path of any body goes wrong
pub record IsReportOf (s : Sources) (failures : List Failure) : Type 0 where
  pub each : ReportsAll s.image (hierarchy_of s) failures
  pub right : failures ≡ [] → (path : MethodPath) (d : Declared) (b : Body) → HasBody s.image path d b → NeverWrong (frame s.image (hierarchy_of s) d b)

-- 0 where there is no failure
abbrev pub status_of : List Failure → ℕ
status_of [] = 0
status_of (f ∷ fs) = 1

-- for assemblies from files with these names: the first type that is its own ancestor, or the report
pub data GivesFailures (names : List (List ℕ)) (s : Sources) (e : Ending) : Type 0 where
  cyclic : (k : ℕ) (at : TypeName) → IsCyclicType s k at → e ≡ says_only 1 (cyclic_text (slice_index_or names k []) (type_line (assembly_by s k) at)) → GivesFailures names s e
  report : (failures : List Failure) → IsAcyclic s → IsReportOf s failures → e ≡ prints_only (status_of failures) (report_text s.image failures) → GivesFailures names s e

pub data MeritsFailures (s : Sources) (n : ℕ) : Type 0 where
  cyclic : (k : ℕ) (at : TypeName) → IsCyclicType s k at → n ≡ 1 → MeritsFailures s n
  report : (failures : List Failure) → IsAcyclic s → ReportsAll s.image (hierarchy_of s) failures → n ≡ status_of failures → MeritsFailures s n

-- ---- the whole

-- for the images in files with these names, the one that is checked first: the line of the first that fails a demand, or what their
-- assemblies give
pub data GivesReport (names images : List (List ℕ)) (e : Ending) : Type 0 where
  faulty : (k rule : ℕ) (at : Place) → IsFirstFault images k rule at → e ≡ says_only 1 (image_text (slice_index_or names k []) rule at) → GivesReport names images e
  read : (a : Assembly) (references : List Assembly) → AllZip Reads images (a ∷ references) → GivesFailures names (sources a references) e → GivesReport names images e

pub data MeritsReport (images : List (List ℕ)) (n : ℕ) : Type 0 where
  faulty : (k rule : ℕ) (at : Place) → IsFirstFault images k rule at → n ≡ 1 → MeritsReport images n
  read : (a : Assembly) (references : List Assembly) → AllZip Reads images (a ∷ references) → MeritsFailures (sources a references) n → MeritsReport images n
