-- What `ildasm` gives for an image, and which status is due (ECMA-335 II.5, II.22).
use Rattle.std.specs.Prelude.{◌≡◌, ℕ, List, Option, None, Some}
use Rattle.assembly_tree.specs.declared.assembly.Assembly.{Assembly}
use Rattle.image_model.specs.Faults.{Reads, IsImageFault}
use Rattle.image_model.specs.declared.place.Place.{Place}
use Rattle.listing_model.specs.Canon.{listing}
use Rattle.run_endings.specs.Ends.{says_only, prints_only, makes_only}
use Rattle.run_endings.specs.declared.ending.Ending.{Ending}
use Rattle.run_images.specs.Texts.{image_text}
use Rattle.source_model.specs.Denotes.{Denotes}

-- a listing goes to the file that is named, or else to standard output
abbrev pub told : Option (List ℕ) → List ℕ → Ending
told None text = prints_only 0 text
told (Some name) text = makes_only name text

-- the canonical source of the assembly that the image reads as, which denotes that assembly; or the line of the first demand that the image
-- fails
pub data GivesListing (file : List ℕ) (out : Option (List ℕ)) (image : List ℕ) (e : Ending) : Type 0 where
  a_listing : (a : Assembly) → Reads image a → Denotes (listing a) a → e ≡ told out (listing a) → GivesListing file out image e
  a_fault : (rule : ℕ) (at : Place) → IsImageFault image rule at → e ≡ says_only 1 (image_text file rule at) → GivesListing file out image e

-- 0 is due where the image reads as an assembly, 1 where it fails a demand
pub data MeritsListing (image : List ℕ) (n : ℕ) : Type 0 where
  reading : (a : Assembly) → Reads image a → n ≡ 0 → MeritsListing image n
  faulty : (rule : ℕ) (at : Place) → IsImageFault image rule at → n ≡ 1 → MeritsListing image n
