-- What a source gives: an image, or a fault.
use Rattle.std.specs.Prelude.{◌≡◌, ℕ, ◌^◌, ◌<◌, ◌≤◌, ◌⊎◌, Bool, true, false, List, length, take}
use Rattle.assembly_tree.specs.Fits.{Fits}
use Rattle.assembly_tree.specs.Room.{room as room_in}
use Rattle.assembly_tree.specs.Weight.{weight_of}
use Rattle.assembly_tree.specs.declared.assembly.Assembly.{Assembly}
use Rattle.il_shrink.specs.ShrunkAll.{IsShrunkAll}
use Rattle.image_model.specs.Faults.{Reads}
use Rattle.image_model.specs.Tidy.{IsTidy}
use Rattle.pe_layout.specs.declared.parts.Kind.{Kind}
use Rattle.sha2.specs.Sha256.{sha256}
use Rattle.source_assembly.specs.Reading.{IsAssemblyOf, IsFaultOf}
use Rattle.il_tools.specs.declared.fault.ContentFault.{ContentFault}
use Rattle.il_tools.specs.declared.fault.ContentFault.TheVariants as content
use Rattle.il_tools.specs.declared.fault.ImageFault.{ImageFault}
use Rattle.il_tools.specs.declared.fault.ImageFault.TheVariants as fault

-- the identifier of a module: the front of the SHA-256 of its source
abbrev pub identifier_of : List ℕ → List ℕ
identifier_of source = take 16 (sha256 source)

-- what is written of an assembly: itself, or the one whose bodies have the most short branches
abbrev pub IsChosen : Bool → Assembly → Assembly → Type 0
IsChosen false meant written = written ≡ meant
IsChosen true meant written = IsShrunkAll meant written

-- this is written of the assembly that the source denotes, and is as large as that
pub record IsWrittenOf (source : List ℕ) (optimize : Bool) (written : Assembly) : Type 0 where
  pub meant : Assembly
  pub denoted : IsAssemblyOf source meant
  pub chosen : IsChosen optimize meant written
  pub weight : weight_of written ≡ weight_of meant
  pub room : room_in written ≡ room_in meant

-- the image reads as the assembly that the source denotes, or as that with short branches where they are asked for; it is tidy, and
-- has at most as many bytes as the assembly weighs
pub record IsImageOf (source : List ℕ) (kind : Kind) (optimize : Bool) (image : List ℕ) : Type 0 where
  pub meant : Assembly
  pub denoted : IsAssemblyOf source meant
  pub fits : Fits meant
  pub written : Assembly
  pub chosen : IsChosen optimize meant written
  pub reads : Reads image written
  pub tidy : IsTidy image kind (identifier_of source)
  pub short : length image ≤ weight_of meant

-- the source has this fault, or denotes an assembly that doesn't fit
abbrev pub IsContentFault : List ℕ → ContentFault → Type 0
IsContentFault source (content.Source found) = IsFaultOf source found
IsContentFault source content.TooLarge = (a : Assembly) × IsAssemblyOf source a × ((2 ^ 26 < weight_of a) ⊎ (2 ^ 24 < room_in a))

-- the cause of a refusal of a source; want of memory has none
abbrev pub IsRefused : List ℕ → ImageFault → Type 0
IsRefused source (fault.Content found) = IsContentFault source found
IsRefused source fault.NoMemory = Unit {0}
