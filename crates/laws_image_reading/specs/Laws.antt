-- A well-formed assembly is read back from the image into which it is laid out (ECMA-335 II.22 to II.25).
use Rattle.std.specs.Prelude.{◌≡◌, ℕ, ◌^◌, ◌≤◌, true, List, length}
use Rattle.assembly_tree.specs.Weight.{weight_of}
use Rattle.assembly_tree.specs.WellFormed.{is_well_formed}
use Rattle.assembly_tree.specs.declared.assembly.Assembly.{Assembly}
use Rattle.body_codec.specs.Back.{NamesBack}
use Rattle.body_codec.specs.Names.{NameMap}
use Rattle.pe_layout.specs.declared.parts.Kind.{Kind}
use Rattle.image_tokens.specs.declared.references.References.{References}
use Rattle.image_members.specs.CodeBytes.{all_tokens}
use Rattle.image_rows.specs.Filled.{IsFilled, entry_token}
use Rattle.image_members.specs.Pushing.{Tables}
use Rattle.image_members.specs.declared.classes.Class.{Class}
use Rattle.laws_image_indexes.specs.Laws.{AccessorsAreMethods}
use Rattle.image_layout.specs.LaidOut.{IsLaidOut}
use Rattle.image_model.specs.Faults.{Holds, Reads, RowRule}
use Rattle.image_model.specs.Namings.{AreNamings}
use Rattle.laws_image_parts.specs.namings.Readable.{IsReadable}
use Rattle.laws_image_reading.specs.parts.Ranges.{AreInRange}

-- The assembly is laid out in the image, well formed, and not too heavy. As many externs are declared as there are, the methods of
-- accessors have rows, and a reader takes the signatures and texts of references.
pub record IsLaid (a : Assembly) (classes : List Class) (r : References) (tables : Tables) (code id : List ℕ) (kind : Kind) (image : List ℕ) : Type 0 where
  pub filled : IsFilled a classes r tables code
  pub laid_out : IsLaidOut a.manifest r tables code (entry_token a classes) id kind image
  pub formed : is_well_formed a ≡ true
  pub light : weight_of a ≤ 2 ^ 26
  pub externs : r.declared.externs ≡ length a.externs
  pub accessors : AccessorsAreMethods a classes
  pub readable : IsReadable r

-- ---- laws

-- the demands on rows, I8 to I23, by a namer that tells what tokens name and gives back what was given one
abbrev pub DemandsHold : Type 0
DemandsHold =
    (a : Assembly) (classes : List Class) (r : References) (tables : Tables) (code id : List ℕ) (kind : Kind) (image : List ℕ)
    → IsLaid a classes r tables code id kind image
    → (names : NameMap) → AreNamings image names → NamesBack (all_tokens r) names → (rule : RowRule) → Holds image names rule

-- the image reads as the assembly, where the numbers of the tree are in range
abbrev pub ImagesAreRead : Type 0
ImagesAreRead =
    (a : Assembly) (classes : List Class) (r : References) (tables : Tables) (code id : List ℕ) (kind : Kind) (image : List ℕ)
    → IsLaid a classes r tables code id kind image → AreInRange a classes → Reads image a
