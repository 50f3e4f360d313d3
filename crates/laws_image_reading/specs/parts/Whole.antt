-- A well-formed assembly is what the image gives into which it is laid out (ECMA-335 II.22).
use Rattle.std.specs.Prelude.{◌≡◌, ℕ, ◌^◌, ◌≤◌, true, List}
use Rattle.assembly_tree.specs.Weight.{weight_of}
use Rattle.assembly_tree.specs.WellFormed.{is_well_formed}
use Rattle.assembly_tree.specs.declared.assembly.Assembly.{Assembly}
use Rattle.body_codec.specs.Back.{NamesBack}
use Rattle.body_codec.specs.Names.{NameMap}
use Rattle.pe_layout.specs.declared.parts.Kind.{Kind}
use Rattle.image_tokens.specs.declared.references.References.{References}
use Rattle.image_members.specs.CodeBytes.{all_tokens}
use Rattle.image_rows.specs.Filled.{IsFilled, entry_token}
use Rattle.image_members.specs.Pushing.{Tables}
use Rattle.image_members.specs.declared.classes.Class.{Class}
use Rattle.image_layout.specs.LaidOut.{IsLaidOut}
use Rattle.image_model.specs.Namings.{AreNamings}
use Rattle.image_model.specs.Reading.{IsManifest, IsAssembly}
use Rattle.laws_image_reading.specs.parts.Held.{WhereHeld}
use Rattle.laws_image_reading.specs.parts.Ranges.{AreInRange}

-- ---- laws

abbrev pub ManifestsAreNamed : Type 0
ManifestsAreNamed = WhereHeld (λ a classes image names. IsManifest image names a.manifest)

-- by a namer that tells what tokens name and gives back what was given one, where the numbers of the tree are in range
abbrev pub AssembliesAreRead : Type 0
AssembliesAreRead =
    (a : Assembly) (classes : List Class) (r : References) (tables : Tables) (code : List ℕ) (entry : ℕ) (id : List ℕ) (kind : Kind) (image : List ℕ)
    → IsFilled a classes r tables code → IsLaidOut a.manifest r tables code entry id kind image → entry ≡ entry_token a classes
    → is_well_formed a ≡ true → weight_of a ≤ 2 ^ 26 → AreInRange a classes
    → (names : NameMap) → AreNamings image names → NamesBack (all_tokens r) names → IsAssembly image names a
