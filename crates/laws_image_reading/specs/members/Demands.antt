-- The demands on the signatures and the values of members that a laid-out image of a well-formed assembly meets (ECMA-335 II.22,
-- II.23.2).
use Rattle.std.specs.Prelude.{◌≡◌, ℕ, ◌≤◌, ◌^◌, true, List}
use Rattle.assembly_tree.specs.Weight.{weight_of}
use Rattle.assembly_tree.specs.WellFormed.{is_well_formed}
use Rattle.assembly_tree.specs.declared.assembly.Assembly.{Assembly}
use Rattle.body_codec.specs.Back.{NamesBack}
use Rattle.body_codec.specs.Names.{NameMap}
use Rattle.pe_layout.specs.declared.parts.Kind.{Kind}
use Rattle.image_tokens.specs.declared.references.References.{References}
use Rattle.image_members.specs.CodeBytes.{all_tokens}
use Rattle.image_rows.specs.Filled.{IsFilled}
use Rattle.image_members.specs.Pushing.{Tables}
use Rattle.image_members.specs.declared.classes.Class.{Class}
use Rattle.image_layout.specs.LaidOut.{IsLaidOut}
use Rattle.image_model.specs.Faults.{Holds, signatures, values}
use Rattle.image_model.specs.Namings.{AreNamings}
use Rattle.laws_image_parts.specs.namings.Readable.{IsReadable}
use Rattle.laws_image_reading.specs.members.Bounded.{AreBounded}

-- What holds of each laid-out image of a well-formed assembly that isn't too heavy, by a namer that tells what tokens name and gives
-- back what was given one, where the rows of references hold what a reader takes, in bounds.
abbrev pub OfImages : (List ℕ → NameMap → Type 0) → Type 0
OfImages Holding =
    (a : Assembly) (classes : List Class) (r : References) (tables : Tables) (code : List ℕ) (entry : ℕ) (id : List ℕ) (kind : Kind) (image : List ℕ)
    → IsFilled a classes r tables code → IsLaidOut a.manifest r tables code entry id kind image → is_well_formed a ≡ true → weight_of a ≤ 2 ^ 26
    → IsReadable r → AreBounded r → (names : NameMap) → AreNamings image names → NamesBack (all_tokens r) names → Holding image names

-- ---- laws

abbrev pub SignaturesHold : Type 0
SignaturesHold = OfImages (λ image names. Holds image names signatures)

abbrev pub ValuesHold : Type 0
ValuesHold = OfImages (λ image names. Holds image names values)
