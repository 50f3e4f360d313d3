-- The signatures of a laid-out image are in bounds (ECMA-335 II.22, II.23.2).
use Rattle.std.specs.Prelude.{◌≡◌, ℕ, ◌^◌, ◌≤◌, true, List}
use Rattle.assembly_tree.specs.Weight.{weight_of}
use Rattle.assembly_tree.specs.WellFormed.{is_well_formed}
use Rattle.assembly_tree.specs.declared.assembly.Assembly.{Assembly}
use Rattle.pe_layout.specs.declared.parts.Kind.{Kind}
use Rattle.sig_codec.specs.Signature.{SpellsField, SpellsMethod, SpellsLocals, SpellsInstantiation}
use Rattle.sig_codec.specs.Spelling.{SpellsType}
use Rattle.image_tokens.specs.Bounds.{IsTypeInBounds, AreTypesInBounds, IsMethodInBounds}
use Rattle.image_tokens.specs.declared.references.References.{References}
use Rattle.image_rows.specs.Filled.{IsFilled}
use Rattle.image_members.specs.Pushing.{Tables}
use Rattle.image_members.specs.declared.classes.Class.{Class}
use Rattle.image_layout.specs.LaidOut.{IsLaidOut}
use Rattle.laws_image_parts.specs.namings.Readable.{AreReadableIn, TextsAreUnits}

-- whatever signature a row has is in bounds, and each text that was given a token is one of UTF-16 units
pub record AreInBounds (r : References) : Type 0 where
  pub specs : AreReadableIn SpellsType IsTypeInBounds r r.referred.specs (λ c. c.first)
  pub locals : AreReadableIn SpellsLocals AreTypesInBounds r r.referred.locals (λ c. c.first)
  pub fields : AreReadableIn SpellsField IsTypeInBounds r r.declared.fields (λ c. c.third)
  pub methods : AreReadableIn SpellsMethod IsMethodInBounds r r.declared.methods (λ c. c.third)
  pub member_fields : AreReadableIn SpellsField IsTypeInBounds r r.referred.members (λ c. c.third)
  pub member_methods : AreReadableIn SpellsMethod IsMethodInBounds r r.referred.members (λ c. c.third)
  pub arguments : AreReadableIn SpellsInstantiation AreTypesInBounds r r.referred.instances (λ c. c.second)
  pub texts : TextsAreUnits r

-- ---- the law

abbrev pub SignaturesAreInBounds : Type 0
SignaturesAreInBounds =
    (a : Assembly) (classes : List Class) (r : References) (tables : Tables) (code : List ℕ) (entry : ℕ) (id : List ℕ) (kind : Kind) (image : List ℕ)
    → IsFilled a classes r tables code → IsLaidOut a.manifest r tables code entry id kind image → is_well_formed a ≡ true → weight_of a ≤ 2 ^ 26 → AreInBounds r
