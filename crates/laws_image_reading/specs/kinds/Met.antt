-- Demands on rows that a laid-out image of a well-formed assembly meets (ECMA-335 II.22, II.25.4).
use Rattle.std.specs.Prelude.{◌≡◌, ℕ, ◌^◌, ◌≤◌, true, List}
use Rattle.assembly_tree.specs.Weight.{weight_of}
use Rattle.assembly_tree.specs.WellFormed.{is_well_formed}
use Rattle.assembly_tree.specs.declared.assembly.Assembly.{Assembly}
use Rattle.body_codec.specs.Back.{NamesBack}
use Rattle.body_codec.specs.Names.{NameMap}
use Rattle.pe_layout.specs.declared.parts.Kind.{Kind}
use Rattle.image_tokens.specs.declared.references.References.{References}
use Rattle.image_members.specs.CodeBytes.{all_tokens}
use Rattle.image_rows.specs.Filled.{IsFilled}
use Rattle.image_members.specs.Pushing.{Tables}
use Rattle.image_members.specs.declared.classes.Class.{Class}
use Rattle.image_layout.specs.LaidOut.{IsLaidOut}
use Rattle.image_model.specs.Faults.{Holds, RowRule, accessors, attributes, bases, distinct, header}
use Rattle.image_model.specs.Namings.{AreNamings}

-- a demand holds of each laid-out image of a well-formed assembly, by a namer that tells what tokens name and gives back what was
-- given one
abbrev pub IsMet : RowRule → Type 0
IsMet rule =
    (a : Assembly) (classes : List Class) (r : References) (tables : Tables) (code : List ℕ) (entry : ℕ) (id : List ℕ) (kind : Kind) (image : List ℕ)
    → IsFilled a classes r tables code → IsLaidOut a.manifest r tables code entry id kind image → is_well_formed a ≡ true → weight_of a ≤ 2 ^ 26
    → (names : NameMap) → AreNamings image names → NamesBack (all_tokens r) names → Holds image names rule

-- ---- laws

-- no type, field, method, property or event stands twice (I15)
abbrev pub DistinctIsMet : Type 0
DistinctIsMet = IsMet distinct

-- the flags and the headers of methods (I17)
abbrev pub HeaderIsMet : Type 0
HeaderIsMet = IsMet header

-- attributes (I21)
abbrev pub AttributesAreMet : Type 0
AttributesAreMet = IsMet attributes

-- bases (I22)
abbrev pub BasesAreMet : Type 0
BasesAreMet = IsMet bases

-- accessors (I23)
abbrev pub AccessorsAreMet : Type 0
AccessorsAreMet = IsMet accessors
