-- The demands on bodies that a laid-out image meets (ECMA-335 II.25.4, III.1.9).
use Rattle.std.specs.Prelude.{ℕ, List}
use Rattle.assembly_tree.specs.declared.assembly.Assembly.{Assembly}
use Rattle.body_codec.specs.Back.{NamesBack}
use Rattle.body_codec.specs.Names.{NameMap}
use Rattle.pe_layout.specs.declared.parts.Kind.{Kind}
use Rattle.image_tokens.specs.declared.references.References.{References}
use Rattle.image_members.specs.CodeBytes.{all_tokens}
use Rattle.image_rows.specs.Filled.{IsFilled}
use Rattle.image_members.specs.Pushing.{Tables}
use Rattle.image_members.specs.declared.classes.Class.{Class}
use Rattle.image_layout.specs.LaidOut.{IsLaidOut}
use Rattle.image_model.specs.Bodies.{HasBody, HasKnownHeader}
use Rattle.image_model.specs.Faults.{Holds, instructions, clauses, tokens}
use Rattle.image_model.specs.Namings.{AreNamings}
use Rattle.image_model.specs.Rows.{HasRow}

-- Headers are known, but nothing is said of the flags in rows (I17). Instructions (I18), clauses (I19) and tokens (I20) are as
-- they must be.
pub record BodiesMeet (image : List ℕ) (names : NameMap) : Type 0 where
  pub headers : (method : ℕ) → HasRow image 0x06 method → HasBody image method → HasKnownHeader image method
  pub instructions_hold : Holds image names instructions
  pub clauses_hold : Holds image names clauses
  pub tokens_hold : Holds image names tokens

-- ---- the law

abbrev pub BodiesMeetDemands : Type 0
BodiesMeetDemands =
    (a : Assembly) (classes : List Class) (r : References) (tables : Tables) (code : List ℕ) (entry : ℕ) (id : List ℕ) (kind : Kind) (image : List ℕ)
    → IsFilled a classes r tables code → IsLaidOut a.manifest r tables code entry id kind image
    → (names : NameMap) → AreNamings image names → NamesBack (all_tokens r) names → BodiesMeet image names
