-- What is asked before any row is looked at, of a laid-out image (ECMA-335 II.24.2, II.25.3.3).
use Rattle.std.specs.Prelude.{◌≡◌, ℕ, true, List}
use Rattle.assembly_tree.specs.WellFormed.{is_well_formed}
use Rattle.assembly_tree.specs.declared.assembly.Assembly.{Assembly}
use Rattle.pe_layout.specs.declared.parts.Kind.{Kind}
use Rattle.image_tokens.specs.declared.references.References.{References}
use Rattle.image_rows.specs.Filled.{IsFilled, entry_token}
use Rattle.image_members.specs.Pushing.{Tables}
use Rattle.image_members.specs.declared.classes.Class.{Class}
use Rattle.image_layout.specs.LaidOut.{IsLaidOut}
use Rattle.image_model.specs.Faults.{HasTables}

-- the demands I1 to I7 hold
abbrev pub TablesOpen : Type 0
TablesOpen =
    (a : Assembly) (classes : List Class) (r : References) (tables : Tables) (code id : List ℕ) (kind : Kind) (image : List ℕ)
    → IsFilled a classes r tables code → IsLaidOut a.manifest r tables code (entry_token a classes) id kind image
    → is_well_formed a ≡ true → HasTables image
