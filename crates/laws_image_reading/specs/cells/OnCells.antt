-- The demands on cells that a laid-out image meets (ECMA-335 II.22, II.24.2).
use Rattle.std.specs.Prelude.{◌≡◌, ℕ, true, List, length}
use Rattle.assembly_tree.specs.WellFormed.{is_well_formed}
use Rattle.assembly_tree.specs.declared.assembly.Assembly.{Assembly}
use Rattle.body_codec.specs.Names.{NameMap}
use Rattle.pe_layout.specs.declared.parts.Kind.{Kind}
use Rattle.image_tokens.specs.declared.references.References.{References}
use Rattle.image_rows.specs.Filled.{IsFilled, entry_token}
use Rattle.image_members.specs.Pushing.{Tables}
use Rattle.image_members.specs.declared.classes.Class.{Class}
use Rattle.laws_image_indexes.specs.Laws.{AccessorsAreMethods}
use Rattle.image_layout.specs.LaidOut.{IsLaidOut}
use Rattle.image_model.specs.Faults.{Holds, indexes, entries}
use Rattle.laws_image_reading.specs.cells.NamedRows.{HasNamedRows}

-- I8: indexes name rows that are there, where as many externs are declared as there are and the methods of accessors have rows
abbrev pub IndexesHold : Type 0
IndexesHold =
    (a : Assembly) (classes : List Class) (r : References) (tables : Tables) (code id : List ℕ) (kind : Kind) (image : List ℕ)
    → IsFilled a classes r tables code → IsLaidOut a.manifest r tables code (entry_token a classes) id kind image
    → is_well_formed a ≡ true → AccessorsAreMethods a classes → r.declared.externs ≡ length a.externs
    → (names : NameMap) → Holds image names indexes

-- I9: indexes of heaps lead to entries, where the rows of references have names
abbrev pub EntriesHold : Type 0
EntriesHold =
    (a : Assembly) (classes : List Class) (r : References) (tables : Tables) (code : List ℕ) (entry : ℕ) (id : List ℕ) (kind : Kind)
    (image : List ℕ) → IsFilled a classes r tables code → IsLaidOut a.manifest r tables code entry id kind image
    → is_well_formed a ≡ true → HasNamedRows r → (names : NameMap) → Holds image names entries
