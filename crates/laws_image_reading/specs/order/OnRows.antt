-- The demands on rows, before any signature is looked at, that a laid-out image meets: the rows that must be there (I10), runs
-- (I11), order (I12), nesting and scopes (I13).
use Rattle.std.specs.Prelude.{◌≡◌, ℕ, true, List}
use Rattle.assembly_tree.specs.WellFormed.{is_well_formed}
use Rattle.assembly_tree.specs.declared.assembly.Assembly.{Assembly}
use Rattle.body_codec.specs.Names.{NameMap}
use Rattle.pe_layout.specs.declared.parts.Kind.{Kind}
use Rattle.image_tokens.specs.declared.references.References.{References}
use Rattle.image_rows.specs.Filled.{IsFilled}
use Rattle.image_members.specs.Pushing.{Tables}
use Rattle.image_members.specs.declared.classes.Class.{Class}
use Rattle.image_layout.specs.LaidOut.{IsLaidOut}
use Rattle.image_model.specs.Faults.{Holds, manifest, runs, order, scopes}
use Rattle.laws_image_reading.specs.order.ShortNames.{NamesAreShort}

-- module, assembly and `<Module>`
abbrev pub ManifestHolds : Type 0
ManifestHolds =
    (a : Assembly) (classes : List Class) (r : References) (tables : Tables) (code : List ℕ) (entry : ℕ) (id : List ℕ) (kind : Kind) (image : List ℕ)
    → IsFilled a classes r tables code → IsLaidOut a.manifest r tables code entry id kind image → (names : NameMap) → Holds image names manifest

-- runs rise, each row is in a run, and the numbers of a method's parameters rise
abbrev pub RunsHold : Type 0
RunsHold =
    (a : Assembly) (classes : List Class) (r : References) (tables : Tables) (code : List ℕ) (entry : ℕ) (id : List ℕ) (kind : Kind) (image : List ℕ)
    → IsFilled a classes r tables code → IsLaidOut a.manifest r tables code entry id kind image → is_well_formed a ≡ true → (names : NameMap) → Holds image names runs

-- tables are sorted
abbrev pub OrderHolds : Type 0
OrderHolds =
    (a : Assembly) (classes : List Class) (r : References) (tables : Tables) (code : List ℕ) (entry : ℕ) (id : List ℕ) (kind : Kind) (image : List ℕ)
    → IsFilled a classes r tables code → IsLaidOut a.manifest r tables code entry id kind image → (names : NameMap) → Holds image names order

-- what is referred to lies in an extern, and what is nested stands behind its encloser, neither too deep
abbrev pub ScopesHold : Type 0
ScopesHold =
    (a : Assembly) (classes : List Class) (r : References) (tables : Tables) (code : List ℕ) (entry : ℕ) (id : List ℕ) (kind : Kind) (image : List ℕ)
    → IsFilled a classes r tables code → IsLaidOut a.manifest r tables code entry id kind image → is_well_formed a ≡ true → NamesAreShort r
    → (names : NameMap) → Holds image names scopes
