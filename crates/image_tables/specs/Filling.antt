-- What it takes to add the rows of one part of the tables after another, and what is there then (ECMA-335 II.22).
use Rattle.std.specs.Prelude.{◌≡◌, ℕ, ◌+◌, ◌^◌, ◌≤◌, List, ◌++◌, length, map, sum_by}
use Rattle.assembly_tree.specs.declared.assembly.Assembly.{Assembly}
use Rattle.image_tokens.specs.References.{size, Grows, AreKnown}
use Rattle.image_tokens.specs.declared.references.References.{References}
use Rattle.image_rows.specs.CanFill.{CanFill}
use Rattle.image_members.specs.Classes.{AreClasses}
use Rattle.image_members.specs.CodeBytes.{body_of, stated_weight}
use Rattle.image_rows.specs.EventRows.{event_bytes}
use Rattle.image_rows.specs.Filled.{HasDeclared, HoldsManifest, HoldsTypes, HoldsFields, HoldsMethods, HoldsProperties, HoldsOwned}
use Rattle.image_rows.specs.InterfaceRows.{interfaces_from, interface_bytes}
use Rattle.image_members.specs.Lists.{params_in, properties_in, events_in}
use Rattle.image_rows.specs.ParamRows.{param_bytes}
use Rattle.image_members.specs.Places.{all_methods}
use Rattle.image_rows.specs.PropertyRows.{property_bytes}
use Rattle.image_members.specs.Pushing.{Tables}
use Rattle.image_rows.specs.TypeRows.{base_of, base_weight}
use Rattle.image_members.specs.declared.classes.Class.{Class}
use Rattle.image_tables.specs.Parts.{KeepsOtherParts, LacksFrom}
use Rattle.laws_tree_weights.specs.ImageBytes.{overrides_weight, manifest_bytes, owned_bytes}
use Rattle.laws_tree_weights.specs.Laws.{HasFewRows}

-- ---- how many bytes parts bring into heaps and rows of references at most

unfoldable pub method_part : Assembly → List Class → ℕ
method_part a classes =
    sum_by stated_weight (map body_of (all_methods a classes)) + sum_by param_bytes (params_in a classes) + overrides_weight (all_methods a classes)

unfoldable pub type_part : List Class → ℕ
type_part classes = sum_by (λ c. base_weight (base_of c)) classes + sum_by interface_bytes (interfaces_from 2 classes)

unfoldable pub property_part : List Class → ℕ
property_part classes = sum_by property_bytes (properties_in classes) + sum_by event_bytes (events_in classes)

-- all parts
unfoldable pub filled_bytes : Assembly → List Class → ℕ
filled_bytes a classes = manifest_bytes a + method_part a classes + type_part classes + property_part classes + owned_bytes a classes

-- ---- steps

-- whatever comes besides, all of the assembly can be written
abbrev pub CanStillFill : Assembly → List Class → References → Type 0
CanStillFill a classes r = (later : References) → Grows r later → CanFill a classes later

-- The rows of this part can be added: no table of it or of a later part has rows yet, and there is room for so many bytes.
pub record IsReady (part bytes : ℕ) (a : Assembly) (classes : List Class) (r : References) (tables : Tables) : Type 0 where
  pub known : AreKnown r
  pub declared : HasDeclared a classes r
  pub can : CanStillFill a classes r
  pub few : HasFewRows a classes
  pub lacks : LacksFrom part tables
  pub room : size r + bytes ≤ 2 ^ 26

-- the rows of a part have been added, and so many bytes came at most
pub record Fills (part bytes : ℕ) (Holds : References → Tables → Type 0) (old new : References) (from to : Tables) : Type 0 where
  pub grows : Grows old new
  pub known : AreKnown new
  pub room : size new ≤ size old + bytes
  pub holds : Holds new to
  pub others : KeepsOtherParts part from to

-- the code has been made longer, by so many bytes at most
pub record Lengthens (bytes : ℕ) (from to : List ℕ) : Type 0 where
  pub more : List ℕ
  pub is : to ≡ from ++ more
  pub long : length to ≤ length from + bytes

-- ---- the whole

-- all rows but those of references, and the code
pub record IsFull (a : Assembly) (classes : List Class) (r : References) (tables : Tables) (code : List ℕ) : Type 0 where
  pub known : AreKnown r
  pub declared : HasDeclared a classes r
  pub few : HasFewRows a classes
  pub manifest : HoldsManifest a r tables
  pub types : HoldsTypes a classes r tables
  pub fields : HoldsFields a classes r tables code
  pub methods : HoldsMethods a classes r tables code
  pub properties : HoldsProperties a classes r tables
  pub owned : HoldsOwned a classes r tables
  pub lacks : LacksFrom 6 tables
