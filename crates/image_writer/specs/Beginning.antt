-- What is declared before anything is referred to (ECMA-335 II.22.15, II.22.26, II.22.37).
use Rattle.std.specs.Prelude.{◌≡◌, ℕ, ◌+◌, ◌^◌, ◌≤◌, List, [], length, sum_by}
use Rattle.assembly_tree.specs.Room.{texts, room_of_texts}
use Rattle.assembly_tree.specs.declared.assembly.Assembly.{Assembly}
use Rattle.heaps.specs.Heap.{Heap}
use Rattle.image_tokens.specs.Loaded.{AreLoaded}
use Rattle.image_tokens.specs.References.{size, Widens, AreKnown}
use Rattle.image_tokens.specs.declared.references.References.{References}
use Rattle.image_rows.specs.CanFill.{CanFill}
use Rattle.image_members.specs.DeclaredMembers.{fields_bytes, methods_bytes}
use Rattle.image_members.specs.Declaring.{places, class_size, AreDeclared}
use Rattle.image_rows.specs.Filled.{HasDeclared}
use Rattle.image_members.specs.declared.classes.Class.{Class}
use Rattle.image_tables.specs.Filling.{CanStillFill}

-- how many bytes come into the heaps of texts and blobs at most: their empty entries, the names of types, and names and
-- signatures of fields and methods
unfoldable pub begun_bytes : Assembly → List Class → ℕ
begun_bytes a classes = 12 + sum_by class_size classes + (fields_bytes a classes + methods_bytes a classes)

-- the types have rows, and nothing else has; so many externs are named
pub record DeclaresTypes (classes : List Class) (externs : ℕ) (user : Heap) (r : References) : Type 0 where
  pub known : AreKnown r
  pub declared : AreDeclared r.heaps.strings r.declared.types (places classes)
  pub no_fields : r.declared.fields ≡ []
  pub no_methods : r.declared.methods ≡ []
  pub externs_are : r.declared.externs ≡ externs
  pub user_is : r.heaps.user ≡ user
  pub room : size r ≤ length user.bytes + (12 + sum_by class_size classes)

-- the types have rows, and nothing else has; the texts that the assembly loads stand in the heap of user strings
pub record HasBegun (a : Assembly) (classes : List Class) (r : References) : Type 0 where
  pub types : DeclaresTypes classes (length a.externs) r.heaps.user r
  pub loaded : AreLoaded r.heaps.user (texts a)
  pub short : length r.heaps.user.bytes ≤ 2 ^ 24

-- wherever its types are declared and these texts are loaded, all of the assembly can be written
abbrev pub CanDeclare : Assembly → List Class → Heap → Type 0
CanDeclare a classes user =
    (early late : References) → DeclaresTypes classes (length a.externs) user early → Widens early late → CanFill a classes late

-- types, fields and methods have rows
pub record DeclaresAll (a : Assembly) (classes : List Class) (r : References) : Type 0 where
  pub known : AreKnown r
  pub declared : HasDeclared a classes r
  pub can : CanStillFill a classes r
  pub externs_are : r.declared.externs ≡ length a.externs
  pub room : size r ≤ room_of_texts (texts a) + begun_bytes a classes
