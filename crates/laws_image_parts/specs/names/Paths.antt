-- Each type that an image defines or refers to has a path (ECMA-335 II.22.32, II.22.37, II.22.38).
use Rattle.std.specs.Prelude.{◌≡◌, ℕ, List}
use Rattle.type_terms.specs.declared.name.Scope.{Scope}
use Rattle.type_terms.specs.declared.name.Scope.TheVariants.{Extern}
use Rattle.type_terms.specs.declared.name.TypeId.{TypeId}
use Rattle.assembly_tree.specs.declared.assembly.Assembly.{Assembly}
use Rattle.image_tokens.specs.declared.references.References.{References}
use Rattle.image_members.specs.Declaring.{Place, places}
use Rattle.image_members.specs.Pushing.{Tables}
use Rattle.image_members.specs.declared.classes.Class.{Class}
use Rattle.image_model.specs.Naming.{HasId, HasPath, HasRefPath}
use Rattle.image_model.specs.Rows.{HasRow, enclosing}
use Rattle.laws_image_parts.specs.AtRows.{AtEach}
use Rattle.laws_image_parts.specs.names.Written.{IsWritten}

-- a row of TypeDef is that of a declared place: its encloser, its space and its name
pub record HasPlace (image : List ℕ) (row : ℕ) (p : Place) : Type 0 where
  pub encloser : enclosing image row ≡ p.encloser
  pub id : HasId image row p.id

-- each row of TypeDef has a path
abbrev pub TypesHavePaths : List ℕ → Type 0
TypesHavePaths image = (row : ℕ) → HasRow image 0x02 row → (path : List TypeId) × HasPath image row path

-- each row of TypeRef has a path in an extern
abbrev pub ReferencesHavePaths : List ℕ → Type 0
ReferencesHavePaths image = (row : ℕ) → HasRow image 0x01 row → (number : ℕ) × (path : List TypeId) × HasRefPath image row (Extern number) path

-- ---- the law

pub record PathsRead (classes : List Class) (r : References) (image : List ℕ) : Type 0 where
  pub places_are : AtEach (HasPlace image) 1 (places classes)
  pub types : TypesHavePaths image
  pub references : ReferencesHavePaths image
  pub one_path : (row : ℕ) (path other : List TypeId) → HasPath image row path → HasPath image row other → path ≡ other
  pub one_reference : (row : ℕ) (scope other : Scope) (path way : List TypeId) → HasRefPath image row scope path → HasRefPath image row other way → (scope ≡ other) × (path ≡ way)

abbrev pub PathsAreRead : Type 0
PathsAreRead =
    (a : Assembly) (classes : List Class) (r : References) (tables : Tables) (code image : List ℕ) → IsWritten a classes r tables code image → PathsRead classes r image
