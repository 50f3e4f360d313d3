-- The first row of each table that stands twice (I15).
use Rattle.std.specs.Prelude.{ℕ, List, Option}
use Rattle.body_codec.specs.Names.{NameMap}
use Rattle.image_model.specs.Columns.{field_name, method_name, event_name, property_name}
use Rattle.image_model.specs.Members.{AreDistinct, HaveOnePath}
use Rattle.image_model.specs.Namings.{AreNamings}
use Rattle.image_model.specs.ReadLaws.{OneNaming}
use Rattle.image_model.specs.Rows.{count_of, fields_of, methods_of, events_of, properties_of}
use Rattle.row_twins.specs.Twins.{IsFirstTwin}
use Rattle.distinct_members.specs.Alike.{MembersAlike}
use Rattle.distinct_members.specs.Signed.{ByNames, FieldsAlike, MethodsAlike, PropertiesAlike}
use Rattle.distinct_members.specs.declared.distinct.Twins.{Twins}

abbrev pub TypesTwice : List ℕ → Option ℕ → Type 0
TypesTwice image twin = IsFirstTwin (count_of image 0x02) (HaveOnePath image) twin

abbrev pub FieldsTwice : List ℕ → Option ℕ → Type 0
FieldsTwice image twin = IsFirstTwin (count_of image 0x04) (MembersAlike image (fields_of image) (field_name image) (FieldsAlike image)) twin

abbrev pub MethodsTwice : List ℕ → Option ℕ → Type 0
MethodsTwice image twin = IsFirstTwin (count_of image 0x06) (MembersAlike image (methods_of image) (method_name image) (MethodsAlike image)) twin

abbrev pub EventsTwice : List ℕ → Option ℕ → Type 0
EventsTwice image twin = IsFirstTwin (count_of image 0x14) (MembersAlike image (events_of image) (event_name image) (λ one other. Unit {0})) twin

abbrev pub PropertiesTwice : List ℕ → Option ℕ → Type 0
PropertiesTwice image twin = IsFirstTwin (count_of image 0x17) (MembersAlike image (properties_of image) (property_name image) (PropertiesAlike image)) twin

-- these are the rows, of an image that has names
pub record AreTwins (image : List ℕ) (twins : Twins) : Type 0 where
  pub named : (names : NameMap) × AreNamings image names
  pub one_naming : OneNaming
  pub types : TypesTwice image twins.types
  pub fields : FieldsTwice image twins.fields
  pub methods : MethodsTwice image twins.methods
  pub events : EventsTwice image twins.events
  pub properties : PropertiesTwice image twins.properties

-- a row meets the demand, by what the tokens of the image name
abbrev pub AreDistinctByNames : List ℕ → (table row : ℕ) → Type 0
AreDistinctByNames image table row = ByNames image (λ names. AreDistinct image names table row)
