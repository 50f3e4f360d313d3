-- A row meets the demand exactly where it isn't the first that stands twice.
use Rattle.std.proofs.Common.{◌≡◌, ℕ, ◌<◌, ◌≤◌, ◌⊎◌, inl, inr, Bool, List, Option, Some, None, refl, sym, ap, subst, ◌∙◌, arith}
use Rattle.std.specs.Prelude.{◌↔◌, IsTrue}
use Rattle.std.proofs.lemmas.Bool.{cases_order}
use Rattle.std.proofs.lemmas.Option.{same_Some}
use Rattle.body_codec.specs.Names.{NameMap}
use Rattle.metadata_tables.specs.Faults.{IsEarlier}
use Rattle.image_model.specs.Columns.{field_name, method_name, event_name, property_name}
use Rattle.image_model.specs.Members.{AreDistinct, HaveOnePath, AreOfOneType, HaveOneName, HaveOne}
use Rattle.image_model.specs.Namings.{AreNamings}
use Rattle.image_model.specs.ReadLaws.{OneNaming}
use Rattle.image_model.specs.Rows.{count_of, HasRow, fields_of, methods_of, events_of, properties_of}
use Rattle.image_model.specs.Terms.{FieldHas, MethodHas, PropertyHas}
use Rattle.row_twins.specs.Twins.{IsWithin, HasTwin, IsFirstTwin}
use Rattle.distinct_members.specs.Alike.{MembersAlike}
use Rattle.distinct_members.specs.Signed.{ByNames, FieldsAlike, MethodsAlike, PropertiesAlike}
use Rattle.distinct_members.specs.Twice.{AreTwins, AreDistinctByNames}
use Rattle.distinct_members.specs.declared.distinct.Twins.{Twins}

-- a row is the twin that was found exactly where it has one, if no row before it has
decided : (count : ℕ) (alike : ℕ → ℕ → Type 0) (twin : Option ℕ) (row : ℕ) → IsFirstTwin count alike twin → ((r : ℕ) → 0 < r → r < row → HasTwin alike r → ⊥)
    → (twin ≡ Some row → ⊥) ↔ (IsWithin count row → HasTwin alike row → ⊥)
decided count alike None row first before = (λ h w t. first row w t, λ h e. absurd cc)
decided count alike (Some twin) row first before = (
  λ h w t. elim (cases_order row twin) [
    | inl e ↦ h (ap (λ (n : ℕ). Some n) (sym e))
    | inr apart ↦ elim apart [ inl less ↦ first.2 row w.0 less t | inr more ↦ before twin first.0.0 more first.1 ]
  ],
  λ h e.
      let same : twin ≡ row = same_Some twin row e in
      h (subst (IsWithin count) same first.0) (subst (HasTwin alike) same first.1),
)

-- what holds by some names of an image holds by all
by_one : (image : List ℕ) (Holds : NameMap → Type 0) → OneNaming → (names : NameMap) → AreNamings image names → Holds names → ByNames image Holds
by_one image Holds one names named h others told = subst Holds (one image names others named told) h

module _ (image : List ℕ) (one : OneNaming) (named : (names : NameMap) × AreNamings image names) where
  -- of a table whose rows are asked by something of names
  abbrev Apart : (ℕ → ℕ → Type 0) → ℕ → Type 0
  Apart alike row = HasTwin alike row → ⊥

  types_apart : (row : ℕ) → (IsWithin (count_of image 0x02) row → Apart (HaveOnePath image) row) ↔ AreDistinctByNames image 0x02 row
  types_apart row = (
    λ h names told. record {
      type = λ e there earlier some less same. h there (earlier, some, less, same);
      field = λ e. absurd (omega arith);
      method = λ e. absurd (omega arith);
      event = λ e. absurd (omega arith);
      property = λ e. absurd (omega arith);
    },
    λ d w t. (d named.0 named.1).type refl w t.0 t.1 t.2 t.3,
  )

  fields_apart : (row : ℕ) → (IsWithin (count_of image 0x04) row → Apart (MembersAlike image (fields_of image) (field_name image) (FieldsAlike image)) row) ↔ AreDistinctByNames image 0x04 row
  fields_apart row = (
    λ h names told. record {
      type = λ e. absurd (omega arith);
      field = λ e there earlier some less same.
          h there (earlier, some, less, (same.0, same.1, by_one image (λ n. HaveOne (FieldHas image n) earlier row) one names told same.2));
      method = λ e. absurd (omega arith);
      event = λ e. absurd (omega arith);
      property = λ e. absurd (omega arith);
    },
    λ d w t. (d named.0 named.1).field refl w t.0 t.1 t.2 (t.3.0, t.3.1, t.3.2 named.0 named.1),
  )

  methods_apart : (row : ℕ) → (IsWithin (count_of image 0x06) row → Apart (MembersAlike image (methods_of image) (method_name image) (MethodsAlike image)) row) ↔ AreDistinctByNames image 0x06 row
  methods_apart row = (
    λ h names told. record {
      type = λ e. absurd (omega arith);
      field = λ e. absurd (omega arith);
      method = λ e there earlier some less same.
          h there (earlier, some, less, (same.0, same.1, by_one image (λ n. HaveOne (MethodHas image n) earlier row) one names told same.2));
      event = λ e. absurd (omega arith);
      property = λ e. absurd (omega arith);
    },
    λ d w t. (d named.0 named.1).method refl w t.0 t.1 t.2 (t.3.0, t.3.1, t.3.2 named.0 named.1),
  )

  events_apart : (row : ℕ) → (IsWithin (count_of image 0x14) row → Apart (MembersAlike image (events_of image) (event_name image) (λ one other. Unit {0})) row) ↔ AreDistinctByNames image 0x14 row
  events_apart row = (
    λ h names told. record {
      type = λ e. absurd (omega arith);
      field = λ e. absurd (omega arith);
      method = λ e. absurd (omega arith);
      event = λ e there earlier some less same. h there (earlier, some, less, (same.0, same.1, tt));
      property = λ e. absurd (omega arith);
    },
    λ d w t. (d named.0 named.1).event refl w t.0 t.1 t.2 (t.3.0, t.3.1),
  )

  properties_apart : (row : ℕ) → (IsWithin (count_of image 0x17) row → Apart (MembersAlike image (properties_of image) (property_name image) (PropertiesAlike image)) row) ↔ AreDistinctByNames image 0x17 row
  properties_apart row = (
    λ h names told. record {
      type = λ e. absurd (omega arith);
      field = λ e. absurd (omega arith);
      method = λ e. absurd (omega arith);
      event = λ e. absurd (omega arith);
      property = λ e there earlier some less same.
          h there (earlier, some, less, (same.0, same.1, by_one image (λ n. HaveOne (PropertyHas image n) earlier row) one names told same.2));
    },
    λ d w t. (d named.0 named.1).property refl w t.0 t.1 t.2 (t.3.0, t.3.1, t.3.2 named.0 named.1),
  )

-- by the rows that were found
by_twin : (count : ℕ) (alike : ℕ → ℕ → Type 0) (Meets : ℕ → Type 0) (twin : Option ℕ) (row : ℕ) (r : Bool) → ((q : ℕ) → (IsWithin count q → HasTwin alike q → ⊥) ↔ Meets q) → IsFirstTwin count alike twin
    → row ≤ count → ((q : ℕ) → q < row → Meets q) → IsTrue r ↔ (twin ≡ Some row → ⊥) → IsTrue r ↔ Meets row
by_twin count alike Meets twin row r means first within before is =
    let d = decided count alike twin row first (λ q some less t. (means q).1 (before q less) (some, omega arith) t) in
    (λ t. (means row).0 (d.0 (is.0 t)), λ m. is.1 (d.1 ((means row).1 m)))

module _ (image : List ℕ) (twins : Twins) (are : AreTwins image twins) (row : ℕ) (r : Bool) where
  pub by_types : row ≤ count_of image 0x02 → ((q : ℕ) → q < row → AreDistinctByNames image 0x02 q) → IsTrue r ↔ (twins.types ≡ Some row → ⊥) → IsTrue r ↔ AreDistinctByNames image 0x02 row
  by_types within before is =
      by_twin (count_of image 0x02) (HaveOnePath image) (AreDistinctByNames image 0x02) twins.types row r (types_apart image are.one_naming are.named) are.types within before is

  pub by_fields : row ≤ count_of image 0x04 → ((q : ℕ) → q < row → AreDistinctByNames image 0x04 q) → IsTrue r ↔ (twins.fields ≡ Some row → ⊥) → IsTrue r ↔ AreDistinctByNames image 0x04 row
  by_fields within before is =
      by_twin (count_of image 0x04) (MembersAlike image (fields_of image) (field_name image) (FieldsAlike image)) (AreDistinctByNames image 0x04) twins.fields row r (fields_apart image are.one_naming are.named) are.fields within before is

  pub by_methods : row ≤ count_of image 0x06 → ((q : ℕ) → q < row → AreDistinctByNames image 0x06 q) → IsTrue r ↔ (twins.methods ≡ Some row → ⊥) → IsTrue r ↔ AreDistinctByNames image 0x06 row
  by_methods within before is =
      by_twin (count_of image 0x06) (MembersAlike image (methods_of image) (method_name image) (MethodsAlike image)) (AreDistinctByNames image 0x06) twins.methods row r (methods_apart image are.one_naming are.named) are.methods within before is

  pub by_events : row ≤ count_of image 0x14 → ((q : ℕ) → q < row → AreDistinctByNames image 0x14 q) → IsTrue r ↔ (twins.events ≡ Some row → ⊥) → IsTrue r ↔ AreDistinctByNames image 0x14 row
  by_events within before is =
      by_twin (count_of image 0x14) (MembersAlike image (events_of image) (event_name image) (λ one other. Unit {0})) (AreDistinctByNames image 0x14) twins.events row r (events_apart image are.one_naming are.named) are.events within before is

  pub by_properties : row ≤ count_of image 0x17 → ((q : ℕ) → q < row → AreDistinctByNames image 0x17 q) → IsTrue r ↔ (twins.properties ≡ Some row → ⊥) → IsTrue r ↔ AreDistinctByNames image 0x17 row
  by_properties within before is =
      by_twin (count_of image 0x17) (MembersAlike image (properties_of image) (property_name image) (PropertiesAlike image)) (AreDistinctByNames image 0x17) twins.properties row r (properties_apart image are.one_naming are.named) are.properties within before is

pub others_distinct : (image : List ℕ) (table row : ℕ) → (table ≡ 0x02 → ⊥) → (table ≡ 0x04 → ⊥) → (table ≡ 0x06 → ⊥) → (table ≡ 0x14 → ⊥) → (table ≡ 0x17 → ⊥) → AreDistinctByNames image table row
others_distinct image table row a b c d e = λ names told. record {
  type = λ t. absurd (a t);
  field = λ t. absurd (b t);
  method = λ t. absurd (c t);
  event = λ t. absurd (d t);
  property = λ t. absurd (e t);
}

pub none_distinct : (image : List ℕ) (table row : ℕ) → (HasRow image table row → ⊥) → AreDistinctByNames image table row
none_distinct image table row none = λ names told. record {
  type = λ e t. absurd (none (subst (λ (z : ℕ). HasRow image z row) (sym e) t));
  field = λ e t. absurd (none (subst (λ (z : ℕ). HasRow image z row) (sym e) t));
  method = λ e t. absurd (none (subst (λ (z : ℕ). HasRow image z row) (sym e) t));
  event = λ e t. absurd (none (subst (λ (z : ℕ). HasRow image z row) (sym e) t));
  property = λ e t. absurd (none (subst (λ (z : ℕ). HasRow image z row) (sym e) t));
}

-- the same by an equal image and an equal table
module _ (image now : List ℕ) (e : image ≡ now) (table n row : ℕ) (t : table ≡ n) (r : Bool) where
  pub within_moved : row ≤ count_of now table → row ≤ count_of image n
  within_moved h = subst (λ (i : List ℕ). row ≤ count_of i n) (sym e) (subst (λ (k : ℕ). row ≤ count_of now k) t h)

  pub before_moved : ((k q : ℕ) → IsEarlier k q table row → AreDistinctByNames now k q) → (q : ℕ) → q < row → AreDistinctByNames image n q
  before_moved h q less = subst (λ (i : List ℕ). AreDistinctByNames i n q) (sym e) (h n q (inr (sym t, less)))

  pub meets_moved : IsTrue r ↔ AreDistinctByNames image n row → IsTrue r ↔ AreDistinctByNames now table row
  meets_moved h = subst (λ (i : List ℕ). IsTrue r ↔ AreDistinctByNames i table row) e (subst (λ (k : ℕ). IsTrue r ↔ AreDistinctByNames image k row) (sym t) h)
