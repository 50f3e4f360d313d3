-- The type that has an event or a property, and the accessors of these.
use Rattle.std.proofs.Common.{◌≡◌, ℕ, ◌+◌, ◌*◌, ◌<◌, ◌≤◌, inl, inr, List, [], Option, refl, sym, ◌∙◌, ap, subst, arith}
use Rattle.std.specs.Prelude.{◌↔◌, ◌==◌, find, All, Contains}
use Rattle.std.specs.List.{range_with_len}
use Rattle.std.specs.Option.{option_map_or}
use Rattle.std.proofs.lemmas.Bool.{cases_order, eqb-true, eqb-false}
use Rattle.std.proofs.lemmas.List.FromFn.{length-range_with_len, get_or-range_with_len}
use Rattle.metadata_tables.specs.CodedIndex.{tag_of}
use Rattle.metadata_tables.specs.declared.coded.Coded.TheVariants.{HasSemantics}
use Rattle.image_model.specs.Columns.{event_map_parent, property_map_parent, semantics_association, semantics_method}
use Rattle.image_model.specs.Members.{HasAccessors, HasOwnAccessors, semantics_of}
use Rattle.image_model.specs.Rows.{count_of, HasRow, rows_of, rows_with, index_of, events_in, properties_in, events_of, properties_of, methods_of}
use Rattle.image_model.specs.Structure.{IsFirstWith}
use Rattle.row_groups.proofs.Enclosing.{first_of_range}
use Rattle.member_demands.specs.Semantics.{AreAccessors, IsOwnedBy, AreMethodsOf}

-- ---- the members of a type, by the first row of a map that has it

abbrev members_by : (ℕ → ℕ) → ℕ → (ℕ → List ℕ) → ℕ → List ℕ
members_by parent count run type = option_map_or run (find (λ map. parent map == type) (range_with_len 1 count)) []

events_by : (image : List ℕ) (type : ℕ) → events_of image type ≡ members_by (event_map_parent image) (count_of image 0x12) (events_in image) type
unfolding events_of rows_of
events_by image type = refl

properties_by : (image : List ℕ) (type : ℕ) → properties_of image type ≡ members_by (property_map_parent image) (count_of image 0x15) (properties_in image) type
unfolding properties_of rows_of
properties_by image type = refl

empty_contains : (k : ℕ) → Contains [] k → ⊥
empty_contains k (i, less, e) = absurd (omega arith)

module _ (parent : ℕ → ℕ) (count : ℕ) (run : ℕ → List ℕ) where
  -- those of a row that is the first with its type
  first_members : (map : ℕ) → 0 < map → map ≤ count → ((q : ℕ) → 0 < q → q < map → parent q ≡ parent map → ⊥) → members_by parent count run (parent map) ≡ run map
  first_members map some within first = elim (first_of_range (λ q. parent q == parent map) 1 count) [
    | inl none ↦ absurd (eqb-false (parent map) (parent map) (none.1 map some (omega arith)) refl)
    | inr found ↦
        let same : found.0 ≡ map = elim (cases_order found.0 map) [
          | inl e ↦ e
          | inr apart ↦ elim apart [
            | inl less ↦ absurd (first found.0 (let f = found.2 in omega arith) less (eqb-true (parent found.0) (parent map) found.4))
            | inr more ↦ absurd (eqb-false (parent map) (parent map) (found.5 map some more) refl)
          ]
        ] in
        ap (λ (o : Option ℕ). option_map_or run o []) found.1 ∙ ap run same
  ]

  -- a member of a type lies in the run of a row with this type
  members_back : (type member : ℕ) → Contains (members_by parent count run type) member → (map : ℕ) × (0 < map) × (map ≤ count) × (parent map ≡ type) × Contains (run map) member
  members_back type member has = elim (first_of_range (λ q. parent q == type) 1 count) [
    | inl none ↦ absurd (empty_contains member (subst (λ ms. Contains ms member) (ap (λ (o : Option ℕ). option_map_or run o []) none.0) has))
    | inr found ↦ (
      found.0,
      let f = found.2 in omega arith,
      let f = found.3 in omega arith,
      eqb-true (parent found.0) type found.4,
      subst (λ ms. Contains ms member) (ap (λ (o : Option ℕ). option_map_or run o []) found.1) has,
    )
  ]

-- the type of the row that has a member
owned : (image : List ℕ) (table : ℕ) (parent : ℕ → ℕ) (run : ℕ → List ℕ) (members : ℕ → List ℕ) → ((type : ℕ) → members type ≡ members_by parent (count_of image table) run type)
    → (map member : ℕ) → HasRow image table map → HasRow image 0x02 (parent map) → IsFirstWith parent map → Contains (run map) member
    → ((other : ℕ) → HasRow image table other → Contains (run other) member → other ≡ map) → IsOwnedBy image members member (parent map)
owned image table parent run members are map member there type_there first has only = record {
  there = type_there;
  has = subst (λ ms. Contains ms member) (sym (are (parent map) ∙ first_members parent (count_of image table) run map there.0 there.1 (λ q some less e. first q some less e))) has;
  only = λ other other_there other_has.
      let (q, some, within, is, here) = members_back parent (count_of image table) run other member (subst (λ ms. Contains ms member) (are other) other_has) in
      sym is ∙ ap parent (only q (some, within) here);
}

pub event_owned : (image : List ℕ) (map event : ℕ) → HasRow image 0x12 map → HasRow image 0x02 (event_map_parent image map) → IsFirstWith (event_map_parent image) map
    → Contains (events_in image map) event → ((other : ℕ) → HasRow image 0x12 other → Contains (events_in image other) event → other ≡ map)
    → IsOwnedBy image (events_of image) event (event_map_parent image map)
event_owned image map event there type_there first has only =
    owned image 0x12 (event_map_parent image) (events_in image) (events_of image) (events_by image) map event there type_there first has only

pub property_owned : (image : List ℕ) (map property : ℕ) → HasRow image 0x15 map → HasRow image 0x02 (property_map_parent image map) → IsFirstWith (property_map_parent image) map
    → Contains (properties_in image map) property → ((other : ℕ) → HasRow image 0x15 other → Contains (properties_in image other) property → other ≡ map)
    → IsOwnedBy image (properties_of image) property (property_map_parent image map)
property_owned image map property there type_there first has only =
    owned image 0x15 (property_map_parent image) (properties_in image) (properties_of image) (properties_by image) map property there type_there first has only

-- ---- accessors

pub event_index : (row : ℕ) → index_of HasSemantics 0x14 row ≡ row * 2
unfolding tag_of
event_index row = omega arith

pub property_index : (row : ℕ) → index_of HasSemantics 0x17 row ≡ row * 2 + 1
unfolding tag_of
property_index row = refl

abbrev rows_with_index : List ℕ → ℕ → List ℕ
rows_with_index image index = rows_with image 0x18 semantics_association index

abbrev AreIn : List ℕ → (ℕ → List ℕ) → ℕ → ℕ → Type 0
AreIn image members row k = (type : ℕ) × HasRow image 0x02 type × Contains (members type) row × Contains (methods_of image type) (semantics_method image k)

all_in_range : (P : ℕ → Type 0) (first count : ℕ) → All P (range_with_len first count) ↔ ((k : ℕ) → k < count → P (first + k))
all_in_range P first count =
    let l = length-range_with_len first count in (
      λ all k less. subst P (get_or-range_with_len first count k 0 less) (all k 0 (omega arith)),
      λ each k d less. subst P (sym (get_or-range_with_len first count k d (omega arith))) (each k (omega arith)),
    )

pub accessors_told : (image : List ℕ) (members : ℕ → List ℕ) (table row index first count type : ℕ) → index_of HasSemantics table row ≡ index
    → AreAccessors image index first count → IsOwnedBy image members row type → AreMethodsOf image first count type ↔ HasAccessors image members table row
accessors_told image members table row index first count type e are owns =
    let rows : semantics_of image table row ≡ range_with_len first count = ap (rows_with_index image) e ∙ are.rows in
    let r = all_in_range (AreIn image members row) first count in (
      λ each. subst (All (AreIn image members row)) (sym rows) (r.1 (λ k less. (type, owns.there, owns.has, each k less))),
      λ all k less.
          let (other, there, has, method) = r.0 (subst (All (AreIn image members row)) rows all) k less in
          subst (λ t. Contains (methods_of image t) (semantics_method image (first + k))) (owns.only other there has) method,
    )

pub no_accessors : (image : List ℕ) (members : ℕ → List ℕ) (table row index first count : ℕ) → index_of HasSemantics table row ≡ index → AreAccessors image index first count → count ≡ 0
    → HasAccessors image members table row
no_accessors image members table row index first count e are none =
    let rows : semantics_of image table row ≡ range_with_len first count = ap (rows_with_index image) e ∙ are.rows in
    subst (All (AreIn image members row)) (sym rows) ((all_in_range (AreIn image members row) first count).1 (λ k less. absurd (omega arith)))

pub accessors_of_events : (image : List ℕ) (row : ℕ) → HasRow image 0x14 row → HasAccessors image (events_of image) 0x14 row ↔ HasOwnAccessors image 0x14 row
accessors_of_events image row there = (
  λ h. record { event = λ e t. h; property = λ e t. absurd (omega arith) },
  λ o. o.event refl there,
)

pub accessors_of_properties : (image : List ℕ) (row : ℕ) → HasRow image 0x17 row → HasAccessors image (properties_of image) 0x17 row ↔ HasOwnAccessors image 0x17 row
accessors_of_properties image row there = (
  λ h. record { event = λ e t. absurd (omega arith); property = λ e t. h },
  λ o. o.property refl there,
)

pub accessors_of_others : (image : List ℕ) (table row : ℕ) → (table ≡ 0x14 → ⊥) → (table ≡ 0x17 → ⊥) → HasOwnAccessors image table row
accessors_of_others image table row a b = record { event = λ e t. absurd (a e); property = λ e t. absurd (b e) }

pub accessors_of_none : (image : List ℕ) (table row : ℕ) → (HasRow image table row → ⊥) → HasOwnAccessors image table row
accessors_of_none image table row none =
    record {
      event = λ e t. absurd (none (subst (λ z. HasRow image z row) (sym e) t));
      property = λ e t. absurd (none (subst (λ z. HasRow image z row) (sym e) t));
    }
