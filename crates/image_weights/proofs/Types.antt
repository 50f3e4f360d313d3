-- A type's row weighs what the type does without those that it nests; and the trees of types weigh what all rows do (II.22.37).
use Rattle.std.proofs.Common.{◌≡◌, ◌≢◌, ℕ, zero, suc, ◌+◌, ◌*◌, ◌<◌, ◌≤◌, inl, inr, Bool, true, cond, List, [], Option, Some, None, refl, sym, ◌∙◌, ap, subst, arith}
use Rattle.std.specs.Prelude.{sum_by}
use Rattle.std.proofs.lemmas.Bool.{eq-eqb, ne_eqb}
use Rattle.std.proofs.lemmas.List.Sums.{sum_by-cons}
use Rattle.heaps.specs.LookUp.{BlobIsComputed}
use Rattle.metadata_tables.specs.Schema.{schema}
use Rattle.type_terms.specs.declared.term.Owner.{Owner}
use Rattle.assembly_tree.specs.Weight.{optional, owner_weight, bounds_weight, field_weight, method_weight, property_weight, event_weight, own_weight, typedef_weight}
use Rattle.assembly_tree.specs.declared.typedef.TypeDef.{TypeDef}
use Rattle.assembly_tree.specs.declared.typedef.TypeDef.TheOpen.{TypeDef-F}
use Rattle.assembly_tree.specs.declared.typedef.TypeDef.TheViews.{out-TypeDef}
use Rattle.assembly_tree.proofs.TypeWeights.{typedef_weight_out}
use Rattle.body_codec.specs.Names.{NameMap}
use Rattle.image_model.specs.Columns.{type_name, type_space, type_extends, enclosing_class, interface_class}
use Rattle.image_model.specs.Members.{layouts_of}
use Rattle.image_model.specs.Namings.{AreNamings}
use Rattle.image_model.specs.Reading.{IsLayout, IsField, IsMethod, IsProperty, IsEvent, ExtendsIs, AreInterfaces, IsTypeButNested, IsType, AreTypes}
use Rattle.image_model.specs.Rows.{count_of, HasRow, rows_with, fields_of, methods_of, properties_of, events_of, enclosing, types_in}
use Rattle.image_model.specs.Structure.{HasScopes}
use Rattle.row_groups.proofs.Enclosing.{enclosed}
use Rattle.row_parts.proofs.Indexes as index
use Rattle.row_parts.proofs.OwnedRows.{Among, among_owned}
use Rattle.told_weights.specs.Told.{Told, TellWeights}
use Rattle.image_weights.specs.RowWeights.{owner, base, interface_row, field_row, method_row, property_row, event_row, type_row, type_rows}
use Rattle.image_weights.specs.Standing.{Stands}
use Rattle.image_weights.proofs.Alike.{Alike, plus, alike, exactly, as_weight, as_told}
use Rattle.image_weights.proofs.Forests.{tree_weight, in_under, tops_weigh}
use Rattle.image_weights.proofs.Parts.{SizesAre, text_is, owner_told, given_weighs, generics_weigh, attributes_weigh, field_weighs, method_weighs, property_weighs, event_weighs}
use Rattle.image_weights.proofs.Sums.{zip_sums, contained}

module _ (image : List ℕ) (names : NameMap) (told : Told) (namings : AreNamings image names) (tell : TellWeights image told) (computed : BlobIsComputed)
    (stands : Stands image) (sizes : List ℕ) (sizes_are : SizesAre image names told namings tell computed sizes) (fresh : List Bool)
    (interfaces : (type : ℕ) (os : List Owner) → AreInterfaces image names type os → Alike (sum_by (interface_row image told fresh) (rows_with image 0x09 interface_class type)) (bounds_weight os)) where
  base_weighs : (row : ℕ) (o : Option Owner) → HasRow image 0x02 row → ExtendsIs image names (type_extends image row) o → Alike (base told (type_extends image row)) (optional owner_weight o)
  unfolding schema
  base_weighs row None there h = alike (ap (λ (b : Bool). cond b 0 (owner told (type_extends image row))) (eq-eqb (type_extends image row) 0 h))
  base_weighs row (Some o) there h =
      as_told (ap (λ (b : Bool). cond b 0 (owner told (type_extends image row))) (ne_eqb (type_extends image row) 0 h.0))
      (owner_told image names told namings tell computed 0x02 row 3 true refl there (omega arith) refl o h.1)

  pub own_weighs : (row : ℕ) (t : TypeDef-F TypeDef) → HasRow image 0x02 row → IsTypeButNested image names row t → Alike (type_row image told sizes fresh row) (own_weight t)
  unfolding type_row own_weight
  own_weighs row t there h =
      plus (plus (plus (plus (plus (plus (plus (plus (plus (plus (plus (exactly 64)
      (alike (text_is image names told namings tell computed (type_space image row) t.id.space h.id.space)))
      (alike (text_is image names told namings tell computed (type_name image row) t.id.name h.id.name)))
      (given_weighs (IsLayout image) (λ k. 64) (λ l. 64) (layouts_of image row) t.layout h.layout (λ r x m is. exactly 64)))
      (generics_weigh image names told namings tell computed 0x02 row (row * 2) t.generics (index.type_generics row) h.generics))
      (base_weighs row t.extends there h.extends))
      (interfaces row t.implements h.implements))
      (zip_sums (IsField image names) (field_row image told sizes) field_weight (fields_of image row) t.fields h.fields
      (λ r f m is. field_weighs image names told namings tell computed sizes sizes_are r f (stands.fields row r there (contained r (fields_of image row) m)) is)))
      (zip_sums (IsMethod image names) (method_row image told) method_weight (methods_of image row) t.methods h.methods
      (λ r f m is. method_weighs image names told namings tell computed r f (stands.methods row r there (contained r (methods_of image row) m)) is)))
      (zip_sums (IsProperty image names row) (property_row image told) property_weight (properties_of image row) t.properties h.properties
      (λ r f m is. property_weighs image names told namings tell computed row r f (stands.properties row r there (contained r (properties_of image row) m)) is)))
      (zip_sums (IsEvent image names row) (event_row image told) event_weight (events_of image row) t.events h.events
      (λ r f m is. event_weighs image names told namings tell computed row r f (stands.events row r there (contained r (events_of image row) m)) is)))
      (attributes_weigh image names told namings tell computed 0x02 row (row * 32 + 3) t.attributes (index.type_attributes row) h.attributes)

  -- ---- trees

  abbrev n : ℕ
  n = count_of image 0x02

  abbrev weigh : ℕ → ℕ
  weigh row = type_row image told sizes fresh row

  abbrev whole : ℕ → ℕ → ℕ
  whole k row = tree_weight n (enclosing image) weigh k row

  module _ (later : (c : ℕ) → 2 ≤ c → c ≤ n → enclosing image c < c) where
    -- a row of a type that is deep enough for this
    record Fits (k row : ℕ) : Type 0 where
      pub low : 2 ≤ row
      pub high : row ≤ n
      pub deep : n < row + k

    kids_fit : (k row : ℕ) → Fits (suc k) row → (c : ℕ) → Among c (types_in image row) → Fits k c
    unfolding types_in
    kids_fit k row f c m =
        let u = in_under n (enclosing image) weigh later row c m in
        record { low = u.0; high = u.1; deep = let d = f.deep in let l = u.3 in omega arith }

    mutual
      unfolding types_in

      type_weighs : {row : ℕ} {t : TypeDef} → IsType image names row t → (k : ℕ) → Fits k row → Alike (whole k row) (typedef_weight t)
      type_weighs {row = row} {t = t} (IsType.made h p) zero f = absurd (let d = f.deep in let u = f.high in omega arith)
      type_weighs {row = row} {t = t} (IsType.made h p) (suc k) f =
          as_weight (plus (own_weighs row (out-TypeDef t) (let l = f.low in omega arith, f.high) h) (types_weigh p k (kids_fit k row f))) (sym (typedef_weight_out t))

      types_weigh : {rows : List ℕ} {ts : List TypeDef} → AreTypes image names rows ts → (k : ℕ) → ((c : ℕ) → Among c rows → Fits k c) → Alike (sum_by (whole k) rows) (sum_by typedef_weight ts)
      types_weigh AreTypes.none k f = exactly 0
      types_weigh (AreTypes.more {row = row} {rows = rows} {t = t} {ts = ts} h p) k f =
          as_told (sum_by-cons (whole k) row rows)
          (as_weight (plus (type_weighs h k (f row (inl refl))) (types_weigh p k (λ c m. f c (inr m)))) (sym (sum_by-cons typedef_weight t ts)))

    tops_fit : (c : ℕ) → Among c (types_in image 0) → Fits n c
    unfolding types_in
    tops_fit c m =
        let u = in_under n (enclosing image) weigh later 0 c m in
        record { low = u.0; high = u.1; deep = let l = u.0 in omega arith }

    pub all_weigh : 1 ≤ n → ((c : ℕ) → 2 ≤ c → c ≤ n → enclosing image c ≢ 1) → (ts : List TypeDef) → AreTypes image names (types_in image 0) ts
        → Alike (sum_by (type_row image told sizes fresh) (type_rows image)) (sum_by typedef_weight ts)
    unfolding types_in
    all_weigh some none ts are = as_told (sym (tops_weigh n (enclosing image) weigh later some none)) (types_weigh are n tops_fit)

-- ---- what encloses types

pub enclosed_later : (image : List ℕ) → ((table row : ℕ) → HasScopes image table row) → (c : ℕ) → 2 ≤ c → c ≤ count_of image 0x02 → enclosing image c < c
enclosed_later image scopes c low high = elim (enclosed image c) [
  | inl top ↦ let e = top.0 in omega arith
  | inr is ↦ let b = ((scopes 0x29 is.0).nesting refl is.1).before in let e = is.2 in let f = is.4 in omega (arith, b, e, f)
]

pub not_under_module : (image : List ℕ) → rows_with image 0x29 enclosing_class 1 ≡ [] → (c : ℕ) → 2 ≤ c → c ≤ count_of image 0x02 → enclosing image c ≢ 1
not_under_module image none c low high e = elim (enclosed image c) [
  | inl top ↦ let f = top.0 in absurd (omega arith)
  | inr is ↦ absurd (subst (Among is.0) none (among_owned image 0x29 enclosing_class 1 is.0 is.1 (sym is.4 ∙ e)))
]
