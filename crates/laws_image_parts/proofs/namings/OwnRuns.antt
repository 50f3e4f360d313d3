-- The rows of members, with the type that each belongs to, and the runs of types.
use Rattle.std.proofs.Common.{◌≡◌, ap, refl, sym, ◌∙◌, subst, ℕ, zero, suc, ◌+◌, ◌-◌, ◌<◌, List, [], ◌∷◌, ◌++◌, map, length, Some, arith}
use Rattle.std.specs.Prelude.{Contains, slice_get, slice_index, slice_index_or}
use Rattle.std.specs.List.{AllZip}
use Rattle.std.proofs.lemmas.List.{length-map}
use Rattle.metadata_tables.specs.Indexes.{IndexesFit}
use Rattle.assembly_tree.specs.declared.assembly.Assembly.{Assembly}
use Rattle.image_tokens.specs.declared.references.References.{References}
use Rattle.image_members.specs.DeclaredMembers.{owned, class_fields, class_methods}
use Rattle.image_members.specs.Places.{all_fields, all_methods}
use Rattle.image_rows.specs.TypeRows.{Numbered, numbered}
use Rattle.image_members.specs.declared.classes.Class.{Class}
use Rattle.image_model.specs.Columns.{type_fields, type_methods}
use Rattle.image_model.specs.Rows.{HasRow, count_of, run, first_field, first_method}
use Rattle.laws_image_parts.specs.AtRows.{AtEach, IsItem}
use Rattle.laws_image_parts.specs.RowsRead.{ReadsTypeRows}
use Rattle.laws_image_parts.proofs.CellLemmas.{get_low}
use Rattle.laws_image_parts.proofs.GroupLemmas.{joined}
use Rattle.laws_image_parts.proofs.RunLemmas.{AreStarts, run_at}
use Rattle.laws_image_parts.proofs.TypeRuns.{items_each, start_of, fields_begin, methods_begin}
use Rattle.laws_image_parts.specs.names.MemberOwners.{HaveOneOwner}
use Rattle.laws_image_parts.proofs.names.General.{get_some, zip_beside}

contained : {X : Type 0} (xs : List X) (k : ℕ) (d : X) → k < length xs → slice_get xs k ≡ Some (slice_index_or xs k d)
contained [] k d low = absurd (omega arith)
contained (x ∷ xs) zero d low = refl
contained (x ∷ xs) (suc k) d low = contained xs k d (omega arith)

module _ {X : Type 0} where
  -- members with the rows of their types, list by list
  tagged : ℕ → List (List X) → List (List (ℕ × X))
  tagged row [] = []
  tagged row (xs ∷ more) = map (λ x. (row, x)) xs ∷ tagged (row + 1) more

  tagged_joined : (row : ℕ) (lists : List (List X)) → joined (tagged row lists) ≡ owned row lists
  unfolding tagged
  tagged_joined row [] = refl
  tagged_joined row (xs ∷ more) = ap (λ (ys : List (ℕ × X)). map (λ x. (row, x)) xs ++ ys) (tagged_joined (row + 1) more)

  tagged_long : (row : ℕ) (lists : List (List X)) → length (tagged row lists) ≡ length lists
  unfolding tagged
  tagged_long row [] = refl
  tagged_long row (xs ∷ more) = ap suc (tagged_long (row + 1) more)

  tagged_at : (row k : ℕ) (lists : List (List X)) (xs : List X) → slice_get lists k ≡ Some xs → slice_get (tagged row lists) k ≡ Some (map (λ x. (row + k, x)) xs)
  unfolding tagged
  tagged_at row k [] xs at = absurd cc
  tagged_at row zero (ys ∷ more) xs at =
      let same : ys ≡ xs = cc in
      let here : row ≡ row + 0 = omega arith in
      λ i. Some (map (λ x. (here i, x)) (same i))
  tagged_at row (suc k) (ys ∷ more) xs at =
      let there : row + 1 + k ≡ row + suc k = omega arith in
      tagged_at (row + 1) k more xs at ∙ ap (λ n. Some (map (λ (x : X). (n, x)) xs)) there

  -- a member stands among all members where it stands among those with their types
  pub owned_of : (row : ℕ) (lists : List (List X)) (k : ℕ) (m : ℕ × X) → slice_get (owned row lists) k ≡ Some m → slice_get (joined lists) k ≡ Some m.1
  owned_of row [] k m at = absurd cc
  owned_of row (xs ∷ more) k m at = in_front (λ j e. owned_of (row + 1) more j m e) xs k at
    where
      in_front : ((j : ℕ) → slice_get (owned (row + 1) more) j ≡ Some m → slice_get (joined more) j ≡ Some m.1) → (ys : List X) (j : ℕ) → slice_get (map (λ x. (row, x)) ys ++ owned (row + 1) more) j ≡ Some m → slice_get (ys ++ joined more) j ≡ Some m.1
      in_front rest [] j e = rest j e
      in_front rest (y ∷ ys) zero e = let same : (row, y) ≡ m = cc in ap (λ (p : ℕ × X). Some p.1) same
      in_front rest (y ∷ ys) (suc j) e = in_front rest ys j e

  module _ (image : List ℕ) (start : ℕ → ℕ) (table : ℕ) where
    starts_tagged : (row first : ℕ) (lists : List (List X)) → AreStarts image 0x02 start table row first lists → AreStarts image 0x02 start table row first (tagged row lists)
    unfolding tagged
    starts_tagged row first [] s = s
    starts_tagged row first (xs ∷ more) s =
        let same : length xs ≡ length {A = ℕ × X} (map (λ x. (row, x)) xs) = sym (length-map xs (λ (x : X). (row, x))) in
        let next : first + length xs ≡ first + length {A = ℕ × X} (map (λ x. (row, x)) xs) = omega arith in
        (s.0, subst (λ n. AreStarts image 0x02 start table (row + 1) n (tagged (row + 1) more)) next (starts_tagged (row + 1) (first + length xs) more s.1))

    module _ (lists : List (List X)) (starts : AreStarts image 0x02 start table 1 1 lists) (types : count_of image 0x02 ≡ length lists)
        (members : count_of image table ≡ length (owned 1 lists)) where
      -- the rows of a type's run are those of members of the type
      run_own : (k : ℕ) (xs : List X) → slice_get lists k ≡ Some xs → AllZip (IsItem (owned 1 lists)) (run image 0x02 start table (1 + k)) (map (λ x. (1 + k, x)) xs)
      run_own k xs at =
          let long = ap (length {A = ℕ × X}) (tagged_joined 1 lists) in
          let count = tagged_long 1 lists in
          run_at image 0x02 start table (IsItem (owned 1 lists)) 1 1 k (tagged 1 lists) (map (λ x. (1 + k, x)) xs) (starts_tagged 1 1 lists starts) (omega arith) (omega arith)
          (items_each (owned 1 lists) (joined (tagged 1 lists)) (tagged_joined 1 lists)) (tagged_at 1 k lists xs at)

      pub run_has : (type row : ℕ) → HasRow image 0x02 type → Contains (run image 0x02 start table type) row → (x : X) × IsItem (owned 1 lists) row (type, x)
      run_has type row there h =
          let some = there.0 in
          let high = there.1 in
          let found = get_some lists (type - 1) (omega arith) in
          let same : 1 + (type - 1) ≡ type = omega arith in
          let zip = subst (λ n. AllZip (IsItem (owned 1 lists)) (run image 0x02 start table n) (map (λ x. (n, x)) found.0)) same (run_own (type - 1) found.0 found.1) in
          let at = contained (run image 0x02 start table type) h.0 row h.1 ∙ ap Some h.2 in
          let beside = zip_beside (IsItem (owned 1 lists)) (run image 0x02 start table type) (map (λ x. (type, x)) found.0) h.0 row zip at in
          by_item found.0 h.0 beside.0 beside.1 beside.2
        where
          by_item : (xs : List X) (k : ℕ) (m : ℕ × X) → slice_get (map (λ x. (type, x)) xs) k ≡ Some m → IsItem (owned 1 lists) row m → (x : X) × IsItem (owned 1 lists) row (type, x)
          by_item [] k m at is = absurd cc
          by_item (x ∷ xs) zero m at is = let same : m ≡ (type, x) = cc in (x, subst (IsItem (owned 1 lists) row) same is)
          by_item (x ∷ xs) (suc k) m at is = by_item xs k m at is

      -- a row that is there
      pub run_there : (type row : ℕ) → HasRow image 0x02 type → Contains (run image 0x02 start table type) row → HasRow image table row
      run_there type row there h =
          let item = run_has type row there h in
          let low = get_low (owned 1 lists) item.1.0 (type, item.0) item.1.2 in
          let is = item.1.1 in
          (omega arith, omega arith)

      -- a member's row is in the run of its type
      pub run_holds : HaveOneOwner image table (λ t. run image 0x02 start table t) → (k type : ℕ) (x : X) → slice_get (owned 1 lists) k ≡ Some (type, x)
          → HasRow image 0x02 type × Contains (run image 0x02 start table type) (1 + k)
      run_holds own k type x at =
          let low = get_low (owned 1 lists) k (type, x) at in
          let has = own.has (1 + k) (omega arith, omega arith) in
          let item = run_has has.0 (1 + k) has.1 has.2 in
          let place : item.1.0 ≡ k = (let is = item.1.1 in omega arith) in
          let so : slice_get (owned 1 lists) k ≡ Some (has.0, item.0) = subst (λ j. slice_get (owned 1 lists) j ≡ Some (has.0, item.0)) place item.1.2 in
          let both : ◌≡◌ {A = ℕ × X} (has.0, item.0) (type, x) = cc in
          let same : has.0 ≡ type = ap (λ (p : ℕ × X). p.0) both in
          (subst (HasRow image 0x02) same has.1, subst (λ t. Contains (run image 0x02 start table t) (1 + k)) same has.2)

-- ---- fields and methods

field_starts : (image : List ℕ) (row field method : ℕ) (cs : List Class) → AtEach (λ k (n : Numbered). first_field image k ≡ n.field) row (numbered field method cs)
    → AreStarts image 0x02 (first_field image) 0x04 row field (map class_fields cs)
field_starts image row field method [] h = tt
field_starts image row field method (c ∷ cs) h =
    let here : row ≡ row + 0 = omega arith in (
      ap (first_field image) here ∙ h 0 (record { class = c; field = field; method = method }) refl,
      field_starts image (row + 1) (field + length (class_fields c)) (method + length (class_methods c)) cs
          (λ k n at. let there : row + 1 + k ≡ row + suc k = omega arith in ap (first_field image) there ∙ h (suc k) n at),
    )

method_starts : (image : List ℕ) (row field method : ℕ) (cs : List Class) → AtEach (λ k (n : Numbered). first_method image k ≡ n.method) row (numbered field method cs)
    → AreStarts image 0x02 (first_method image) 0x06 row method (map class_methods cs)
method_starts image row field method [] h = tt
method_starts image row field method (c ∷ cs) h =
    let here : row ≡ row + 0 = omega arith in (
      ap (first_method image) here ∙ h 0 (record { class = c; field = field; method = method }) refl,
      method_starts image (row + 1) (field + length (class_fields c)) (method + length (class_methods c)) cs
          (λ k n at. let there : row + 1 + k ≡ row + suc k = omega arith in ap (first_method image) there ∙ h (suc k) n at),
    )

module _ (law : IndexesFit) (a : Assembly) (classes : List Class) (r : References) (image : List ℕ) (h : ReadsTypeRows a classes r image)
    (fields_count : count_of image 0x04 ≡ length (all_fields a classes)) (methods_count : count_of image 0x06 ≡ length (all_methods a classes)) where
  pub fields_start : AreStarts image 0x02 (first_field image) 0x04 1 1 (a.fields ∷ map class_fields classes)
  fields_start = (
    start_of law image 0x04 (type_fields image 1) (length (all_fields a classes)) 1 fields_count (ap (λ (cs : List ℕ). slice_index cs 4) h.module_is.are) (omega arith),
    field_starts image 2 (1 + length a.fields) (1 + length a.methods) classes (fields_begin law a classes r image h fields_count methods_count),
  )

  pub methods_start : AreStarts image 0x02 (first_method image) 0x06 1 1 (a.methods ∷ map class_methods classes)
  methods_start = (
    start_of law image 0x06 (type_methods image 1) (length (all_methods a classes)) 1 methods_count (ap (λ (cs : List ℕ). slice_index cs 5) h.module_is.are) (omega arith),
    method_starts image 2 (1 + length a.fields) (1 + length a.methods) classes (methods_begin law a classes r image h fields_count methods_count),
  )
