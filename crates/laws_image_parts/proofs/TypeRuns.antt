-- The runs of fields, methods and parameters.
use Rattle.std.proofs.Common.{◌≡◌, ap, refl, sym, ◌∙◌, subst, ℕ, zero, suc, ◌+◌, ◌<◌, ◌≤◌, List, [], ◌∷◌, ◌++◌, map, length, Some, arith}
use Rattle.std.specs.Prelude.{slice_get, slice_index}
use Rattle.std.specs.List.{AllZip, flat_map}
use Rattle.metadata_tables.specs.Indexes.{run_cell, run_row, IndexesFit}
use Rattle.assembly_tree.specs.declared.assembly.Assembly.{Assembly}
use Rattle.assembly_tree.specs.declared.members.Field.{Field}
use Rattle.assembly_tree.specs.declared.members.Method.{Method}
use Rattle.image_tokens.specs.declared.references.References.{References}
use Rattle.image_members.specs.DeclaredMembers.{class_fields, class_methods}
use Rattle.image_members.specs.Places.{all_fields, all_methods}
use Rattle.image_rows.specs.TypeRows.{Numbered, numbered}
use Rattle.image_members.specs.declared.classes.Class.{Class}
use Rattle.image_model.specs.Columns.{type_fields, type_methods}
use Rattle.image_model.specs.Rows.{count_of, run, run_start, first_field, first_method, fields_of, methods_of}
use Rattle.laws_image_parts.specs.AtRows.{AtEach, IsItem}
use Rattle.laws_image_parts.specs.RowsRead.{ReadsTypeRows}
use Rattle.laws_image_parts.specs.RunsRead.{ClassRowIs}
use Rattle.laws_image_parts.proofs.GroupLemmas.{joined}
use Rattle.laws_image_parts.proofs.OwnedLemmas.{get_map}
use Rattle.laws_image_parts.proofs.RunLemmas.{AreStarts, run_at}

pub joined_map : {X Y : Type 0} (f : X → List Y) (xs : List X) → joined (map f xs) ≡ flat_map f xs
joined_map f [] = refl
joined_map f (x ∷ xs) = ap (λ ys. f x ++ ys) (joined_map f xs)

pub length_map : {X Y : Type 0} (f : X → Y) (xs : List X) → length (map f xs) ≡ length xs
length_map f [] = refl
length_map f (x ∷ xs) = ap suc (length_map f xs)

-- each item of lists that are those of another list's items
pub items_each : {X : Type 0} (all lists : List X) → lists ≡ all → AtEach (IsItem all) 1 lists
items_each all lists e k x at = (k, refl, ap (λ xs. slice_get xs k) (sym e) ∙ at)

-- where a run begins, by its cell
pub start_of : IndexesFit → (image : List ℕ) (table cell n first : ℕ) → count_of image table ≡ n → cell ≡ run_cell n first → 0 < first → run_start image table cell ≡ first
start_of law image table cell n first count is some =
    ap (λ m. run_row m cell) count ∙ ap (run_row n) is ∙ law.run_back n first some

-- ---- fields and methods

numbered_at : (field method : ℕ) (cs : List Class) (k : ℕ) (n : Numbered) → slice_get (numbered field method cs) k ≡ Some n → (field ≤ n.field) × (method ≤ n.method)
numbered_at field method [] k n at = absurd cc
numbered_at field method (c ∷ cs) zero n at =
    let head : record { class = c; field = field; method = method } ≡ n = cc in
    let one = ap (λ (m : Numbered). m.field) head in
    let two = ap (λ (m : Numbered). m.method) head in
    (omega arith, omega arith)
numbered_at field method (c ∷ cs) (suc k) n at =
    let rest = numbered_at (field + length (class_fields c)) (method + length (class_methods c)) cs k n at in
    let one = rest.0 in
    let two = rest.1 in
    (omega arith, omega arith)

pub numbered_get : (field method : ℕ) (cs : List Class) (k : ℕ) (c : Class) → slice_get cs k ≡ Some c
    → (f m : ℕ) × (slice_get (numbered field method cs) k ≡ Some (record { class = c; field = f; method = m }))
numbered_get field method [] k c at = absurd cc
numbered_get field method (d ∷ cs) zero c at =
    let same : d ≡ c = cc in
    (field, method, ap (λ (x : Class). Some (record { class = x; field = field; method = method })) same)
numbered_get field method (d ∷ cs) (suc k) c at = numbered_get (field + length (class_fields d)) (method + length (class_methods d)) cs k c at

-- runs that follow one another begin as they are numbered
field_starts : (image : List ℕ) (owners : ℕ) (start : ℕ → ℕ) (table row field method : ℕ) (cs : List Class)
    → AtEach (λ k (n : Numbered). start k ≡ n.field) row (numbered field method cs) → AreStarts image owners start table row field (map class_fields cs)
field_starts image owners start table row field method [] h = tt
field_starts image owners start table row field method (c ∷ cs) h =
    let here : row ≡ row + 0 = omega arith in (
      ap start here ∙ h 0 (record { class = c; field = field; method = method }) refl,
      field_starts image owners start table (row + 1) (field + length (class_fields c)) (method + length (class_methods c)) cs
          (λ k n at. let there : row + 1 + k ≡ row + suc k = omega arith in ap start there ∙ h (suc k) n at),
    )

method_starts : (image : List ℕ) (owners : ℕ) (start : ℕ → ℕ) (table row field method : ℕ) (cs : List Class)
    → AtEach (λ k (n : Numbered). start k ≡ n.method) row (numbered field method cs) → AreStarts image owners start table row method (map class_methods cs)
method_starts image owners start table row field method [] h = tt
method_starts image owners start table row field method (c ∷ cs) h =
    let here : row ≡ row + 0 = omega arith in (
      ap start here ∙ h 0 (record { class = c; field = field; method = method }) refl,
      method_starts image owners start table (row + 1) (field + length (class_fields c)) (method + length (class_methods c)) cs
          (λ k n at. let there : row + 1 + k ≡ row + suc k = omega arith in ap start there ∙ h (suc k) n at),
    )

module _ (law : IndexesFit) (a : Assembly) (classes : List Class) (r : References) (image : List ℕ) (h : ReadsTypeRows a classes r image)
    (fields_count : count_of image 0x04 ≡ length (all_fields a classes)) (methods_count : count_of image 0x06 ≡ length (all_methods a classes)) where
  abbrev ns : List Numbered
  ns = numbered (1 + length a.fields) (1 + length a.methods) classes

  abbrev F : ℕ
  F = length (all_fields a classes)

  abbrev M : ℕ
  M = length (all_methods a classes)

  pub class_row_is : AtEach (ClassRowIs a classes r image) 2 classes
  class_row_is k c at =
      let n = numbered_get (1 + length a.fields) (1 + length a.methods) classes k c at in
      (n.0, n.1, h.each k (record { class = c; field = n.0; method = n.1 }) n.2)

  pub fields_begin : AtEach (λ type (n : Numbered). first_field image type ≡ n.field) 2 ns
  fields_begin k n at =
      let row = h.each k n at in
      let low = numbered_at (1 + length a.fields) (1 + length a.methods) classes k n at in
      let some = low.0 in
      start_of law image 0x04 (type_fields image (2 + k)) F n.field fields_count (ap (λ (cs : List ℕ). slice_index cs 4) row.are) (omega arith)

  pub methods_begin : AtEach (λ type (n : Numbered). first_method image type ≡ n.method) 2 ns
  methods_begin k n at =
      let row = h.each k n at in
      let low = numbered_at (1 + length a.fields) (1 + length a.methods) classes k n at in
      let some = low.1 in
      start_of law image 0x06 (type_methods image (2 + k)) M n.method methods_count (ap (λ (cs : List ℕ). slice_index cs 5) row.are) (omega arith)

  types_owned : {X : Type 0} (own : List X) (f : Class → List X) → count_of image 0x02 + 1 ≡ 1 + length (own ∷ map f classes)
  types_owned own f = let long = length_map f classes in let count = h.count in omega arith

  fields_run : (k : ℕ) (xs : List Field) → slice_get (a.fields ∷ map class_fields classes) k ≡ Some xs
      → AllZip (IsItem (all_fields a classes)) (run image 0x02 (first_field image) 0x04 (1 + k)) xs
  fields_run k xs at =
      let lists = a.fields ∷ map class_fields classes in
      let all : joined lists ≡ all_fields a classes = ap (λ (fs : List Field). a.fields ++ fs) (joined_map class_fields classes) in
      let first : first_field image 1 ≡ 1 = start_of law image 0x04 (type_fields image 1) F 1 fields_count (ap (λ (cs : List ℕ). slice_index cs 4) h.module_is.are) (omega arith) in
      let starts = field_starts image 0x02 (first_field image) 0x04 2 (1 + length a.fields) (1 + length a.methods) classes fields_begin in
      let long = ap (length {A = Field}) all in
      run_at image 0x02 (first_field image) 0x04 (IsItem (all_fields a classes)) 1 1 k lists xs (first, starts) (types_owned a.fields class_fields) (omega arith)
      (items_each (all_fields a classes) (joined lists) all) at

  methods_run : (k : ℕ) (xs : List Method) → slice_get (a.methods ∷ map class_methods classes) k ≡ Some xs
      → AllZip (IsItem (all_methods a classes)) (run image 0x02 (first_method image) 0x06 (1 + k)) xs
  methods_run k xs at =
      let lists = a.methods ∷ map class_methods classes in
      let all : joined lists ≡ all_methods a classes = ap (λ (ms : List Method). a.methods ++ ms) (joined_map class_methods classes) in
      let first : first_method image 1 ≡ 1 = start_of law image 0x06 (type_methods image 1) M 1 methods_count (ap (λ (cs : List ℕ). slice_index cs 5) h.module_is.are) (omega arith) in
      let starts = method_starts image 0x02 (first_method image) 0x06 2 (1 + length a.fields) (1 + length a.methods) classes methods_begin in
      let long = ap (length {A = Method}) all in
      run_at image 0x02 (first_method image) 0x06 (IsItem (all_methods a classes)) 1 1 k lists xs (first, starts) (types_owned a.methods class_methods) (omega arith)
      (items_each (all_methods a classes) (joined lists) all) at

  pub module_fields_run : AllZip (IsItem (all_fields a classes)) (fields_of image 1) a.fields
  unfolding fields_of
  module_fields_run = fields_run 0 a.fields refl

  pub class_fields_run : AtEach (λ type c. AllZip (IsItem (all_fields a classes)) (fields_of image type) (class_fields c)) 2 classes
  unfolding fields_of
  class_fields_run k c at =
      let here : 1 + suc k ≡ 2 + k = omega arith in
      subst (λ type. AllZip (IsItem (all_fields a classes)) (run image 0x02 (first_field image) 0x04 type) (class_fields c)) here
      (fields_run (suc k) (class_fields c) (get_map class_fields classes k c at))

  pub module_methods_run : AllZip (IsItem (all_methods a classes)) (methods_of image 1) a.methods
  unfolding methods_of
  module_methods_run = methods_run 0 a.methods refl

  pub class_methods_run : AtEach (λ type c. AllZip (IsItem (all_methods a classes)) (methods_of image type) (class_methods c)) 2 classes
  unfolding methods_of
  class_methods_run k c at =
      let here : 1 + suc k ≡ 2 + k = omega arith in
      subst (λ type. AllZip (IsItem (all_methods a classes)) (run image 0x02 (first_method image) 0x06 type) (class_methods c)) here
      (methods_run (suc k) (class_methods c) (get_map class_methods classes k c at))
