-- The runs of fields, methods, parameters, events and properties.
use Rattle.std.proofs.Common.{◌≡◌, ap, refl, sym, ◌∙◌, subst, ℕ, zero, suc, ◌+◌, ◌-◌, ◌<◌, ◌≤◌, Bool, true, List, [], ◌∷◌, map, length, Some, arith}
use Rattle.std.specs.Prelude.{slice_get}
use Rattle.std.specs.List.{AllByRecursion, AllZip, flat_map, range_with_len}
use Rattle.std.proofs.lemmas.Bool.{and_parts, ltb-true}
use Rattle.metadata_tables.specs.Indexes.{IndexesFit}
use Rattle.assembly_tree.specs.WellFormedMembers.{is_param_before}
use Rattle.assembly_tree.specs.WellFormedNames.{before_first, rises}
use Rattle.assembly_tree.specs.declared.assembly.Assembly.{Assembly}
use Rattle.assembly_tree.specs.declared.members.Method.{Method}
use Rattle.assembly_tree.specs.declared.members.Param.{Param}
use Rattle.image_tokens.specs.declared.references.References.{References}
use Rattle.image_members.specs.DeclaredMembers.{class_fields, class_methods}
use Rattle.image_members.specs.Lists.{params_in}
use Rattle.image_rows.specs.MapRows.{map_rows}
use Rattle.image_rows.specs.MethodRows.{PlacedMethod, placed_methods, IsMethodRow}
use Rattle.image_members.specs.CodeBytes.{body_of, HasBody}
use Rattle.image_members.specs.Places as owned
use Rattle.image_members.specs.Places.{all_fields, all_methods, class_properties, class_events}
use Rattle.image_rows.specs.TypeRows.{Numbered, numbered}
use Rattle.image_members.specs.declared.classes.Class.{Class}
use Rattle.image_model.specs.Columns.{type_fields, type_methods, method_params, param_sequence, event_map_parent, event_map_events, property_map_parent, property_map_properties}
use Rattle.image_model.specs.Rows.{HasRow, count_of, run, run_end, run_start, first_field, first_method, first_param, fields_of, methods_of, params_of}
use Rattle.image_model.specs.Structure.{Rises, LiesIn, IsFirstWith, RisesInMethod, HasRuns}
use Rattle.laws_image_parts.specs.AtRows.{AtEach, IsItem, Reads}
use Rattle.laws_image_parts.specs.RowCells.{method_cells, event_map_cells, property_map_cells}
use Rattle.laws_image_parts.specs.RowsRead.{IsMade, row_itself, ReadsTypeRows, ReadsMethods, ReadsRows}
use Rattle.laws_image_parts.specs.RunsRead.{RunsRead}
use Rattle.laws_image_parts.proofs.CellLemmas.{zip_long}
use Rattle.laws_image_parts.proofs.MethodRuns.{methods_count}
use Rattle.laws_image_parts.proofs.TypeRuns.{length_map, start_of, fields_begin, methods_begin}
use Rattle.laws_image_parts.proofs.names.General.{get_some, all_get, each_one, each_map}
use Rattle.laws_image_reading.proofs.order.ItemRising.{cell_at, never}
use Rattle.laws_image_reading.proofs.order.MapPairs.{map_pairs, pair_cells, type_in, start_in, reads_pairs, pairs_rise, pairs_climb, first_pair, no_pair}
use Rattle.laws_image_reading.proofs.order.Rising.{Climb, climbs_from, first_with}
use Rattle.laws_image_reading.proofs.order.RowOrder.{neighbours, strict_column}
use Rattle.laws_image_reading.proofs.order.RunOrder.{range_has, beside_range, starts_read, starts_rise, lies_in}

-- ---- fields and methods

abbrev itself : ℕ → ℕ
itself n = n

field_climb : (field method low : ℕ) (cs : List Class) → low ≤ field → Climb itself low (map (λ (n : Numbered). n.field) (numbered field method cs))
field_climb field method low [] le = tt
field_climb field method low (c ∷ cs) le = (le, field_climb (field + length (class_fields c)) (method + length (class_methods c)) field cs (omega arith))

method_climb : (field method low : ℕ) (cs : List Class) → low ≤ method → Climb itself low (map (λ (n : Numbered). n.method) (numbered field method cs))
method_climb field method low [] le = tt
method_climb field method low (c ∷ cs) le = (le, method_climb (field + length (class_fields c)) (method + length (class_methods c)) method cs (omega arith))

numbered_long : (field method : ℕ) (cs : List Class) → length (numbered field method cs) ≡ length cs
numbered_long field method [] = refl
numbered_long field method (c ∷ cs) = ap suc (numbered_long (field + length (class_fields c)) (method + length (class_methods c)) cs)

module _ (law : IndexesFit) (a : Assembly) (classes : List Class) (r : References) (image : List ℕ) (h : ReadsTypeRows a classes r image)
    (fields_count : count_of image 0x04 ≡ length (all_fields a classes)) (methods_are : count_of image 0x06 ≡ length (all_methods a classes)) where
  abbrev ns : List Numbered
  ns = numbered (1 + length a.fields) (1 + length a.methods) classes

  types_some : 0 < count_of image 0x02
  types_some = let count = h.count in omega arith

  -- runs of types, by where each begins
  rise_by : (begin : ℕ → ℕ) (of : Numbered → ℕ) → begin 1 ≡ 1 → AtEach (λ type n. begin type ≡ of n) 2 ns → Climb itself 1 (map of ns) → (row : ℕ) → HasRow image 0x02 row → Rises begin row
  rise_by begin of first begins climb row there behind =
      let starts = map of ns in
      let high = there.1 in
      let count = h.count in
      let long = length_map of ns in
      let longer = numbered_long (1 + length a.fields) (1 + length a.methods) classes in
      starts_rise begin itself (1 ∷ starts) 1 (omega arith, climb) (each_one (λ type n. begin type ≡ n) 1 1 starts first (each_map (λ type n. begin type ≡ n) of 2 ns begins))
      row behind (omega arith)

  first_fields : first_field image 1 ≡ 1
  first_fields = start_of law image 0x04 (type_fields image 1) (length (all_fields a classes)) 1 fields_count (ap (cell_at 4) h.module_is.are) (omega arith)

  first_methods : first_method image 1 ≡ 1
  first_methods = start_of law image 0x06 (type_methods image 1) (length (all_methods a classes)) 1 methods_are (ap (cell_at 5) h.module_is.are) (omega arith)

  pub fields_rise : (row : ℕ) → HasRow image 0x02 row → Rises (first_field image) row
  fields_rise =
      rise_by (first_field image) (λ n. n.field) first_fields (fields_begin law a classes r image h fields_count methods_are)
      (field_climb (1 + length a.fields) (1 + length a.methods) 1 classes (omega arith))

  pub methods_rise : (row : ℕ) → HasRow image 0x02 row → Rises (first_method image) row
  methods_rise =
      rise_by (first_method image) (λ n. n.method) first_methods (methods_begin law a classes r image h fields_count methods_are)
      (method_climb (1 + length a.fields) (1 + length a.methods) 1 classes (omega arith))

  pub in_fields : (row : ℕ) → HasRow image 0x04 row → LiesIn image 0x02 (fields_of image) row
  unfolding fields_of
  in_fields row there = lies_in image 0x02 0x04 (first_field image) row there types_some first_fields

  pub in_methods : (row : ℕ) → HasRow image 0x06 row → LiesIn image 0x02 (methods_of image) row
  unfolding methods_of
  in_methods row there = lies_in image 0x02 0x06 (first_method image) row there types_some first_methods

-- ---- parameters

abbrev param_of : PlacedMethod → ℕ
param_of p = p.param

placed_climb : (param : ℕ) (rvas : List ℕ) (ms : List Method) → Climb param_of param (placed_methods param rvas ms)
placed_climb param rvas [] = tt
placed_climb param [] (m ∷ ms) = tt
placed_climb param (rva ∷ rvas) (m ∷ ms) =
    (omega arith, climbs_from param_of param (param + length m.params) (placed_methods (param + length m.params) rvas ms) (omega arith) (placed_climb (param + length m.params) rvas ms))

-- where there are parameters, the first method's begin with the first
first_placed : (rvas : List ℕ) (ms : List Method) → length rvas ≡ length ms → 0 < length (flat_map owned.params_of ms)
    → (p : PlacedMethod) × (slice_get (placed_methods 1 rvas ms) 0 ≡ Some p) × (p.param ≡ 1)
first_placed rvas [] long some = absurd (omega arith)
first_placed [] (m ∷ ms) long some = absurd (omega arith)
first_placed (rva ∷ rvas) (m ∷ ms) long some = (record { method = m; rva = rva; param = 1 }, refl, refl)

-- numbers of parameters rise
rises_at : {X : Type 0} (before : X → X → Bool) (xs : List X) (k : ℕ) (x y : X) → rises before xs ≡ true → slice_get xs k ≡ Some x → slice_get xs (suc k) ≡ Some y → before x y ≡ true
rises_at before [] k x y h p q = absurd cc
rises_at before (z ∷ []) k x y h p q = absurd cc
rises_at before (z ∷ (w ∷ xs)) zero x y h p q =
    let one : z ≡ x = cc in
    let two : w ≡ y = cc in
    let both = and_parts (before_first before z (w ∷ xs)) (rises before (w ∷ xs)) h in
    subst (λ v. before v y ≡ true) one (subst (λ v. before z v ≡ true) two both.0)
rises_at before (z ∷ (w ∷ xs)) (suc k) x y h p q = rises_at before (w ∷ xs) k x y (and_parts (before_first before z (w ∷ xs)) (rises before (w ∷ xs)) h).1 p q

module _ (law : IndexesFit) (a : Assembly) (classes : List Class) (r : References) (code image : List ℕ) (h : ReadsMethods a classes r code image) where
  abbrev ms : List Method
  ms = all_methods a classes

  abbrev placed : List PlacedMethod
  placed = placed_methods 1 h.rvas ms

  params_begin : AtEach (λ row (p : PlacedMethod). first_param image row ≡ param_of p) 1 placed
  params_begin =
      starts_read law image 0x06 0x08 method_cells (IsMethodRow (length (params_in a classes)) r) placed h.methods (method_params image) param_of (length (params_in a classes)) h.params.count
      (λ row p is. ap (cell_at 5) is.are) (placed_climb 1 h.rvas ms)

  pub params_rise : (row : ℕ) → HasRow image 0x06 row → Rises (first_param image) row
  params_rise row there behind = let high = there.1 in let count = h.methods.count in starts_rise (first_param image) param_of placed 1 (placed_climb 1 h.rvas ms) params_begin row behind (omega arith)

  pub in_params : (row : ℕ) → HasRow image 0x08 row → LiesIn image 0x06 (params_of image) row
  unfolding params_of
  in_params row there =
      let pos = there.0 in
      let high = there.1 in
      let count = h.params.count in
      let long = zip_long (HasBody r code) h.rvas (map body_of ms) h.bodies ∙ length_map body_of ms in
      let first = first_placed h.rvas ms long (omega arith) in
      let low = get_below placed 0 first.0 first.1 in
      let methods = h.methods.count in
      lies_in image 0x06 0x08 (first_param image) row there (omega arith) (params_begin 0 first.0 first.1 ∙ first.2)
    where
      get_below : {X : Type 0} (xs : List X) (k : ℕ) (x : X) → slice_get xs k ≡ Some x → k < length xs
      get_below [] k x at = absurd cc
      get_below (y ∷ xs) zero x at = omega arith
      get_below (y ∷ xs) (suc k) x at = let low = get_below xs k x at in omega arith

  module _ (params : AtEach (λ row (m : Method). AllZip (IsItem (params_in a classes)) (params_of image row) m.params) 1 ms)
      (formed : AllByRecursion (λ (m : Method). rises is_param_before m.params ≡ true) ms) where
    number_is : (row : ℕ) (p : Param) → IsItem (params_in a classes) row p → param_sequence image row ≡ p.number
    number_is row p item = subst (λ n. param_sequence image n ≡ p.number) (sym item.1) (ap (cell_at 1) (h.params.each item.0 p item.2).are)

    neighbours_rise : (m : Method) → rises is_param_before m.params ≡ true → (first n row : ℕ) → AllZip (IsItem (params_in a classes)) (range_with_len first n) m.params
        → 0 < row → first ≤ row - 1 → row < first + n → param_sequence image (row - 1) < param_sequence image row
    neighbours_rise m rising first n row own some low high =
        let IsParamAt = IsItem (params_in a classes) in
        let one = beside_range IsParamAt first n m.params (row - 1 - first) own (omega arith) in
        let two = beside_range IsParamAt first n m.params (row - first) own (omega arith) in
        let at_one : first + (row - 1 - first) ≡ row - 1 = omega arith in
        let at_two : first + (row - first) ≡ row = omega arith in
        let next : row - first ≡ suc (row - 1 - first) = omega arith in
        let second : slice_get m.params (suc (row - 1 - first)) ≡ Some two.0 = subst (λ k. slice_get m.params k ≡ Some two.0) next two.1 in
        let less : one.0.number < two.0.number = ltb-true one.0.number two.0.number (rises_at is_param_before m.params (row - 1 - first) one.0 two.0 rising one.1 second) in
        let a = number_is (row - 1) one.0 (subst (λ k. IsParamAt k one.0) at_one one.2) in
        let b = number_is row two.0 (subst (λ k. IsParamAt k two.0) at_two two.2) in
        omega arith

    pub sequences_rise : (row : ℕ) → HasRow image 0x08 row → RisesInMethod image row
    unfolding params_of
    sequences_rise row there method has before here =
        let some = has.0 in
        let high = has.1 in
        let count = methods_count law a classes r code image h in
        let found = get_some ms (method - 1) (omega arith) in
        let m = found.0 in
        let same : 1 + (method - 1) ≡ method = omega arith in
        let first = first_param image method in
        let n = run_end image 0x06 (first_param image) 0x08 method - first in
        let own : AllZip (IsItem (params_in a classes)) (range_with_len first n) m.params =
        subst (λ k. AllZip (IsItem (params_in a classes)) (run image 0x06 (first_param image) 0x08 k) m.params) same (params (method - 1) m found.1) in
        let low = range_has first n (row - 1) before in
        let top = range_has first n row here in
        neighbours_rise m (all_get (λ (x : Method). rises is_param_before x.params ≡ true) ms (method - 1) m formed found.1) first n row own there.0 low.0 top.1

-- ---- events and properties

module _ (law : IndexesFit) {X : Type 0} (items : Class → List X) (classes : List Class) (image : List ℕ) (owners table : ℕ) (cells : List ℕ → ℕ → List ℕ) (parent column : ℕ → ℕ)
    (parent_is : (row : ℕ) → cell_at 0 (cells image row) ≡ parent row) (column_is : (row : ℕ) → cell_at 1 (cells image row) ≡ column row)
    (maps : Reads owners cells (IsMade row_itself) (map_rows (λ c. length (items c)) (length (flat_map items classes)) 2 1 classes) image)
    (count : count_of image table ≡ length (flat_map items classes)) where
  abbrev all : ℕ
  all = length (flat_map items classes)

  abbrev count_in : Class → ℕ
  count_in c = length (items c)

  abbrev pairs : List (ℕ × ℕ)
  pairs = map_pairs count_in 2 1 classes

  abbrev begin : ℕ → ℕ
  begin row = run_start image table (column row)

  reads : Reads owners cells (IsMade (pair_cells all)) pairs image
  reads = reads_pairs owners cells count_in all classes image maps

  begins : AtEach (λ row p. begin row ≡ start_in p) 1 pairs
  begins =
      starts_read law image owners table cells (IsMade (pair_cells all)) pairs reads column start_in all count (λ row p is. sym (column_is row) ∙ ap (cell_at 1) is)
      (pairs_climb count_in 2 1 classes)

  pub maps_rise : (row : ℕ) → HasRow image owners row → Rises begin row
  maps_rise row there behind = let high = there.1 in let long = reads.count in starts_rise begin start_in pairs 1 (pairs_climb count_in 2 1 classes) begins row behind (omega arith)

  -- each type has one row
  pub one_map : (row : ℕ) → HasRow image owners row → IsFirstWith parent row
  one_map row there earlier some less =
      first_with parent (count_of image owners)
      (λ n behind high. strict_column (λ k p. IsMade (pair_cells all) (cells image k) p) type_in parent (λ k p is. sym (parent_is k) ∙ ap (cell_at 0) is) n
      (neighbours owners cells (IsMade (pair_cells all)) pairs image reads type_in never 2 (pairs_rise count_in 2 1 classes) n behind (omega arith, high)))
      row earlier there.1 some less

  pub in_map : (row : ℕ) → HasRow image table row → LiesIn image owners (run image owners begin table) row
  in_map row there = by_pairs pairs refl
    where
      by_pairs : (ps : List (ℕ × ℕ)) → pairs ≡ ps → LiesIn image owners (run image owners begin table) row
      by_pairs [] e = let none = no_pair items 2 1 classes e in let pos = there.0 in let high = there.1 in absurd (omega arith)
      by_pairs (p ∷ ps) e =
          let long = reads.count ∙ ap (length {A = ℕ × ℕ}) e in
          let first = begins 0 p (ap (λ (qs : List (ℕ × ℕ)). slice_get qs 0) e) ∙ first_pair items 2 1 classes p ps e in
          lies_in image owners table begin row there (omega arith) first

-- ---- all runs

module _ (law : IndexesFit) (a : Assembly) (classes : List Class) (r : References) (code image : List ℕ) (h : ReadsRows a classes r code image) (runs : RunsRead a classes r code image)
    (formed : AllByRecursion (λ (m : Method). rises is_param_before m.params ≡ true) (all_methods a classes)) where
  methods_are : count_of image 0x06 ≡ length (all_methods a classes)
  methods_are = methods_count law a classes r code image h.methods

  pub has_runs : (table row : ℕ) → HasRuns image table row
  has_runs table row = record {
    fields = λ is there. fields_rise law a classes r image h.types.types h.fields.fields.count methods_are row there;
    methods = λ is there. methods_rise law a classes r image h.types.types h.fields.fields.count methods_are row there;
    in_type = λ is there. in_fields law a classes r image h.types.types h.fields.fields.count methods_are row there;
    params = λ is there. params_rise law a classes r code image h.methods row there;
    method_in_type = λ is there. in_methods law a classes r image h.types.types h.fields.fields.count methods_are row there;
    in_method = λ is there. in_params law a classes r code image h.methods row there;
    sequence = λ is there. sequences_rise law a classes r code image h.methods runs.params formed row there;
    events = λ is there.
        maps_rise law class_events classes image 0x12 0x14 event_map_cells (event_map_parent image) (event_map_events image) (λ k. refl) (λ k. refl) h.types.event_map h.properties.events.count row there;
    one_event_map = λ is there.
        one_map law class_events classes image 0x12 0x14 event_map_cells (event_map_parent image) (event_map_events image) (λ k. refl) (λ k. refl) h.types.event_map h.properties.events.count row there;
    event_in_map = λ is there.
        in_map law class_events classes image 0x12 0x14 event_map_cells (event_map_parent image) (event_map_events image) (λ k. refl) (λ k. refl) h.types.event_map h.properties.events.count row there;
    properties = λ is there.
        maps_rise law class_properties classes image 0x15 0x17 property_map_cells (property_map_parent image) (property_map_properties image) (λ k. refl) (λ k. refl) h.types.property_map
        h.properties.properties.count row there;
    one_property_map = λ is there.
        one_map law class_properties classes image 0x15 0x17 property_map_cells (property_map_parent image) (property_map_properties image) (λ k. refl) (λ k. refl) h.types.property_map
        h.properties.properties.count row there;
    property_in_map = λ is there.
        in_map law class_properties classes image 0x15 0x17 property_map_cells (property_map_parent image) (property_map_properties image) (λ k. refl) (λ k. refl) h.types.property_map
        h.properties.properties.count row there;
  }
