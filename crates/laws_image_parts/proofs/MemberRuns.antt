-- All runs: the members of types and the parameters of methods.
use Rattle.std.proofs.Common.{◌≡◌, ap, refl, sym, ◌∙◌, subst, ℕ, zero, suc, ◌+◌, ◌<◌, ◌==◌, List, [], ◌∷◌, ◌++◌, map, length, Some}
use Rattle.std.specs.Prelude.{slice_get, slice_index, find}
use Rattle.std.specs.Option.{option_map_or}
use Rattle.std.specs.List.{AllZip, flat_map, range_with_len}
use Rattle.metadata_tables.specs.Indexes.{run_cell, IndexesFit}
use Rattle.assembly_tree.specs.declared.assembly.Assembly.{Assembly}
use Rattle.assembly_tree.specs.declared.members.Accessor.{Accessor}
use Rattle.assembly_tree.specs.declared.members.Event.{Event}
use Rattle.assembly_tree.specs.declared.members.Property.{Property}
use Rattle.image_tokens.specs.declared.references.References.{References}
use Rattle.image_members.specs.DeclaredMembers.{class_fields, class_methods}
use Rattle.image_members.specs.Lists.{access_of, access_from, event_access, property_access}
use Rattle.image_members.specs.Lists as rows
use Rattle.image_rows.specs.MapRows.{map_rows}
use Rattle.image_members.specs.Places.{all_methods, class_events, class_properties}
use Rattle.image_rows.specs.TypeRows.{Numbered, numbered}
use Rattle.image_members.specs.declared.classes.Class.{Class}
use Rattle.image_model.specs.Columns.{event_map_parent, event_map_events, property_map_parent, property_map_properties}
use Rattle.image_model.specs.Rows.{count_of, run, run_start, first_method, first_event, first_property, rows_of, events_of, properties_of}
use Rattle.laws_image_parts.specs.AtRows.{AtEach, IsItem, Reads}
use Rattle.laws_image_parts.specs.RowCells.{event_map_cells, property_map_cells}
use Rattle.laws_image_parts.specs.RowsRead.{IsMade, row_itself, ReadsRows}
use Rattle.laws_image_parts.specs.RunsRead.{IsPropertyAt, IsEventAt, RunsRead}
use Rattle.laws_image_parts.proofs.GroupLemmas.{joined}
use Rattle.laws_image_parts.proofs.ItemLemmas.{zip_map}
use Rattle.laws_image_parts.proofs.MapRuns.{lists_from, method_from, map_run}
use Rattle.laws_image_parts.proofs.MethodRuns.{methods_count, method_row_is, params_run}
use Rattle.laws_image_parts.proofs.OwnedLemmas.{get_map, zip_later}
use Rattle.laws_image_parts.proofs.TypeRuns.{length_map, items_each, start_of, numbered_get, class_row_is, methods_begin, module_fields_run, class_fields_run, module_methods_run, class_methods_run}

-- ---- lists of members with their accessors

map_both : {X Y : Type 0} (f : X → Y) (xs ys : List X) → map f (xs ++ ys) ≡ map f xs ++ map f ys
map_both f [] ys = refl
map_both f (x ∷ xs) ys = ap (λ zs. f x ∷ zs) (map_both f xs ys)

map_in : {X Y Z : Type 0} (f : X → Y) (g : Y → Z) (xs : List X) → map g (map f xs) ≡ map (λ x. g (f x)) xs
map_in f g [] = refl
map_in f g (x ∷ xs) = ap (λ zs. g (f x) ∷ zs) (map_in f g xs)

map_same : {X : Type 0} (xs : List X) → map (λ x. x) xs ≡ xs
map_same [] = refl
map_same (x ∷ xs) = ap (λ zs. x ∷ zs) (map_same xs)

numbered_method : (field method : ℕ) (cs : List Class) (k : ℕ) (n : Numbered) → slice_get (numbered field method cs) k ≡ Some n → n.method ≡ method_from method cs k
numbered_method field method [] k n at = absurd cc
numbered_method field method (c ∷ cs) zero n at =
    let head : record { class = c; field = field; method = method } ≡ n = cc in
    sym (ap (λ (m : Numbered). m.method) head)
numbered_method field method (c ∷ cs) (suc k) n at = numbered_method (field + length (class_fields c)) (method + length (class_methods c)) cs k n at

module _ {Y : Type 0} (members : Class → List Y) (accessors : Y → List Accessor) where
  -- the members of a type with their accessors, whose methods are counted from the type's first
  abbrev pub made : ℕ → Class → List (Y × List (ℕ × ℕ))
  made first c = map (λ (y : Y). (y, access_of first (accessors y))) (members c)

  abbrev pub access : ℕ → Class → List (List (ℕ × ℕ))
  access first c = map (λ (y : Y). access_of first (accessors y)) (members c)

  all_members : (first : ℕ) (cs : List Class) → map (λ (x : Y × List (ℕ × ℕ)). x.0) (joined (lists_from made first cs)) ≡ flat_map members cs
  all_members first [] = refl
  all_members first (c ∷ cs) =
      map_both (λ (x : Y × List (ℕ × ℕ)). x.0) (made first c) (joined (lists_from made (first + length (class_methods c)) cs))
      ∙ ap (λ (ys : List Y). ys ++ map (λ (x : Y × List (ℕ × ℕ)). x.0) (joined (lists_from made (first + length (class_methods c)) cs)))
      (map_in (λ (y : Y). (y, access_of first (accessors y))) (λ (x : Y × List (ℕ × ℕ)). x.0) (members c) ∙ map_same (members c))
      ∙ ap (λ (ys : List Y). members c ++ ys) (all_members (first + length (class_methods c)) cs)

  all_access : (first : ℕ) (cs : List Class) → map (λ (x : Y × List (ℕ × ℕ)). x.1) (joined (lists_from made first cs)) ≡ access_from access first cs
  all_access first [] = refl
  all_access first (c ∷ cs) =
      map_both (λ (x : Y × List (ℕ × ℕ)). x.1) (made first c) (joined (lists_from made (first + length (class_methods c)) cs))
      ∙ ap (λ (ys : List (List (ℕ × ℕ))). ys ++ map (λ (x : Y × List (ℕ × ℕ)). x.1) (joined (lists_from made (first + length (class_methods c)) cs)))
      (map_in (λ (y : Y). (y, access_of first (accessors y))) (λ (x : Y × List (ℕ × ℕ)). x.1) (members c))
      ∙ ap (λ (ys : List (List (ℕ × ℕ))). access first c ++ ys) (all_access (first + length (class_methods c)) cs)

  module _ (law : IndexesFit) (image : List ℕ) (owners : ℕ) (cells : List ℕ → ℕ → List ℕ) (parent start : ℕ → ℕ) (cell : ℕ → ℕ) (table method : ℕ) (classes : List Class)
      (reads : Reads owners cells (IsMade row_itself) (map_rows (λ c. length (members c)) (length (flat_map members classes)) 2 1 classes) image)
      (count : count_of image table ≡ length (flat_map members classes))
      (parent_is : (k : ℕ) → slice_index (cells image (1 + k)) 0 ≡ parent (1 + k)) (cell_is : (k : ℕ) → slice_index (cells image (1 + k)) 1 ≡ cell (1 + k))
      (start_is : (k : ℕ) → start k ≡ run_start image table (cell k)) where
    abbrev pairs : List (Y × List (ℕ × ℕ))
    pairs = joined (lists_from made method classes)

    abbrev IsBoth : ℕ → ℕ → Y → Type 0
    IsBoth first row y = IsItem (flat_map members classes) row y × IsItem (access_from access method classes) row (access_of first (accessors y))

    -- the members of a type are those of the run that the map has for it
    members_run : (k : ℕ) (c : Class) → slice_get classes k ≡ Some c
        → AllZip (IsBoth (method_from method classes k))
        (option_map_or (run image owners start table) (find (λ m. parent m == 2 + k) (range_with_len 1 (count_of image owners))) []) (members c)
    members_run k c at =
        let all = length (flat_map members classes) in
        let count_in : Class → ℕ = (λ c. length (members c)) in
        let first = method_from method classes k in
        let rows = option_map_or (run image owners start table) (find (λ m. parent m == 2 + k) (range_with_len 1 (count_of image owners))) [] in
        let told : (j row at_cell : ℕ) → slice_get (map_rows count_in all 2 1 classes) j ≡ Some (row ∷ at_cell ∷ [])
        → (parent (1 + j) ≡ row) × ((begin : ℕ) → 0 < begin → at_cell ≡ run_cell all begin → start (1 + j) ≡ begin) =
        (λ j row at_cell found.
        let is : cells image (1 + j) ≡ row ∷ at_cell ∷ [] = reads.each j (row ∷ at_cell ∷ []) found in (
          sym (parent_is j) ∙ ap (λ (cs : List ℕ). slice_index cs 0) is,
          λ begin some same. start_is (1 + j)
              ∙ start_of law image table (cell (1 + j)) all begin count (sym (cell_is j) ∙ ap (λ (cs : List ℕ). slice_index cs 1) is ∙ same) some,
        )) in
        let long : length pairs ≡ all = sym (length_map (λ (x : Y × List (ℕ × ℕ)). x.0) pairs) ∙ ap (length {A = Y}) (all_members method classes) in
        let found = map_run image owners parent start table made count_in all (λ n d. length_map (λ (y : Y). (y, access_of n (accessors y))) (members d))
        (IsItem pairs) method classes told reads.count (count ∙ sym long) (items_each pairs pairs refl) k c at in
        zip_later (λ row y. IsItem pairs row (y, access_of first (accessors y))) (IsBoth first) rows (members c)
        (λ row y p. (
          (p.0, p.1, sym (ap (λ (ys : List Y). slice_get ys p.0) (all_members method classes)) ∙ get_map (λ (x : Y × List (ℕ × ℕ)). x.0) pairs p.0 (y, access_of first (accessors y)) p.2),
          (p.0, p.1, sym (ap (λ (ys : List (List (ℕ × ℕ))). slice_get ys p.0) (all_access method classes)) ∙ get_map (λ (x : Y × List (ℕ × ℕ)). x.1) pairs p.0 (y, access_of first (accessors y)) p.2),
        ))
        (zip_map (IsItem pairs) (λ (y : Y). (y, access_of first (accessors y))) rows (members c) found)

-- ---- all runs

module _ (law : IndexesFit) (a : Assembly) (classes : List Class) (r : References) (code image : List ℕ) (h : ReadsRows a classes r code image) where
  abbrev first : ℕ
  first = 1 + length a.methods

  method_count : count_of image 0x06 ≡ length (all_methods a classes)
  method_count = methods_count law a classes r code image h.methods

  -- the first method of a type is counted on from those before it
  first_is : (k : ℕ) (c : Class) → slice_get classes k ≡ Some c → method_from first classes k ≡ first_method image (2 + k)
  first_is k c at =
      let n = numbered_get (1 + length a.fields) first classes k c at in
      let it : Numbered = record { class = c; field = n.0; method = n.1 } in
      sym (methods_begin law a classes r image h.types.types h.fields.fields.count method_count k it n.2
      ∙ numbered_method (1 + length a.fields) first classes k it n.2)

  properties_run : AtEach (λ type c. AllZip (IsPropertyAt a classes image type) (properties_of image type) (class_properties c)) 2 classes
  unfolding properties_of rows_of
  properties_run k c at =
      subst (λ n. AllZip (λ row (p : Property). IsItem (rows.properties_in classes) row p × IsItem (access_from property_access first classes) row (access_of n p.accessors))
      (properties_of image (2 + k)) (class_properties c)) (first_is k c at)
      (members_run class_properties (λ (p : Property). p.accessors) law image 0x15 property_map_cells (property_map_parent image) (first_property image) (property_map_properties image) 0x17 first classes
      h.types.property_map h.properties.properties.count (λ j. refl) (λ j. refl) (λ j. refl) k c at)

  events_run : AtEach (λ type c. AllZip (IsEventAt a classes image type) (events_of image type) (class_events c)) 2 classes
  unfolding events_of rows_of
  events_run k c at =
      subst (λ n. AllZip (λ row (e : Event). IsItem (rows.events_in classes) row e × IsItem (access_from event_access first classes) row (access_of n e.accessors))
      (events_of image (2 + k)) (class_events c)) (first_is k c at)
      (members_run class_events (λ (e : Event). e.accessors) law image 0x12 event_map_cells (event_map_parent image) (first_event image) (event_map_events image) 0x14 first classes
      h.types.event_map h.properties.events.count (λ j. refl) (λ j. refl) (λ j. refl) k c at)

  pub runs_read : RunsRead a classes r code image
  runs_read = record {
    type_rows = class_row_is law a classes r image h.types.types h.fields.fields.count method_count;
    method_rows = method_row_is law a classes r code image h.methods;
    module_fields = module_fields_run law a classes r image h.types.types h.fields.fields.count method_count;
    fields = class_fields_run law a classes r image h.types.types h.fields.fields.count method_count;
    module_methods = module_methods_run law a classes r image h.types.types h.fields.fields.count method_count;
    methods = class_methods_run law a classes r image h.types.types h.fields.fields.count method_count;
    params = params_run law a classes r code image h.methods;
    properties = properties_run;
    events = events_run;
  }
