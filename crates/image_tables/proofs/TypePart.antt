-- The rows of types.
use Rattle.std.proofs.Common.{◌≡◌, ap, refl, sym, ◌∙◌, subst, ℕ, zero, ◌+◌, ◌-◌, ◌<◌, ◌≤◌, ◌^◌, List, [], ◌∷◌, ◌++◌, length, map, Some, arith}
use Rattle.std.specs.Borrow.{Bor}
use Rattle.std.specs.Prelude.{sum_by, slice_get}
use Rattle.std.specs.List.{AllZip, flat_map, enumerate_from}
use Rattle.std.proofs.lemmas.List.{length-append}
use Rattle.std.proofs.lemmas.List.Sums.{sum_by-cons, sum_by-append}
use Rattle.assembly_tree.specs.declared.assembly.Assembly.{Assembly}
use Rattle.metadata_tables.specs.Encoding.{rows_of, rows_in}
use Rattle.image_tokens.specs.References.{size, Grows, AreKnown}
use Rattle.image_tokens.specs.declared.references.References.{References}
use Rattle.image_tokens.specs.declared.row_set.Cells.{Cells}
use Rattle.image_tokens.proofs.GrowthLemmas.{grows_refl, grows_trans}
use Rattle.image_rows.specs.ClassRows.{class_rows, nested_rows, layout_rows}
use Rattle.image_members.specs.Declaring.{Place, module_place, class_place, places, AreDeclared, HoldsPlace}
use Rattle.image_members.specs.DeclaredMembers.{class_fields, class_methods, fields_count, methods_count}
use Rattle.image_rows.specs.Filled.{HoldsTypeRows, HoldsInterfaces, HoldsTypes}
use Rattle.image_rows.specs.InterfaceRows.{interfaces_from, interface_bytes, count_interfaces, joined, AreInterfaceRows, PushesInterfaces, CanPushInterfaces}
use Rattle.image_members.specs.Lists.{properties_in, events_in}
use Rattle.image_rows.specs.MapRows.{map_rows, event_count, property_count}
use Rattle.image_members.specs.Places.{all_fields, all_methods}
use Rattle.image_members.specs.Pushing.{Tables, AddsRows, Pushes}
use Rattle.image_rows.specs.TypeRows.{Numbered, numbered, base_of, base_weight, numbered_weight, IsModuleType, IsTypeDefRow, AddsModuleType, StandsAt}
use Rattle.image_members.specs.declared.classes.Class.{Class}
use Rattle.image_rows.proofs.TypeRowLemmas.{row_kept}
use Rattle.image_members.proofs.ZipLemmas.{zip_from, zip_later}
use Rattle.image_tables.specs.Filling.{type_part, IsReady, Fills}
use Rattle.image_tables.specs.Parts.{part_of, KeepsOtherParts}
use Rattle.image_tables.specs.TypePart.{bases_bytes, AddsTypeRows}
use Rattle.image_tables.proofs.HoldsLemmas.{module_type_kept, type_rows_later, interfaces_later, types_declared_later}
use Rattle.image_tables.proofs.PartLemmas.{none_at, still_none, adds_part, others_trans, all_rows}

pub type_part_is : (classes : List Class) → type_part classes ≡ bases_bytes classes + sum_by interface_bytes (interfaces_from 2 classes)
unfolding type_part
type_part_is classes = refl

-- a table of this part
part_here : (table here : ℕ) → table ≡ here → part_of here ≡ 2 → part_of table ≡ 2
part_here table here e at = ap part_of e ∙ at

-- ---- TypeDef

-- the row of `<Module>` is the first of the declared rows
pub module_stands : (classes : List Class) (r : References) → AreDeclared r.heaps.strings r.declared.types (places classes) → StandsAt r 0 module_place
module_stands classes r h =
    zip_from (HoldsPlace r.heaps.strings) r.declared.types (places classes) 0 module_place h refl

-- the bases of types with their numbers are those of the types
bases_same : (field method : ℕ) (cs : List Class) → sum_by numbered_weight (numbered field method cs) ≡ bases_bytes cs
bases_same field method [] = refl
bases_same field method (c ∷ cs) =
    let n : Numbered = record { class = c; field = field; method = method } in
    let more = numbered (field + length (class_fields c)) (method + length (class_methods c)) cs in
    sum_by-cons numbered_weight n more ∙ ap (λ (k : ℕ). numbered_weight n + k) (bases_same (field + length (class_fields c)) (method + length (class_methods c)) cs)
    ∙ sym (sum_by-cons (λ (x : Class). base_weight (base_of x)) c cs)

module _ (a : Assembly) (classes : List Class) (r0 : References) (t0 : Tables) (ready : IsReady 2 (bases_bytes classes) a classes r0 t0) where
  pub no_types : rows_in t0 0x02 < 2 ^ 24 - 1
  no_types = let none = ap (length {A = List ℕ}) (none_at 2 0x02 2 t0 ready.lacks refl (omega arith)) in omega arith

  pub classes_count : length classes < 2 ^ 24 - 2
  classes_count = let few = ready.few.classes_few in omega arith

  pub fields_few : (first : ℕ) → first ≡ length a.fields + 1 → first + sum_by (λ c. length (class_fields c)) classes ≤ 2 ^ 24
  fields_few first e = let few = ready.few.fields_counted in omega arith

  pub methods_few : (first : ℕ) → first ≡ length a.methods + 1 → first + sum_by (λ c. length (class_methods c)) classes ≤ 2 ^ 24
  methods_few first e = let few = ready.few.methods_counted in omega arith

  module _ (fields methods : ℕ) (t1 : Tables) (module_row : AddsModuleType fields methods r0 t0 t1) where
    pub few_types : rows_in t1 0x02 + length classes < 2 ^ 24 - 1
    few_types =
        let none = ap (length {A = List ℕ}) (none_at 2 0x02 2 t0 ready.lacks refl (omega arith)) in
        let long = ap (length {A = List ℕ}) module_row.adds.added ∙ length-append (rows_of t0 0x02) (module_row.cells ∷ []) in
        let few = ready.few.classes_few in
        omega arith

    pub type_rows_added : (r2 : References) (t2 : Tables) → fields ≡ length (all_fields a classes) → methods ≡ length (all_methods a classes)
        → Pushes 0x02 (IsTypeDefRow fields methods) numbered_weight (numbered (1 + length a.fields) (1 + length a.methods) classes) r0 r2 t1 t2
        → AddsTypeRows a classes r0 r2 t0 t2
    type_rows_added r2 t2 fields_are methods_are pushed =
        let items = numbered (1 + length a.fields) (1 + length a.methods) classes in
        record {
          grows = pushed.grows;
          known = pushed.known;
          room = (let room = pushed.room in let bytes = bases_same (1 + length a.fields) (1 + length a.methods) classes in omega arith);
          holds = record {
            module_cells = module_row.cells;
            rows = pushed.rows;
            are = pushed.adds.added ∙ ap (λ (rows : List (List ℕ)). rows ++ pushed.rows)
                (all_rows 0x02 (module_row.cells ∷ []) t0 t1 (none_at 2 0x02 2 t0 ready.lacks refl (omega arith)) module_row.adds);
            module_is = subst (λ (n : ℕ). IsModuleType n (length (all_methods a classes)) r2 module_row.cells) fields_are
                (subst (λ (n : ℕ). IsModuleType fields n r2 module_row.cells) methods_are (module_type_kept fields methods r0 r2 pushed.grows module_row.cells module_row.is));
            each = subst (λ (n : ℕ). AllZip (IsTypeDefRow n (length (all_methods a classes)) r2) pushed.rows items) fields_are
                (subst (λ (n : ℕ). AllZip (IsTypeDefRow fields n r2) pushed.rows items) methods_are pushed.each);
          };
          others = λ other differs. pushed.adds.others other differs ∙ module_row.adds.others other differs;
        }

-- ---- what else types have

module _ (a : Assembly) (classes : List Class) (r0 : References) (t0 : Tables) (ready : IsReady 2 (type_part classes) a classes r0 t0) where
  pub bases_ready : IsReady 2 (bases_bytes classes) a classes r0 t0
  bases_ready = record {
    known = ready.known;
    declared = ready.declared;
    can = ready.can;
    few = ready.few;
    lacks = ready.lacks;
    room = (let room = ready.room in let bytes = type_part_is classes in omega arith);
  }

  pub few_classes : length classes < 2 ^ 24 - 2
  few_classes = let few = ready.few.classes_few in omega arith

  -- the tables of this part besides TypeDef have no rows
  others_none : (r1 : References) (t1 : Tables) (other : ℕ) → AddsTypeRows a classes r0 r1 t0 t1 → ((other ≡ 0x02) → ⊥) → rows_of t0 other ≡ [] → rows_of t1 other ≡ []
  others_none r1 t1 other types differs none = types.others other differs ∙ none

  module _ (r1 : References) (t1 : Tables) (types : AddsTypeRows a classes r0 r1 t0 t1) where
    no_interfaces : rows_of t1 0x09 ≡ []
    no_interfaces = others_none r1 t1 0x09 types (λ e. absurd (omega arith)) (none_at 2 0x09 2 t0 ready.lacks refl (omega arith))

    pub interfaces_can : CanPushInterfaces (interfaces_from 2 classes) r1 t1
    interfaces_can = record {
      known = types.known;
      each = (ready.can r1 types.grows).interfaces;
      few = (let none = ap (length {A = List ℕ}) no_interfaces in let few = ready.few.interfaces in omega arith);
      room = (let room = ready.room in let bytes = type_part_is classes in let first = types.room in omega arith);
    }

    module _ (r2 : References) (t2 : Tables) (interfaces : PushesInterfaces (interfaces_from 2 classes) r1 r2 t1 t2) where
      no_layouts : rows_of t2 0x0F ≡ []
      no_layouts = interfaces.adds.others 0x0F (λ e. absurd (omega arith)) ∙ types.others 0x0F (λ e. absurd (omega arith)) ∙ none_at 2 0x0F 2 t0 ready.lacks refl (omega arith)

      pub few_layouts : rows_in t2 0x0F + length classes < 2 ^ 24
      few_layouts = let none = ap (length {A = List ℕ}) no_layouts in let few = ready.few.classes_few in omega arith

      module _ (t3 : Tables) (layouts : AddsRows 0x0F (class_rows layout_rows classes) t2 t3) where
        no_nested : rows_of t3 0x29 ≡ []
        no_nested =
            layouts.others 0x29 (λ e. absurd (omega arith)) ∙ interfaces.adds.others 0x29 (λ e. absurd (omega arith)) ∙ types.others 0x29 (λ e. absurd (omega arith))
            ∙ none_at 2 0x29 2 t0 ready.lacks refl (omega arith)

        pub few_nested : rows_in t3 0x29 + length classes < 2 ^ 24
        few_nested = let none = ap (length {A = List ℕ}) no_nested in let few = ready.few.classes_few in omega arith

        module _ (t4 : Tables) (nested : AddsRows 0x29 (class_rows nested_rows classes) t3 t4) where
          no_events : rows_of t4 0x12 ≡ []
          no_events =
              nested.others 0x12 (λ e. absurd (omega arith)) ∙ layouts.others 0x12 (λ e. absurd (omega arith)) ∙ interfaces.adds.others 0x12 (λ e. absurd (omega arith))
              ∙ types.others 0x12 (λ e. absurd (omega arith)) ∙ none_at 2 0x12 2 t0 ready.lacks refl (omega arith)

          pub few_event_maps : rows_in t4 0x12 + length classes < 2 ^ 24
          few_event_maps = let none = ap (length {A = List ℕ}) no_events in let few = ready.few.classes_few in omega arith

          pub few_events : sum_by event_count classes < 2 ^ 24
          few_events = let few = ready.few.event_runs in omega arith

          pub few_properties : sum_by property_count classes < 2 ^ 24
          few_properties = let few = ready.few.property_runs in omega arith

          module _ (t5 : Tables) (event_map : AddsRows 0x12 (map_rows event_count (length (events_in classes)) 2 1 classes) t4 t5) where
            no_properties : rows_of t5 0x15 ≡ []
            no_properties =
                event_map.others 0x15 (λ e. absurd (omega arith)) ∙ nested.others 0x15 (λ e. absurd (omega arith)) ∙ layouts.others 0x15 (λ e. absurd (omega arith))
                ∙ interfaces.adds.others 0x15 (λ e. absurd (omega arith)) ∙ types.others 0x15 (λ e. absurd (omega arith)) ∙ none_at 2 0x15 2 t0 ready.lacks refl (omega arith)

            pub few_property_maps : rows_in t5 0x15 + length classes < 2 ^ 24
            few_property_maps = let none = ap (length {A = List ℕ}) no_properties in let few = ready.few.classes_few in omega arith

            -- a table that the last steps leave alone
            since_interfaces : (t6 : Tables) (property_map : AddsRows 0x15 (map_rows property_count (length (properties_in classes)) 2 1 classes) t5 t6) (table : ℕ)
                → ((table ≡ 0x15) → ⊥) → ((table ≡ 0x12) → ⊥) → ((table ≡ 0x29) → ⊥) → ((table ≡ 0x0F) → ⊥) → rows_of t6 table ≡ rows_of t2 table
            since_interfaces t6 property_map table n15 n12 n29 n0f = property_map.others table n15 ∙ event_map.others table n12 ∙ nested.others table n29 ∙ layouts.others table n0f

            pub types_filled : (t6 : Tables) → AddsRows 0x15 (map_rows property_count (length (properties_in classes)) 2 1 classes) t5 t6
                → Fills 2 (type_part classes) (HoldsTypes a classes) r0 r2 t0 t6
            types_filled t6 property_map = record {
              grows = grows_trans r0 r1 r2 types.grows interfaces.grows;
              known = interfaces.known;
              room = (let bytes = type_part_is classes in let first = types.room in let second = interfaces.room in omega arith);
              holds = record {
                types = type_rows_later a r1 r2 t1 t6 interfaces.grows classes
                    (since_interfaces t6 property_map 0x02 (λ e. absurd (omega arith)) (λ e. absurd (omega arith)) (λ e. absurd (omega arith)) (λ e. absurd (omega arith))
                    ∙ interfaces.adds.others 0x02 (λ e. absurd (omega arith))) types.holds;
                interfaces = record {
                  groups = interfaces.groups;
                  are = since_interfaces t6 property_map 0x09 (λ e. absurd (omega arith)) (λ e. absurd (omega arith)) (λ e. absurd (omega arith)) (λ e. absurd (omega arith))
                      ∙ all_rows 0x09 (joined interfaces.groups) t1 t2 no_interfaces interfaces.adds;
                  each = interfaces.each;
                };
                layouts = property_map.others 0x0F (λ e. absurd (omega arith)) ∙ event_map.others 0x0F (λ e. absurd (omega arith)) ∙ nested.others 0x0F (λ e. absurd (omega arith))
                    ∙ all_rows 0x0F (class_rows layout_rows classes) t2 t3 no_layouts layouts;
                nested = property_map.others 0x29 (λ e. absurd (omega arith)) ∙ event_map.others 0x29 (λ e. absurd (omega arith))
                    ∙ all_rows 0x29 (class_rows nested_rows classes) t3 t4 no_nested nested;
                event_map = property_map.others 0x12 (λ e. absurd (omega arith))
                    ∙ all_rows 0x12 (map_rows event_count (length (events_in classes)) 2 1 classes) t4 t5 no_events event_map;
                property_map = all_rows 0x15 (map_rows property_count (length (properties_in classes)) 2 1 classes) t5 t6 no_properties property_map;
              };
              others = λ table n.
                  property_map.others table (λ e. n (part_here table 0x15 e refl)) ∙ event_map.others table (λ e. n (part_here table 0x12 e refl))
                  ∙ nested.others table (λ e. n (part_here table 0x29 e refl)) ∙ layouts.others table (λ e. n (part_here table 0x0F e refl))
                  ∙ interfaces.adds.others table (λ e. n (part_here table 0x09 e refl)) ∙ types.others table (λ e. n (part_here table 0x02 e refl));
            }
