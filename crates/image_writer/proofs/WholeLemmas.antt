-- All tables: how many rows each has, and which have none.
use Rattle.std.proofs.Common.{◌≡◌, ◌⊎◌, ap, refl, sym, ◌∙◌, subst, ℕ, zero, suc, ◌+◌, ◌*◌, ◌-◌, ◌<◌, ◌≤◌, ◌^◌, cond, List, [], ◌∷◌, ◌++◌, length, map, inl, inr, arith}
use Rattle.std.specs.Prelude.{◌≢◌, Contains, sum_by, slice_index_or}
use Rattle.std.specs.List.{AllByRecursion, flat_map, enumerate_from}
use Rattle.std.proofs.lemmas.Bool.{cases_eq, ne_eqb}
use Rattle.assembly_tree.specs.Weight.{weight_of}
use Rattle.assembly_tree.specs.declared.assembly.Assembly.{Assembly}
use Rattle.metadata_tables.specs.Encoding.{rows_of, rows_in}
use Rattle.image_layout.specs.Referred.{LacksReferences, KeepsOthers}
use Rattle.image_tokens.specs.References.{size}
use Rattle.image_tokens.specs.declared.references.References.{References}
use Rattle.image_tokens.proofs.GrowthLemmas.{grows_refl}
use Rattle.image_rows.specs.ClassRows.{class_rows, nested_rows, layout_rows}
use Rattle.image_members.specs.Classes.{AreClasses}
use Rattle.image_members.specs.DataRows.{all_data}
use Rattle.image_rows.specs.FieldRows.{offset_rows}
use Rattle.image_rows.specs.Filled.{HoldsReferences, HoldsManifest, HoldsTypes, HoldsFields, HoldsMethods, HoldsProperties, HoldsOwned, IsFilled, written_tables}
use Rattle.image_rows.specs.InterfaceRows.{interfaces_from, count_interfaces}
use Rattle.image_members.specs.Lists.{properties_in, events_in}
use Rattle.image_rows.specs.MapRows.{map_rows, event_count, property_count}
use Rattle.image_members.specs.Places.{all_fields}
use Rattle.image_members.specs.Pushing.{Tables}
use Rattle.image_members.specs.declared.classes.Class.{Class}
use Rattle.image_tables.specs.Filling.{IsFull}
use Rattle.image_tables.specs.Parts.{table_parts, part_in, part_of, KeepsPart, LacksFrom}
use Rattle.image_writer.proofs.BeginLemmas.{size_is}
use Rattle.image_tables.proofs.HoldsLemmas.{manifest_later, types_later, fields_later, methods_later, properties_later, owned_later}
use Rattle.image_tables.proofs.PartLemmas.{none_at}
use Rattle.std.proofs.lemmas.List.{append-nil}
use Rattle.laws_tree_weights.specs.ImageBytes.{heap_bytes, code_bytes, row_bytes, type_row_bytes, field_row_bytes}
use Rattle.laws_tree_weights.specs.Laws.{HasFewRows}
use Rattle.laws_tree_weights.specs.RowCounts.{HasCounted, HasReferencesCounted}

-- ---- tables one by one

later : (table x : ℕ) (xs : List ℕ) → table ≢ x → Contains (x ∷ xs) table → Contains xs table
later table x xs differs (zero, within, e) = absurd (differs (sym e))
later table x xs differs (suc k, within, e) = (k, omega arith, e)

none_contained : (table : ℕ) → Contains [] table → ⊥
none_contained table (k, within, e) = omega arith

contains_more : (table x : ℕ) (xs : List ℕ) → Contains xs table → Contains (x ∷ xs) table
contains_more table x xs (k, within, e) = (suc k, omega arith, e)

contains_first : (table x : ℕ) (xs : List ℕ) → table ≡ x → Contains (x ∷ xs) table
contains_first table x xs e = (0, omega arith, sym e)

-- what holds of these tables, and of all others, holds of each
module _ (P : ℕ → Type 0) where
  either_way : (tables : List ℕ) → AllByRecursion P tables → (table : ℕ) → P table ⊎ (Contains tables table → ⊥)
  either_way [] h table = inr (none_contained table)
  either_way (x ∷ xs) h table = elim (cases_eq table x) [
    | inl e ↦ inl (subst P (sym e) h.0)
    | inr differs ↦ elim (either_way xs h.1 table) [
      | inl p ↦ inl p
      | inr lacks ↦ inr (λ c. lacks (later table x xs differs c))
    ]
  ]

  each_table : (tables : List ℕ) → AllByRecursion P tables → ((table : ℕ) → (Contains tables table → ⊥) → P table) → (table : ℕ) → P table
  each_table tables h rest table = elim (either_way tables h table) [
    | inl p ↦ p
    | inr lacks ↦ rest table lacks
  ]

abbrev first_of : ℕ × ℕ → ℕ
first_of p = p.0

-- a table that no part has is in the last
no_part : (ps : List (ℕ × ℕ)) (table : ℕ) → (Contains (map first_of ps) table → ⊥) → part_in ps table ≡ 7
no_part [] table lacks = refl
no_part (p ∷ ps) table lacks =
    ap (λ b. cond b p.1 (part_in ps table)) (ne_eqb table p.0 (λ e. lacks (contains_first table p.0 (map first_of ps) e)))
    ∙ no_part ps table (λ c. lacks (contains_more table p.0 (map first_of ps) c))

-- ---- how many rows there are

type_row_bytes_are : (classes : List Class) → type_row_bytes classes
    ≡ 24 * length classes + 8 * sum_by count_interfaces (interfaces_from 2 classes) + 10 * length (class_rows layout_rows classes)
    + 8 * length (class_rows nested_rows classes) + 8 * length (map_rows event_count (length (events_in classes)) 2 1 classes)
    + 8 * length (map_rows property_count (length (properties_in classes)) 2 1 classes)
unfolding type_row_bytes
type_row_bytes_are classes = refl

field_row_bytes_are : (a : Assembly) (classes : List Class) → field_row_bytes a classes
    ≡ 10 * length (all_fields a classes) + 8 * length (flat_map offset_rows (enumerate_from 1 (all_fields a classes)))
    + 8 * length (all_data 1 (all_fields a classes))
unfolding field_row_bytes
field_row_bytes_are a classes = refl

module _ (a : Assembly) (classes : List Class) (r : References) (tables : Tables) (counted : HasCounted a classes tables) (referred : HasReferencesCounted r tables) (few : HasFewRows a classes)
    (enough : heap_bytes a classes + code_bytes a classes + row_bytes a classes + 20000 ≤ weight_of a) (light : weight_of a ≤ 2 ^ 26) (room : size r < 2 ^ 26) where
  abbrev IsFew : ℕ → Type 0
  IsFew table = rows_in tables table < 2 ^ 24

  few_layouts : rows_in tables 0x0F < 2 ^ 24
  few_layouts = let bytes = type_row_bytes_are classes in let count = counted.layouts in omega arith

  few_nested : rows_in tables 0x29 < 2 ^ 24
  few_nested = let bytes = type_row_bytes_are classes in let count = counted.nested in omega arith

  few_event_map : rows_in tables 0x12 < 2 ^ 24
  few_event_map = let bytes = type_row_bytes_are classes in let count = counted.event_map in omega arith

  few_property_map : rows_in tables 0x15 < 2 ^ 24
  few_property_map = let bytes = type_row_bytes_are classes in let count = counted.property_map in omega arith

  few_offsets : rows_in tables 0x10 < 2 ^ 24
  few_offsets = let bytes = field_row_bytes_are a classes in let count = counted.offsets in omega arith

  few_names : rows_in tables 0x01 < 2 ^ 24
  few_names = let is = size_is r in let count = referred.names in omega arith

  few_members : rows_in tables 0x0A < 2 ^ 24
  few_members = let is = size_is r in let count = referred.members in omega arith

  few_locals : rows_in tables 0x11 < 2 ^ 24
  few_locals = let is = size_is r in let count = referred.locals in omega arith

  few_specs : rows_in tables 0x1B < 2 ^ 24
  few_specs = let is = size_is r in let count = referred.specs in omega arith

  few_instances : rows_in tables 0x2B < 2 ^ 24
  few_instances = let is = size_is r in let count = referred.instances in omega arith

  -- with as many items or fewer
  fewer : (rows items : ℕ) → rows ≤ items → items < 2 ^ 23 → rows < 2 ^ 24
  fewer rows items le small = omega arith

  few_types : rows_in tables 0x02 < 2 ^ 24
  few_types = let count = counted.types in let n = few.classes_few in omega arith

  few_rows : ((table : ℕ) → (Contains written_tables table → ⊥) → rows_of tables table ≡ []) → (table : ℕ) → rows_in tables table < 2 ^ 24
  few_rows none = each_table IsFew written_tables (
    fewer _ 1 counted.module_rows (omega arith),
    (
      few_names,
      (
        few_types,
        (
          fewer _ _ counted.fields few.fields,
          (
            fewer _ _ counted.methods few.methods,
            (
              fewer _ _ counted.params few.params,
              (
                fewer _ _ counted.interfaces few.interfaces,
                (
                  few_members,
                  (
                    fewer _ _ counted.constants few.constants,
                    (
                      fewer _ _ counted.attributes few.attributes,
                      (
                        few_layouts,
                        (
                          few_offsets,
                          (
                            few_locals,
                            (
                              few_event_map,
                              (
                                fewer _ _ counted.events few.events,
                                (
                                  few_property_map,
                                  (
                                    fewer _ _ counted.properties few.properties,
                                    (
                                      fewer _ _ counted.accessors few.accessors,
                                      (
                                        fewer _ _ counted.overrides few.overrides,
                                        (
                                          few_specs,
                                          (
                                            fewer _ _ counted.contents few.contents,
                                            (
                                              fewer _ 1 counted.assembly_rows (omega arith),
                                              (
                                                fewer _ _ counted.externs few.externs,
                                                (
                                                  few_nested,
                                                  (
                                                    fewer _ _ counted.generics few.generics,
                                                    (few_instances, (fewer _ _ counted.bounds few.bounds, tt)),
                                                  ),
                                                ),
                                              ),
                                            ),
                                          ),
                                        ),
                                      ),
                                    ),
                                  ),
                                ),
                              ),
                            ),
                          ),
                        ),
                      ),
                    ),
                  ),
                ),
              ),
            ),
          ),
        ),
      ),
    ),
  )
      (λ table lacks. let no_rows = ap (length {A = List ℕ}) (none table lacks) in omega arith)

-- ---- with the rows of references

pub references_lacking : (t : Tables) → LacksFrom 6 t → LacksReferences t
references_lacking t lacks = record {
  names = none_at 6 0x01 6 t lacks refl (omega arith);
  members = none_at 6 0x0A 6 t lacks refl (omega arith);
  locals = none_at 6 0x11 6 t lacks refl (omega arith);
  specs = none_at 6 0x1B 6 t lacks refl (omega arith);
  instances = none_at 6 0x2B 6 t lacks refl (omega arith);
}

-- the tables of other parts are kept
kept_part : (part : ℕ) (t u : Tables) → part ≢ 6 → KeepsOthers t u → KeepsPart part t u
kept_part part t u differs keeps table here =
    keeps table (λ e. differs (sym here ∙ ap part_of e)) (λ e. differs (sym here ∙ ap part_of e)) (λ e. differs (sym here ∙ ap part_of e))
    (λ e. differs (sym here ∙ ap part_of e)) (λ e. differs (sym here ∙ ap part_of e))

-- a table that isn't written
not_this : (table x : ℕ) → (Contains written_tables table → ⊥) → Contains written_tables x → table ≢ x
not_this table x lacks has e = lacks (subst (λ (n : ℕ). Contains written_tables n) (sym e) has)

others_none : (t u : Tables) → LacksFrom 6 t → KeepsOthers t u → (table : ℕ) → (Contains written_tables table → ⊥) → rows_of u table ≡ []
others_none t u lacks keeps table unwritten =
    keeps table (not_this table 0x01 unwritten (1, omega arith, refl)) (not_this table 0x0A unwritten (7, omega arith, refl)) (not_this table 0x11 unwritten (12, omega arith, refl))
    (not_this table 0x1B unwritten (19, omega arith, refl)) (not_this table 0x2B unwritten (25, omega arith, refl))
    ∙ none_at 6 table 7 t lacks (no_part table_parts table unwritten) (omega arith)

module _ (a : Assembly) (classes : List Class) (r : References) (t u : Tables) (code : List ℕ) (full : IsFull a classes r t code) (references : HoldsReferences r u) (keeps : KeepsOthers t u) where
  pub manifest_holds : HoldsManifest a r u
  manifest_holds = manifest_later a r r t u (grows_refl r) (kept_part 0 t u (λ e. absurd (omega arith)) keeps) full.manifest

  pub types_hold : HoldsTypes a classes r u
  types_hold = types_later a r r t u (grows_refl r) classes (kept_part 2 t u (λ e. absurd (omega arith)) keeps) full.types

  pub fields_hold : HoldsFields a classes r u code
  fields_hold = fields_later a r r t u (grows_refl r) classes code (kept_part 3 t u (λ e. absurd (omega arith)) keeps) full.fields

  pub methods_hold : HoldsMethods a classes r u code
  methods_hold = subst (λ (c : List ℕ). HoldsMethods a classes r u c) (append-nil code)
      (methods_later a r r t u (grows_refl r) classes code [] (kept_part 1 t u (λ e. absurd (omega arith)) keeps) full.methods)

  pub properties_hold : HoldsProperties a classes r u
  properties_hold = properties_later a r r t u (grows_refl r) classes (kept_part 4 t u (λ e. absurd (omega arith)) keeps) full.properties

  pub owned_hold : HoldsOwned a classes r u
  owned_hold = owned_later a r r t u (grows_refl r) classes (kept_part 5 t u (λ e. absurd (omega arith)) keeps) full.owned

  pub whole_filled : AreClasses 0 2 a.types classes → HasCounted a classes u → HasReferencesCounted r u → heap_bytes a classes + code_bytes a classes + row_bytes a classes + 20000 ≤ weight_of a
      → weight_of a ≤ 2 ^ 26 → size r < 2 ^ 26 → IsFilled a classes r u code
  whole_filled are counted referred enough light room = record {
    classes_are = are;
    known = full.known;
    declared = full.declared;
    few = few_rows a classes r u counted referred full.few enough light room (others_none t u full.lacks keeps);
    others = others_none t u full.lacks keeps;
    references = references;
    manifest = manifest_holds;
    types = types_hold;
    fields = fields_hold;
    methods = methods_hold;
    properties = properties_hold;
    owned = owned_hold;
  }
