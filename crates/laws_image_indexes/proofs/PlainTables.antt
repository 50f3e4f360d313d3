-- Tables whose rows have texts, blobs, signatures, runs and types alone.
use Rattle.std.proofs.Common.{◌≡◌, ◌⊎◌, inl, inr, refl, sym, ◌∙◌, ap, subst, ℕ, zero, suc, ◌+◌, ◌-◌, ◌^◌, ◌<◌, ◌≤◌, List, [], ◌∷◌, ◌++◌, map, length, Option, Some, None, arith}
use Rattle.std.specs.List.{AllByRecursion, AllZip, flat_map}
use Rattle.std.proofs.lemmas.List.{length-append, length-map}
use Rattle.std.proofs.lemmas.List.Concat.{flat_map-cons}
use Rattle.assembly_tree.specs.declared.assembly.Assembly.{Assembly}
use Rattle.assembly_tree.specs.declared.assembly.ExternAssembly.{ExternAssembly}
use Rattle.assembly_tree.specs.declared.assembly.Manifest.{Manifest}
use Rattle.assembly_tree.specs.declared.members.Event.{Event}
use Rattle.assembly_tree.specs.declared.members.Field.{Field}
use Rattle.assembly_tree.specs.declared.members.Method.{Method}
use Rattle.assembly_tree.specs.declared.members.Param.{Param}
use Rattle.assembly_tree.specs.declared.members.Property.{Property}
use Rattle.metadata_tables.specs.Encoding.{rows_of, rows_in}
use Rattle.metadata_tables.specs.Indexes.{run_cell}
use Rattle.metadata_tables.specs.Schema.{schema, columns_of}
use Rattle.metadata_tables.specs.declared.coded.Coded.TheVariants.{TypeDefOrRef}
use Rattle.sig_codec.specs.Signature.{SpellsField, SpellsMethod, SpellsProperty}
use Rattle.type_terms.specs.declared.term.Owner.{Owner}
use Rattle.laws_image_indexes.specs.Laws.{HasPlainIndexes, FilledHasPlainIndexes}
use Rattle.laws_image_indexes.proofs.EntryLemmas.{text_in, blob_in, signature_in}
use Rattle.laws_image_indexes.proofs.TableLemmas.{zip_all, zip_known, zip_long, leads}
use Rattle.laws_image_indexes.proofs.TokenLemmas.{Leads, Counted, token_index, owner_there}
use Rattle.image_layout.specs.Indexes.{BeginsRun, AreIndexesIn}
use Rattle.image_tokens.specs.Indexes.{index_of_token}
use Rattle.image_tokens.specs.References.{tokens_of, AreKnown}
use Rattle.image_tokens.specs.declared.references.References.{References}
use Rattle.image_tokens.specs.declared.row_set.Cells.{Cells}
use Rattle.image_members.specs.Declaring.{places, class_place, HoldsPlace}
use Rattle.image_members.specs.DeclaredMembers.{owned, class_fields, class_methods, IsMethodOf}
use Rattle.image_rows.specs.EventRows.{IsEventRow}
use Rattle.image_rows.specs.FieldRows.{IsFieldRow}
use Rattle.image_rows.specs.Filled.{IsFilled, HoldsTypeRows, first_cell, two_cells, three_cells}
use Rattle.image_members.specs.Lists.{params_in, properties_in, events_in}
use Rattle.image_members.specs.ManifestRows.{IsModuleRow, IsAssemblyRow, IsExternRow}
use Rattle.image_rows.specs.MethodRows.{PlacedMethod, placed_methods, IsMethodRow}
use Rattle.image_rows.specs.ParamRows.{IsParamRow}
use Rattle.image_members.specs.Places.{all_fields, all_methods, params_of}
use Rattle.image_rows.specs.PropertyRows.{IsPropertyRow}
use Rattle.image_members.specs.Pushing.{Tables}
use Rattle.image_members.specs.TypeIndexes.{IsTypeIndex}
use Rattle.image_rows.specs.TypeRows.{Numbered, numbered, base_of, IsBase, IsModuleType, IsTypeDefRow}
use Rattle.image_members.specs.declared.classes.Class.{Class}

-- ---- rows without runs

module _ (r : References) (tables : Tables) where
  abbrev In : ℕ → List ℕ → Type 0
  In table cells = AreIndexesIn r tables (columns_of table) cells

  pub module_in : (cells : List ℕ) (m : Manifest) → IsModuleRow r cells m → In 0x00 cells
  unfolding schema
  module_in cells m h = subst (In 0x00) (sym h.are) (tt, (text_in r m.module h.name h.name_is, (omega arith, (omega arith, (omega arith, tt)))))

  pub field_in : (cells : List ℕ) (f : Field) → IsFieldRow r cells f → In 0x04 cells
  unfolding schema
  field_in cells f h = subst (In 0x04) (sym h.are) (tt, (text_in r f.name h.name h.name_is, (signature_in r SpellsField f.of h.signature h.signature_is, tt)))

  pub param_in : (cells : List ℕ) (p : Param) → IsParamRow r cells p → In 0x08 cells
  unfolding schema
  param_in cells p h = subst (In 0x08) (sym h.are) (tt, (tt, (text_in r p.name h.name h.name_is, tt)))

  pub property_in : (cells : List ℕ) (p : Property) → IsPropertyRow r cells p → In 0x17 cells
  unfolding schema
  property_in cells p h = subst (In 0x17) (sym h.are) (tt, (text_in r p.name h.name h.name_is, (signature_in r SpellsProperty p.sig h.signature h.signature_is, tt)))

  pub assembly_in : (cells : List ℕ) (m : Manifest) → IsAssemblyRow r cells m → In 0x20 cells
  unfolding schema
  assembly_in cells m h =
      subst (In 0x20) (sym h.are)
      (tt, (tt, (tt, (tt, (tt, (tt, (blob_in r m.key h.key h.key_is, (text_in r m.name h.name h.name_is, (text_in r m.culture h.culture h.culture_is, tt)))))))))

  pub extern_in : (cells : List ℕ) (e : ExternAssembly) → IsExternRow r cells e → In 0x23 cells
  unfolding schema
  extern_in cells e h =
      subst (In 0x23) (sym h.are)
      (tt, (tt, (tt, (tt, (tt, (blob_in r e.key h.key h.key_is, (text_in r e.name h.name h.name_is, (text_in r e.culture h.culture h.culture_is, (blob_in r e.hash h.hash h.hash_is, tt)))))))))

  -- a run that begins in a table, or behind its last row
  pub begins : (table count row : ℕ) → count ≡ rows_in tables table → row ≤ count + 1 → BeginsRun tables table (run_cell count row)
  begins table count row e le = record { row = row; is = ap (λ n. run_cell n row) e; there = subst (λ n. row ≤ n + 1) e le }

  -- ---- rows with types

  module _ (known : AreKnown r) (counted : Counted r tables) where
    pub type_in : (o : Owner) (index : ℕ) → IsTypeIndex o r index → Leads TypeDefOrRef tables index
    type_in o index h = subst (Leads TypeDefOrRef tables) (sym h.2) (token_index TypeDefOrRef tables h.0 (owner_there r tables known counted o h.0 h.1))

    base_in : (o : Option Owner) (index : ℕ) → IsBase r o index → Leads TypeDefOrRef tables index
    base_in None index h = inl h
    base_in (Some o) index h = type_in o index h

    pub event_in : (cells : List ℕ) (e : Event) → IsEventRow r cells e → In 0x14 cells
    unfolding schema
    event_in cells e h = subst (In 0x14) (sym h.are) (tt, (text_in r e.name h.name h.name_is, (type_in e.of h.type h.type_is, tt)))

    module _ (fields methods : ℕ) (fields_are : fields ≡ rows_in tables 0x04) (methods_are : methods ≡ rows_in tables 0x06) where
      pub module_type_in : (cells : List ℕ) → IsModuleType fields methods r cells → In 0x02 cells
      unfolding schema
      module_type_in cells h =
          subst (In 0x02) (sym h.are)
          (tt, (text_in r _ h.name h.id_is.name_is, (text_in r _ h.space h.id_is.space_is, (inl refl, (begins 0x04 fields 1 fields_are (omega arith), (begins 0x06 methods 1 methods_are (omega arith), tt))))))

      pub type_row_in : (cells : List ℕ) (n : Numbered) → IsTypeDefRow fields methods r cells n → (n.field ≤ fields + 1) × (n.method ≤ methods + 1) → In 0x02 cells
      unfolding schema
      type_row_in cells n h k =
          subst (In 0x02) (sym h.are) (
            tt,
            (
              text_in r _ h.name h.id_is.name_is,
              (
                text_in r _ h.space h.id_is.space_is,
                (
                  base_in (base_of n.class) h.base h.base_is,
                  (begins 0x04 fields n.field fields_are k.0, (begins 0x06 methods n.method methods_are k.1, tt)),
                ),
              ),
            ),
          )

    pub method_in : (params : ℕ) → params ≡ rows_in tables 0x08 → (cells : List ℕ) (p : PlacedMethod) → IsMethodRow params r cells p → p.param ≤ params + 1 → In 0x06 cells
    unfolding schema
    method_in params params_are cells p h k =
        subst (In 0x06) (sym h.are)
        (tt, (tt, (tt, (text_in r p.method.name h.name h.name_is, (signature_in r SpellsMethod p.method.sig h.signature h.signature_is, (begins 0x08 params p.param params_are k, tt))))))

-- ---- where runs begin

types_begin : (classes : List Class) (f m fields methods : ℕ) → f + length (flat_map class_fields classes) ≤ fields + 1 → m + length (flat_map class_methods classes) ≤ methods + 1
    → AllByRecursion (λ n. (n.field ≤ fields + 1) × (n.method ≤ methods + 1)) (numbered f m classes)
types_begin [] f m fields methods p q = tt
types_begin (c ∷ cs) f m fields methods p q =
    let own = ap length (flat_map-cons class_fields c cs) ∙ length-append (class_fields c) (flat_map class_fields cs) in
    let also = ap length (flat_map-cons class_methods c cs) ∙ length-append (class_methods c) (flat_map class_methods cs) in
    ((omega arith, omega arith), types_begin cs (f + length (class_fields c)) (m + length (class_methods c)) fields methods (omega arith) (omega arith))

numbered_long : (classes : List Class) (f m : ℕ) → length (numbered f m classes) ≡ length classes
numbered_long [] f m = refl
numbered_long (c ∷ cs) f m = ap suc (numbered_long cs (f + length (class_fields c)) (m + length (class_methods c)))

params_begin : (methods : List Method) (rvas : List ℕ) (p params : ℕ) → p + length (flat_map params_of methods) ≤ params + 1
    → AllByRecursion (λ m. m.param ≤ params + 1) (placed_methods p rvas methods)
params_begin [] rvas p params h = tt
params_begin (m ∷ ms) [] p params h = tt
params_begin (m ∷ ms) (rva ∷ rvas) p params h =
    let own = ap length (flat_map-cons params_of m ms) ∙ length-append (params_of m) (flat_map params_of ms) in
    (omega arith, params_begin ms rvas (p + length m.params) params (omega arith))

placed_long : (methods : List Method) (rvas : List ℕ) (p : ℕ) → length rvas ≡ length methods → length (placed_methods p rvas methods) ≡ length methods
placed_long [] rvas p e = refl
placed_long (m ∷ ms) [] p e = absurd (omega arith)
placed_long (m ∷ ms) (rva ∷ rvas) p e = ap suc (placed_long ms rvas (p + length m.params) (omega arith))

-- methods stand in the order of their types
owned_long : (row : ℕ) (classes : List Class) → length (owned row (map class_methods classes)) ≡ length (flat_map class_methods classes)
owned_long row [] = refl
owned_long row (c ∷ cs) =
    let own = ap length (flat_map-cons class_methods c cs) ∙ length-append (class_methods c) (flat_map class_methods cs) in
    let first = length-append (map (λ (m : Method). (row, m)) (class_methods c)) (owned (row + 1) (map class_methods cs)) in
    let same : length {A = ℕ × Method} (map (λ (m : Method). (row, m)) (class_methods c)) ≡ length (class_methods c) = length-map (class_methods c) (λ (m : Method). (row, m)) in
    let rest = owned_long (row + 1) cs in
    omega arith

owned_all : (a : Assembly) (classes : List Class) → length (owned 1 (a.methods ∷ map class_methods classes)) ≡ length (all_methods a classes)
owned_all a classes =
    let first = length-append (map (λ (m : Method). (1, m)) a.methods) (owned 2 (map class_methods classes)) in
    let same : length {A = ℕ × Method} (map (λ (m : Method). (1, m)) a.methods) ≡ length a.methods = length-map a.methods (λ (m : Method). (1, m)) in
    let rest = owned_long 2 classes in
    let all = length-append a.methods (flat_map class_methods classes) in
    omega arith

-- ---- a filled image

module _ (a : Assembly) (classes : List Class) (r : References) (tables : Tables) (code : List ℕ) (h : IsFilled a classes r tables code) where
  pub fields_count : length (all_fields a classes) ≡ rows_in tables 0x04
  fields_count = sym (zip_long (IsFieldRow r) (rows_of tables 0x04) (all_fields a classes) h.fields.fields)

  pub params_count : length (params_in a classes) ≡ rows_in tables 0x08
  params_count = sym (zip_long (IsParamRow r) (rows_of tables 0x08) (params_in a classes) h.methods.params)

  pub methods_count : length (all_methods a classes) ≡ rows_in tables 0x06
  methods_count =
      let placed = zip_long (IsMethodRow (length (params_in a classes)) r) (rows_of tables 0x06) (placed_methods 1 h.methods.rvas (all_methods a classes)) h.methods.methods in
      let bodies = zip_long _ h.methods.rvas _ h.methods.bodies ∙ length-map (all_methods a classes) _ in
      sym (placed ∙ placed_long (all_methods a classes) h.methods.rvas 1 bodies)

  pub classes_count : rows_in tables 0x02 ≡ suc (length classes)
  classes_count =
      let t = h.types.types in
      ap length t.are ∙ ap suc (zip_long _ t.rows (numbered (1 + length a.fields) (1 + length a.methods) classes) t.each ∙ numbered_long classes (1 + length a.fields) (1 + length a.methods))

  pub counted : Counted r tables
  counted = record {
    types = zip_long (HoldsPlace r.heaps.strings) r.declared.types (places classes) h.declared.types ∙ ap suc (length-map classes class_place) ∙ sym classes_count;
    names = sym (ap length h.references.names ∙ length-map r.referred.names three_cells);
    specs = sym (ap length h.references.specs ∙ length-map r.referred.specs first_cell);
    methods = zip_long (IsMethodOf r) r.declared.methods (owned 1 (a.methods ∷ map class_methods classes)) h.declared.methods ∙ owned_all a classes ∙ methods_count;
    members = sym (ap length h.references.members ∙ length-map r.referred.members three_cells);
    instances = sym (ap length h.references.instances ∙ length-map r.referred.instances two_cells);
  }

  all_types : AllByRecursion (AreIndexesIn r tables (columns_of 0x02)) (rows_of tables 0x02)
  all_types =
      let t = h.types.types in
      let fields = length (all_fields a classes) in
      let methods = length (all_methods a classes) in
      let own = length-append a.fields (flat_map class_fields classes) in
      let also = length-append a.methods (flat_map class_methods classes) in
      subst (AllByRecursion (AreIndexesIn r tables (columns_of 0x02))) (sym t.are) (
        module_type_in r tables h.known counted fields methods fields_count methods_count t.module_cells t.module_is,
        zip_known (IsTypeDefRow fields methods r) (λ n. (n.field ≤ fields + 1) × (n.method ≤ methods + 1)) (AreIndexesIn r tables (columns_of 0x02)) t.rows
            (numbered (1 + length a.fields) (1 + length a.methods) classes) (λ cells n row k. type_row_in r tables h.known counted fields methods fields_count methods_count cells n row k) t.each
            (types_begin classes (1 + length a.fields) (1 + length a.methods) fields methods (omega arith) (omega arith)),
      )

  all_methods_in : AllByRecursion (AreIndexesIn r tables (columns_of 0x06)) (rows_of tables 0x06)
  all_methods_in =
      let params = length (params_in a classes) in
      zip_known (IsMethodRow params r) (λ m. m.param ≤ params + 1) (AreIndexesIn r tables (columns_of 0x06)) (rows_of tables 0x06)
      (placed_methods 1 h.methods.rvas (all_methods a classes)) (λ cells p row k. method_in r tables h.known counted params params_count cells p row k) h.methods.methods
      (params_begin (all_methods a classes) h.methods.rvas 1 params (omega arith))

  pub plain : HasPlainIndexes r tables
  plain = record {
    module_row = leads r tables 0x00 (zip_all (IsModuleRow r) (AreIndexesIn r tables (columns_of 0x00)) (rows_of tables 0x00) (a.manifest ∷ []) (module_in r tables) h.manifest.module_row);
    types = leads r tables 0x02 all_types;
    fields = leads r tables 0x04 (zip_all (IsFieldRow r) (AreIndexesIn r tables (columns_of 0x04)) (rows_of tables 0x04) (all_fields a classes) (field_in r tables) h.fields.fields);
    methods = leads r tables 0x06 all_methods_in;
    params = leads r tables 0x08 (zip_all (IsParamRow r) (AreIndexesIn r tables (columns_of 0x08)) (rows_of tables 0x08) (params_in a classes) (param_in r tables) h.methods.params);
    events = leads r tables 0x14
        (zip_all (IsEventRow r) (AreIndexesIn r tables (columns_of 0x14)) (rows_of tables 0x14) (events_in classes) (event_in r tables h.known counted) h.properties.events);
    properties = leads r tables 0x17
        (zip_all (IsPropertyRow r) (AreIndexesIn r tables (columns_of 0x17)) (rows_of tables 0x17) (properties_in classes) (property_in r tables) h.properties.properties);
    assembly = leads r tables 0x20 (zip_all (IsAssemblyRow r) (AreIndexesIn r tables (columns_of 0x20)) (rows_of tables 0x20) (a.manifest ∷ []) (assembly_in r tables) h.manifest.assembly_row);
    externs = leads r tables 0x23 (zip_all (IsExternRow r) (AreIndexesIn r tables (columns_of 0x23)) (rows_of tables 0x23) a.externs (extern_in r tables) h.manifest.externs);
  }
