-- The rows of modules, types, fields, methods, parameters, events, properties, assemblies and externs.
use Rattle.std.proofs.Common.{◌≡◌, ◌⊎◌, inl, inr, refl, sym, subst, ℕ, ◌+◌, ◌<◌, true, false, List, [], ◌∷◌, length, Option, Some, None, arith}
use Rattle.std.specs.List.{AllByRecursion}
use Rattle.assembly_tree.specs.declared.assembly.Assembly.{Assembly}
use Rattle.assembly_tree.specs.declared.assembly.ExternAssembly.{ExternAssembly}
use Rattle.assembly_tree.specs.declared.assembly.Manifest.{Manifest}
use Rattle.assembly_tree.specs.declared.members.Event.{Event}
use Rattle.assembly_tree.specs.declared.members.Field.{Field}
use Rattle.assembly_tree.specs.declared.members.Generic.{Generic}
use Rattle.assembly_tree.specs.declared.members.Method.{Method}
use Rattle.assembly_tree.specs.declared.members.Param.{Param}
use Rattle.assembly_tree.specs.declared.members.Property.{Property}
use Rattle.metadata_tables.specs.Encoding.{rows_of, rows_in}
use Rattle.metadata_tables.specs.Schema.{schema, columns_of}
use Rattle.metadata_tables.specs.declared.coded.Coded.TheVariants.{TypeDefOrRef}
use Rattle.sig_codec.specs.Signature.{SpellsField, SpellsMethod, SpellsProperty}
use Rattle.type_terms.specs.declared.term.Owner.{Owner}
use Rattle.laws_image_indexes.proofs.PlainTables.{fields_count, params_count, methods_count}
use Rattle.laws_image_indexes.proofs.TableLemmas.{zip_all, zip_known}
use Rattle.image_tokens.specs.References.{AreKnown}
use Rattle.image_tokens.specs.Rows.{EachRow}
use Rattle.image_tokens.specs.declared.references.References.{References}
use Rattle.image_members.specs.Declaring.{module_id, class_id}
use Rattle.image_members.specs.DeclaredMembers.{class_fields, class_methods}
use Rattle.image_rows.specs.EventRows.{IsEventRow}
use Rattle.image_rows.specs.FieldRows.{IsFieldRow}
use Rattle.image_rows.specs.Filled.{IsFilled}
use Rattle.image_members.specs.Lists.{params_in, properties_in, events_in, generic_items}
use Rattle.image_members.specs.ManifestRows.{IsModuleRow, IsAssemblyRow, IsExternRow}
use Rattle.image_rows.specs.MethodRows.{PlacedMethod, placed_methods, IsMethodRow}
use Rattle.image_rows.specs.ParamRows.{IsParamRow}
use Rattle.image_members.specs.Places.{all_fields, all_methods}
use Rattle.image_rows.specs.PropertyRows.{IsPropertyRow}
use Rattle.image_members.specs.Pushing.{Tables}
use Rattle.image_members.specs.TypeIndexes.{IsTypeIndex}
use Rattle.image_rows.specs.TypeRows.{Numbered, numbered, base_of, IsBase, IsModuleType, IsTypeDefRow}
use Rattle.image_members.specs.declared.classes.Class.{Class}
use Rattle.laws_image_reading.proofs.cells.CellLemmas.{IsTextCell, Points, AreCells, HasCells, each_cell, named, any_text, blob_cell, signature_cell, begins}
use Rattle.laws_image_reading.proofs.cells.TokenRows.{type_points}

-- all names that must not be nil are as asked
pub record AreNamed (Wanted : List ℕ → Type 0) (a : Assembly) (classes : List Class) (r : References) : Type 0 where
  pub module_name : Wanted a.manifest.module
  pub assembly_name : Wanted a.manifest.name
  pub externs : AllByRecursion (λ (e : ExternAssembly). Wanted e.name) a.externs
  pub module_type : Wanted module_id.name
  pub classes_named : AllByRecursion (λ (c : Class). Wanted (class_id c).name) classes
  pub fields : AllByRecursion (λ (f : Field). Wanted f.name) (all_fields a classes)
  pub methods : AllByRecursion (λ (m : Method). Wanted m.name) (all_methods a classes)
  pub properties : AllByRecursion (λ (p : Property). Wanted p.name) (properties_in classes)
  pub events : AllByRecursion (λ (e : Event). Wanted e.name) (events_in classes)
  pub generics : AllByRecursion (λ (g : ℕ × (ℕ × Generic)). Wanted g.1.1.name) (generic_items a classes)
  pub names : EachRow (λ c. IsTextCell Wanted r.heaps.strings.bytes false c.second) r.referred.names
  pub members : EachRow (λ c. IsTextCell Wanted r.heaps.strings.bytes false c.second) r.referred.members

-- ---- rows

module _ (Wanted : List ℕ → Type 0) (r : References) (tables : Tables) where
  abbrev In : ℕ → List ℕ → Type 0
  In table cells = AreCells Wanted r tables (columns_of table) cells

  module_row : (cells : List ℕ) (m : Manifest) → IsModuleRow r cells m → Wanted m.module → In 0x00 cells
  unfolding schema
  module_row cells m h w = subst (In 0x00) (sym h.are) (tt, (named Wanted r tables m.module h.name h.name_is w, (inr refl, (inl (refl, refl), (inl (refl, refl), tt)))))

  field_row : (cells : List ℕ) (f : Field) → IsFieldRow r cells f → Wanted f.name → In 0x04 cells
  unfolding schema
  field_row cells f h w =
      subst (In 0x04) (sym h.are) (tt, (named Wanted r tables f.name h.name h.name_is w, (signature_cell Wanted r tables SpellsField f.of h.signature h.signature_is, tt)))

  param_row : (cells : List ℕ) (p : Param) → IsParamRow r cells p → In 0x08 cells
  unfolding schema
  param_row cells p h = subst (In 0x08) (sym h.are) (tt, (tt, (any_text Wanted r tables p.name h.name h.name_is, tt)))

  property_row : (cells : List ℕ) (p : Property) → IsPropertyRow r cells p → Wanted p.name → In 0x17 cells
  unfolding schema
  property_row cells p h w =
      subst (In 0x17) (sym h.are) (tt, (named Wanted r tables p.name h.name h.name_is w, (signature_cell Wanted r tables SpellsProperty p.sig h.signature h.signature_is, tt)))

  assembly_row : (cells : List ℕ) (m : Manifest) → IsAssemblyRow r cells m → Wanted m.name → In 0x20 cells
  unfolding schema
  assembly_row cells m h w =
      subst (In 0x20) (sym h.are) (
        tt,
        (
          tt,
          (
            tt,
            (
              tt,
              (tt, (tt, (blob_cell Wanted r tables m.key h.key h.key_is, (named Wanted r tables m.name h.name h.name_is w, (any_text Wanted r tables m.culture h.culture h.culture_is, tt))))),
            ),
          ),
        ),
      )

  extern_row : (cells : List ℕ) (e : ExternAssembly) → IsExternRow r cells e → Wanted e.name → In 0x23 cells
  unfolding schema
  extern_row cells e h w =
      subst (In 0x23) (sym h.are) (
        tt,
        (
          tt,
          (
            tt,
            (
              tt,
              (
                tt,
                (
                  blob_cell Wanted r tables e.key h.key h.key_is,
                  (named Wanted r tables e.name h.name h.name_is w, (any_text Wanted r tables e.culture h.culture h.culture_is, (blob_cell Wanted r tables e.hash h.hash h.hash_is, tt))),
                ),
              ),
            ),
          ),
        ),
      )

  method_row : (params : ℕ) → params ≡ rows_in tables 0x08 → (cells : List ℕ) (p : PlacedMethod) → IsMethodRow params r cells p → (0 < p.param) × Wanted p.method.name → In 0x06 cells
  unfolding schema
  method_row params params_are cells p h k =
      subst (In 0x06) (sym h.are) (
        tt,
        (
          tt,
          (
            tt,
            (
              named Wanted r tables p.method.name h.name h.name_is k.1,
              (signature_cell Wanted r tables SpellsMethod p.method.sig h.signature h.signature_is, (begins Wanted r tables 0x08 params p.param params_are k.0, tt)),
            ),
          ),
        ),
      )

  module _ (known : AreKnown r) where
    pub type_cell : (o : Owner) (index : ℕ) → IsTypeIndex o r index → Points TypeDefOrRef index
    type_cell o index h = type_points r known o h.0 index h.1 h.2

    base_cell : (o : Option Owner) (index : ℕ) → IsBase r o index → ((true ≡ true) × (index ≡ 0)) ⊎ Points TypeDefOrRef index
    base_cell None index h = inl (refl, h)
    base_cell (Some o) index h = inr (type_cell o index h)

    event_row : (cells : List ℕ) (e : Event) → IsEventRow r cells e → Wanted e.name → In 0x14 cells
    unfolding schema
    event_row cells e h w = subst (In 0x14) (sym h.are) (tt, (named Wanted r tables e.name h.name h.name_is w, (inr (type_cell e.of h.type h.type_is), tt)))

    module _ (fields methods : ℕ) (fields_are : fields ≡ rows_in tables 0x04) (methods_are : methods ≡ rows_in tables 0x06) where
      module_type_row : (cells : List ℕ) → IsModuleType fields methods r cells → Wanted module_id.name → In 0x02 cells
      unfolding schema
      module_type_row cells h w =
          subst (In 0x02) (sym h.are) (
            tt,
            (
              named Wanted r tables module_id.name h.name h.id_is.name_is w,
              (
                any_text Wanted r tables module_id.space h.space h.id_is.space_is,
                (inl (refl, refl), (begins Wanted r tables 0x04 fields 1 fields_are (omega arith), (begins Wanted r tables 0x06 methods 1 methods_are (omega arith), tt))),
              ),
            ),
          )

      type_row : (cells : List ℕ) (n : Numbered) → IsTypeDefRow fields methods r cells n → ((0 < n.field) × (0 < n.method)) × Wanted (class_id n.class).name → In 0x02 cells
      unfolding schema
      type_row cells n h k =
          subst (In 0x02) (sym h.are) (
            tt,
            (
              named Wanted r tables (class_id n.class).name h.name h.id_is.name_is k.1,
              (
                any_text Wanted r tables (class_id n.class).space h.space h.id_is.space_is,
                (
                  base_cell (base_of n.class) h.base h.base_is,
                  (begins Wanted r tables 0x04 fields n.field fields_are k.0.0, (begins Wanted r tables 0x06 methods n.method methods_are k.0.1, tt)),
                ),
              ),
            ),
          )

-- ---- where runs begin

types_begin : (Wanted : List ℕ → Type 0) (classes : List Class) (f m : ℕ) → 0 < f → 0 < m → AllByRecursion (λ (c : Class). Wanted (class_id c).name) classes
    → AllByRecursion (λ n. ((0 < n.field) × (0 < n.method)) × Wanted (class_id n.class).name) (numbered f m classes)
types_begin Wanted [] f m p q h = tt
types_begin Wanted (c ∷ cs) f m p q h = (((p, q), h.0), types_begin Wanted cs (f + length (class_fields c)) (m + length (class_methods c)) (omega arith) (omega arith) h.1)

params_begin : (Wanted : List ℕ → Type 0) (methods : List Method) (rvas : List ℕ) (p : ℕ) → 0 < p → AllByRecursion (λ (m : Method). Wanted m.name) methods
    → AllByRecursion (λ m. (0 < m.param) × Wanted m.method.name) (placed_methods p rvas methods)
params_begin Wanted [] rvas p some h = tt
params_begin Wanted (m ∷ ms) [] p some h = tt
params_begin Wanted (m ∷ ms) (rva ∷ rvas) p some h = ((some, h.0), params_begin Wanted ms rvas (p + length m.params) (omega arith) h.1)

-- ---- tables

module _ (Wanted : List ℕ → Type 0) (a : Assembly) (classes : List Class) (r : References) (tables : Tables) (code : List ℕ) (h : IsFilled a classes r tables code)
    (n : AreNamed Wanted a classes r) where
  abbrev Has : ℕ → Type 0
  Has table = HasCells Wanted r tables table

  abbrev Each : ℕ → List ℕ → Type 0
  Each table cells = AreCells Wanted r tables (columns_of table) cells

  pub modules : Has 0x00
  modules = each_cell Wanted r tables 0x00
      (zip_known (IsModuleRow r) (λ m. Wanted m.module) (Each 0x00) (rows_of tables 0x00) (a.manifest ∷ []) (module_row Wanted r tables) h.manifest.module_row (n.module_name, tt))

  pub types : Has 0x02
  types =
      let t = h.types.types in
      let fields = length (all_fields a classes) in
      let methods = length (all_methods a classes) in
      let fields_are = fields_count a classes r tables code h in
      let methods_are = methods_count a classes r tables code h in
      let all : AllByRecursion (Each 0x02) (t.module_cells ∷ t.rows) = (
        module_type_row Wanted r tables h.known fields methods fields_are methods_are t.module_cells t.module_is n.module_type,
        zip_known (IsTypeDefRow fields methods r) (λ x. ((0 < x.field) × (0 < x.method)) × Wanted (class_id x.class).name) (Each 0x02) t.rows
            (numbered (1 + length a.fields) (1 + length a.methods) classes) (λ cells x row k. type_row Wanted r tables h.known fields methods fields_are methods_are cells x row k) t.each
            (types_begin Wanted classes (1 + length a.fields) (1 + length a.methods) (omega arith) (omega arith) n.classes_named),
      ) in
      each_cell Wanted r tables 0x02 (subst (AllByRecursion (Each 0x02)) (sym t.are) all)

  pub fields : Has 0x04
  fields = each_cell Wanted r tables 0x04
      (zip_known (IsFieldRow r) (λ f. Wanted f.name) (Each 0x04) (rows_of tables 0x04) (all_fields a classes) (field_row Wanted r tables) h.fields.fields n.fields)

  pub methods : Has 0x06
  methods =
      let params = length (params_in a classes) in
      let params_are = params_count a classes r tables code h in
      each_cell Wanted r tables 0x06
      (zip_known (IsMethodRow params r) (λ m. (0 < m.param) × Wanted m.method.name) (Each 0x06) (rows_of tables 0x06) (placed_methods 1 h.methods.rvas (all_methods a classes))
      (method_row Wanted r tables params params_are) h.methods.methods (params_begin Wanted (all_methods a classes) h.methods.rvas 1 (omega arith) n.methods))

  pub params : Has 0x08
  params = each_cell Wanted r tables 0x08 (zip_all (IsParamRow r) (Each 0x08) (rows_of tables 0x08) (params_in a classes) (param_row Wanted r tables) h.methods.params)

  pub events : Has 0x14
  events = each_cell Wanted r tables 0x14
      (zip_known (IsEventRow r) (λ e. Wanted e.name) (Each 0x14) (rows_of tables 0x14) (events_in classes) (event_row Wanted r tables h.known) h.properties.events n.events)

  pub properties : Has 0x17
  properties = each_cell Wanted r tables 0x17
      (zip_known (IsPropertyRow r) (λ p. Wanted p.name) (Each 0x17) (rows_of tables 0x17) (properties_in classes) (property_row Wanted r tables) h.properties.properties n.properties)

  pub assemblies : Has 0x20
  assemblies = each_cell Wanted r tables 0x20
      (zip_known (IsAssemblyRow r) (λ m. Wanted m.name) (Each 0x20) (rows_of tables 0x20) (a.manifest ∷ []) (assembly_row Wanted r tables) h.manifest.assembly_row (n.assembly_name, tt))

  pub externs : Has 0x23
  externs = each_cell Wanted r tables 0x23
      (zip_known (IsExternRow r) (λ e. Wanted e.name) (Each 0x23) (rows_of tables 0x23) a.externs (extern_row Wanted r tables) h.manifest.externs n.externs)
