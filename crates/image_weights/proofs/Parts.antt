-- What a row weighs tells what the part of the assembly weighs that it gives.
use Rattle.std.proofs.Common.{◌≡◌, ℕ, ◌+◌, ◌*◌, ◌<◌, inl, inr, Bool, true, false, cond, nat_eq, List, [], ◌∷◌, length, Option, Some, None, refl, sym, ◌∙◌, ap, subst, arith}
use Rattle.std.specs.Prelude.{sum_by, slice_index}
use Rattle.std.specs.List.{AllZip}
use Rattle.std.specs.Option.{option_map_or}
use Rattle.std.proofs.lemmas.Bool.{cases_eq, eq-eqb, ne_eqb}
use Rattle.heaps.specs.LookUp.{BlobIsComputed}
use Rattle.metadata_tables.specs.Schema.{schema, columns_of}
use Rattle.metadata_tables.specs.Stream.{cell, column_of}
use Rattle.metadata_tables.specs.declared.coded.Coded.{Coded}
use Rattle.metadata_tables.specs.declared.coded.Coded.TheVariants.{TypeDefOrRef, MethodDefOrRef, CustomAttributeType, HasCustomAttribute, HasConstant, HasSemantics, TypeOrMethodDef}
use Rattle.metadata_tables.specs.declared.schema.Column.TheVariants.{Tagged}
use Rattle.type_terms.specs.declared.reference.MethodRef.{MethodRef}
use Rattle.type_terms.specs.declared.term.Owner.{Owner}
use Rattle.type_terms.specs.declared.term.SigType.{SigType}
use Rattle.assembly_tree.specs.Weight.{optional, owner_weight, method_ref_weight, attribute_weight, constant_weight, generic_weight, field_weight, param_weight, property_weight, event_weight, method_weight, extern_weight, manifest_weight}
use Rattle.assembly_tree.specs.declared.assembly.ExternAssembly.{ExternAssembly}
use Rattle.assembly_tree.specs.declared.assembly.Manifest.{Manifest}
use Rattle.assembly_tree.specs.declared.members.Accessor.{Accessor}
use Rattle.assembly_tree.specs.declared.members.Attribute.{Attribute}
use Rattle.assembly_tree.specs.declared.members.Constant.{Constant}
use Rattle.assembly_tree.specs.declared.members.Event.{Event}
use Rattle.assembly_tree.specs.declared.members.Field.{Field}
use Rattle.assembly_tree.specs.declared.members.Generic.{Generic}
use Rattle.assembly_tree.specs.declared.members.Method.{Method}
use Rattle.assembly_tree.specs.declared.members.Param.{Param}
use Rattle.assembly_tree.specs.declared.members.Property.{Property}
use Rattle.body_codec.specs.Names.{NameMap}
use Rattle.image_model.specs.Columns.{attribute_parent, attribute_value, bound_type, bound_parameter, generic_owner, generic_name, constant_parent, constant_type, constant_value, field_name, param_sequence, param_name, method_name, property_name, event_name, override_declaration, semantics_association, assembly_key, assembly_name, assembly_culture, module_name, extern_key, extern_name, extern_culture, extern_hash, offset_of_row}
use Rattle.image_model.specs.Members.{ConstantIs, constants_of, offsets_of, data_of, semantics_of}
use Rattle.image_model.specs.Namings.{AreNamings}
use Rattle.image_model.specs.Reading.{TextIs, BlobIs, IsGiven, OwnerIs, MethodIs, IsAttribute, AttributesAre, IsManifest, IsExtern, IsGeneric, GenericsAre, IsContent, IsField, IsParam, overrides_of, IsMethod, IsAccessor, IsProperty, IsEvent}
use Rattle.image_model.specs.Rows.{HasRow, Names, rows_with, index_of, token_of, params_of}
use Rattle.image_model.specs.Streams.{tables_of, strings_of, blobs_of}
use Rattle.image_model.specs.Terms.{FieldHas}
use Rattle.image_namings.proofs.Indexes.{is_reference, no_reference}
use Rattle.row_parts.proofs.Indexes as index
use Rattle.row_parts.proofs.OwnedRows.{Among, owned_among}
use Rattle.told_weights.specs.Told.{Told, TellWeights}
use Rattle.image_weights.specs.RowWeights.{text, blob, named, owner, first_weight, attribute_row, attributes, constant_row, constants, accessors, bound_row, generic_row, generics, field_row, param_row, override_row, method_row, property_row, event_row, extern_row, manifest_row}
use Rattle.image_weights.proofs.Alike.{Alike, plus, alike, exactly, as_weight, as_told}
use Rattle.image_weights.proofs.Constants.{constant_told}
use Rattle.image_weights.proofs.Interfaces.{all_bounds}
use Rattle.image_weights.proofs.Sums.{zip_sums, zip_lengths, sum_both, sum_same}
use Rattle.image_weights.proofs.TextLengths.{text_at, blob_found}

-- the one that is given weighs what its row does
pub given_weighs : {X : Type 0} (Is : ℕ → X → Type 0) (f : ℕ → ℕ) (g : X → ℕ) (rows : List ℕ) (o : Option X) → IsGiven Is rows o
    → ((r : ℕ) (x : X) → Among r rows → Is r x → Alike (f r) (g x)) → Alike (first_weight f rows) (optional g o)
given_weighs Is f g [] None h each = exactly 0
given_weighs Is f g [] (Some x) h each = absurd h
given_weighs Is f g (r ∷ rows) None h each = absurd h
given_weighs Is f g (r ∷ rows) (Some x) h each = each r x (inl refl) h

module _ (image : List ℕ) (names : NameMap) (told : Told) (namings : AreNamings image names) (tell : TellWeights image told) (computed : BlobIsComputed) where
  pub text_is : (index : ℕ) (t : List ℕ) → TextIs image index t → text image index ≡ length t
  text_is index t h = text_at (strings_of image) index t h

  pub blob_is : (index : ℕ) (b : List ℕ) → BlobIs image index b → blob image index ≡ length b
  blob_is index b h = blob_found computed (blobs_of image) index b h

  -- ---- what cells name

  pub owner_told : (from_table from column : ℕ) (nil : Bool) → is_reference from_table ≡ false → HasRow image from_table from → column < length (columns_of from_table) → column_of from_table column ≡ Tagged TypeDefOrRef nil
      → (o : Owner) → OwnerIs image names (cell (tables_of image) from_table from column) o → Alike (owner told (cell (tables_of image) from_table from column)) (owner_weight o)
  unfolding named
  owner_told from_table from column nil plain there inside coded o h =
      as_told (ap (λ (at : Option (ℕ × ℕ)). option_map_or (λ at. told.owner at.0 at.1) at 0) h.2)
      (record {
        tells = tell.owners names h.0 h.1 o namings (record {
          from_table = from_table;
          from = from;
          no_reference = no_reference from_table plain;
          there = there;
          named = record { column = column; kind = TypeDefOrRef; nil = nil; there = inside; coded = coded; names = h.2 };
        }) h.3;
      })

  pub method_told : (kind : Coded) (from_table from column : ℕ) (nil : Bool) → is_reference from_table ≡ false → HasRow image from_table from → column < length (columns_of from_table) → column_of from_table column ≡ Tagged kind nil
      → (m : MethodRef) (table row : ℕ) → Names kind (cell (tables_of image) from_table from column) table row → names.methods (token_of table row) ≡ Some m
      → Alike (named told.method kind (cell (tables_of image) from_table from column)) (method_ref_weight m)
  unfolding named
  method_told kind from_table from column nil plain there inside coded m table row n is =
      as_told (ap (λ (at : Option (ℕ × ℕ)). option_map_or (λ at. told.method at.0 at.1) at 0) n)
      (record {
        tells = tell.methods names table row m namings (record {
          from_table = from_table;
          from = from;
          no_reference = no_reference from_table plain;
          there = there;
          named = record { column = column; kind = kind; nil = nil; there = inside; coded = coded; names = n };
        }) is;
      })

  -- ---- attributes

  attribute_weighs : (row : ℕ) (a : Attribute) → HasRow image 0x0C row → IsAttribute image names row a → Alike (attribute_row image told row) (attribute_weight a)
  unfolding attribute_row attribute_weight schema
  attribute_weighs row a there h =
      plus (plus (exactly 64) (method_told CustomAttributeType 0x0C row 1 false refl there (omega arith) refl a.constructor h.table h.constructor_row h.coded h.constructor))
      (alike (blob_is (attribute_value image row) a.value h.value))

  pub attributes_weigh : (table row value : ℕ) (xs : List Attribute) → index_of HasCustomAttribute table row ≡ value → AttributesAre image names table row xs → Alike (attributes image told value) (sum_by attribute_weight xs)
  attributes_weigh table row value xs e h =
      zip_sums (IsAttribute image names) (attribute_row image told) attribute_weight (rows_with image 0x0C attribute_parent value) xs
      (subst (λ (i : ℕ). AllZip (IsAttribute image names) (rows_with image 0x0C attribute_parent i) xs) e h)
      (λ r x m is. attribute_weighs r x (owned_among image 0x0C attribute_parent value r m).0 is)

  -- ---- constants and accessors

  constant_weighs : (row : ℕ) (c : Constant) → ConstantIs image row c → Alike (constant_row image row) (constant_weight c)
  unfolding constant_row
  constant_weighs row c h =
      alike (ap (λ (n : ℕ). 64 + cond (nat_eq (constant_type image row) 0x0E) n 0) (blob_is (constant_value image row) h.0 h.1) ∙ constant_told (constant_type image row) h.0 c h.2)

  pub constant_given : (table row value : ℕ) (o : Option Constant) → index_of HasConstant table row ≡ value → IsGiven (ConstantIs image) (constants_of image table row) o → Alike (constants image value) (optional constant_weight o)
  constant_given table row value o e h =
      given_weighs (ConstantIs image) (constant_row image) constant_weight (rows_with image 0x0B constant_parent value) o
      (subst (λ (i : ℕ). IsGiven (ConstantIs image) (rows_with image 0x0B constant_parent i) o) e h) (λ r x m is. constant_weighs r x is)

  accessors_weigh : (type table row value : ℕ) (xs : List Accessor) → index_of HasSemantics table row ≡ value → AllZip (IsAccessor image type) (semantics_of image table row) xs → accessors image value ≡ 64 * length xs
  accessors_weigh type table row value xs e h =
      ap (λ (n : ℕ). 64 * n) (ap (λ (i : ℕ). length (rows_with image 0x18 semantics_association i)) (sym e) ∙ zip_lengths (IsAccessor image type) (semantics_of image table row) xs h)

  -- ---- generic parameters

  bound_weighs : (row : ℕ) (o : Owner) → HasRow image 0x2C row → OwnerIs image names (bound_type image row) o → Alike (bound_row image told row) (64 + owner_weight o)
  unfolding bound_row schema
  bound_weighs row o there h = plus (exactly 64) (owner_told 0x2C row 1 false refl there (omega arith) refl o h)

  generic_weighs : (row : ℕ) (g : Generic) → IsGeneric image names row g → Alike (generic_row image told row) (generic_weight g)
  unfolding generic_row generic_weight
  generic_weighs row g h =
      let bounds = zip_sums (λ k. OwnerIs image names (bound_type image k)) (bound_row image told) (λ o. 64 + owner_weight o) (rows_with image 0x2C bound_parameter row) g.bounds h.bounds
      (λ r o m is. bound_weighs r o (owned_among image 0x2C bound_parameter row r m).0 is) in
      plus (plus (plus (exactly 64) (alike (text_is (generic_name image row) g.name h.name))) (as_weight bounds (all_bounds g.bounds)))
      (attributes_weigh 0x2A row (row * 32 + 19) g.attributes (index.generic_attributes row) h.attributes)

  pub generics_weigh : (table row value : ℕ) (xs : List Generic) → index_of TypeOrMethodDef table row ≡ value → GenericsAre image names table row xs → Alike (generics image told value) (sum_by generic_weight xs)
  generics_weigh table row value xs e h =
      zip_sums (IsGeneric image names) (generic_row image told) generic_weight (rows_with image 0x2A generic_owner value) xs
      (subst (λ (i : ℕ). AllZip (IsGeneric image names) (rows_with image 0x2A generic_owner i) xs) e h) (λ r x m is. generic_weighs r x is)

  -- ---- fields

  -- the sizes of data, for the type of each field
  abbrev pub SizesAre : List ℕ → Type 0
  SizesAre sizes = (row k : ℕ) (of : SigType) (bytes : List ℕ) → HasRow image 0x04 row → Among k (data_of image row) → FieldHas image names row of → IsContent image of k bytes → slice_index sizes k ≡ length bytes

  pub field_weighs : (sizes : List ℕ) → SizesAre sizes → (row : ℕ) (f : Field) → HasRow image 0x04 row → IsField image names row f → Alike (field_row image told sizes row) (field_weight f)
  unfolding field_row field_weight
  field_weighs sizes are row f there h =
      plus (plus (plus (plus (plus (plus (exactly 64)
      (alike (text_is (field_name image row) f.name h.name)))
      (record { tells = tell.fields names row f.of namings there h.of }))
      (constant_given 0x04 row (row * 4) f.constant (index.field_constants row) h.constant))
      (given_weighs (λ k offset. offset ≡ offset_of_row image k) (λ k. 64) (λ offset. 64) (offsets_of image row) f.offset h.offset (λ r x m is. exactly 64)))
      (given_weighs (IsContent image f.of) (λ k. 64 + slice_index sizes k) (λ bytes. 64 + length bytes) (data_of image row) f.content h.content
      (λ k bytes m is. alike (ap (λ (n : ℕ). 64 + n) (are row k f.of bytes there m h.of is)))))
      (attributes_weigh 0x04 row (row * 32 + 1) f.attributes (index.field_attributes row) h.attributes)

  -- ---- methods

  param_name_is : (row : ℕ) (p : Param) → IsParam image names row p → cond (nat_eq (param_sequence image row) 0) 0 (text image (param_name image row)) ≡ length p.name
  param_name_is row p h = elim (cases_eq (param_sequence image row) 0) [
    | inl is ↦ ap (λ (b : Bool). cond b 0 (text image (param_name image row))) (eq-eqb (param_sequence image row) 0 is) ∙ sym (ap length (h.result_name (h.number ∙ is)))
    | inr other ↦ ap (λ (b : Bool). cond b 0 (text image (param_name image row))) (ne_eqb (param_sequence image row) 0 other) ∙ text_is (param_name image row) p.name (h.name (λ z. other (sym h.number ∙ z)))
  ]

  param_weighs : (row : ℕ) (p : Param) → IsParam image names row p → Alike (param_row image told row) (param_weight p)
  unfolding param_row param_weight
  param_weighs row p h =
      plus (plus (plus (exactly 64) (alike (param_name_is row p h))) (constant_given 0x08 row (row * 4 + 1) p.constant (index.param_constants row) h.constant))
      (attributes_weigh 0x08 row (row * 32 + 4) p.attributes (index.param_attributes row) h.attributes)

  override_weighs : (row : ℕ) (m : MethodRef) → HasRow image 0x19 row → MethodIs names (override_declaration image row) m → Alike (override_row image told row) (64 + method_ref_weight m)
  unfolding override_row schema
  override_weighs row m there h = plus (exactly 64) (method_told MethodDefOrRef 0x19 row 2 false refl there (omega arith) refl m h.0 h.1 h.2 h.3)

  overrides_weigh : (method : ℕ) (ms : List MethodRef) → AllZip (λ k. MethodIs names (override_declaration image k)) (overrides_of image method) ms
      → Alike (sum_by (override_row image told) (overrides_of image method)) (64 * length ms + sum_by method_ref_weight ms)
  overrides_weigh method ms h =
      as_weight (zip_sums (λ k. MethodIs names (override_declaration image k)) (override_row image told) (λ m. 64 + method_ref_weight m) (overrides_of image method) ms h (λ r m among is. override_weighs r m (there r among) is))
      (sum_both (λ (m : MethodRef). 64) method_ref_weight ms ∙ ap (λ (n : ℕ). n + sum_by method_ref_weight ms) (sum_same 64 ms))
    where
      there : (r : ℕ) → Among r (overrides_of image method) → HasRow image 0x19 r
      there r m = (owned_among image 0x19 _ (index_of MethodDefOrRef 0x06 method) r m).0

  pub method_weighs : (row : ℕ) (m : Method) → HasRow image 0x06 row → IsMethod image names row m → Alike (method_row image told row) (method_weight m)
  unfolding method_row method_weight
  method_weighs row m there h =
      let before = plus (plus (plus (plus (exactly 64)
      (alike (text_is (method_name image row) m.name h.name)))
      (record { tells = tell.signatures names row m.sig namings there h.sig }))
      (generics_weigh 0x06 row (row * 2 + 1) m.generics (index.method_generics row) h.generics))
      (zip_sums (IsParam image names) (param_row image told) param_weight (params_of image row) m.params h.params (λ r x among is. param_weighs r x is)) in
      let overrides = as_weight (plus before (overrides_weigh row m.overrides h.overrides)) (omega arith) in
      plus (plus overrides (record { tells = tell.bodies names row m.body namings there h.body })) (attributes_weigh 0x06 row (row * 32) m.attributes (index.method_attributes row) h.attributes)

  -- ---- properties and events

  pub property_weighs : (type row : ℕ) (p : Property) → HasRow image 0x17 row → IsProperty image names type row p → Alike (property_row image told row) (property_weight p)
  unfolding property_row property_weight
  property_weighs type row p there h =
      plus (plus (plus (plus (plus (exactly 64)
      (alike (text_is (property_name image row) p.name h.name)))
      (record { tells = tell.properties names row p.sig namings there h.sig }))
      (constant_given 0x17 row (row * 4 + 2) p.constant (index.property_constants row) h.constant))
      (alike (accessors_weigh type 0x17 row (row * 2 + 1) p.accessors (index.property_accessors row) h.accessors)))
      (attributes_weigh 0x17 row (row * 32 + 9) p.attributes (index.property_attributes row) h.attributes)

  pub event_weighs : (type row : ℕ) (e : Event) → HasRow image 0x14 row → IsEvent image names type row e → Alike (event_row image told row) (event_weight e)
  unfolding event_row event_weight schema
  event_weighs type row e there h =
      plus (plus (plus (plus (exactly 64)
      (alike (text_is (event_name image row) e.name h.name)))
      (owner_told 0x14 row 2 true refl there (omega arith) refl e.of h.of))
      (alike (accessors_weigh type 0x14 row (row * 2) e.accessors (index.event_accessors row) h.accessors)))
      (attributes_weigh 0x14 row (row * 32 + 10) e.attributes (index.event_attributes row) h.attributes)

  -- ---- the manifest and the externs

  pub extern_weighs : (row : ℕ) (e : ExternAssembly) → IsExtern image row e → Alike (extern_row image row) (extern_weight e)
  unfolding extern_row extern_weight
  extern_weighs row e h =
      plus (plus (plus (plus (exactly 64)
      (alike (text_is (extern_name image row) e.name h.name)))
      (alike (blob_is (extern_key image row) e.key h.key)))
      (alike (text_is (extern_culture image row) e.culture h.culture)))
      (alike (blob_is (extern_hash image row) e.hash h.hash))

  pub manifest_weighs : (m : Manifest) → IsManifest image names m → Alike (manifest_row image told) (manifest_weight m)
  unfolding manifest_row manifest_weight
  manifest_weighs m h =
      plus (plus (plus (plus (plus
      (alike (text_is (assembly_name image 1) m.name h.name))
      (alike (blob_is (assembly_key image 1) m.key h.key)))
      (alike (text_is (assembly_culture image 1) m.culture h.culture)))
      (alike (text_is (module_name image 1) m.module h.module_name_is)))
      (attributes_weigh 0x20 1 46 m.attributes (index.assembly_attributes 1) h.attributes))
      (attributes_weigh 0x00 1 39 m.module_attributes (index.module_attributes 1) h.module_attributes)
