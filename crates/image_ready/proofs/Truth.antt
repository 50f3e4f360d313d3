-- What is read of what is kept is what the image gives (II.22).
use Rattle.std.proofs.Common.{◌≡◌, ℕ, ◌<◌, inl, inr, Bool, true, false, List, [], ◌∷◌, Contains, length, Option, Some, None, refl, sym, arith}
use Rattle.std.specs.List.{AllZip}
use Rattle.metadata_tables.specs.Schema.{schema, columns_of}
use Rattle.metadata_tables.specs.Stream.{cell, column_of}
use Rattle.metadata_tables.specs.declared.coded.Coded.TheVariants.{TypeDefOrRef, HasCustomAttribute, TypeOrMethodDef}
use Rattle.metadata_tables.specs.declared.schema.Column.TheVariants.{Tagged}
use Rattle.type_terms.specs.declared.term.Owner.{Owner}
use Rattle.assembly_tree.specs.declared.assembly.Assembly.{Assembly}
use Rattle.assembly_tree.specs.declared.body.Body.{Body}
use Rattle.assembly_tree.specs.declared.members.Attribute.{Attribute}
use Rattle.assembly_tree.specs.declared.members.Event.{Event}
use Rattle.assembly_tree.specs.declared.members.Field.{Field}
use Rattle.assembly_tree.specs.declared.members.Generic.{Generic}
use Rattle.assembly_tree.specs.declared.members.Method.{Method}
use Rattle.assembly_tree.specs.declared.members.Param.{Param}
use Rattle.assembly_tree.specs.declared.members.Property.{Property}
use Rattle.assembly_tree.specs.declared.typedef.TypeDef.{TypeDef}
use Rattle.assembly_tree.specs.declared.typedef.TypeDef.TheOpen.{TypeDef-F}
use Rattle.assembly_tree.specs.declared.typedef.TypeDef.TheViews.{out-TypeDef}
use Rattle.body_codec.specs.Names.{NameMap}
use Rattle.image_model.specs.Bodies.{BodyNames, body_of}
use Rattle.image_model.specs.Columns.{attribute_parent, bound_parameter, bound_type, generic_owner, interface_class, method_rva, override_declaration, type_extends}
use Rattle.image_model.specs.Faults.{header, clauses, manifest}
use Rattle.image_model.specs.Reading.{OwnerIs, MethodIs, IsAttribute, AttributesAre, IsGeneric, GenericsAre, IsField, IsParam, overrides_of, BodyIs, IsMethod, IsProperty, IsEvent, ExtendsIs, AreInterfaces, IsTypeButNested, IsType, AreTypes, IsAssembly}
use Rattle.image_model.specs.Rows.{HasRow, rows_with, index_of, token_of, fields_of, methods_of, params_of, events_of, properties_of}
use Rattle.image_model.specs.Streams.{tables_of}
use Rattle.image_namings.specs.Laws.{HangOnTokens, BodiesHangOnTokens}
use Rattle.image_namings.proofs.Among.{Among, from_among}
use Rattle.image_namings.proofs.BodyTokens.{tokens_of}
use Rattle.image_namings.proofs.Indexes.{cell_names, no_reference, is_reference}
use Rattle.image_namings.proofs.Standing.{Stands}
use Rattle.formed_references.proofs.Words.{of_rows_with, of_types, to_among}
use Rattle.image_assemblies.proofs.Parts.{stood}
use Rattle.image_source.specs.Names.{names_of}
use Rattle.image_ready.specs.Keeping.{IsNamed}
use Rattle.image_ready.specs.Laws.{MeetsAll}
use Rattle.image_ready.proofs.Told.{all_agree, field_told, method_told, property_told, type_told, type_kept}
use Rattle.kept_names.specs.declared.names.KeptNames.{KeptNames}

zip_as : {X : Type 0} (Is As : ℕ → X → Type 0) (rows : List ℕ) (xs : List X) → ((r : ℕ) (x : X) → Among r rows → Is r x → As r x) → AllZip Is rows xs → AllZip As rows xs
zip_as Is As [] [] f z = tt
zip_as Is As [] (x ∷ xs) f z = absurd z
zip_as Is As (r ∷ rows) [] f z = absurd z
zip_as Is As (r ∷ rows) (x ∷ xs) f z = (f r x (inl refl) z.0, zip_as Is As rows xs (λ s y m. f s y (inr m)) z.1)

module _ (image : List ℕ) (names : NameMap) (kept : KeptNames) (sizes : List ℕ) (meets : MeetsAll image names kept sizes) (hang : HangOnTokens) (bodies : BodiesHangOnTokens) where
  abbrev of_kept : NameMap
  of_kept = names_of kept

  s : Stands image
  s = stood image names meets.short meets.tables meets.named meets.rows

  owner_true : (from_table from column : ℕ) (nil : Bool) → is_reference from_table ≡ false → HasRow image from_table from → column < length (columns_of from_table) → column_of from_table column ≡ Tagged TypeDefOrRef nil
      → (o : Owner) → OwnerIs image of_kept (cell (tables_of image) from_table from column) o → OwnerIs image names (cell (tables_of image) from_table from column) o
  owner_true from_table from column nil plain there inside coded o n =
      (n.0, n.1, n.2, type_told image names kept meets.named meets.kept_are hang n.0 n.1 o (IsNamed.by_row (no_reference from_table plain) there (cell_names image from_table from column TypeDefOrRef nil n.0 n.1 inside coded n.2)) n.3)

  owner_back : (from_table from column : ℕ) (nil : Bool) → is_reference from_table ≡ false → HasRow image from_table from → column < length (columns_of from_table) → column_of from_table column ≡ Tagged TypeDefOrRef nil
      → (o : Owner) → OwnerIs image names (cell (tables_of image) from_table from column) o → OwnerIs image of_kept (cell (tables_of image) from_table from column) o
  owner_back from_table from column nil plain there inside coded o n =
      (n.0, n.1, n.2, type_kept image names kept meets.named meets.kept_are hang n.0 n.1 o (IsNamed.by_row (no_reference from_table plain) there (cell_names image from_table from column TypeDefOrRef nil n.0 n.1 inside coded n.2)) n.3)

  attributes_true : (table row : ℕ) (xs : List Attribute) → AttributesAre image of_kept table row xs → AttributesAre image names table row xs
  attributes_true table row xs z = zip_as (IsAttribute image of_kept) (IsAttribute image names) (rows_with image 0x0C attribute_parent (index_of HasCustomAttribute table row)) xs
      (λ r x m a. record { table = a.table; constructor_row = a.constructor_row; coded = a.coded; constructor = meets.kept_are.true_methods (token_of a.table a.constructor_row) x.constructor a.constructor; value = a.value }) z

  generics_true : (table row : ℕ) (xs : List Generic) → GenericsAre image of_kept table row xs → GenericsAre image names table row xs
  unfolding schema
  generics_true table row xs z = zip_as (IsGeneric image of_kept) (IsGeneric image names) (rows_with image 0x2A generic_owner (index_of TypeOrMethodDef table row)) xs
      (λ r x m g. record {
        name = g.name;
        flags = g.flags;
        bounds = zip_as (λ k. OwnerIs image of_kept (bound_type image k)) (λ k. OwnerIs image names (bound_type image k)) (rows_with image 0x2C bound_parameter r) x.bounds
            (λ k o among n. owner_true 0x2C k 1 false refl (of_rows_with image 0x2C bound_parameter r k among).0 (omega arith) refl o n) g.bounds;
        attributes = attributes_true 0x2A r x.attributes g.attributes;
      }) z

  field_true : (row : ℕ) (f : Field) → HasRow image 0x04 row → IsField image of_kept row f → IsField image names row f
  field_true row f there h = record {
    name = h.name;
    flags = h.flags;
    of = field_told image names kept meets.named meets.kept_are hang row f.of there h.of;
    constant = h.constant;
    offset = h.offset;
    content = h.content;
    attributes = attributes_true 0x04 row f.attributes h.attributes;
  }

  param_true : (row : ℕ) (p : Param) → IsParam image of_kept row p → IsParam image names row p
  param_true row p h = record { number = h.number; flags = h.flags; result_name = h.result_name; name = h.name; constant = h.constant; attributes = attributes_true 0x08 row p.attributes h.attributes }

  body_true : (row : ℕ) (o : Option Body) → HasRow image 0x06 row → BodyIs image of_kept (method_rva image row) o → BodyIs image names (method_rva image row) o
  body_true row None there h = h
  body_true row (Some b) there h =
      let known = (meets.rows header 0x06 row).header refl there h.0 in
      let o = meets.rows clauses 0x06 row refl there h.0 in
      let tokens = tokens_of (body_of image row) o.0 in (
        h.0,
        (
          h.1.0,
          bodies of_kept names (body_of image row) tokens b h.1.0 (record { header = known.header; pieces = o.0; outline = o.1; all = refl })
              (λ token among.
              let it : BodyNames image row token = record {
                there = h.0;
                code_type = (meets.rows header 0x06 row).code_type refl there;
                locals = known.locals;
                tokens = tokens;
                named = record { header = known.header; pieces = o.0; outline = o.1; all = refl };
                among = among;
              } in
              let a = all_agree image names kept meets.named meets.kept_are row token there it in
              record { owners = sym a.owners; methods = sym a.methods; fields = sym a.fields; locals = sym a.locals; texts = sym a.texts }) h.1.1,
        ),
      )

  method_true : (row : ℕ) (m : Method) → HasRow image 0x06 row → IsMethod image of_kept row m → IsMethod image names row m
  method_true row m there h = record {
    name = h.name;
    flags = h.flags;
    impl_flags = h.impl_flags;
    sig = method_told image names kept meets.named meets.kept_are hang row m.sig there h.sig;
    generics = generics_true 0x06 row m.generics h.generics;
    params = zip_as (IsParam image of_kept) (IsParam image names) (params_of image row) m.params (λ r p among q. param_true r p q) h.params;
    overrides = zip_as (λ k. MethodIs of_kept (override_declaration image k)) (λ k. MethodIs names (override_declaration image k)) (overrides_of image row) m.overrides
        (λ k x among n. (n.0, n.1, n.2, meets.kept_are.true_methods (token_of n.0 n.1) x n.3)) h.overrides;
    entry = h.entry;
    body = body_true row m.body there h.body;
    attributes = attributes_true 0x06 row m.attributes h.attributes;
  }

  property_true : (type row : ℕ) (p : Property) → HasRow image 0x17 row → IsProperty image of_kept type row p → IsProperty image names type row p
  property_true type row p there h = record {
    name = h.name;
    flags = h.flags;
    sig = property_told image names kept meets.named meets.kept_are hang row p.sig there h.sig;
    constant = h.constant;
    accessors = h.accessors;
    attributes = attributes_true 0x17 row p.attributes h.attributes;
  }

  event_true : (type row : ℕ) (e : Event) → HasRow image 0x14 row → IsEvent image of_kept type row e → IsEvent image names type row e
  unfolding schema
  event_true type row e there h = record {
    name = h.name;
    flags = h.flags;
    of = owner_true 0x14 row 2 true refl there (omega arith) refl e.of h.of;
    accessors = h.accessors;
    attributes = attributes_true 0x14 row e.attributes h.attributes;
  }

  extends_true : (row : ℕ) (o : Option Owner) → HasRow image 0x02 row → ExtendsIs image of_kept (type_extends image row) o → ExtendsIs image names (type_extends image row) o
  unfolding schema
  extends_true row None there h = h
  extends_true row (Some o) there h = (h.0, owner_true 0x02 row 3 true refl there (omega arith) refl o h.1)

  interfaces_true : (row : ℕ) (os : List Owner) → AreInterfaces image of_kept row os → AreInterfaces image names row os
  unfolding schema
  interfaces_true row os h = record {
    rising = h.rising;
    each = λ o. (
      λ has.
          let r = (h.each o).0 has in
          let there = (of_rows_with image 0x09 interface_class row r.0 (to_row r.0 r.1)).0 in
          (r.0, r.1, owner_true 0x09 r.0 1 false refl there (omega arith) refl o r.2),
      λ r.
          let there = (of_rows_with image 0x09 interface_class row r.0 (to_row r.0 r.1)).0 in
          (h.each o).1 (r.0, r.1, owner_back 0x09 r.0 1 false refl there (omega arith) refl o r.2),
    );
  }
    where
      to_row : (r : ℕ) → Contains (rows_with image 0x09 interface_class row) r → Among r (rows_with image 0x09 interface_class row)
      to_row r has = to_among r (rows_with image 0x09 interface_class row) has

  but_nested_true : (row : ℕ) (t : TypeDef-F TypeDef) → HasRow image 0x02 row → IsTypeButNested image of_kept row t → IsTypeButNested image names row t
  but_nested_true row t there h = record {
    id = h.id;
    flags = h.flags;
    layout = h.layout;
    generics = generics_true 0x02 row t.generics h.generics;
    extends = extends_true row t.extends there h.extends;
    implements = interfaces_true row t.implements h.implements;
    fields = zip_as (IsField image of_kept) (IsField image names) (fields_of image row) t.fields (λ r f m k. field_true r f (s.field_there r row there (from_among r (fields_of image row) m)) k) h.fields;
    methods = zip_as (IsMethod image of_kept) (IsMethod image names) (methods_of image row) t.methods (λ r f m k. method_true r f (s.method_there r row there (from_among r (methods_of image row) m)) k) h.methods;
    properties = zip_as (IsProperty image of_kept row) (IsProperty image names row) (properties_of image row) t.properties (λ r f m k. property_true row r f (s.property_there r row m) k) h.properties;
    events = zip_as (IsEvent image of_kept row) (IsEvent image names row) (events_of image row) t.events (λ r f m k. event_true row r f (s.event_there r row m) k) h.events;
    attributes = attributes_true 0x02 row t.attributes h.attributes;
  }

  mutual
    type_true : {row : ℕ} {t : TypeDef} → HasRow image 0x02 row → IsType image of_kept row t → IsType image names row t
    type_true {row = row} {t = t} there (IsType.made b n) = IsType.made (but_nested_true row (out-TypeDef t) there b) (types_true (λ r m. (of_types image r row m).0) n)

    types_true : {rows : List ℕ} {ts : List TypeDef} → ((r : ℕ) → Among r rows → HasRow image 0x02 r) → AreTypes image of_kept rows ts → AreTypes image names rows ts
    types_true f AreTypes.none = AreTypes.none
    types_true f (AreTypes.more {row = row} t ts) = AreTypes.more (type_true (f row (inl refl)) t) (types_true (λ r m. f r (inr m)) ts)

  first_type : HasRow image 0x02 1
  first_type = let some = (meets.rows manifest 0x02 0).some_types refl refl in (omega arith, omega (arith, some))

  pub assembly_true : (a : Assembly) → IsAssembly image of_kept a → IsAssembly image names a
  assembly_true a h =
      let m = h.manifest in
      record {
        manifest = record {
          name = m.name;
          version = m.version;
          flags = m.flags;
          key = m.key;
          culture = m.culture;
          hash = m.hash;
          module_name_is = m.module_name_is;
          image_base = m.image_base;
          file_alignment = m.file_alignment;
          stack_reserve = m.stack_reserve;
          subsystem = m.subsystem;
          cor_flags = m.cor_flags;
          attributes = attributes_true 0x20 1 a.manifest.attributes m.attributes;
          module_attributes = attributes_true 0x00 1 a.manifest.module_attributes m.module_attributes;
        };
        externs = h.externs;
        fields = zip_as (IsField image of_kept) (IsField image names) (fields_of image 1) a.fields (λ r f m k. field_true r f (s.field_there r 1 first_type (from_among r (fields_of image 1) m)) k) h.fields;
        methods = zip_as (IsMethod image of_kept) (IsMethod image names) (methods_of image 1) a.methods (λ r f m k. method_true r f (s.method_there r 1 first_type (from_among r (methods_of image 1) m)) k) h.methods;
        types = types_true (λ r m. (of_types image r 0 m).0) h.types;
      }
