-- All that is asked before parts are read is there, where no demand fails.
use Rattle.std.proofs.Common.{◌≡◌, ◌≢◌, ℕ, ◌^◌, ◌<◌, ◌⊎◌, inl, inr, Bool, true, false, List, Contains, length, Option, Some, None, refl, subst, arith, get_or}
use Rattle.std.specs.Prelude.{All}
use Rattle.metadata_tables.specs.Schema.{schema, columns_of}
use Rattle.metadata_tables.specs.Stream.{cell, column_of}
use Rattle.metadata_tables.specs.declared.coded.Coded.{Coded}
use Rattle.metadata_tables.specs.declared.coded.Coded.TheVariants.{TypeDefOrRef, MethodDefOrRef, CustomAttributeType}
use Rattle.metadata_tables.specs.declared.schema.Column.TheVariants.{Tagged}
use Rattle.type_terms.specs.declared.reference.MethodRef.{MethodRef}
use Rattle.assembly_tree.specs.declared.body.Body.{Body}
use Rattle.body_codec.specs.Names.{NameMap}
use Rattle.image_model.specs.Bodies.{BodyNames, IsBody, body_of}
use Rattle.image_model.specs.Cells.{NamesRow}
use Rattle.image_model.specs.Columns.{attribute_type, bound_type, data_field, event_type, interface_type, method_rva, override_declaration, semantics_method, type_extends}
use Rattle.image_model.specs.Faults.{indexes, entries, manifest, runs, order, signatures, header, clauses, values, attributes, accessors}
use Rattle.image_model.specs.Members.{semantics_of}
use Rattle.image_model.specs.Naming.{IsToken}
use Rattle.image_model.specs.Reading.{BodyIs}
use Rattle.image_model.specs.Rows.{HasRow, Names, token_of, methods_of, events_of, properties_of}
use Rattle.image_model.specs.Streams.{blobs_of, tables_of}
use Rattle.image_namings.specs.Laws.{HangOnTokens, BodiesHangOnTokens}
use Rattle.image_namings.proofs.BodyTokens.{tokens_of}
use Rattle.image_namings.proofs.Decided.{OneBlob}
use Rattle.image_namings.proofs.Indexes.{cell_names, constructor_tables, method_tables, named_row, no_reference, is_reference, row_there, IsMethodTable}
use Rattle.image_namings.proofs.Rows.{few_methods, few_members}
use Rattle.image_namings.proofs.Standing.{Stands}
use Rattle.formed_references.proofs.Words.{to_among}
use Rattle.image_assemblies.proofs.Members.{OneField, OutlinesAreBodies, method_is}
use Rattle.image_assemblies.proofs.Parts.{owner_is, declared_method, stood}
use Rattle.row_demands.specs.Structured.{MeetStructure}
use Rattle.image_source.specs.Names.{names_of}
use Rattle.image_source.specs.Ready.{AreNamed, AreOwned, HasKeptOwner, HasKeptMethod, IsReady}
use Rattle.image_ready.specs.Keeping.{IsNamed}
use Rattle.image_ready.specs.Laws.{MeetsAll}
use Rattle.image_ready.proofs.Told.{all_agree, field_kept, method_kept, property_kept, type_kept}
use Rattle.kept_names.specs.declared.names.KeptNames.{KeptNames}

not_nil : {A : Type 0} (value : ℕ) → ((true ≡ true) × (value ≡ 0)) ⊎ A → value ≢ 0 → A
not_nil value (inl z) n = absurd (n z.1)
not_nil value (inr r) n = r

all_as : (P Q : ℕ → Type 0) (xs : List ℕ) → ((k : ℕ) → P k → Q k) → All P xs → All Q xs
all_as P Q xs f h k d less = f (get_or xs k d) (h k d less)

module _ (image : List ℕ) (names : NameMap) (kept : KeptNames) (sizes : List ℕ) (meets : MeetsAll image names kept sizes)
    (blob : OneBlob (blobs_of image)) (one_field : OneField) (body_law : OutlinesAreBodies) (hang : HangOnTokens) (bodies : BodiesHangOnTokens) where
  s : Stands image
  s = stood image names meets.short meets.tables meets.named meets.rows

  -- ---- types and methods that cells name

  owner_in : (from_table from column : ℕ) (nil : Bool) → is_reference from_table ≡ false → HasRow image from_table from → column < length (columns_of from_table) → column_of from_table column ≡ Tagged TypeDefOrRef nil
      → NamesRow image TypeDefOrRef (cell (tables_of image) from_table from column) → HasKeptOwner image kept (cell (tables_of image) from_table from column)
  owner_in from_table from column nil plain there inside coded n =
      let o = owner_is image names meets.short meets.tables meets.named meets.rows from_table from column nil plain there inside coded n in
      let named = IsNamed.by_row (no_reference from_table plain) there (cell_names image from_table from column TypeDefOrRef nil o.1.0 o.1.1 inside coded o.1.2) in
      (o.0, (o.1.0, o.1.1, o.1.2, meets.kept_are.owners o.1.0 o.1.1 o.0 named o.1.3, type_kept image names kept meets.named meets.kept_are hang o.1.0 o.1.1 o.0 named o.1.3))

  few : (table row : ℕ) → IsMethodTable table → HasRow image table row → row < 2 ^ 24
  few table row (inl e) there = few_methods image row meets.short meets.tables (subst (λ (t : ℕ). HasRow image t row) e there)
  few table row (inr e) there = few_members image row meets.short meets.tables (subst (λ (t : ℕ). HasRow image t row) e there)

  method_in : (kind : Coded) (from_table from column table row : ℕ) (nil : Bool) (m : MethodRef) → is_reference from_table ≡ false → HasRow image from_table from → column < length (columns_of from_table) → column_of from_table column ≡ Tagged kind nil
      → Names kind (cell (tables_of image) from_table from column) table row → IsMethodTable table → HasRow image table row → names.methods (token_of table row) ≡ Some m
      → HasKeptMethod kept kind (cell (tables_of image) from_table from column)
  method_in kind from_table from column table row nil m plain there inside coded n is row_is_there e =
      let named = IsNamed.by_row (no_reference from_table plain) there (cell_names image from_table from column kind nil table row inside coded n) in
      let token : IsToken (token_of table row) table row = record { is = refl; fits = few table row is row_is_there } in
      (m, (table, row, n, meets.kept_are.methods (token_of table row) table row m named token e))

  constructor_in : (row : ℕ) → HasRow image 0x0C row → HasKeptMethod kept CustomAttributeType (attribute_type image row)
  unfolding schema
  constructor_in row there =
      let c = (meets.rows attributes 0x0C row).constructor refl there in
      let n = named_row image CustomAttributeType (attribute_type image row) ((meets.rows indexes).0 0x0C row there 1 (omega arith)) in
      method_in CustomAttributeType 0x0C row 1 c.0 c.1 false c.2 refl there (omega arith) refl c.3 (constructor_tables (attribute_type image row) c.0 c.1 c.3)
      (row_there image CustomAttributeType (attribute_type image row) c.0 c.1 n c.3) c.4

  declaration_in : (row : ℕ) → HasRow image 0x19 row → HasKeptMethod kept MethodDefOrRef (override_declaration image row)
  unfolding schema
  declaration_in row there =
      let d = declared_method image names meets.short meets.tables meets.named meets.rows row there in
      let n = named_row image MethodDefOrRef (override_declaration image row) ((meets.rows indexes).0 0x19 row there 2 (omega arith)) in
      method_in MethodDefOrRef 0x19 row 2 d.1.0 d.1.1 false d.0 refl there (omega arith) refl d.1.2 (method_tables (override_declaration image row) d.1.0 d.1.1 d.1.2)
      (row_there image MethodDefOrRef (override_declaration image row) d.1.0 d.1.1 n d.1.2) d.1.3

  -- ---- bodies

  body_there : (row : ℕ) → method_rva image row ≢ 0 → (o : Option Body) → BodyIs image names (method_rva image row) o → (b : Body) × IsBody names (body_of image row) b
  body_there row n None h = absurd (n h)
  body_there row n (Some b) h = (b, h.1)

  body_in : (row : ℕ) → HasRow image 0x06 row → method_rva image row ≢ 0 → (b : Body) × IsBody (names_of kept) (body_of image row) b
  body_in row there n =
      let m = method_is image names meets.short meets.tables meets.named meets.rows blob one_field body_law row there in
      let b = body_there row n m.0.body m.1.body in
      let known = (meets.rows header 0x06 row).header refl there n in
      let o = meets.rows clauses 0x06 row refl there n in
      let tokens = tokens_of (body_of image row) o.0 in (
        b.0,
        (
          b.1.0,
          bodies names (names_of kept) (body_of image row) tokens b.0 b.1.0 (record { header = known.header; pieces = o.0; outline = o.1; all = refl })
              (λ token among.
              let it : BodyNames image row token = record {
                there = n;
                code_type = (meets.rows header 0x06 row).code_type refl there;
                locals = known.locals;
                tokens = tokens;
                named = record { header = known.header; pieces = o.0; outline = o.1; all = refl };
                among = among;
              } in
              all_agree image names kept meets.named meets.kept_are row token there it) b.1.1,
        ),
      )

  named_are : AreNamed image kept
  unfolding schema
  named_are = record {
    bases = λ row there n. owner_in 0x02 row 3 true refl there (omega arith) refl (not_nil (type_extends image row) ((meets.rows indexes).0 0x02 row there 3 (omega arith)) n);
    interfaces = λ row there. owner_in 0x09 row 1 false refl there (omega arith) refl (named_row image TypeDefOrRef (interface_type image row) ((meets.rows indexes).0 0x09 row there 1 (omega arith)));
    bounds = λ row there. owner_in 0x2C row 1 false refl there (omega arith) refl (named_row image TypeDefOrRef (bound_type image row) ((meets.rows indexes).0 0x2C row there 1 (omega arith)));
    events = λ row there. owner_in 0x14 row 2 true refl there (omega arith) refl (not_nil (event_type image row) ((meets.rows indexes).0 0x14 row there 2 (omega arith)) ((meets.rows values 0x14 row).event_of refl there));
    constructors = constructor_in;
    declarations = declaration_in;
    fields = λ row there. let h = (meets.rows signatures 0x04 row).field refl there in (h.0, field_kept image names kept meets.named meets.kept_are hang row h.0 there h.1);
    methods = λ row there. let h = (meets.rows signatures 0x06 row).method refl there in (h.0, method_kept image names kept meets.named meets.kept_are hang row h.0 there h.1);
    properties = λ row there. let h = (meets.rows signatures 0x17 row).property refl there in (h.0, property_kept image names kept meets.named meets.kept_are hang row h.0 there h.1);
    bodies = body_in;
  }

  -- ---- what belongs to rows

  owned_are : AreOwned image
  owned_are = record {
    fields = λ type row there has. s.field_there row type there has;
    methods = λ type row there has. s.method_there row type there has;
    params = λ method row there has. s.param_there row method there has;
    events = λ type row there has. s.event_there row type (to_among row (events_of image type) has);
    properties = λ type row there has. s.property_there row type (to_among row (properties_of image type) has);
    field_constants = λ row there. ((meets.rows values 0x04 row).field refl there).constants;
    param_constants = λ row there. (meets.rows values 0x08 row).param refl there;
    property_constants = λ row there. (meets.rows values 0x17 row).property refl there;
    layouts = λ row there. ((meets.rows values 0x02 row).layout refl there).one;
    offsets = λ row there. ((meets.rows values 0x04 row).field refl there).offset;
    one_data = λ row there. ((meets.rows values 0x04 row).field refl there).one_data;
    event_accessors = λ type row there has.
        let among = to_among row (events_of image type) has in
        all_as (λ k. (t : ℕ) × HasRow image 0x02 t × Contains (events_of image t) row × Contains (methods_of image t) (semantics_method image k)) (λ k. Contains (methods_of image type) (semantics_method image k)) (semantics_of image 0x14 row)
        (λ k h. subst (λ (t : ℕ). Contains (methods_of image t) (semantics_method image k)) (s.event_one row h.0 type (to_among row (events_of image h.0) h.2) among) h.3)
        ((meets.rows accessors 0x14 row).event refl (s.event_there row type among));
    property_accessors = λ type row there has.
        let among = to_among row (properties_of image type) has in
        all_as (λ k. (t : ℕ) × HasRow image 0x02 t × Contains (properties_of image t) row × Contains (methods_of image t) (semantics_method image k)) (λ k. Contains (methods_of image type) (semantics_method image k)) (semantics_of image 0x17 row)
        (λ k h. subst (λ (t : ℕ). Contains (methods_of image t) (semantics_method image k)) (s.property_one row h.0 type (to_among row (properties_of image h.0) h.2) among) h.3)
        ((meets.rows accessors 0x17 row).property refl (s.property_there row type among));
  }

  structure_is : MeetStructure image
  structure_is = record {
    indexes = (meets.rows indexes).0;
    entry = (meets.rows indexes).1;
    entries = meets.rows entries;
    manifest = meets.rows manifest;
    runs = meets.rows runs;
    order = meets.rows order;
  }

  field_there : (row : ℕ) → HasRow image 0x1D row → HasRow image 0x04 (data_field image row)
  unfolding schema
  field_there row there = (meets.rows indexes).0 0x1D row there 1 (omega arith)

  pub is_ready : IsReady image kept sizes
  is_ready = record {
    bytes = meets.bytes;
    structure = structure_is;
    named = named_are;
    owned = owned_are;
    sizes_are = λ row there.
        let z = meets.sizes_are row there in
        (z.0, field_kept image names kept meets.named meets.kept_are hang (data_field image row) z.0 (field_there row there) z.1, z.2, z.3);
  }
