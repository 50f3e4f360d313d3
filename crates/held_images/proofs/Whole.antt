-- Types, the manifest and the whole assembly are held (II.22.2, II.22.5, II.22.8, II.22.37, II.25.2.3, II.25.3.3).
use Rattle.std.proofs.Common.{◌≡◌, ℕ, suc, ◌+◌, inl, inr, ◌∙◌, Bool, true, List, [], ◌∷◌, map, Contains, Option, Some, None, refl, sym, subst, arith}
use Rattle.std.proofs.lemmas.Bool.{and_from}
use Rattle.std.proofs.lemmas.List.Folds.{list_all-map}
use Rattle.std.specs.List.{AllZip, list_all}
use Rattle.metadata_tables.specs.Schema.{schema}
use Rattle.pe_layout.specs.CliHeader.{cli_header_of, cor_flags_of}
use Rattle.pe_layout.specs.FileMap.{readable}
use Rattle.pe_layout.specs.Headers.{optional_place_of, directory_rva_of}
use Rattle.type_terms.specs.declared.term.Owner.{Owner}
use Rattle.assembly_tree.specs.WellFormedNames.{option_all}
use Rattle.assembly_tree.specs.declared.assembly.Assembly.{Assembly}
use Rattle.assembly_tree.specs.declared.assembly.ExternAssembly.{ExternAssembly}
use Rattle.assembly_tree.specs.declared.assembly.Manifest.{Manifest}
use Rattle.assembly_tree.specs.declared.members.Field.{Field}
use Rattle.assembly_tree.specs.declared.members.Method.{Method}
use Rattle.assembly_tree.specs.declared.typedef.Layout.{Layout}
use Rattle.assembly_tree.specs.declared.typedef.TypeDef.{TypeDef}
use Rattle.assembly_tree.specs.declared.typedef.TypeDef.TheFolds.{fold_out-TypeDef}
use Rattle.assembly_tree.specs.declared.typedef.TypeDef.TheOpen.{TypeDef-F}
use Rattle.assembly_tree.specs.declared.typedef.TypeDef.TheViews.{out-TypeDef}
use Rattle.image_model.specs.Columns.{type_flags, type_extends, interface_type, layout_pack, layout_size, assembly_hash, assembly_flags, assembly_key, extern_flags, extern_key, extern_hash}
use Rattle.image_model.specs.Faults.{Reads}
use Rattle.image_model.specs.Members.{layouts_of}
use Rattle.image_model.specs.Rows.{rows_of, fields_of, methods_of, events_of, properties_of}
use Rattle.image_model.specs.Reading.{IsManifest, IsExtern, IsField, IsMethod, IsProperty, IsEvent, IsLayout, ImageBaseIs, FileAlignmentIs, ExtendsIs, AreInterfaces, IsTypeButNested, IsType, AreTypes}
use Rattle.listing_growth.specs.Held.{is_u16, is_u32, is_version, is_owner_held, is_field_held, is_method_held, is_property_held, is_event_held, is_layout_held, is_own_held, typedef_holds, is_typedef_held, is_extern_held, is_manifest_held, is_held}
use Rattle.formed_images.specs.Laws.{AreBytes}
use Rattle.formed_images.proofs.Bytes.{readable_bytes}
use Rattle.held_images.proofs.Numbers.{lt_true, as_u16, as_u32, without_fits, each_zipped, each_given, take_bytes, cell_fits_u16, cell_fits_u32, blob_fits, place_fits_u16, place_fits_u32}
use Rattle.held_images.proofs.Members.{owner_held, attributes_held, generics_held, field_held, method_held, property_held, event_held}

by_members : {X : Type 0} (test : X → Bool) (xs : List X) → ((x : X) → Contains xs x → test x ≡ true) → list_all test xs ≡ true
by_members test [] f = refl
by_members test (x ∷ xs) f = and_from (test x) (list_all test xs) (f x (0, omega arith, refl)) (by_members test xs (λ y c. f y (suc c.0, omega (arith, c.1), c.2)))

-- ---- numbers of the headers

base_held : (header base : ℕ) → ImageBaseIs header base → is_u32 base ≡ true
base_held header base (inl is) = as_u32 base header is.1 (let g = is.0.greatest in lt_true header 0x100000000 (omega arith))
base_held header base (inr is) = as_u32 base 0x400000 is.1 refl

alignment_held : (header alignment : ℕ) → FileAlignmentIs header alignment → is_u32 header ≡ true → is_u32 alignment ≡ true
alignment_held header alignment (inl is) h = as_u32 alignment header is.1 h
alignment_held header alignment (inr is) h = as_u32 alignment 0x200 is.1 refl

module _ (image : List ℕ) (a : Assembly) (h : Reads image a) (bytes : AreBytes image) where
  version_held : (v : List ℕ) (major minor build revision : ℕ) → v ≡ major ∷ minor ∷ build ∷ revision ∷ [] → is_u16 major ≡ true → is_u16 minor ≡ true → is_u16 build ≡ true → is_u16 revision ≡ true → is_version v ≡ true
  version_held v major minor build revision e w x y z =
      subst (λ (u : List ℕ). is_version u ≡ true) (sym e)
      (and_from (is_u16 major) _ w (and_from (is_u16 minor) _ x (and_from (is_u16 build) _ y (and_from (is_u16 revision) true z refl))))

  -- ---- the manifest and the externs

  cli_bytes : AreBytes (cli_header_of image)
  unfolding cli_header_of
  cli_bytes = take_bytes 72 (readable image (directory_rva_of image 14)) (readable_bytes image (directory_rva_of image 14) bytes)

  manifest_held : (m : Manifest) → IsManifest image h.names m → is_manifest_held m ≡ true
  unfolding is_manifest_held schema
  manifest_held m is =
      let version = version_held m.version _ _ _ _ is.version (cell_fits_u16 image bytes 0x20 1 1 refl) (cell_fits_u16 image bytes 0x20 1 2 refl) (cell_fits_u16 image bytes 0x20 1 3 refl) (cell_fits_u16 image bytes 0x20 1 4 refl) in
      let flags = as_u32 m.flags (assembly_flags image 1) is.flags (cell_fits_u32 image bytes 0x20 1 5 refl) in
      let key = blob_fits image bytes (assembly_key image 1) m.key is.key in
      let hash = as_u32 m.hash (assembly_hash image 1) is.hash (cell_fits_u32 image bytes 0x20 1 0 refl) in
      let base = base_held _ m.image_base is.image_base in
      let alignment = alignment_held _ m.file_alignment is.file_alignment (place_fits_u32 image (optional_place_of image + 36) bytes) in
      let reserve = as_u32 m.stack_reserve _ is.stack_reserve (place_fits_u32 image (optional_place_of image + 72) bytes) in
      let subsystem = as_u16 m.subsystem _ is.subsystem (place_fits_u16 image (optional_place_of image + 68) bytes) in
      let cor = as_u32 m.cor_flags _ is.cor_flags (without_fits (cor_flags_of image) 8 0x100000000 (place_fits_u32 (cli_header_of image) 16 cli_bytes)) in
      let own = attributes_held image h.names h.named bytes 0x20 1 m.attributes is.attributes in
      let modules = attributes_held image h.names h.named bytes 0x00 1 m.module_attributes is.module_attributes in
      and_from _ _ (and_from _ _ (and_from _ _ (and_from _ _ (and_from _ _ (and_from _ _ (and_from _ _ (and_from _ _ (and_from _ _ (and_from _ _ version flags) key) hash) base) alignment) reserve) subsystem) cor) own) modules

  extern_held : (row : ℕ) (e : ExternAssembly) → IsExtern image row e → is_extern_held e ≡ true
  unfolding is_extern_held schema
  extern_held row e is =
      let version = version_held e.version _ _ _ _ is.version (cell_fits_u16 image bytes 0x23 row 0 refl) (cell_fits_u16 image bytes 0x23 row 1 refl) (cell_fits_u16 image bytes 0x23 row 2 refl) (cell_fits_u16 image bytes 0x23 row 3 refl) in
      let flags = as_u32 e.flags (extern_flags image row) is.flags (cell_fits_u32 image bytes 0x23 row 4 refl) in
      let key = blob_fits image bytes (extern_key image row) e.key is.key in
      let hash = blob_fits image bytes (extern_hash image row) e.hash is.hash in
      and_from _ _ (and_from _ _ (and_from _ _ version flags) key) hash

  -- ---- types

  layout_held : (row : ℕ) (l : Layout) → IsLayout image row l → is_layout_held l ≡ true
  unfolding schema
  layout_held row l is =
      and_from (is_u16 l.pack) (is_u32 l.size) (as_u16 l.pack (layout_pack image row) is.pack (cell_fits_u16 image bytes 0x0F row 0 refl)) (as_u32 l.size (layout_size image row) is.size (cell_fits_u32 image bytes 0x0F row 1 refl))

  extends_held : (value : ℕ) (o : Option Owner) → ExtendsIs image h.names value o → option_all is_owner_held o ≡ true
  extends_held value None x = refl
  extends_held value (Some o) x = owner_held image h.names h.named bytes value o x.1

  implements_held : (row : ℕ) (os : List Owner) → AreInterfaces image h.names row os → list_all is_owner_held os ≡ true
  implements_held row os is = by_members is_owner_held os (λ o c. let r = (is.each o).0 c in owner_held image h.names h.named bytes (interface_type image r.0) o r.2)

  fields_held : (row : ℕ) (fs : List Field) → AllZip (IsField image h.names) (fields_of image row) fs → list_all is_field_held fs ≡ true
  fields_held row fs are = each_zipped (IsField image h.names) is_field_held (field_held image h.names h.named bytes) (fields_of image row) fs are

  methods_held : (row : ℕ) (ms : List Method) → AllZip (IsMethod image h.names) (methods_of image row) ms → list_all is_method_held ms ≡ true
  methods_held row ms are = each_zipped (IsMethod image h.names) is_method_held (method_held image h.names h.named bytes) (methods_of image row) ms are

  own_held : (row : ℕ) (t : TypeDef-F TypeDef) → IsTypeButNested image h.names row t → is_own_held t ≡ true
  unfolding is_own_held schema
  own_held row t is =
      let flags = as_u32 t.flags (type_flags image row) is.flags (cell_fits_u32 image bytes 0x02 row 0 refl) in
      let layout = each_given (IsLayout image) is_layout_held layout_held (layouts_of image row) t.layout is.layout in
      let generics = generics_held image h.names h.named bytes 0x02 row t.generics is.generics in
      let extends = extends_held (type_extends image row) t.extends is.extends in
      let implements = implements_held row t.implements is.implements in
      let fields = fields_held row t.fields is.fields in
      let methods = methods_held row t.methods is.methods in
      let properties = each_zipped (IsProperty image h.names row) is_property_held (property_held image h.names h.named bytes row) (properties_of image row) t.properties is.properties in
      let events = each_zipped (IsEvent image h.names row) is_event_held (event_held image h.names h.named bytes row) (events_of image row) t.events is.events in
      let attributes = attributes_held image h.names h.named bytes 0x02 row t.attributes is.attributes in
      and_from _ _ (and_from _ _ (and_from _ _ (and_from _ _ (and_from _ _ (and_from _ _ (and_from _ _ (and_from _ _ (and_from _ _ flags layout) generics) extends) implements) fields) methods) properties) events) attributes

  -- a type by what is its own, and those that it nests
  typedef_held : (t : TypeDef) → is_own_held (out-TypeDef t) ≡ true → list_all (λ ok. ok) (map is_typedef_held (out-TypeDef t).nested) ≡ true → is_typedef_held t ≡ true
  unfolding is_typedef_held is_own_held
  typedef_held t own nested = fold_out-TypeDef Bool typedef_holds t ∙ and_from _ _ own nested

  mutual
    type_held : {row : ℕ} {t : TypeDef} → IsType image h.names row t → is_typedef_held t ≡ true
    type_held {row = row} {t = t} (IsType.made is nested) = typedef_held t (own_held row (out-TypeDef t) is) (all_held nested)

    all_held : {rows : List ℕ} {ts : List TypeDef} → AreTypes image h.names rows ts → list_all (λ ok. ok) (map is_typedef_held ts) ≡ true
    all_held AreTypes.none = refl
    all_held (AreTypes.more {t = t} {ts = ts} is rest) = and_from (is_typedef_held t) (list_all (λ ok. ok) (map is_typedef_held ts)) (type_held is) (all_held rest)

  pub held : is_held a ≡ true
  unfolding is_held
  held =
      let manifest = manifest_held a.manifest h.parts.manifest in
      let externs = each_zipped (IsExtern image) is_extern_held extern_held (rows_of image 0x23) a.externs h.parts.externs in
      let fields = fields_held 1 a.fields h.parts.fields in
      let methods = methods_held 1 a.methods h.parts.methods in
      and_from _ _ (and_from _ _ (and_from _ _ (and_from _ _ manifest externs) fields) methods) (sym (list_all-map (λ ok. ok) is_typedef_held a.types) ∙ all_held h.parts.types)
