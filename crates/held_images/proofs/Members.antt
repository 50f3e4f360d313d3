-- Members, and what belongs to types and members, are held (II.22.9, II.22.10, II.22.13, II.22.15, II.22.20, II.22.26, II.22.33,
-- II.22.34).
use Rattle.std.proofs.Common.{◌≡◌, ℕ, true, List, take, Option, Some, None, refl, sym, subst}
use Rattle.std.proofs.lemmas.Bool.{and_from}
use Rattle.std.specs.List.{list_all}
use Rattle.metadata_tables.specs.Schema.{schema}
use Rattle.pe_layout.specs.FileMap.{readable}
use Rattle.type_terms.specs.declared.term.Owner.{Owner}
use Rattle.type_terms.specs.declared.term.SigType.{SigType}
use Rattle.assembly_tree.specs.WellFormedNames.{option_all}
use Rattle.assembly_tree.specs.declared.body.Body.{Body}
use Rattle.assembly_tree.specs.declared.members.Attribute.{Attribute}
use Rattle.assembly_tree.specs.declared.members.Constant.{Constant}
use Rattle.assembly_tree.specs.declared.members.Event.{Event}
use Rattle.assembly_tree.specs.declared.members.Field.{Field}
use Rattle.assembly_tree.specs.declared.members.Generic.{Generic}
use Rattle.assembly_tree.specs.declared.members.Method.{Method}
use Rattle.assembly_tree.specs.declared.members.Param.{Param}
use Rattle.assembly_tree.specs.declared.members.Property.{Property}
use Rattle.body_codec.specs.Names.{NameMap}
use Rattle.image_model.specs.Columns.{attribute_parent, bound_parameter, field_flags, method_rva, method_impl_flags, method_flags, param_flags, param_sequence, attribute_value, offset_of_row, event_flags, property_flags, data_rva, generic_flags, constant_type, bound_type, override_declaration}
use Rattle.image_model.specs.Members.{constants_of, generics_of, offsets_of, data_of, ConstantIs}
use Rattle.image_model.specs.Namings.{AreNamings}
use Rattle.image_model.specs.Reading.{IsGiven, OwnerIs, MethodIs, IsAttribute, AttributesAre, IsGeneric, GenericsAre, IsContent, IsField, IsParam, overrides_of, BodyIs, IsMethod, IsProperty, IsEvent}
use Rattle.image_model.specs.Rows.{rows_with, token_of, params_of}
use Rattle.image_model.specs.Streams.{blobs_of}
use Rattle.listing_growth.specs.Held.{is_u32, are_bytes, is_owner_held, is_method_ref_held, is_attribute_held, are_attributes_held, is_constant_held, is_generic_held, is_field_held, is_param_held, is_property_held, is_event_held, is_body_held, is_method_held}
use Rattle.formed_images.specs.Laws.{AreBytes}
use Rattle.formed_images.proofs.Bytes.{stream_bytes, blob_bytes, readable_bytes}
use Rattle.held_images.proofs.Numbers.{as_u16, as_u32, without_fits, each_zipped, each_given, take_bytes, bytes_fit, cell_fits_u16, cell_fits_u32, blob_fits}
use Rattle.held_images.proofs.Constants.{constant_passes}
use Rattle.held_images.proofs.Terms.{row_is_held}
use Rattle.held_images.proofs.References.{field_held as field_type_held, method_held as method_sig_held, property_held as property_sig_held, method_is_held}
use Rattle.held_images.proofs.Bodies.{body_held}

module _ (image : List ℕ) (names : NameMap) (tells : AreNamings image names) (bytes : AreBytes image) where
  -- ---- owners that cells name

  pub owner_held : (value : ℕ) (o : Owner) → OwnerIs image names value o → is_owner_held o ≡ true
  owner_held value o is = row_is_held image names.owners tells.owners is.3

  -- ---- attributes

  attribute_held : (row : ℕ) (x : Attribute) → IsAttribute image names row x → is_attribute_held x ≡ true
  unfolding is_attribute_held
  attribute_held row x is =
      and_from (is_method_ref_held x.constructor) (are_bytes x.value) (method_is_held image names tells (token_of is.table is.constructor_row) x.constructor is.constructor)
      (blob_fits image bytes (attribute_value image row) x.value is.value)

  pub attributes_held : (table row : ℕ) (xs : List Attribute) → AttributesAre image names table row xs → are_attributes_held xs ≡ true
  attributes_held table row xs are = each_zipped (IsAttribute image names) is_attribute_held attribute_held (rows_with image 0x0C attribute_parent _) xs are

  -- ---- generic parameters

  generic_held : (row : ℕ) (g : Generic) → IsGeneric image names row g → is_generic_held g ≡ true
  unfolding is_generic_held schema
  generic_held row g is =
      let flags = as_u16 g.flags (generic_flags image row) is.flags (cell_fits_u16 image bytes 0x2A row 1 refl) in
      let bounds = each_zipped (λ k. OwnerIs image names (bound_type image k)) is_owner_held (λ r o k. owner_held (bound_type image r) o k) (rows_with image 0x2C bound_parameter row) g.bounds is.bounds in
      and_from _ _ (and_from _ _ flags bounds) (attributes_held 0x2A row g.attributes is.attributes)

  pub generics_held : (table row : ℕ) (gs : List Generic) → GenericsAre image names table row gs → list_all is_generic_held gs ≡ true
  generics_held table row gs are = each_zipped (IsGeneric image names) is_generic_held generic_held (generics_of image table row) gs are

  -- ---- constants

  constant_held : (row : ℕ) (c : Constant) → ConstantIs image row c → is_constant_held c ≡ true
  constant_held row c is =
      subst (λ o. option_all is_constant_held o ≡ true) is.2 (constant_passes (constant_type image row) is.0 (blob_bytes (blobs_of image) _ is.0 (stream_bytes image _ bytes) is.1))

  constants_held : (table row : ℕ) (o : Option Constant) → IsGiven (ConstantIs image) (constants_of image table row) o → option_all is_constant_held o ≡ true
  constants_held table row o are = each_given (ConstantIs image) is_constant_held constant_held (constants_of image table row) o are

  -- ---- fields

  content_held : (of : SigType) (row : ℕ) (content : List ℕ) → IsContent image of row content → are_bytes content ≡ true
  content_held of row content is =
      subst (λ (b : List ℕ). are_bytes b ≡ true) (sym is.bytes_are)
      (bytes_fit (take is.size (readable image (data_rva image row))) (take_bytes is.size (readable image (data_rva image row)) (readable_bytes image (data_rva image row) bytes)))

  pub field_held : (row : ℕ) (f : Field) → IsField image names row f → is_field_held f ≡ true
  unfolding is_field_held schema
  field_held row f is =
      let flags = as_u16 f.flags _ is.flags (without_fits (field_flags image row) 0x8100 0x10000 (cell_fits_u16 image bytes 0x04 row 0 refl)) in
      let of = field_type_held image names tells is.of.0 f.of is.of.2 in
      let constant = constants_held 0x04 row f.constant is.constant in
      let offset = each_given (λ k x. x ≡ offset_of_row image k) is_u32 (λ k x e. as_u32 x (offset_of_row image k) e (cell_fits_u32 image bytes 0x10 k 0 refl)) (offsets_of image row) f.offset is.offset in
      let content = each_given (IsContent image f.of) are_bytes (content_held f.of) (data_of image row) f.content is.content in
      and_from _ _ (and_from _ _ (and_from _ _ (and_from _ _ (and_from _ _ flags of) constant) offset) content) (attributes_held 0x04 row f.attributes is.attributes)

  -- ---- methods

  param_held : (row : ℕ) (p : Param) → IsParam image names row p → is_param_held p ≡ true
  unfolding is_param_held schema
  param_held row p is =
      let number = as_u16 p.number (param_sequence image row) is.number (cell_fits_u16 image bytes 0x08 row 1 refl) in
      let flags = as_u16 p.flags _ is.flags (without_fits (param_flags image row) 0x1000 0x10000 (cell_fits_u16 image bytes 0x08 row 0 refl)) in
      and_from _ _ (and_from _ _ (and_from _ _ number flags) (constants_held 0x08 row p.constant is.constant)) (attributes_held 0x08 row p.attributes is.attributes)

  bodies_held : (rva : ℕ) (body : Option Body) → BodyIs image names rva body → option_all is_body_held body ≡ true
  bodies_held rva None is = refl
  bodies_held rva (Some body) is = body_held image names tells bytes (readable image rva) body is.1.0 (readable_bytes image rva bytes) is.1.1

  pub method_held : (row : ℕ) (m : Method) → IsMethod image names row m → is_method_held m ≡ true
  unfolding is_method_held schema
  method_held row m is =
      let flags = as_u16 m.flags (method_flags image row) is.flags (cell_fits_u16 image bytes 0x06 row 2 refl) in
      let impl_flags = as_u16 m.impl_flags (method_impl_flags image row) is.impl_flags (cell_fits_u16 image bytes 0x06 row 1 refl) in
      let sig = method_sig_held image names tells is.sig.0 m.sig is.sig.2 in
      let generics = generics_held 0x06 row m.generics is.generics in
      let params = each_zipped (IsParam image names) is_param_held param_held (params_of image row) m.params is.params in
      let overrides = each_zipped (λ k. MethodIs names (override_declaration image k)) is_method_ref_held (λ r o k. method_is_held image names tells (token_of k.0 k.1) o k.3) (overrides_of image row) m.overrides is.overrides in
      let body = bodies_held (method_rva image row) m.body is.body in
      and_from _ _ (and_from _ _ (and_from _ _ (and_from _ _ (and_from _ _ (and_from _ _ (and_from _ _ flags impl_flags) sig) generics) params) overrides) body) (attributes_held 0x06 row m.attributes is.attributes)

  -- ---- properties and events

  pub property_held : (type row : ℕ) (p : Property) → IsProperty image names type row p → is_property_held p ≡ true
  unfolding is_property_held schema
  property_held type row p is =
      let flags = as_u16 p.flags _ is.flags (without_fits (property_flags image row) 0x1000 0x10000 (cell_fits_u16 image bytes 0x17 row 0 refl)) in
      let sig = property_sig_held image names tells is.sig.0 p.sig is.sig.2 in
      and_from _ _ (and_from _ _ (and_from _ _ flags sig) (constants_held 0x17 row p.constant is.constant)) (attributes_held 0x17 row p.attributes is.attributes)

  pub event_held : (type row : ℕ) (e : Event) → IsEvent image names type row e → is_event_held e ≡ true
  unfolding is_event_held schema
  event_held type row e is =
      let flags = as_u16 e.flags (event_flags image row) is.flags (cell_fits_u16 image bytes 0x14 row 0 refl) in
      and_from _ _ (and_from _ _ flags (owner_held _ e.of is.of)) (attributes_held 0x14 row e.attributes is.attributes)
