-- Each part of an assembly is told by its row.
use Rattle.std.proofs.Common.{◌≡◌, ◌≢◌, ℕ, ◌⊎◌, inl, inr, List, Option, Some, None, refl, sym, ◌∙◌, ap, subst, take, arith}
use Rattle.heaps.specs.Content.{HasText, HasBlob}
use Rattle.pe_layout.specs.FileMap.{readable}
use Rattle.pe_layout.specs.Headers.{image_base_of, file_alignment_of}
use Rattle.metadata_tables.specs.declared.coded.Coded.TheVariants.{TypeDefOrRef, MethodDefOrRef, CustomAttributeType}
use Rattle.sig_codec.specs.Signature as signature
use Rattle.type_terms.specs.declared.reference.MethodRef.{MethodRef}
use Rattle.type_terms.specs.declared.term.Owner.{Owner}
use Rattle.type_terms.specs.declared.term.SigType.{SigType}
use Rattle.assembly_tree.specs.declared.assembly.Manifest.{Manifest}
use Rattle.assembly_tree.specs.declared.body.Body.{Body}
use Rattle.assembly_tree.specs.declared.members.Attribute.{Attribute}
use Rattle.assembly_tree.specs.declared.members.Generic.{Generic}
use Rattle.assembly_tree.specs.declared.members.Param.{Param}
use Rattle.body_codec.specs.Names.{NameMap}
use Rattle.image_model.specs.Streams.{strings_of, blobs_of}
use Rattle.image_model.specs.Columns.{field_signature, method_signature, property_signature, constant_type, data_rva, bound_type, override_declaration}
use Rattle.image_model.specs.Rows.{token_of}
use Rattle.image_model.specs.Terms.{FieldHas, MethodHas, PropertyHas}
use Rattle.image_model.specs.Members.{data_of, ConstantIs, HasDataSize}
use Rattle.image_model.specs.Bodies.{IsBody}
use Rattle.image_model.specs.Constants.{constant_of}
use Rattle.image_model.specs.Naming.{RowOwner}
use Rattle.image_model.specs.Reading.{IsGiven, OwnerIs, MethodIs, IsAttribute, AttributesAre, ImageBaseIs, FileAlignmentIs, IsManifest, IsExtern, IsGeneric, GenericsAre, IsContent, IsField, IsParam, BodyIs, IsMethod, IsAccessor, IsProperty, IsEvent, ExtendsIs, IsLayout}
use Rattle.image_model.proofs.General.{One, zip_one, given_one, some_one, names_same, in_blob_one, same_bool}
use Rattle.image_model.proofs.OnePath.{row_owner_one}

-- what stands at an index of a heap, and what bytes spell, is one thing
pub record Facts (image : List ℕ) (names : NameMap) : Type 0 where
  pub text : (index : ℕ) (a b : List ℕ) → HasText (strings_of image) index a → HasText (strings_of image) index b → a ≡ b
  pub blob : (index : ℕ) (a b : List ℕ) → HasBlob (blobs_of image) index a → HasBlob (blobs_of image) index b → a ≡ b
  pub type : One (signature.IsType names.owners)
  pub field : One (signature.IsField names.owners)
  pub method : One (signature.IsMethod names.owners)
  pub property : One (signature.IsProperty names.owners)
  pub body : One (IsBody names)
  pub size : One (HasDataSize image)

-- a number is 0 or it isn't
is_zero : (n : ℕ) → (n ≡ 0) ⊎ (n ≢ 0)
is_zero n = grind arith

module _ (image : List ℕ) (names : NameMap) (facts : Facts image names) where
  owner_one : One (OwnerIs image names)
  owner_one value a b h k =
      let e = names_same TypeDefOrRef value h.0 h.1 k.0 k.1 h.2 k.2 in
      row_owner_one image facts.text names.owners facts.blob facts.type (subst (λ (p : ℕ × ℕ). RowOwner image names.owners p.0 p.1 a) e h.3) k.3

  -- a token of one row names one method
  token_one : (t r u s : ℕ) (a b : MethodRef) → ◌≡◌ {A = ℕ × ℕ} (t, r) (u, s) → names.methods (token_of t r) ≡ Some a → names.methods (token_of u s) ≡ Some b → a ≡ b
  token_one t r u s a b e h k = some_one (names.methods (token_of u s)) a b (subst (λ (p : ℕ × ℕ). names.methods (token_of p.0 p.1) ≡ Some a) e h) k

  method_ref_one : One (MethodIs names)
  method_ref_one value a b h k = token_one h.0 h.1 k.0 k.1 a b (names_same MethodDefOrRef value h.0 h.1 k.0 k.1 h.2 k.2) h.3 k.3

  attribute_one : One (IsAttribute image names)
  attribute_one row a b h k =
      let e = names_same CustomAttributeType _ h.table h.constructor_row k.table k.constructor_row h.coded k.coded in
      let c = token_one h.table h.constructor_row k.table k.constructor_row a.constructor b.constructor e h.constructor k.constructor in
      let v = facts.blob _ a.value b.value h.value k.value in
      λ i. record { constructor = c i; value = v i }

  pub attributes_one : (table row : ℕ) (a b : List Attribute) → AttributesAre image names table row a → AttributesAre image names table row b → a ≡ b
  attributes_one table row a b h k = zip_one (IsAttribute image names) attribute_one _ a b h k

  constant_one : One (ConstantIs image)
  constant_one row a b h k =
      let v = facts.blob _ h.0 k.0 h.1 k.1 in
      some_one (constant_of (constant_type image row) k.0) a b (subst (λ x. constant_of (constant_type image row) x ≡ Some a) v h.2) k.2

  field_has_one : One (FieldHas image names)
  field_has_one row a b h k = in_blob_one (blobs_of image) (signature.IsField names.owners) facts.blob facts.field (field_signature image row) a b h k

  method_has_one : One (MethodHas image names)
  method_has_one row a b h k = in_blob_one (blobs_of image) (signature.IsMethod names.owners) facts.blob facts.method (method_signature image row) a b h k

  property_has_one : One (PropertyHas image names)
  property_has_one row a b h k = in_blob_one (blobs_of image) (signature.IsProperty names.owners) facts.blob facts.property (property_signature image row) a b h k

  generic_one : One (IsGeneric image names)
  generic_one row a b h k =
      let n = facts.text _ a.name b.name h.name k.name in
      let f = h.flags ∙ sym k.flags in
      let o = zip_one (λ r. OwnerIs image names (bound_type image r)) (λ r x y p q. owner_one _ x y p q) _ a.bounds b.bounds h.bounds k.bounds in
      let t = attributes_one _ _ a.attributes b.attributes h.attributes k.attributes in
      λ i. record { name = n i; flags = f i; bounds = o i; attributes = t i }

  pub generics_one : (table row : ℕ) (a b : List Generic) → GenericsAre image names table row a → GenericsAre image names table row b → a ≡ b
  generics_one table row a b h k = zip_one (IsGeneric image names) generic_one _ a b h k

  content_one : (of : SigType) → One (IsContent image of)
  content_one of row a b h k =
      h.bytes_are ∙ ap (λ n. take n (readable image (data_rva image row))) (facts.size of h.size k.size h.has_size k.has_size) ∙ sym k.bytes_are

  pub field_one : One (IsField image names)
  field_one row a b h k =
      let n = facts.text _ a.name b.name h.name k.name in
      let f = h.flags ∙ sym k.flags in
      let o = field_has_one row a.of b.of h.of k.of in
      let c = given_one (ConstantIs image) constant_one _ a.constant b.constant h.constant k.constant in
      let p = given_one _ (λ r x y p q. p ∙ sym q) _ a.offset b.offset h.offset k.offset in
      let d = given_one (IsContent image b.of) (content_one b.of) _ a.content b.content (subst (λ t. IsGiven (IsContent image t) (data_of image row) a.content) o h.content) k.content in
      let t = attributes_one _ _ a.attributes b.attributes h.attributes k.attributes in
      λ i. record { name = n i; flags = f i; of = o i; constant = c i; offset = p i; content = d i; attributes = t i }

  -- the name of a param: none of the result
  param_name_one : (row : ℕ) (a b : Param) → a.number ≡ b.number → IsParam image names row a → IsParam image names row b → a.name ≡ b.name
  param_name_one row a b e h k = elim (is_zero a.number) [
    | inl z ↦ h.result_name z ∙ sym (k.result_name (sym e ∙ z))
    | inr n ↦ facts.text _ a.name b.name (h.name n) (k.name (λ z. n (e ∙ z)))
  ]

  param_one : One (IsParam image names)
  param_one row a b h k =
      let m = h.number ∙ sym k.number in
      let f = h.flags ∙ sym k.flags in
      let n = param_name_one row a b m h k in
      let c = given_one (ConstantIs image) constant_one _ a.constant b.constant h.constant k.constant in
      let t = attributes_one _ _ a.attributes b.attributes h.attributes k.attributes in
      λ i. record { number = m i; flags = f i; name = n i; constant = c i; attributes = t i }

  body_one : (rva : ℕ) (a b : Option Body) → BodyIs image names rva a → BodyIs image names rva b → a ≡ b
  body_one rva None None h k = refl
  body_one rva None (Some y) h k = absurd (k.0 h)
  body_one rva (Some x) None h k = absurd (h.0 k)
  body_one rva (Some x) (Some y) h k = ap Some (facts.body (readable image rva) x y h.1 k.1)

  pub method_one : One (IsMethod image names)
  method_one row a b h k =
      let n = facts.text _ a.name b.name h.name k.name in
      let f = h.flags ∙ sym k.flags in
      let m = h.impl_flags ∙ sym k.impl_flags in
      let s = method_has_one row a.sig b.sig h.sig k.sig in
      let g = generics_one _ _ a.generics b.generics h.generics k.generics in
      let p = zip_one (IsParam image names) param_one _ a.params b.params h.params k.params in
      let o = zip_one (λ r. MethodIs names (override_declaration image r)) (λ r x y p q. method_ref_one _ x y p q) _ a.overrides b.overrides h.overrides k.overrides in
      let e = same_bool a.entry b.entry h.entry k.entry in
      let d = body_one _ a.body b.body h.body k.body in
      let t = attributes_one _ _ a.attributes b.attributes h.attributes k.attributes in
      λ i. record { name = n i; flags = f i; impl_flags = m i; sig = s i; generics = g i; params = p i; overrides = o i; entry = e i; body = d i; attributes = t i }

  accessor_one : (type : ℕ) → One (IsAccessor image type)
  accessor_one type row a b h k =
      let n = h.kind ∙ sym k.kind in
      let first = h.method in
      let second = k.method in
      let m : a.method ≡ b.method = omega arith in
      λ i. record { kind = n i; method = m i }

  pub property_one : (type : ℕ) → One (IsProperty image names type)
  property_one type row a b h k =
      let n = facts.text _ a.name b.name h.name k.name in
      let f = h.flags ∙ sym k.flags in
      let s = property_has_one row a.sig b.sig h.sig k.sig in
      let c = given_one (ConstantIs image) constant_one _ a.constant b.constant h.constant k.constant in
      let g = zip_one (IsAccessor image type) (accessor_one type) _ a.accessors b.accessors h.accessors k.accessors in
      let t = attributes_one _ _ a.attributes b.attributes h.attributes k.attributes in
      λ i. record { name = n i; flags = f i; sig = s i; constant = c i; accessors = g i; attributes = t i }

  pub event_one : (type : ℕ) → One (IsEvent image names type)
  event_one type row a b h k =
      let n = facts.text _ a.name b.name h.name k.name in
      let f = h.flags ∙ sym k.flags in
      let o = owner_one _ a.of b.of h.of k.of in
      let g = zip_one (IsAccessor image type) (accessor_one type) _ a.accessors b.accessors h.accessors k.accessors in
      let t = attributes_one _ _ a.attributes b.attributes h.attributes k.attributes in
      λ i. record { name = n i; flags = f i; of = o i; accessors = g i; attributes = t i }

  pub extends_one : (value : ℕ) (a b : Option Owner) → ExtendsIs image names value a → ExtendsIs image names value b → a ≡ b
  extends_one value None None h k = refl
  extends_one value None (Some y) h k = absurd (k.0 h)
  extends_one value (Some x) None h k = absurd (h.0 k)
  extends_one value (Some x) (Some y) h k = ap Some (owner_one value x y h.1 k.1)

  pub layout_one : One (IsLayout image)
  layout_one row a b h k =
      let p = h.pack ∙ sym k.pack in
      let s = h.size ∙ sym k.size in
      λ i. record { pack = p i; size = s i }

  image_base_one : (header a b : ℕ) → ImageBaseIs header a → ImageBaseIs header b → a ≡ b
  image_base_one header a b (inl h) (inl k) = h.1 ∙ sym k.1
  image_base_one header a b (inl h) (inr k) = absurd (k.0 h.0)
  image_base_one header a b (inr h) (inl k) = absurd (h.0 k.0)
  image_base_one header a b (inr h) (inr k) = h.1 ∙ sym k.1

  file_alignment_one : (header a b : ℕ) → FileAlignmentIs header a → FileAlignmentIs header b → a ≡ b
  file_alignment_one header a b (inl h) (inl k) = h.1 ∙ sym k.1
  file_alignment_one header a b (inl h) (inr k) = absurd (k.0 h.0)
  file_alignment_one header a b (inr h) (inl k) = absurd (h.0 k.0)
  file_alignment_one header a b (inr h) (inr k) = h.1 ∙ sym k.1

  pub manifest_one : (a b : Manifest) → IsManifest image names a → IsManifest image names b → a ≡ b
  manifest_one a b h k =
      let n = facts.text _ a.name b.name h.name k.name in
      let v = h.version ∙ sym k.version in
      let f = h.flags ∙ sym k.flags in
      let y = facts.blob _ a.key b.key h.key k.key in
      let c = facts.text _ a.culture b.culture h.culture k.culture in
      let x = h.hash ∙ sym k.hash in
      let m = facts.text _ a.module b.module h.module_name_is k.module_name_is in
      let p = image_base_one (image_base_of image) a.image_base b.image_base h.image_base k.image_base in
      let q = file_alignment_one (file_alignment_of image) a.file_alignment b.file_alignment h.file_alignment k.file_alignment in
      let s = h.stack_reserve ∙ sym k.stack_reserve in
      let u = h.subsystem ∙ sym k.subsystem in
      let l = h.cor_flags ∙ sym k.cor_flags in
      let t = attributes_one 0x20 1 a.attributes b.attributes h.attributes k.attributes in
      let w = attributes_one 0x00 1 a.module_attributes b.module_attributes h.module_attributes k.module_attributes in
      λ i. record { name = n i; version = v i; flags = f i; key = y i; culture = c i; hash = x i; «module» = m i; image_base = p i; file_alignment = q i; stack_reserve = s i; subsystem = u i; cor_flags = l i; attributes = t i; module_attributes = w i }

  pub extern_one : One (IsExtern image)
  extern_one row a b h k =
      let n = facts.text _ a.name b.name h.name k.name in
      let v = h.version ∙ sym k.version in
      let f = h.flags ∙ sym k.flags in
      let y = facts.blob _ a.key b.key h.key k.key in
      let c = facts.text _ a.culture b.culture h.culture k.culture in
      let x = facts.blob _ a.hash b.hash h.hash k.hash in
      λ i. record { name = n i; version = v i; flags = f i; key = y i; culture = c i; hash = x i }
